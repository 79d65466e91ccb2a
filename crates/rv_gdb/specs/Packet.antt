-- What a packet asks.
use Rattle.std.specs.Prelude.{ℕ, ◌==◌, ◌&&◌, nat_le, if◌then◌else◌, Option, Some, None, unwrap_or, option_and_then, option_map, List, [], ◌∷◌, codes}
use Rattle.std.specs.Option.{option_map_or, option_or}
use Rattle.std.specs.Str.{bytes_eq}
use Rattle.rv_text.specs.Pieces.{pieces_of}
use Rattle.rv_gdb.specs.Action.{actions_in, are_actions}
use Rattle.rv_gdb.specs.Fields.{behind, bytes_in, id_in, number_in, range_in}
use Rattle.rv_gdb.specs.Monitor.{order_in}
use Rattle.rv_gdb.specs.declared.fields.Range.{Range}
use Rattle.rv_gdb.specs.declared.packet.Request.{Request}
use Rattle.rv_gdb.specs.declared.packet.Request.TheVariants as asks
use Rattle.rv_gdb.specs.declared.packet.Move.TheVariants as move
use Rattle.rv_gdb.specs.declared.packet.TheConstants.{MOST_SHOWN}
use Rattle.rv_gdb.specs.declared.point.Kind.{Kind}
use Rattle.rv_gdb.specs.declared.point.Kind.TheVariants as kind
use Rattle.rv_gdb.specs.declared.point.Point.{Point}

-- A packet is known by its whole data, or by the word that the data begins with. So what it asks is none where it is
-- known by another word, and `Some None` where the rest of it is malformed.
abbrev pub Asked : Type 0
Asked = Option (Option Request)

-- what the text behind a word asks, or else what the words below it tell
abbrev pub row : List ℕ → (List ℕ → Option Request) → List ℕ → Asked → Asked
row word read text below = option_map_or (λ rest. Some (read rest)) (behind word text) below

-- ---- packets known by their whole data

-- what GDB asks of the talk
abbrev pub question_in : List ℕ → Option Request
question_in text =
    if bytes_eq text (codes "qSupported") then Some asks.Supported
    else if bytes_eq text (codes "QStartNoAckMode") then Some asks.StartNoAck
    else if bytes_eq text (codes "qC") then Some asks.Current
    else if bytes_eq text (codes "qAttached") then Some asks.Attached
    else if bytes_eq text (codes "qfThreadInfo") then Some asks.FirstThreads
    else if bytes_eq text (codes "qsThreadInfo") then Some asks.MoreThreads
    else if bytes_eq text (codes "vCont?") then Some asks.ActionNames
    else None

abbrev pub letter_in : List ℕ → Option Request
letter_in text =
    if bytes_eq text (codes "?") then Some asks.Why
    else if bytes_eq text (codes "g") then Some asks.Registers
    else if bytes_eq text (codes "s") then Some (asks.Go move.Step)
    else if bytes_eq text (codes "c") then Some (asks.Go move.Continue)
    else if bytes_eq text (codes "bs") then Some (asks.Go move.StepBack)
    else if bytes_eq text (codes "bc") then Some (asks.Go move.ContinueBack)
    else if bytes_eq text (codes "D") then Some asks.Detach
    else if bytes_eq text (codes "k") then Some asks.Kill
    else None

-- ---- packets known by a word

abbrev pub alive_in : List ℕ → Option Request
alive_in text = option_map asks.IsAlive (id_in text)

abbrev pub show_in : List ℕ → Option Request
show_in text = option_map asks.Show (id_in text)

abbrev pub choose_in : List ℕ → Option Request
choose_in text = option_map asks.Choose (id_in text)

abbrev pub extra_in : List ℕ → Option Request
extra_in text = option_map asks.ExtraInfo (id_in text)

-- a thread is asked for
abbrev pub thread_row : List ℕ → Asked
thread_row text =
    row (codes "T") alive_in text (row (codes "Hg") show_in text (row (codes "Hc") choose_in text (row (codes "qThreadExtraInfo,") extra_in text None)))

abbrev pub register_in : List ℕ → Option Request
register_in text = option_map asks.Register (number_in text)

-- 1 to `MOST_SHOWN` bytes
abbrev pub memory_of : Range → Option Request
memory_of range = if nat_le 1 range.length && nat_le range.length MOST_SHOWN then Some (asks.Memory range) else None

abbrev pub memory_in : List ℕ → Option Request
memory_in text = option_and_then memory_of (range_in text)

abbrev pub supported_in : List ℕ → Option Request
supported_in text = Some asks.Supported

-- a part of the text `target.xml`, or of another
abbrev pub part_of : List ℕ → Range → Request
part_of annex range = if bytes_eq annex (codes "target.xml") then asks.Features range else asks.OtherAnnex

-- a colon (58) stands behind the name of the text
abbrev pub features_of : List (List ℕ) → Option Request
features_of (annex ∷ range ∷ []) = option_map (part_of annex) (range_in range)
features_of pieces = None

abbrev pub features_in : List ℕ → Option Request
features_in text = features_of (pieces_of 58 text)

-- the state at the place is asked for
abbrev pub state_row : List ℕ → Asked
state_row text =
    row (codes "p") register_in text (row (codes "m") memory_in text (row (codes "qSupported:") supported_in text (row (codes "qXfer:features:read:") features_in text None)))

abbrev pub actions_asked : List ℕ → Option Request
actions_asked text = if are_actions text then Some (asks.Act (actions_in text)) else None

-- what the command says that the digits spell, if it is one
abbrev pub monitor_in : List ℕ → Option Request
monitor_in text = option_map (λ bytes. asks.Monitor (order_in bytes)) (bytes_in text)

-- the run is to go on, or a user gives a command
abbrev pub long_row : List ℕ → Asked
long_row text = row (codes "vCont;") actions_asked text (row (codes "qRcmd,") monitor_in text None)

-- the digits 0 to 4
abbrev pub kind_of : ℕ → Option Kind
kind_of digit =
    if digit == 48 then Some kind.Software
    else if digit == 49 then Some kind.Hardware
    else if digit == 50 then Some kind.Write
    else if digit == 51 then Some kind.Read
    else if digit == 52 then Some kind.Access
    else None

abbrev pub point_at : Kind → Range → Point
point_at kind range = record { kind = kind; bytes = range }

-- a comma (44), an address and a length
abbrev pub point_in : Kind → List ℕ → Option Point
point_in kind [] = None
point_in kind (byte ∷ text) = if byte == 44 then option_map (point_at kind) (range_in text) else None

abbrev pub set_in : Kind → List ℕ → Option Request
set_in kind text = option_map asks.SetPoint (point_in kind text)

abbrev pub clear_in : Kind → List ℕ → Option Request
clear_in kind text = option_map asks.ClearPoint (point_in kind text)

-- a point is set, by `Z` (90), or taken away, by `z` (122)
abbrev pub point_of : ℕ → Kind → List ℕ → Asked
point_of letter kind text =
    if letter == 90 then Some (set_in kind text)
    else if letter == 122 then Some (clear_in kind text)
    else None

abbrev pub point_row : List ℕ → Asked
point_row [] = None
point_row (letter ∷ []) = None
point_row (letter ∷ digit ∷ text) = option_and_then (λ kind. point_of letter kind text) (kind_of digit)

-- the state is to be written: `G` (71), `P` (80), `M` (77) and `X` (88)
abbrev pub write_row : List ℕ → Asked
write_row [] = None
write_row (letter ∷ text) =
    if letter == 71 then Some (Some asks.Write)
    else if letter == 80 then Some (Some asks.Write)
    else if letter == 77 then Some (Some asks.Write)
    else if letter == 88 then Some (Some asks.Write)
    else None

-- ---- all packets

abbrev pub asked_by_word : List ℕ → Asked
asked_by_word text =
    option_or (thread_row text) (option_or (state_row text) (option_or (long_row text) (option_or (point_row text) (write_row text))))

-- What the data of a packet asks; none where it is malformed. Any other packet is unknown.
unfoldable pub request_of : List ℕ → Option Request
request_of text =
    option_or (question_in text) (option_or (letter_in text) (unwrap_or (asked_by_word text) (Some asks.Unknown)))
