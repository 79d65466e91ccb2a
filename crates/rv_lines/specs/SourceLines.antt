-- Where the instructions of an image come from, as a file of source lines says it.
use Rattle.std.specs.Prelude.{ℕ, zero, suc, ◌+◌, ◌-◌, Bool, true, false, not, ◌&&◌, ◌||◌, ◌==◌, nat_le, nat_lt, if◌then◌else◌, Option, Some, None, option_map, is_some, Result, Ok, Err, List, [], ◌∷◌, codes, drop, length, take}
use Rattle.std.specs.List.{fold, list_any}
use Rattle.std.specs.Str.{bytes_eq, is_utf8}
use Rattle.rv_lines.specs.declared.fault.LinesFault.{LinesFault}
use Rattle.rv_lines.specs.declared.fault.LinesKind.TheVariants.{Order, Shape}
use Rattle.rv_lines.specs.declared.frames.Frame.{Frame}
use Rattle.rv_memory.specs.Chain.{◌>>=◌}
use Rattle.rv_text.specs.Decimal.{decimal_of}
use Rattle.rv_text.specs.Hexadecimal.{word_of}
use Rattle.rv_text.specs.Lines.{lines_of}
use Rattle.rv_text.specs.Numeral.{up_to}
use Rattle.rv_text.specs.Pieces.{pieces_of}

-- A function that an instruction was made of, and FILE:LINE; `?` is what is unknown.
pub record SourceFrame : Type 0 where
  pub function : List ℕ
  pub place : List ℕ

-- The instructions from an address up to that of the next line have these frames: the innermost first, then the one that it was inlined
-- into, and so on.
pub record SourceLine : Type 0 where
  pub address : ℕ
  pub frames : List SourceFrame

-- ---- the frames of an address

abbrev pub framed_from : ℕ → List SourceFrame → SourceLine → List SourceFrame
framed_from address frames line = if nat_le line.address address then line.frames else frames

-- those of the last line at the address or before it
abbrev pub frames_at : List SourceLine → ℕ → List SourceFrame
frames_at lines address = fold (framed_from address) [] lines

abbrev pub has_some : List SourceFrame → Bool
has_some [] = false
has_some (frame ∷ frames) = true

-- the line has a frame, and begins from one address up to another
abbrev pub begins_within : ℕ → ℕ → SourceLine → Bool
begins_within start end line = nat_le start line.address && nat_lt line.address end && has_some line.frames

-- some instruction from one address up to another has a frame
abbrev pub reach : ℕ → ℕ → List SourceLine → Bool
reach start end lines = (has_some (frames_at lines start) && nat_lt start end) || list_any (begins_within start end) lines

-- ---- a frame

abbrev pub frame_of : Frame → SourceFrame
frame_of frame = record { function = frame.function.now; place = frame.place.now }

abbrev pub last_of : List ℕ → List (List ℕ) → List ℕ
last_of piece [] = piece
last_of piece (next ∷ later) = last_of next later

-- what stands behind the last colon (58)
abbrev pub number_in : List ℕ → List ℕ
number_in place = last_of [] (pieces_of 58 place)

abbrev pub is_unknown : List ℕ → Bool
is_unknown field = bytes_eq field (codes "?")

abbrev pub unless_unknown : List ℕ → List ℕ → Option (List ℕ)
unless_unknown field known = if is_unknown field then None else Some known

abbrev pub known_function : SourceFrame → Option (List ℕ)
known_function frame = unless_unknown frame.function frame.function

abbrev pub file_in : SourceFrame → Option (List ℕ)
file_in frame = unless_unknown frame.place (take (length frame.place - length (number_in frame.place) - 1) frame.place)

-- a number of 32 bits without a leading zero
abbrev pub read_number : List ℕ → Option ℕ
read_number text = up_to 0xffff_ffff (decimal_of text)

abbrev pub line_number : SourceFrame → Option ℕ
line_number frame = read_number (number_in frame.place)

-- ---- a line

abbrev pub is_number : List ℕ → Bool
is_number text = is_unknown text || is_some (read_number text)

-- a file and, behind the last colon, a number; or that the file is unknown
abbrev pub is_place : List ℕ → Bool
is_place place = is_unknown place || (is_number (number_in place) && nat_lt (length (number_in place) + 1) (length place))

abbrev pub is_frame : List ℕ → List ℕ → Bool
is_frame function place = nat_lt 0 (length function) && is_place place

-- at most so many frames, each a function and a place
abbrev pub are_frames : ℕ → List (List ℕ) → Bool
are_frames left [] = true
are_frames left (function ∷ []) = false
are_frames zero (function ∷ place ∷ fields) = false
are_frames (suc left) (function ∷ place ∷ fields) = is_frame function place && are_frames left fields

abbrev pub paired : List (List ℕ) → List SourceFrame
paired [] = []
paired (function ∷ []) = []
paired (function ∷ place ∷ fields) = (record { function = function; place = place }) ∷ paired fields

-- a tab (9) stands between two fields; the first is the address
abbrev pub fields_of : List ℕ → List (List ℕ)
fields_of text = pieces_of 9 text

abbrev pub frames_in : List ℕ → List SourceFrame
frames_in text = paired (drop 1 (fields_of text))

-- A control character but for a tab: below 32, 127, or one of those from 128 to 159, which UTF-8 writes as 194 and itself.
abbrev pub is_control : ℕ → ℕ → Bool
is_control before byte = (nat_lt byte 32 && not (byte == 9)) || (byte == 127) || ((before == 194) && nat_lt byte 160)

-- the byte before a text is given
abbrev pub controls : ℕ → List ℕ → Bool
controls before [] = false
controls before (byte ∷ text) = is_control before byte || controls byte text

abbrev pub has_control : List ℕ → Bool
has_control text = controls 0 text

abbrev pub line_by : List (List ℕ) → Option SourceLine
line_by [] = None
line_by (address ∷ fields) = if are_frames 64 fields then option_map (λ at. record { address = at; frames = paired fields }) (word_of address) else None

-- what a line says, if it has the shape of one: an address of eight digits and at most 64 frames, in UTF-8 without control characters
unfoldable pub line_in : List ℕ → Option SourceLine
line_in text = if is_utf8 text && not (has_control text) then line_by (fields_of text) else None

-- ---- the lines

abbrev pub shaped : ℕ → Option SourceLine → Result SourceLine LinesFault
shaped number None = Err (record { line = number; kind = Shape })
shaped number (Some line) = Ok line

-- an address stands behind lesser ones
abbrev pub may_follow : Option ℕ → ℕ → Bool
may_follow None address = true
may_follow (Some before) address = nat_lt before address

abbrev pub ordered : ℕ → Option ℕ → SourceLine → Result SourceLine LinesFault
ordered number before line = if may_follow before line.address then Ok line else Err (record { line = number; kind = Order })

-- what lines say, the first of which has this number and stands behind this address, or the first of them with a fault
unfoldable pub lines_from : ℕ → Option ℕ → List (List ℕ) → Result (List SourceLine) LinesFault
lines_from number before [] = Ok []
lines_from number before (text ∷ later) = do
  said ← shaped number (line_in text)
  line ← ordered number before said
  lines ← lines_from (number + 1) (Some line.address) later
  Ok (line ∷ lines)

-- what a file says
unfoldable pub lines_in : List ℕ → Result (List SourceLine) LinesFault
lines_in text = lines_from 1 None (lines_of text)
