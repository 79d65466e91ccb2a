-- The answers that need no more than the state at the place and what is chosen.
use Rattle.std.specs.Prelude.{ℕ, Option, Some, None, List, [], ◌∷◌, ◌++◌, codes, length, slice_get}
use Rattle.std.specs.Option.{option_map_or}
use Rattle.rv_gdb.specs.Chosen.{standing}
use Rattle.rv_gdb.specs.Features.{features_part}
use Rattle.rv_gdb.specs.Shown.{bytes_text, register_at, registers_text, threads_text, word_text}
use Rattle.rv_gdb.specs.Stops.{thread_text}
use Rattle.rv_gdb.specs.declared.chosen.Chosen.{Chosen}
use Rattle.rv_gdb.specs.declared.fields.Range.{Range}
use Rattle.rv_gdb.specs.declared.packet.Request.{Request}
use Rattle.rv_gdb.specs.declared.packet.Request.TheVariants as asks
use Rattle.rv_gdb.specs.declared.replies.Refusal.{Refusal}
use Rattle.rv_gdb.specs.declared.replies.Refusal.TheVariants.{Malformed, NoSuch, ReadOnly, NoMemory}
use Rattle.rv_hart.specs.State.{State}
use Rattle.rv_hart.specs.declared.hart.Hart.{Hart}
use Rattle.rv_memory.specs.Memory.{Memory}

-- why a request is refused
abbrev pub refusal_text : Refusal → List ℕ
refusal_text Malformed = codes "E01"
refusal_text NoSuch = codes "E02"
refusal_text ReadOnly = codes "E03"
refusal_text NoMemory = codes "E04"

-- ---- answers that are always the same

abbrev pub supported : List ℕ
supported = codes "PacketSize=200;QStartNoAckMode+;qXfer:features:read+;vContSupported+;ReverseStep+;ReverseContinue+"

-- the answer to a request that has one and the same at each place
abbrev pub known_reply : Request → Option (List ℕ)
known_reply asks.Supported = Some supported
known_reply asks.StartNoAck = Some (codes "OK")
known_reply asks.Attached = Some (codes "1")
known_reply asks.MoreThreads = Some (codes "l")
known_reply asks.ActionNames = Some (codes "vCont;c;C;s;S")
known_reply asks.OtherAnnex = Some (refusal_text NoSuch)
known_reply asks.Write = Some (refusal_text ReadOnly)
known_reply asks.Detach = Some (codes "OK")
known_reply asks.Unknown = Some []
known_reply _ = None

-- ---- answers of the state

abbrev pub word_reply : Option ℕ → List ℕ
word_reply None = refusal_text NoSuch
word_reply (Some word) = word_text word

abbrev pub register_reply : ℕ → Hart → List ℕ
register_reply r hart = word_reply (register_at hart r)

-- no byte is there
abbrev pub or_refused : List ℕ → List ℕ
or_refused [] = refusal_text NoSuch
or_refused (digit ∷ digits) = digit ∷ digits

abbrev pub memory_reply : Memory → Range → List ℕ
memory_reply m range = or_refused (bytes_text m range.from range.length)

-- the text of the hart whose state is shown
abbrev pub of_standing : State → Chosen → (Hart → List ℕ) → List ℕ
of_standing s chosen text = option_map_or text (slice_get s.harts (standing chosen)) []

-- the answer to a request for what the state is
abbrev pub state_reply : State → Chosen → Request → Option (List ℕ)
state_reply s chosen asks.Current = Some (codes "QC" ++ thread_text chosen.focus)
state_reply s chosen asks.FirstThreads = Some (threads_text (length s.harts))
state_reply s chosen asks.Registers = Some (of_standing s chosen registers_text)
state_reply s chosen (asks.Register r) = Some (of_standing s chosen (register_reply r))
state_reply s chosen (asks.Memory range) = Some (memory_reply s.memory range)
state_reply s chosen (asks.Features range) = Some (features_part range)
state_reply s chosen _ = None
