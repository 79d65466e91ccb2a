-- How bytes make the packets of GDB's remote protocol, byte by byte.
use Rattle.std.specs.Prelude.{ℕ, ◌+◌, ◌%◌, ◌==◌, Bool, false, nat_lt, if◌then◌else◌, Option, Some, None, option_and_then, List, [], ◌∷◌, ◌++◌, length}
use Rattle.std.specs.Option.{option_map_or}
use Rattle.rv_text.specs.Numeral.{number_of, up_to}
use Rattle.rv_remote.specs.declared.framing.TheConstants.{MOST_BYTES}
use Rattle.rv_remote.specs.declared.framing.Stage.{Stage}
use Rattle.rv_remote.specs.declared.framing.Stage.TheVariants.{Outside, Inside, First, Second}
use Rattle.rv_remote.specs.declared.framing.Heard.{Heard}
use Rattle.rv_remote.specs.declared.framing.Heard.TheVariants.{Nothing, Again, Packet}

-- A packet is `$` (36), its data, `#` (35) and two hexadecimal digits, the sum of the data modulo 256. (GDB's manual,
-- "Overview" of the Remote Serial Protocol.) This is what was read of one, or of the last one: what the next byte is
-- part of, the data, and the sum of all its bytes modulo 256. Of more than `MOST_BYTES` bytes none are known.
pub record Reading : Type 0 where
  pub stage : Stage
  pub bytes : Option (List ℕ)
  pub sum : ℕ

-- before the first byte
abbrev pub silence : Reading
silence = record { stage = Outside; bytes = Some []; sum = 0 }

-- a packet of which only the `$` was read
abbrev pub begun : Reading
begun = record { stage = Inside; bytes = Some []; sum = 0 }

-- one byte more, unless they are too many
abbrev pub longer : List ℕ → ℕ → Option (List ℕ)
longer bytes byte = if nat_lt (length bytes) MOST_BYTES then Some (bytes ++ byte ∷ []) else None

-- a byte of the data
abbrev pub with_byte : Reading → ℕ → Reading
with_byte r byte =
    record { stage = Inside; bytes = option_and_then (λ bytes. longer bytes byte) r.bytes; sum = (r.sum + byte) % 256 }

-- a byte other than `$`. Outside a packet it is dropped; the second digit ends the packet.
abbrev pub went_on : Stage → Reading → ℕ → Reading
went_on Outside r byte = r
went_on Inside r byte = if byte == 35 then record r { stage = First } else with_byte r byte
went_on First r byte = record r { stage = Second byte }
went_on (Second first) r byte = record r { stage = Outside }

-- What was read after one byte more. A `$` begins a packet, within one too: then what was read of that is dropped.
abbrev pub next : Reading → ℕ → Reading
next r byte = if byte == 36 then begun else went_on r.stage r byte

-- two bytes are the digits of the sum, letters in either case
abbrev pub is_sum : ℕ → ℕ → ℕ → Bool
is_sum sum first second = option_map_or (λ number. number == sum) (up_to 255 (number_of 16 (first ∷ second ∷ []))) false

-- what a byte other than `$` tells. Outside a packet a `-` (45) asks for the last packet again.
abbrev pub heard_at : Stage → ℕ → ℕ → Heard
heard_at Outside sum byte = if byte == 45 then Again else Nothing
heard_at Inside sum byte = Nothing
heard_at First sum byte = Nothing
heard_at (Second first) sum byte = Packet (is_sum sum first byte)

-- What one byte more tells: the last of a packet, that there is a packet, and whether its sum is right.
abbrev pub heard : Reading → ℕ → Heard
heard r byte = if byte == 36 then Nothing else heard_at r.stage r.sum byte
