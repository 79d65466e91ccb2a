-- What the packets of GDB's remote protocol are made of: words, hexadecimal numbers, threads, points and actions.
use Rattle.std.specs.Prelude.{ℕ, ◌-◌, ◌^◌, ◌==◌, nat_le, if◌then◌else◌, Option, Some, None, option_and_then, option_map, List, [], ◌∷◌, codes, length, take, drop}
use Rattle.std.specs.Str.{bytes_eq}
use Rattle.rv_text.specs.Numeral.{number_of, up_to}
use Rattle.rv_text.specs.Pieces.{pieces_of}
use Rattle.rv_gdb.specs.declared.fields.Id.{Id}
use Rattle.rv_gdb.specs.declared.fields.Id.TheVariants.{Any, Thread}
use Rattle.rv_gdb.specs.declared.fields.Range.{Range}

-- what stands behind a word, where the text begins with it
abbrev pub behind : List ℕ → List ℕ → Option (List ℕ)
behind word text = if bytes_eq (take (length word) text) word then Some (drop (length word) text) else None

-- a number: one to eight hexadecimal digits, letters in either case
abbrev pub number_in : List ℕ → Option ℕ
number_in text = if nat_le (length text) 8 then up_to (2 ^ 32 - 1) (number_of 16 text) else None

-- thread 0 is any
abbrev pub id_of : ℕ → Id
id_of number = if number == 0 then Any else Thread number

-- a thread's number; `0` and `-1` are any thread
abbrev pub id_in : List ℕ → Option Id
id_in text = if bytes_eq text (codes "-1") then Some Any else option_map id_of (number_in text)

-- two numbers with a comma (44) between them: an address, or a place, and a length
abbrev pub range_of : List (List ℕ) → Option Range
range_of (from ∷ length ∷ []) = option_and_then (λ from. option_map (λ length. record { from = from; length = length }) (number_in length)) (number_in from)
range_of pieces = None

abbrev pub range_in : List ℕ → Option Range
range_in text = range_of (pieces_of 44 text)

-- the byte that the first two hexadecimal digits write
abbrev pub byte_of : List ℕ → Option ℕ
byte_of [] = None
byte_of (digit ∷ []) = None
byte_of (first ∷ second ∷ text) = up_to 255 (number_of 16 (first ∷ second ∷ []))

-- the bytes that hexadecimal digits write, two a byte; none where a digit is left, or another byte stands among them
abbrev pub bytes_in : List ℕ → Option (List ℕ)
bytes_in [] = Some []
bytes_in (digit ∷ []) = None
bytes_in (first ∷ second ∷ text) =
    option_and_then (λ byte. option_map (λ bytes. byte ∷ bytes) (bytes_in text)) (byte_of (first ∷ second ∷ []))
