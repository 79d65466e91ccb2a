-- The lines of an image's listing.
use Rattle.std.specs.Prelude.{ℕ, Bool, true, false, ◌+◌, ◌-◌, ◌*◌, ◌%◌, ◌^◌, if◌then◌else◌, List, [], ◌∷◌, ◌++◌, codes, drop, Option, Some, None, Result, Ok, Err}
use Rattle.std.specs.List.{flat_map}
use Rattle.rv_elf.specs.Contents.{Contents}
use Rattle.rv_memory.specs.Extent.{Extent}
use Rattle.rv_text.specs.Hexadecimal.{word_digits}
use Rattle.rv_text.specs.Lines.{text_of_lines}
use Rattle.rv_asm.specs.Line.{line}
use Rattle.rv_asm.specs.declared.listing.list.ListFault.{ListFault}
use Rattle.rv_asm.specs.declared.listing.list.ListFault.TheVariants.{Write, NoMemory}

-- The listing of an image.

-- `00010000: 00020337 lui x6, 0x20`
abbrev pub listed : ℕ → ℕ → List ℕ
listed address word = word_digits address ++ (codes ": " ++ (word_digits word ++ (codes " " ++ line word address)))

-- the word of four bytes, the least significant first
abbrev pub word_from : ℕ → ℕ → ℕ → ℕ → ℕ
word_from a b c d = a + b * 2 ^ 8 + c * 2 ^ 16 + d * 2 ^ 24

-- the word in the first four bytes, and the bytes after it
abbrev pub split_word : List ℕ → Option (ℕ × List ℕ)
split_word (a ∷ b ∷ c ∷ d ∷ bytes) = Some (word_from a b c d, bytes)
split_word _ = None

-- the lines of the whole words in bytes that begin at an address
abbrev pub word_lines : ℕ → List ℕ → List (List ℕ)
word_lines address (a ∷ b ∷ c ∷ d ∷ bytes) = listed address (word_from a b c d) ∷ word_lines (address + 4) bytes
word_lines address _ = []

-- how many bytes stand before the first multiple of 4
abbrev pub misaligned : ℕ → ℕ
misaligned address = (4 - address % 4) % 4

-- the lines of a segment's file bytes, from the first multiple of 4 on, where it may be executed
abbrev pub segment_lines : Extent → List (List ℕ)
segment_lines s = if s.x then word_lines (s.start + misaligned s.start) (drop (misaligned s.start) s.bytes) else []

-- what is listed of an image: the whole words of its executable segments, in the image's order
abbrev pub listing : Contents → List ℕ
listing image = flat_map (λ s. text_of_lines (segment_lines s)) image.segments

-- the writer failed
abbrev pub is_write_fault : {A : Type 0} → Result A ListFault → Bool
is_write_fault (Ok a) = false
is_write_fault (Err Write) = true
is_write_fault (Err NoMemory) = false
