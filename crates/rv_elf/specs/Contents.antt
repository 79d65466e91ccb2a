-- What an image is: an entry, segments, symbols, and the facts that hold of every image.
use Rattle.std.specs.Prelude.{◌≡◌, ℕ, ◌+◌, ◌%◌, ◌^◌, ◌<◌, ◌≤◌, true, false, IsTrue, List, [], ◌∷◌, length, nat_lt}
use Rattle.std.specs.List.{All, list_all, sum_by}
use Rattle.std.specs.Str.{is_utf8}
use Rattle.rv_memory.specs.Extent.{Extent, end_of}
use Rattle.rv_memory.specs.Memory.{overlaps, permits}
use Rattle.rv_memory.specs.declared.store.Need.TheVariants.{Execute}

-- A symbol: the bytes of its name, its value and size, and its type by the ABI's numbers.
pub record Named : Type 0 where
  pub name : List ℕ
  pub value : ℕ
  pub size : ℕ
  pub kind : ℕ

pub record Contents : Type 0 where
  pub entry : ℕ
  pub segments : List Extent
  pub symbols : List Named

abbrev pub contents : ℕ → List Extent → List Named → Contents
contents entry segments symbols = record { entry = entry; segments = segments; symbols = symbols }

-- the addresses that are kept for the harts' stacks, from 0xC0000000 up to below 0xC0100000
abbrev pub stacks : Extent
stacks = record { start = 0xc000_0000; bytes = []; len = 0x10_0000; r = true; w = true; x = false }

-- how many bytes of the limit on symbols one of them needs
abbrev pub need_of : Named → ℕ
need_of s = 17 + length s.name

-- a segment has a byte, no more bytes given than it is long, and doesn't pass the last address
pub record IsSegment (s : Extent) : Type 0 where
  pub some : 1 ≤ s.len
  pub within : length s.bytes ≤ s.len
  pub ends : end_of s ≤ 2 ^ 32

-- the segments of an image: few, apart from one another and from the stacks, not too large together, and
-- the word at the entry lies in one that may be executed
pub record AreSegments (entry : ℕ) (segments : List Extent) : Type 0 where
  pub few : length segments ≤ 64
  pub each : All IsSegment segments
  pub apart : overlaps (stacks ∷ segments) ≡ false
  pub small : sum_by (λ s. s.len) segments ≤ 16_777_216
  pub aligned : entry % 4 ≡ 0
  pub executable : IsTrue (permits segments entry 4 Execute)

-- a symbol has no type, or is an object or a function; its name is a text with a character and without
-- a zero byte
pub record IsSymbol (s : Named) : Type 0 where
  pub kind : s.kind ≤ 2
  pub some : 1 ≤ length s.name
  pub text : IsTrue (is_utf8 s.name)
  pub unbroken : IsTrue (list_all (λ b. nat_lt 0 b) s.name)
  pub value : s.value < 2 ^ 32
  pub size : s.size < 2 ^ 32

pub record AreSymbols (symbols : List Named) : Type 0 where
  pub each : All IsSymbol symbols
  pub small : sum_by need_of symbols ≤ 67_108_864

pub record IsImage (image : Contents) : Type 0 where
  pub segments : AreSegments image.entry image.segments
  pub symbols : AreSymbols image.symbols
