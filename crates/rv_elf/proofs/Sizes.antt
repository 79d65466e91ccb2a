-- How large the parts of a written file are.
use Rattle.std.proofs.Common.{◌≡◌, ℕ, ◌+◌, ◌*◌, ◌≤◌, All, List, [], ◌∷◌, length, refl, arith}
use Rattle.std.specs.List.{AllByRecursion, sum_by}
use Rattle.std.proofs.lemmas.List.Elements.{All-weaker, recursion_from_All}
use Rattle.std.proofs.lemmas.List.Sums.{sum_by-cons}
use Rattle.rv_memory.specs.Extent.{Extent}
use Rattle.rv_elf.specs.declared.places.Places.{Places}
use Rattle.rv_elf.specs.Contents.{Named, need_of, IsSegment, AreSegments, IsSymbol, AreSymbols}
use Rattle.rv_elf.specs.Written.{data_end, places_of}

abbrev pub data_len : List Extent → ℕ
data_len segments = sum_by (λ s. length s.bytes) segments

abbrev pub names_len : List Named → ℕ
names_len symbols = sum_by (λ s. length s.name + 1) symbols

data_within : (segments : List Extent) → AllByRecursion IsSegment segments → data_len segments ≤ sum_by (λ s. s.len) segments
data_within [] h = omega arith
data_within (s ∷ ss) h =
    omega (arith, h.0.within, data_within ss h.1, sum_by-cons (λ (s : Extent). length s.bytes) s ss, sum_by-cons (λ (s : Extent). s.len) s ss)

pub data_small : (entry : ℕ) (segments : List Extent) → AreSegments entry segments → data_len segments ≤ 16_777_216
data_small entry segments h = omega (arith, h.small, data_within segments (recursion_from_All IsSegment segments h.each))

-- the room that symbols need is that of their entries and their strings
needs_are : (symbols : List Named) → sum_by need_of symbols ≡ 16 * length symbols + names_len symbols
needs_are [] = refl
needs_are (s ∷ ss) =
    omega (arith, needs_are ss, sum_by-cons need_of s ss, sum_by-cons (λ (s : Named). length s.name + 1) s ss)

pub tables_small : (symbols : List Named) → AreSymbols symbols → 16 * length symbols + names_len symbols ≤ 67_108_864
tables_small symbols h = omega (arith, h.small, needs_are symbols)

pub kinds_are : (symbols : List Named) → AreSymbols symbols → All (λ s. s.kind ≤ 2) symbols
kinds_are symbols h = All-weaker IsSymbol (λ s. s.kind ≤ 2) (λ s is. is.kind) symbols h.each

-- the tables lie in order, far below 2 ^ 32
pub record AreInOrder (end : ℕ) (p : Places) : Type 0 where
  pub bytes : end ≤ 20_000_000
  pub symbols : end ≤ p.symbols
  pub strings : p.symbols ≤ p.strings
  pub names : p.strings ≤ p.names
  pub sections : p.names + 27 ≤ p.sections
  pub small : p.sections ≤ 100_000_000

pub places_in_order : (entry : ℕ) (segments : List Extent) (symbols : List Named) → AreSegments entry segments → AreSymbols symbols → AreInOrder (data_end segments) (places_of segments symbols)
unfolding places_of
places_in_order entry segments symbols are are_symbols =
    let file = data_small entry segments are in
    let tables = tables_small symbols are_symbols in
    let few = are.few in
    record { bytes = omega arith; symbols = omega arith; strings = omega arith; names = omega arith; sections = omega arith; small = omega arith }
