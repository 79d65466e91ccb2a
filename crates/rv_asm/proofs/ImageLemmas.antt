-- The parts of a sound image meet what an image asks.
use Rattle.std.proofs.Common.{◌≡◌, ℕ, ◌+◌, ◌%◌, ◌≤◌, ◌==◌, Bool, true, false, List, [], ◌∷◌, All, length, refl, ap, ◌∙◌, arith}
use Rattle.std.specs.Prelude.{nat_lt, nat_le, if◌then◌else◌}
use Rattle.std.specs.List.{sum_by}
use Rattle.std.proofs.lemmas.Bool.Decides.{nat_tests}
use Rattle.std.proofs.lemmas.List.Elements.{All-nil, All-cons}
use Rattle.std.proofs.lemmas.List.Sums.{sum_by-cons}
use Rattle.rv_memory.specs.Extent.{Extent}
use Rattle.rv_elf.specs.Contents.{IsImage, IsSegment, AreSegments, IsSymbol, Named, contents, need_of}
use Rattle.rv_asm.specs.Assembled.{Ends, image_of, entry_of, ends_of, text_segment, data_segment, data_segments, symbols_of, symbol_of}
use Rattle.rv_asm.specs.internal.Sound.{IsSound, labels_size}
use Rattle.rv_asm.specs.declared.passes.place.Label.{Label}

symbols-size : (ends : Ends) (labels : List Label) → sum_by need_of (symbols_of ends labels) ≡ labels_size labels
unfolding symbols_of labels_size
symbols-size ends [] = refl
symbols-size ends (label ∷ labels) =
    sum_by-cons need_of (symbol_of ends labels label) (symbols_of ends labels) ∙ ap (λ n. 17 + length label.name + n) (symbols-size ends labels)

-- the segments, by whether `.data` has bytes
some_segments : (entry : ℕ) (text datas : List ℕ) (empty : Bool) → (length datas == 0) ≡ empty → 1 ≤ length text → length text ≤ 65_536 → length datas ≤ 1_048_576 → entry % 4 ≡ 0 → 0x1_0000 ≤ entry → entry + 4 ≤ 0x1_0000 + length text → AreSegments entry (text_segment text ∷ (if empty then [] else data_segment datas ∷ []))
some_segments entry text datas true none some few small aligned low high =
    let apart : nat_lt 0xc000_0000 (0x1_0000 + length text) ≡ false = grind (arith, nat_tests) in
    let from : nat_le 0x1_0000 entry ≡ true = grind (arith, nat_tests) in
    let upto : nat_le (entry + 4) (0x1_0000 + length text) ≡ true = grind (arith, nat_tests) in
    record {
      few = omega arith;
      each = All-cons IsSegment (text_segment text) [] (record { some = some; within = omega arith; ends = omega arith }) (All-nil IsSegment);
      apart = rw apart refl;
      small = omega arith;
      aligned = aligned;
      executable = rw (from, upto) refl;
    }
some_segments entry text datas false none some few small aligned low high =
    let apart : nat_lt 0xc000_0000 (0x1_0000 + length text) ≡ false = grind (arith, nat_tests) in
    let apart_data : nat_lt 0xc000_0000 (0x2_0000 + length datas) ≡ false = grind (arith, nat_tests) in
    let after : nat_lt 0x2_0000 (0x1_0000 + length text) ≡ false = grind (arith, nat_tests) in
    let before : nat_lt 0x1_0000 (0x2_0000 + length datas) ≡ true = grind (arith, nat_tests) in
    let from : nat_le 0x1_0000 entry ≡ true = grind (arith, nat_tests) in
    let upto : nat_le (entry + 4) (0x1_0000 + length text) ≡ true = grind (arith, nat_tests) in
    let data_some : 1 ≤ length datas = grind (arith, nat_tests) in
    record {
      few = omega arith;
      each = All-cons IsSegment (text_segment text) (data_segment datas ∷ []) (record { some = some; within = omega arith; ends = omega arith })
          (All-cons IsSegment (data_segment datas) [] (record { some = data_some; within = omega arith; ends = omega arith }) (All-nil IsSegment));
      apart = rw (apart, apart_data, before, after) refl;
      small = omega arith;
      aligned = aligned;
      executable = rw (from, upto) refl;
    }

pub is_image : (labels : List Label) (text datas : List ℕ) → IsSound labels text datas → All IsSymbol (symbols_of (ends_of text datas) labels) → IsImage (image_of labels text datas)
unfolding image_of
is_image labels text datas sound symbols = record {
  segments = some_segments (entry_of labels text) text datas (length datas == 0) refl sound.some sound.text_fits sound.data_fits sound.aligned sound.low sound.high;
  symbols = record { each = symbols; small = rw (symbols-size (ends_of text datas) labels) sound.names };
}

-- the same of parts that are those
pub is_image_of : (labels : List Label) (text datas : List ℕ) (entry : ℕ) (segments : List Extent) (symbols : List Named) → IsSound labels text datas → entry ≡ entry_of labels text → segments ≡ text_segment text ∷ data_segments datas → symbols ≡ symbols_of (ends_of text datas) labels → All IsSymbol symbols → IsImage (contents entry segments symbols)
unfolding image_of
is_image_of labels text datas entry segments symbols sound entry_is segments_are symbols_are each =
    let each_one : All IsSymbol (symbols_of (ends_of text datas) labels) = rw (← symbols_are) each in
    rw (entry_is, segments_are, symbols_are) (is_image labels text datas sound each_one)
