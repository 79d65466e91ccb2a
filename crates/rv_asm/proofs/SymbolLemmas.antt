-- A symbol ends at the least label above it in its section, among all labels.
use Rattle.std.proofs.Common.{◌≡◌, ℕ, ◌≤◌, Bool, true, false, List, [], ◌∷◌, refl, ap, ap₂, sym, ◌∙◌, arith, map}
use Rattle.std.specs.Prelude.{nat_lt, min, ◌-◌}
use Rattle.std.proofs.lemmas.Bool.Decides.{nat_tests}
use Rattle.rv_elf.specs.Contents.{Named}
use Rattle.rv_asm.specs.Assembled.{Ends, end_in, ends_of, is_same, kind_in, next_address, section_bytes, symbol_of, symbols_of}
use Rattle.rv_asm.specs.Laws.{EachSymbolEnds}
use Rattle.rv_asm.specs.Layout.{labels_of, lines_placed}
use Rattle.rv_asm.specs.internal.Walks.{IsAscending, least_address}
use Rattle.rv_asm.proofs.SoundLemmas.{ascends}
use Rattle.rv_asm.proofs.WalkLemmas.{first_low, least-cons, next-cons}
use Rattle.rv_asm.specs.declared.passes.place.Label.{Label}
use Rattle.rv_asm.specs.declared.statement.Section.{Section}
use Rattle.rv_asm.specs.declared.statement.Section.TheVariants.{Text, Data}

-- from an address on that is not below all the later labels, the earlier ones change nothing
abbrev Covers : Ends → List Label → List Label → Type 0
Covers ends all rest = (s : Section) (address : ℕ) → least_address s (end_in ends s) rest ≤ address
    → next_address s address (end_in ends s) all ≡ next_address s address (end_in ends s) rest

-- a label that isn't above the address isn't next
not_next : (s : Section) (address end : ℕ) (label : Label) (labels : List Label) (same : Bool) → is_same s label.spot.section ≡ same
    → label.spot.address ≤ address → next_address s address end (label ∷ labels) ≡ next_address s address end labels
not_next s address end label labels true is low = next-cons s address end label labels true false is (grind (arith, nat_tests))
not_next s address end label labels false is low = next-cons s address end label labels false false is (grind (arith, nat_tests))

-- nor is one of another section
not_there : (s : Section) (address end : ℕ) (label : Label) (labels : List Label) (above : Bool) → nat_lt address label.spot.address ≡ above
    → is_same s label.spot.section ≡ false → next_address s address end (label ∷ labels) ≡ next_address s address end labels
not_there s address end label labels true is other = next-cons s address end label labels false true other is
not_there s address end label labels false is other = next-cons s address end label labels false false other is

is_itself : (s : Section) → is_same s s ≡ true
is_itself Text = refl
is_itself Data = refl

same_section : (s t : Section) → is_same s t ≡ true → s ≡ t
same_section Text Text same = refl
same_section Text Data same = cc
same_section Data Text same = cc
same_section Data Data same = refl

-- the least of a section's labels is its first
least_first : (ends : Ends) (label : Label) (labels : List Label) → IsAscending ends (label ∷ labels)
    → least_address label.spot.section (end_in ends label.spot.section) (label ∷ labels) ≡ label.spot.address
least_first ends label labels ascending =
    let low : label.spot.address ≤ least_address label.spot.section (end_in ends label.spot.section) labels = first_low ends label labels ascending in
    least-cons label.spot.section (end_in ends label.spot.section) label labels true (is_itself label.spot.section) ∙ (omega arith)

covers_rest : (ends : Ends) (all : List Label) (label : Label) (labels : List Label) → IsAscending ends (label ∷ labels) → Covers ends all (label ∷ labels) → Covers ends all labels
covers_rest ends all label labels ascending covers s address low = at (is_same s label.spot.section) refl where
  end : ℕ
  end = end_in ends s

  at : (same : Bool) → is_same s label.spot.section ≡ same → next_address s address end all ≡ next_address s address end labels
  at true is =
      let section : s ≡ label.spot.section = same_section s label.spot.section is in
      let first : label.spot.address ≤ least_address s (end_in ends s) labels = rw section (first_low ends label labels ascending) in
      let below : label.spot.address ≤ address = omega arith in
      let least : least_address s end (label ∷ labels) ≡ min label.spot.address (least_address s end labels) = least-cons s end label labels true is in
      covers s address (omega arith) ∙ not_next s address end label labels true is below
  at false is =
      let least : least_address s end (label ∷ labels) ≡ least_address s end labels = least-cons s end label labels false is in
      covers s address (omega arith) ∙ not_there s address end label labels (nat_lt address label.spot.address) refl is

same_end : (ends : Ends) (all : List Label) (label : Label) (labels : List Label) → IsAscending ends (label ∷ labels) → Covers ends all (label ∷ labels) → symbol_of ends labels label ≡ symbol_of ends all label
same_end ends all label labels ascending covers =
    let s : Section = label.spot.section in
    let least : least_address s (end_in ends s) (label ∷ labels) ≡ label.spot.address = least_first ends label labels ascending in
    let next : next_address s label.spot.address (end_in ends s) all ≡ next_address s label.spot.address (end_in ends s) labels =
    covers s label.spot.address (omega arith) ∙ not_next s label.spot.address (end_in ends s) label labels true (is_itself s) (omega arith) in
    ap (λ (n : ℕ). let symbol : Named = record { name = label.name; value = label.spot.address; size = n - label.spot.address; kind = kind_in s } in symbol) (sym next)

later : (ends : Ends) (label : Label) (labels : List Label) → IsAscending ends (label ∷ labels) → IsAscending ends labels
unfolding IsAscending
later ends label labels is = is.1

symbols_are : (ends : Ends) (all labels : List Label) → IsAscending ends labels → Covers ends all labels → symbols_of ends labels ≡ map (symbol_of ends all) labels
unfolding symbols_of
symbols_are ends all [] ascending covers = refl
symbols_are ends all (label ∷ labels) ascending covers =
    ap₂ (λ (symbol : Named) (symbols : List Named). symbol ∷ symbols) (same_end ends all label labels ascending covers)
    (symbols_are ends all labels (later ends label labels ascending) (covers_rest ends all label labels ascending covers))

pub each_symbol_ends : EachSymbolEnds
each_symbol_ends source none =
    symbols_are (ends_of (section_bytes Text (labels_of (lines_placed source)) (lines_placed source)) (section_bytes Data (labels_of (lines_placed source)) (lines_placed source)))
    (labels_of (lines_placed source)) (labels_of (lines_placed source)) (ascends source none) (λ s address low. refl)
