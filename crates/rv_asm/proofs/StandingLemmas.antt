-- Each line's bytes stand in its section where its place says.
use Rattle.std.proofs.Common.{◌≡◌, ℕ, ◌+◌, List, [], ◌∷◌, ◌++◌, length, take, drop, None, Ok, refl, ap, sym, ◌∙◌, append_assoc, length-append}
use Rattle.std.specs.List.{AllByRecursion}
use Rattle.std.proofs.Math.Seq.{drop-append_seam, take-append_seam}
use Rattle.rv_asm.specs.Assembled.{first_fault, if_in, line_bytes, section_bytes}
use Rattle.rv_asm.specs.Laws.{EachLineStands}
use Rattle.rv_asm.specs.Layout.{bytes_before, first_place, line_at, lines_placed, labels_of, next_place, placed, source_lines}
use Rattle.rv_asm.proofs.PlacedLemmas.{line_at-aligned}
use Rattle.rv_asm.proofs.SectionLemmas.{bytes-cons}
use Rattle.rv_asm.proofs.StepLemmas.{fine, next_of, none_parts}
use Rattle.rv_asm.specs.declared.passes.place.Label.{Label}
use Rattle.rv_asm.specs.declared.passes.place.Place.{Place}
use Rattle.rv_asm.specs.declared.passes.place.PlacedLine.{PlacedLine}
use Rattle.rv_asm.specs.declared.statement.Section.{Section}
use Rattle.rv_asm.specs.declared.statement.Section.TheVariants.{Text, Data}

all_imply : {X : Type 0} (P Q : X → Type 0) → ((x : X) → P x → Q x) → (xs : List X) → AllByRecursion P xs → AllByRecursion Q xs
all_imply P Q imply [] all = tt
all_imply P Q imply (x ∷ xs) all = (imply x all.0, all_imply P Q imply xs all.1)

in_itself : (s : Section) (bytes : List ℕ) → if_in s s (Ok bytes) ≡ bytes
in_itself Text bytes = refl
in_itself Data bytes = refl

between : (front bytes rest : List ℕ) (n : ℕ) → length front ≡ n → take (length bytes) (drop n (front ++ (bytes ++ rest))) ≡ bytes
between front bytes rest n is =
    ap (λ k. take (length bytes) (drop k (front ++ (bytes ++ rest)))) (sym is)
    ∙ ap (λ l. take (length bytes) l) (drop-append_seam front (bytes ++ rest))
    ∙ take-append_seam bytes rest

-- a section whose first bytes are known, and its lines' after them
abbrev StandsAfter : List Label → (Section → List ℕ) → List PlacedLine → PlacedLine → Type 0
StandsAfter known front lines p = (bytes : List ℕ) → line_bytes known p ≡ Ok bytes
    → take (length bytes) (drop (bytes_before p.place.section p.place) (front p.place.section ++ section_bytes p.place.section known lines)) ≡ bytes

stands_first : (known : List Label) (front : Section → List ℕ) (p : PlacedLine) (rest : List PlacedLine) → ((s : Section) → length (front s) ≡ bytes_before s p.place) → StandsAfter known front (p ∷ rest) p
stands_first known front p rest sizes bytes is =
    let s : Section = p.place.section in
    let own : section_bytes s known (p ∷ rest) ≡ bytes ++ section_bytes s known rest =
    bytes-cons s known p rest ∙ ap (λ r. if_in s s r ++ section_bytes s known rest) is ∙ ap (λ b. b ++ section_bytes s known rest) (in_itself s bytes) in
    ap (λ l. take (length bytes) (drop (bytes_before s p.place) (front s ++ l))) own ∙ between (front s) bytes (section_bytes s known rest) (bytes_before s p.place) (sizes s)

joined : (known : List Label) (front : List ℕ) (s : Section) (p : PlacedLine) (rest : List PlacedLine) (bytes : List ℕ) → line_bytes known p ≡ Ok bytes
    → (front ++ if_in s p.place.section (Ok bytes)) ++ section_bytes s known rest ≡ front ++ section_bytes s known (p ∷ rest)
joined known front s p rest bytes is =
    append_assoc front (if_in s p.place.section (Ok bytes)) (section_bytes s known rest)
    ∙ ap (λ r. front ++ (if_in s p.place.section r ++ section_bytes s known rest)) (sym is)
    ∙ ap (λ l. front ++ l) (sym (bytes-cons s known p rest))

standing : (known : List Label) (front : Section → List ℕ) (place : Place) (texts : List (List ℕ)) → ((s : Section) → length (front s) ≡ bytes_before s place) → first_fault known (placed place texts) ≡ None
    → AllByRecursion (StandsAfter known front (placed place texts)) (placed place texts)
unfolding placed first_fault line_at
standing known front place [] sizes none = tt
standing known front place (text ∷ texts) sizes none =
    let p : PlacedLine = line_at place text in
    let rest : List PlacedLine = placed (next_place p) texts in
    let parts = none_parts _ (line_bytes known p) (first_fault known rest) none in
    let bytes : List ℕ = parts.0 in
    let next = next_of known p bytes (line_at-aligned place text) (fine known p bytes parts.1) in
    let longer : Section → List ℕ = λ s. front s ++ if_in s p.place.section (Ok bytes) in
    let longer_sizes : (s : Section) → length (longer s) ≡ bytes_before s (next_place p) = λ s. length-append (front s) (if_in s p.place.section (Ok bytes)) ∙ ap (λ n. n + length (if_in s p.place.section (Ok bytes))) (sizes s) ∙ sym (next.sizes s) in
    let later = standing known longer (next_place p) texts longer_sizes parts.2 in (
      stands_first known front p rest sizes,
      all_imply (StandsAfter known longer rest) (StandsAfter known front (p ∷ rest))
          (λ q holds b is. ap (λ l. take (length b) (drop (bytes_before q.place.section q.place) l)) (sym (joined known (front q.place.section) q.place.section p rest bytes parts.1)) ∙ holds b is)
          rest later,
    )

empty_first : (s : Section) → 0 ≡ bytes_before s first_place
empty_first Text = refl
empty_first Data = refl

pub each_line_stands : EachLineStands
each_line_stands source none = standing (labels_of (lines_placed source)) (λ s. []) first_place (source_lines source) empty_first none
