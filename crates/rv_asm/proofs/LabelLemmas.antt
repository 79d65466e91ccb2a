-- The labels of lines that are taken one by one.
use Rattle.std.proofs.Common.{◌≡◌, List, [], ◌∷◌, ◌++◌, Option, Some, None, refl, ap, sym, ◌∙◌, append_assoc, append-nil}
use Rattle.std.specs.List.{cons_option}
use Rattle.rv_asm.specs.declared.passes.place.PlacedLine.{PlacedLine}
use Rattle.rv_asm.specs.declared.passes.place.Label.{Label}
use Rattle.rv_asm.specs.Layout.{labels_of, label_at}

onto_rest : {A : Type 0} (o : Option A) (xs : List A) → cons_option o xs ≡ cons_option o [] ++ xs
onto_rest None xs = refl
onto_rest (Some x) xs = refl

pub labels_of-cons : (p : PlacedLine) (lines : List PlacedLine) → labels_of (p ∷ lines) ≡ cons_option (label_at p) [] ++ labels_of lines
unfolding labels_of
labels_of-cons p lines = onto_rest (label_at p) (labels_of lines)

pub labels_of-nil : labels_of [] ≡ []
unfolding labels_of
labels_of-nil = refl

-- one line more
pub labels-more : (done after all : List Label) (p : PlacedLine) (lines rest : List PlacedLine) → lines ≡ p ∷ rest → after ≡ done ++ cons_option (label_at p) [] → done ++ labels_of lines ≡ all → after ++ labels_of rest ≡ all
labels-more done after all p lines rest is added so_far =
    ap (λ xs. xs ++ labels_of rest) added ∙ append_assoc done (cons_option (label_at p) []) (labels_of rest)
    ∙ ap (λ xs. done ++ xs) (sym (labels_of-cons p rest)) ∙ ap (λ ls. done ++ labels_of ls) (sym is) ∙ so_far

-- no line more
pub labels-done : (done all : List Label) (lines : List PlacedLine) → lines ≡ [] → done ++ labels_of lines ≡ all → done ≡ all
labels-done done all lines is so_far =
    sym (append-nil done) ∙ ap (λ xs. done ++ xs) (sym (ap labels_of is ∙ labels_of-nil)) ∙ so_far
