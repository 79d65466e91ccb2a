-- The rows of changed reports, one report more.
use Rattle.std.proofs.Common.{◌≡◌, ℕ, ◌+◌, ◌<◌, Option, Some, None, List, [], ◌∷◌, ◌++◌, filter_map, length, option_to_list, take, refl, sym, ap, ◌∙◌}
use Rattle.std.specs.List.{cons_option, fold, slice_index_or}
use Rattle.std.proofs.lemmas.List.{take_more}
use Rattle.std.proofs.lemmas.List.Elements.{filter_map-append}
use Rattle.std.proofs.lemmas.List.Sums.{fold-append}

listed : {B : Type 0} (o : Option B) → cons_option o [] ≡ option_to_list o
listed None = refl
listed (Some x) = refl

pub found_next : {A B C : Type 0} (add : C → B → C) (f : A → Option B) (xs : List A) (i : ℕ) (d : A) (old before after : C) → i < length xs → before ≡ fold add old (filter_map f (take i xs)) → after ≡ fold add before (option_to_list (f (slice_index_or xs i d))) → after ≡ fold add old (filter_map f (take (i + 1) xs))
found_next add f xs i d old before after below so_far next =
    next ∙ ap (λ c. fold add c (option_to_list (f (slice_index_or xs i d)))) so_far
    ∙ ap (fold add (fold add old (filter_map f (take i xs)))) (sym (listed (f (slice_index_or xs i d))))
    ∙ sym (fold-append add old (filter_map f (take i xs)) (filter_map f (slice_index_or xs i d ∷ [])))
    ∙ ap (fold add old) (sym (filter_map-append f (take i xs) (slice_index_or xs i d ∷ [])))
    ∙ ap (λ ys. fold add old (filter_map f ys)) (sym (take_more xs i d below))

pub listed_next : {A B : Type 0} (f : A → Option B) (xs : List A) (i : ℕ) (d : A) (before after : List B) → i < length xs → before ≡ filter_map f (take i xs) → after ≡ before ++ option_to_list (f (slice_index_or xs i d)) → after ≡ filter_map f (take (i + 1) xs)
listed_next f xs i d before after below so_far next =
    next ∙ ap (λ ys. ys ++ option_to_list (f (slice_index_or xs i d))) so_far
    ∙ ap (λ ys. filter_map f (take i xs) ++ ys) (sym (listed (f (slice_index_or xs i d))))
    ∙ sym (filter_map-append f (take i xs) (slice_index_or xs i d ∷ []))
    ∙ ap (filter_map f) (sym (take_more xs i d below))
