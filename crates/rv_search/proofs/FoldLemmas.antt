-- A fold that goes on by one.
use Rattle.std.proofs.Common.{◌≡◌, ℕ, ◌+◌, ◌<◌, List, length, take, sym, ap, ◌∙◌}
use Rattle.std.specs.List.{fold, slice_index_or}
use Rattle.std.proofs.lemmas.List.Sums.{fold_more}

pub folded_next : {A B : Type 0} (f : B → A → B) (xs : List A) (i : ℕ) (d : A) (old before after : B) → i < length xs → before ≡ fold f old (take i xs) → after ≡ f before (slice_index_or xs i d) → after ≡ fold f old (take (i + 1) xs)
folded_next f xs i d old before after below so_far next =
    next ∙ ap (λ b. f b (slice_index_or xs i d)) so_far ∙ sym (fold_more f old xs i d below)
