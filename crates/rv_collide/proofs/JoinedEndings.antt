-- The endings of a fork, at places among those of the whole.
use Rattle.std.proofs.Common.{take, get_or, append_assoc, ◌≡◌, ℕ, zero, suc, ◌+◌, ◌<◌, ◌^◌, List, [], ◌∷◌, ◌++◌, length, Option, Some, None, map, refl, sym, ap, subst, ◌∙◌, arith, All}
use Rattle.std.specs.Prelude.{filter_map, option_and_then, option_map}
use Rattle.std.specs.List.{cons_option, range_with_len}
use Rattle.std.proofs.lemmas.List.{map-append, take_more}
use Rattle.std.proofs.lemmas.List.Elements.{All-cons, All-get_or, All-nil}
use Rattle.rv_collide.specs.Joined.{ending_later}
use Rattle.rv_collide.specs.Entries.{places}
use Rattle.rv_collide.specs.First.{paused_access}
use Rattle.rv_collide.specs.Pause.{Pause, pause_ended}
use Rattle.rv_collide.specs.Verdict.{ending, ending_at, endings, verdict}
use Rattle.rv_collide.specs.declared.ending.Ending.{Ending}
use Rattle.rv_collide.specs.declared.ending.Verdict.{Verdict}
use Rattle.rv_collide.specs.declared.ending.Verdict.TheVariants.{Hit, Changed, Quiet}
use Rattle.rv_collide.specs.declared.entry.Entry.{Entry}
use Rattle.rv_collide.specs.internal.Joins.{IsHitPlaced, IsPlaced}
use Rattle.rv_hart.specs.State.{State}
use Rattle.rv_hart.specs.declared.access.Access.{Access}
use Rattle.rv_collide.proofs.Endings.{pause_bounds}
use Rattle.rv_collide.proofs.LawLemmas.{reports, some_same}

module _ (start : State) (ys : List Entry) (by : ℕ) (fits : by + length ys < 2 ^ 32) where
  hit_placed : (pause : Pause) (access : Access) → pause.resumed_at < length ys → paused_access start ys pause ≡ Some access → (v : Verdict) → verdict start ys pause access ≡ v → IsHitPlaced by v
  hit_placed pause access lt would (Hit seen) is = let report = reports start ys pause access seen would is in let before = report.before in omega arith
  hit_placed pause access lt would Changed is = tt
  hit_placed pause access lt would Quiet is = tt

  placed : (pause : Pause) (access : Access) → pause.paused_at < length ys → pause.resumed_at < length ys → paused_access start ys pause ≡ Some access → IsPlaced by (ending start ys pause access)
  unfolding ending
  placed pause access begun over would = record {
    begun = omega arith;
    over = omega arith;
    hit = hit_placed pause access over would (verdict start ys pause access) refl;
  }

  placed_of : (pause : Pause) (access : Option Access) (told : Ending) → pause.paused_at < length ys → pause.resumed_at < length ys → paused_access start ys pause ≡ access → option_map (ending start ys pause) access ≡ Some told → IsPlaced by told
  placed_of pause None told begun over would is = cc
  placed_of pause (Some access) told begun over would is =
      subst (IsPlaced by) (some_same (ending start ys pause access) told is) (placed pause access begun over would)

  placed_from : (i : ℕ) (pause : Option Pause) (told : Ending) → i < length ys → pause_ended ys i ≡ pause → option_and_then (λ pause. option_map (ending start ys pause) (paused_access start ys pause)) pause ≡ Some told → IsPlaced by told
  placed_from i None told lt ends is = cc
  placed_from i (Some pause) told lt ends is =
      let bounds = pause_bounds ys i pause ends in
      let begun = bounds.begun in
      let over = bounds.over in
      placed_of pause (paused_access start ys pause) told (omega arith) (omega arith) refl is

  placed_at : (i : ℕ) (told : Ending) → i < length ys → ending_at start ys i ≡ Some told → IsPlaced by told
  unfolding ending_at
  placed_at i told lt is = placed_from i (pause_ended ys i) told lt refl is

each_of : {X : Type 0} → (P : X → Type 0) (o : Option X) (xs : List X) → ((x : X) → o ≡ Some x → P x) → All P xs → All P (cons_option o xs)
each_of P None xs each all = all
each_of P (Some x) xs each all = All-cons P x xs (each x refl) all

each_told : {X : Type 0} → (P : X → Type 0) (f : ℕ → Option X) (a n : ℕ) → ((i : ℕ) (x : X) → i < a + n → f i ≡ Some x → P x) → All P (filter_map f (range_with_len a n))
each_told P f a zero each = All-nil P
each_told P f a (suc n) each =
    each_of P (f a) (filter_map f (range_with_len (a + 1) n)) (λ x is. each a x (omega arith) is)
    (each_told P f (a + 1) n (λ i x lt is. each i x (omega arith) is))

pub all_placed : (start : State) (ys : List Entry) (by : ℕ) → by + length ys < 2 ^ 32 → All (IsPlaced by) (endings start ys)
unfolding endings places
all_placed start ys by fits =
    each_told (IsPlaced by) (ending_at start ys) 0 (length ys) (λ i told lt is. placed_at start ys by fits i told (omega arith) is)

-- one more of the fork's endings
pub one_told : (by : ℕ) (told ended so_far new : List Ending) (i : ℕ) (next d : Ending) → i < length ended → (All (IsPlaced by) ended → so_far ≡ told ++ map (ending_later by) (take i ended)) → (IsPlaced by (get_or ended i d) → next ≡ ending_later by (get_or ended i d)) → new ≡ so_far ++ next ∷ [] → All (IsPlaced by) ended → new ≡ told ++ map (ending_later by) (take (i + 1) ended)
one_told by told ended so_far new i next d lt before moved is all =
    is
    ∙ ap (λ es. es ++ next ∷ []) (before all)
    ∙ ap (λ (e : Ending). (told ++ map (ending_later by) (take i ended)) ++ e ∷ []) (moved (All-get_or (IsPlaced by) ended i d lt all))
    ∙ append_assoc told (map (ending_later by) (take i ended)) (ending_later by (get_or ended i d) ∷ [])
    ∙ ap (λ es. told ++ es) (sym (map-append (ending_later by) (take i ended) (get_or ended i d ∷ [])) ∙ ap (map (ending_later by)) (sym (take_more ended i d lt)))
