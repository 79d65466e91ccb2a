-- How words drive a runner.
use Rattle.std.proofs.Common.{◌≡◌, ℕ, suc, zero, ◌+◌, ◌*◌, ◌%◌, ◌<◌, ◌≤◌, List, [], ◌∷◌, ◌++◌, length, Option, Some, None, inl, inr, refl, sym, ap, subst, take, ◌∙◌, append_assoc, append-nil, arith}
use Rattle.std.specs.List.{flat_map}
use Rattle.std.specs.Prelude.{option_and_then, replicate, slice_get}
use Rattle.std.proofs.lemmas.Bool.{cases_lt}
use Rattle.std.proofs.lemmas.Grind.{flat_map-append}
use Rattle.std.proofs.lemmas.List.{length-append, replicate-append-replicate, take-append-le, take_all}
use Rattle.std.proofs.lemmas.Option.{slice_get_within}
use Rattle.rv_hart.specs.Run.{run}
use Rattle.rv_hart.specs.State.{State}
use Rattle.rv_waits.specs.Turn.{IsNextFrom}
use Rattle.rv_orders.proofs.RunnerLemmas.{run_append}
use Rattle.rv_orders.specs.Driven.{AreDriven, Burst, IsDrivenBy, turns_of}
use Rattle.rv_orders.specs.Trial.{words_of}
use Rattle.rv_orders.specs.internal.Gone.{Gone, IsBurst, IsDriven, IsDrivenOn, IsOneMore, IsTurns}

-- ---- lists

get_front : {X : Type 0} → (xs ys : List X) (k : ℕ) → k < length xs → slice_get (xs ++ ys) k ≡ slice_get xs k
get_front [] ys k below = absurd (omega arith)
get_front (x ∷ xs) ys zero below = refl
get_front (x ∷ xs) ys (suc k) below = get_front xs ys k (omega arith)

get_last : {X : Type 0} → (xs : List X) (x : X) → slice_get (xs ++ x ∷ []) (length xs) ≡ Some x
get_last [] x = refl
get_last (y ∷ xs) x = get_last xs x

take_last : {X : Type 0} → (xs ys : List X) → take (length xs) (xs ++ ys) ≡ xs
take_last xs ys = take-append-le (length xs) xs ys (omega arith) ∙ take_all (length xs) xs (omega arith)

-- ---- turns of one hart

pub no_turns : (gone : Gone) (h : ℕ) → IsTurns gone gone h 0
no_turns gone h = record { start = refl; most = refl; harts = sym (append-nil gone.harts); reached = refl }

run_both : (s t u : State) (hs ks : List ℕ) → run s hs ≡ Some t → run t ks ≡ Some u → run s (hs ++ ks) ≡ Some u
run_both s t u hs ks first then = run_append s hs ks ∙ ap (option_and_then (λ v. run v ks)) first ∙ then

pub one_turn : (old next new : Gone) (h n : ℕ) → IsTurns old next h n → IsOneMore next new h → IsTurns old new h (n + 1)
one_turn old next new h n so more =
    let longer : replicate n h ++ h ∷ [] ≡ replicate (n + 1) h = replicate-append-replicate n 1 h in
    record {
      start = more.start ∙ so.start;
      most = more.most ∙ so.most;
      harts = more.harts ∙ ap (λ (hs : List ℕ). hs ++ h ∷ []) so.harts ∙ append_assoc old.harts (replicate n h) (h ∷ []) ∙ ap (λ (hs : List ℕ). old.harts ++ hs) longer;
      reached = ap (run old.state) (sym longer) ∙ run_both old.state next.state new.state (replicate n h) (h ∷ []) so.reached more.moved;
    }

-- ---- bursts

pub not_driven : (gone : Gone) (number : ℕ) → IsDrivenOn gone gone number 0
not_driven gone number = record {
  so = record {
    start = refl;
    most = refl;
    tail = [];
    harts = sym (append-nil gone.harts);
    reached = refl;
    driven = record { bursts = []; harts_are = refl; each = λ k burst t there at. let e : None ≡ Some burst = there in cc };
  };
  count_is = refl;
}

-- a burst that two words drive behind others
more_bursts : (words : ℕ → ℕ) (s mid : State) (harts : List ℕ) (driven : AreDriven words s harts) (burst : Burst) → run s harts ≡ Some mid → IsDrivenBy mid (words (2 * length driven.bursts)) (words (2 * length driven.bursts + 1)) burst → (k : ℕ) (one : Burst) (t : State) → slice_get (driven.bursts ++ burst ∷ []) k ≡ Some one → run s (turns_of (take k (driven.bursts ++ burst ∷ []))) ≡ Some t → IsDrivenBy t (words (2 * k)) (words (2 * k + 1)) one
more_bursts words s mid harts driven burst reached by k one t there at =
    elim (cases_lt k (length driven.bursts)) [
      | inl less ↦
          driven.each k one t (sym (get_front driven.bursts (burst ∷ []) k less) ∙ there) (ap (λ (bs : List Burst). run s (turns_of bs)) (sym (take-append-le k driven.bursts (burst ∷ []) (omega arith))) ∙ at)
      | inr le ↦
          let within : k < length (driven.bursts ++ burst ∷ []) = slice_get_within (driven.bursts ++ burst ∷ []) k one there in
          let count : length (driven.bursts ++ burst ∷ []) ≡ length driven.bursts + 1 = length-append driven.bursts (burst ∷ []) in
          let here : length driven.bursts ≡ k = omega arith in
          let last : Some burst ≡ Some one = sym (get_last driven.bursts burst) ∙ ap (slice_get (driven.bursts ++ burst ∷ [])) here ∙ there in
          let same : burst ≡ one = cc in
          let front : run s (turns_of (take k (driven.bursts ++ burst ∷ []))) ≡ Some mid =
          ap (λ n. run s (turns_of (take n (driven.bursts ++ burst ∷ [])))) (sym here) ∙ ap (λ (bs : List Burst). run s (turns_of bs)) (take_last driven.bursts (burst ∷ [])) ∙ ap (run s) (sym driven.harts_are) ∙ reached in
          let both : Some mid ≡ Some t = sym front ∙ at in
          let state : mid ≡ t = cc in
          subst (λ (b : Burst). IsDrivenBy t (words (2 * k)) (words (2 * k + 1)) b) same
          (subst (λ (u : State). IsDrivenBy u (words (2 * k)) (words (2 * k + 1)) burst) state
          (subst (λ n. IsDrivenBy mid (words (2 * n)) (words (2 * n + 1)) burst) here by))
    ]

pub driven_more : (old next new : Gone) (number taken h : ℕ) → IsDrivenOn old next number taken → IsNextFrom next.state (words_of number taken) h → IsBurst next new h (1 + words_of number (taken + 1) % 16) → IsDrivenOn old new number (taken + 2)
driven_more old next new number taken h on is_next burst =
    let so = on.so in
    let turns = burst.turns in
    let own : Burst = record { hart = h; turns = turns } in
    let own_turns : turns_of (own ∷ []) ≡ replicate turns h = append-nil (replicate turns h) in
    let taken_is : taken ≡ 2 * length so.driven.bursts = on.count_is in
    let by : IsDrivenBy next.state (words_of number (2 * length so.driven.bursts)) (words_of number (2 * length so.driven.bursts + 1)) own =
    subst (λ n. IsDrivenBy next.state (words_of number n) (words_of number (n + 1)) own) taken_is (record { next = is_next; some = burst.some; few = burst.few }) in
    let count : length (so.driven.bursts ++ own ∷ []) ≡ length so.driven.bursts + 1 = length-append so.driven.bursts (own ∷ []) in
    record {
      so = record {
        start = burst.is.start ∙ so.start;
        most = burst.is.most ∙ so.most;
        tail = so.tail ++ replicate turns h;
        harts = burst.is.harts ∙ ap (λ (hs : List ℕ). hs ++ replicate turns h) so.harts ∙ append_assoc old.harts so.tail (replicate turns h);
        reached = run_both old.state next.state new.state so.tail (replicate turns h) so.reached burst.is.reached;
        driven = record {
          bursts = so.driven.bursts ++ own ∷ [];
          harts_are = ap (λ (hs : List ℕ). hs ++ replicate turns h) so.driven.harts_are ∙ ap (λ (hs : List ℕ). turns_of so.driven.bursts ++ hs) (sym own_turns)
              ∙ sym (flat_map-append (λ (b : Burst). replicate b.turns b.hart) so.driven.bursts (own ∷ []));
          each = more_bursts (words_of number) old.state next.state so.tail so.driven own so.reached by;
        };
      };
      count_is = omega arith;
    }
