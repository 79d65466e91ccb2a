-- A machine that has a stuck end is stuck.
use Rattle.std.proofs.Common.{◌≡◌, ℕ, zero, suc, Bool, true, Option, Some, None, List, [], ◌∷◌, length, refl, arith}
use Rattle.std.specs.Prelude.{slice_get, IsSomeAnd}
use Rattle.rv_hart.specs.Refusals.{is_running_hart}
use Rattle.rv_hart.specs.State.{State, is_running}
use Rattle.rv_hart.specs.declared.hart.Hart.{Hart}
use Rattle.rv_hart.specs.declared.hart.Status.{Status}
use Rattle.rv_hart.specs.declared.hart.Status.TheVariants as status
use Rattle.rv_waits.specs.Round.{Waits}
use Rattle.rv_waits.specs.Stuck.{Runs}
use Rattle.rv_stuck.specs.StuckEnd.{IsDoing, is_exited, is_stopped}
use Rattle.rv_stuck.specs.StuckEndLaws.{StuckEndsAreStuck}
use Rattle.rv_stuck.specs.declared.stuck.Doing.{Doing}
use Rattle.rv_stuck.specs.declared.stuck.Doing.TheVariants as doing

-- lists of one length have an element at the same places
there_too : {X Y : Type 0} → (xs : List X) (ys : List Y) (h : ℕ) (y : Y) → length xs ≡ length ys → slice_get ys h ≡ Some y → (x : X) × (slice_get xs h ≡ Some x)
there_too [] [] h y e there = cc
there_too [] (z ∷ ys) h y e there = absurd (omega (e, arith))
there_too (x ∷ xs) [] h y e there = cc
there_too (x ∷ xs) (z ∷ ys) zero y e there = (x, refl)
there_too (x ∷ xs) (z ∷ ys) (suc h) y e there = there_too xs ys h y (omega (e, arith)) there

running_is : (o : Option Hart) → is_running_hart o ≡ true → (hart : Hart) × (o ≡ Some hart)
running_is None e = cc
running_is (Some hart) e = (hart, refl)

not_exited : (of : Status) → is_running of ≡ true → is_exited of ≡ true → ⊥
not_exited status.Running runs is = cc
not_exited (status.Exited code) runs is = cc
not_exited (status.Stopped cause) runs is = cc

not_stopped : (of : Status) → is_running of ≡ true → is_stopped of ≡ true → ⊥
not_stopped status.Running runs is = cc
not_stopped (status.Exited code) runs is = cc
not_stopped (status.Stopped cause) runs is = cc

-- a hart that runs is in neither of these states
not_both : (P : Status → Bool) → ((of : Status) → is_running of ≡ true → P of ≡ true → ⊥) → (o : Option Hart) → is_running_hart o ≡ true → IsSomeAnd o (λ (hart : Hart). P hart.status ≡ true) → ⊥
not_both P never None runs is = absurd is
not_both P never (Some hart) runs is = never hart.status runs is

waits_by : (s : State) (h : ℕ) (it : Doing) → Runs s h → IsDoing s h it → Waits s h
waits_by s h doing.Exited runs is = absurd (not_both is_exited not_exited (slice_get s.harts h) runs is)
waits_by s h doing.Stopped runs is = absurd (not_both is_stopped not_stopped (slice_get s.harts h) runs is)
waits_by s h (doing.Waits steps) runs (running, round) = (length steps.items, round.round)

pub stuck_by_end : StuckEndsAreStuck
stuck_by_end s end is = record {
  some = is.some;
  each = λ h runs.
      let hart = running_is (slice_get s.harts h) runs in
      let found = there_too end.harts.items s.harts h hart.0 is.count hart.1 in
      waits_by s h found.0 runs (is.each h found.0 found.1);
}
