-- what the slots held so far, and what they hold still
use Rattle.std.proofs.Common.{◌≡◌, ◌≤◌, ℕ, length}
use Rattle.std.specs.Prelude.{slice_get}
use Rattle.rv_remade.specs.internal.Showing.{AreHeld}
use Rattle.rv_remade.proofs.showing.races_in.Given as goal

abbrev pub invariant-loop-place : goal.invariant-loop-place
invariant-loop-place l = record {
  within : l.place ≤ length l.initial.slots.items;
  count : length l.shown.items ≡ l.place;
  slots_count : length l.slots.items ≡ length l.initial.slots.items;
  held : AreHeld l.initial.slots.items l.shown.items;
  later : (k : ℕ) → l.place ≤ k → slice_get l.slots.items k ≡ slice_get l.initial.slots.items k;
}
