use Rattle.std.proofs.Common.{◌≡◌, ◌-◌, ◌≤◌, ◌↔◌, length, drop}
use Rattle.std.specs.Prelude.{filter}
use Rattle.std.specs.List.{range_with_len}
use Rattle.rv_locked.specs.Own.{is_own_place, own_places}
use Rattle.rv_locked.proofs.own.are_places.Given as goal

-- the list is the hart's own where what is left of it is what is left of the hart's own
abbrev pub invariant-loop-place : goal.invariant-loop-place
invariant-loop-place l = record {
  met : l.met ≤ length l.list;
  same : (l.list ≡ own_places l.collider.entries l.h) ↔ (drop l.met l.list ≡ filter (is_own_place l.collider.entries l.h) (range_with_len l.place (l.place-end - l.place)));
}
