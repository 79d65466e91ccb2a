-- the core after the entries so far, and the last store among them
use Rattle.std.proofs.Common.{◌≡◌, [], take}
use Rattle.rv_collide.specs.Numbers.{numbers}
use Rattle.rv_collide.specs.Stored.{setting_of, stored}
use Rattle.rv_report.specs.internal.Paused.{LastBefore}
use Rattle.rv_report.proofs.exhibiting.last_store.Given as goal

abbrev pub invariant-loop-place : goal.invariant-loop-place
invariant-loop-place l = record {
  told : l.collider ≡ stored l.image (numbers l.fn.plan) (take l.place l.entries);
  last : LastBefore (setting_of (stored l.image (numbers l.fn.plan) [])).start l.entries l.told l.place l.last;
}
