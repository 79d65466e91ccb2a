-- an entry for each hart so far
use Rattle.std.proofs.Common.{◌≡◌, All, length}
use Rattle.rv_collide.specs.Grammar.{IsInReach}
use Rattle.rv_collide.specs.declared.schedule.format.Format.TheVariants.{Second}
use Rattle.rv_remade.proofs.orders.entries_of.Given as goal

abbrev pub invariant-loop-h : goal.invariant-loop-h
invariant-loop-h l = record {
  each : All (IsInReach Second) l.entries.items;
  count : length l.entries.items ≡ l.h-index;
}
