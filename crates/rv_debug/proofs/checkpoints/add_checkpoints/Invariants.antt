-- the core was told the entries before a checkpoint, and those before it are made
use Rattle.std.proofs.Common.{◌≡◌, ◌*◌, take}
use Rattle.rv_collide.specs.Stored.{stored}
use Rattle.rv_debug.specs.declared.checkpoints.TheConstants.{CHECKPOINT_ENTRIES}
use Rattle.rv_debug.specs.internal.Session.{HoldStates}
use Rattle.rv_debug.proofs.checkpoints.add_checkpoints.Given as goal

abbrev pub invariant-loop-c : goal.invariant-loop-c
invariant-loop-c l = record {
  core : l.collider ≡ stored l.initial.collider.image l.initial.collider.plan (take (CHECKPOINT_ENTRIES * l.c) l.entries);
  held : HoldStates (stored l.initial.collider.image l.initial.collider.plan l.entries) l.c l.checkpoints.items;
}
