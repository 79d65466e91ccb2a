use Rattle.std.proofs.Common.{◌≡◌, length}
use Rattle.rv_stuck.specs.StuckEnd.{StepsLead}
use Rattle.rv_stuck.proofs.stuck.steps_of.Given as goal

abbrev pub invariant-loop-made : goal.invariant-loop-made
invariant-loop-made g l = StepsLead l.h l.steps.items l.initial.copy.state l.copy.state × (length l.steps.items ≡ l._made) × (length l.copy.state.harts ≡ length l.initial.copy.state.harts)
