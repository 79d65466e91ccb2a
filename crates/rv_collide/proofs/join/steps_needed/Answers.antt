use Rattle.std.proofs.Common.{ap, ◌∙◌, arith, length}
use Rattle.std.proofs.lemmas.List.{drop_all}
use Rattle.rv_collide.specs.Joined.{steps_needed}
use Rattle.rv_collide.proofs.JoinedPlans.{none_needed}
use Rattle.rv_collide.proofs.join.steps_needed.Goals as goal

pub loop-place-init : goal.loop-place-init
loop-place-init c =
    let none = ap steps_needed (drop_all (length c.args.entries.now) c.args.entries.now (omega arith)) ∙ none_needed in record { within = omega arith; counted = omega arith }
