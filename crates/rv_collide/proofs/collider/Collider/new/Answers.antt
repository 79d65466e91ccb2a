use Rattle.std.proofs.Common.{length, ap, ◌∙◌}
use Rattle.std.proofs.lemmas.List.FromFn.{length-map-range_with_len}
use Rattle.rv_hart.specs.State.{State, first_hart}
use Rattle.rv_collide.proofs.collider.Collider.new.Goals as goal

pub begin-requires-clause-harts : goal.begin-requires-clause-harts
begin-requires-clause-harts g c =
    ap (λ (s : State). length s.harts) c.in_ok-machine.ensures.state
    ∙ length-map-range_with_len (first_hart c.args.image.now.entry c.args.plan.harts) 0 c.args.plan.harts
