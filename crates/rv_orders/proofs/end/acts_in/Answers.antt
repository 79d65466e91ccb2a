use Rattle.std.proofs.Common.{Option, subst}
use Rattle.std.specs.Prelude.{IfSome}
use Rattle.rv_stuck.specs.StuckEnd.{IsStuckEnd}
use Rattle.rv_stuck.specs.declared.stuck.StuckEnd.{StuckEnd}
use Rattle.rv_orders.proofs.ActLemmas.{acts_say}
use Rattle.rv_orders.proofs.end.acts_in.Goals as goal

pub returns-clause-acts : goal.returns-clause-acts
returns-clause-acts g c =
    let s = c.args.machine.now.state in
    let stuck : IsStuckEnd s c.in-Some.end = subst (λ (o : Option StuckEnd). IfSome o (λ it. IsStuckEnd s it)) c.in-Some.is c.in_ok-end.ensures.stuck in
    acts_say s c.in-Some.end c.in_ok-acts_of.field-0.items stuck c.in_ok-acts_of.ensures
