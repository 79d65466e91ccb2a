use Rattle.std.proofs.Common.{refl, arith}
use Rattle.rv_debug.specs.declared.session.SessionFault.TheVariants.{NoHart}
use Rattle.rv_debug.proofs.AnswerLemmas.{hart_shown, no_hart, refused, when_put}
use Rattle.rv_debug.specs.declared.command.Command.TheVariants as said
use Rattle.rv_debug.proofs.answer.show_hart.Goals as goal

pub returns-then-h-from-clause-ok : goal.returns-then-h-from-clause-ok
returns-then-h-from-clause-ok g c =
    let p = c.args.session.now in
    when_put c.put_fault.result (refused p p (said.Hart c.args.h) NoHart _ _ (no_hart p c.machine-machine.result.now.state c.args.h c.machine-machine.ensures (omega arith)) refl) c.put_fault.ensures.ok

pub returns-clause-ok : goal.returns-clause-ok
returns-clause-ok g c =
    let p = c.args.session.now in
    when_put c.write_hart.result (hart_shown p c.machine-machine.result.now.state c.args.h _ _ c.machine-machine.ensures) c.write_hart.ensures.ok
