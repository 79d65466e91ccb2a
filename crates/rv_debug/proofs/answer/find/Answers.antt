use Rattle.rv_debug.proofs.AnswerLemmas.{found_there, not_found, refused, when_put}
use Rattle.rv_debug.specs.declared.command.Command.TheVariants as said
use Rattle.rv_debug.proofs.answer.find.Goals as goal

pub returns-in-Ok-clause-ok : goal.returns-in-Ok-clause-ok
returns-in-Ok-clause-ok g c =
    when_put c.put_found.result (found_there c.args.session.now c.find.new.self c.args.address c.in-Ok.found _ _ c.in-Ok.ensures.ok c.in-Ok.ensures.after) c.put_found.ensures.ok

pub returns-in-Err-clause-ok : goal.returns-in-Err-clause-ok
returns-in-Err-clause-ok g c =
    when_put c.put_fault.result (refused c.args.session.now c.find.new.self (said.Find c.args.address) c.in-Err.fault _ _ (not_found c.args.session.now c.args.address c.in-Err.fault c.in-Err.ensures.err) c.in-Err.ensures.refused) c.put_fault.ensures.ok
