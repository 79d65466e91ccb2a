use Rattle.std.proofs.Common.{[], refl}
use Rattle.rv_debug.proofs.AnswerLemmas.{malformed, shown, when_put}
use Rattle.rv_debug.specs.declared.command.Command.TheVariants as said
use Rattle.rv_debug.proofs.answer.answer.Goals as goal

pub returns-in-None-clause-ok : goal.returns-in-None-clause-ok
returns-in-None-clause-ok g c =
    rw c.in-None.is (when_put c.put.result (malformed c.args.session.now _ _) c.put.ensures.ok)

pub returns-in-Quit-clause-ok : goal.returns-in-Quit-clause-ok
returns-in-Quit-clause-ok g c =
    rw (c.in-Some.is, c.in-Quit.is) (when_put c.put-in-Quit.result (shown c.args.session.now said.Quit [] _ _ refl) c.put-in-Quit.ensures.ok)
