use Rattle.std.proofs.Common.{refl}
use Rattle.rv_debug.proofs.AnswerLemmas.{go_past, go_within, gone, refused, when_put}
use Rattle.rv_debug.specs.declared.command.Command.TheVariants as said
use Rattle.rv_debug.proofs.answer.go.Goals as goal

pub returns-in-Ok-clause-ok : goal.returns-in-Ok-clause-ok
returns-in-Ok-clause-ok g c =
    when_put c.put_place.result (gone c.args.session.now c.go.new.self (said.Go c.args.n) c.args.n _ _ (go_within c.args.session.now c.args.n (λ past. let is = c.in-Ok.ensures.no_place.1 past in cc)) c.in-Ok.ensures.ok) c.put_place.ensures.ok

pub returns-in-Err-clause-ok : goal.returns-in-Err-clause-ok
returns-in-Err-clause-ok g c =
    when_put c.put_fault.result (refused c.args.session.now c.go.new.self (said.Go c.args.n) c.in-Err.fault _ _ (go_past c.args.session.now c.args.n c.in-Err.fault c.in-Err.ensures.err (λ is. c.in-Err.ensures.no_place.0 (rw is refl)) (λ more. let is = c.in-Err.ensures.no_place.1 more in cc)) c.in-Err.ensures.refused) c.put_fault.ensures.ok
