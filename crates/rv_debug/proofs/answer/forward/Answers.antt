use Rattle.std.proofs.Common.{refl, ◌+◌}
use Rattle.rv_debug.proofs.AnswerLemmas.{forward_past, forward_within, gone, refused, when_put}
use Rattle.rv_debug.specs.declared.command.Command.TheVariants as said
use Rattle.rv_debug.proofs.answer.forward.Goals as goal

pub returns-in-Ok-clause-ok : goal.returns-in-Ok-clause-ok
returns-in-Ok-clause-ok g c =
    let p = c.args.session.now in
    when_put c.put_place.result (gone p c.forward.new.self said.Forward (p.place + 1) _ _ (forward_within p (λ last. let is = c.in-Ok.ensures.no_place.1 last in cc)) c.in-Ok.ensures.ok) (rw (c.place.ensures.value, c.in-Ok.ensures.ok) at c.put_place.ensures.ok)

pub returns-in-Err-clause-ok : goal.returns-in-Err-clause-ok
returns-in-Err-clause-ok g c =
    let p = c.args.session.now in
    when_put c.put_fault.result (refused p c.forward.new.self said.Forward c.in-Err.fault _ _ (forward_past p c.in-Err.fault c.facts.ensures.within c.in-Err.ensures.err (λ is. c.in-Err.ensures.no_place.0 (rw is refl)) (λ last. let is = c.in-Err.ensures.no_place.1 last in cc)) c.in-Err.ensures.refused) c.put_fault.ensures.ok
