use Rattle.std.proofs.Common.{refl}
use Rattle.rv_debug.proofs.AnswerLemmas.{bytes_shown, no_bytes, refused, shown, when_put}
use Rattle.rv_debug.specs.Answered.{bytes_text}
use Rattle.rv_debug.specs.declared.command.Command.TheVariants as said
use Rattle.rv_debug.proofs.answer.show_bytes.Goals as goal

pub returns-in-Ok-clause-ok : goal.returns-in-Ok-clause-ok
returns-in-Ok-clause-ok g c =
    let p = c.args.session.now in
    when_put c.put_bytes.result (shown p (said.Bytes c.args.address c.args.len) (bytes_text c.args.address c.in-Ok.bytes.items) _ _ (bytes_shown p c.args.address c.args.len c.in-Ok.bytes.items c.in-Ok.ensures.ok)) (rw c.deref.ensures.value at c.put_bytes.ensures.ok)

pub returns-in-Err-clause-ok : goal.returns-in-Err-clause-ok
returns-in-Err-clause-ok g c =
    let p = c.args.session.now in
    when_put c.put_fault.result (refused p p (said.Bytes c.args.address c.args.len) c.in-Err.fault _ _ (no_bytes p c.args.address c.args.len c.in-Err.fault c.in-Err.ensures.err) refl) c.put_fault.ensures.ok
