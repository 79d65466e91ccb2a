use Rattle.std.specs.Prelude.{IfSome}
use Rattle.std.specs.Io.KnownBytes.{Appends, Keeps}
use Rattle.std.proofs.lemmas.Result.{err_from_is_err_and}
use Rattle.rv_memory.specs.Buffered as buffer
use Rattle.rv_memory.specs.Flagged as flag
use Rattle.rv_stub.proofs.EngineLemmas.{of_the_run, readers_of, talk_refused}
use Rattle.rv_stub.specs.Heard.{opening}
use Rattle.rv_stub.specs.Talk.{IsStopped, IsWhole}
use Rattle.rv_stub.proofs.engine.run_gdb.Goals as goal

pub returns-clause-text : goal.returns-clause-text
returns-clause-text g c =
    of_the_run (g.R.Read.remaining (flag.device c.args.image.now)) (g.Q.Read.remaining (flag.device c.args.schedule.now)) c.in_ok-opened.opened.session
    (λ q. IfSome (g.C.Read.remaining (flag.device c.args.commands.now)) (λ input. IsWhole (opening q) input
    (Appends (buffer.written g.W.Write.contents c.args.writer.now) (buffer.sent g.W.Write.contents c.converse.new.writer))))
    c.in_ok-opened.ensures.ok c.in_ok-opened.ensures.place c.in_ok-opened.ensures.legal c.in_ok-converse.ensures.text

pub returns-in_err-converse-clause-refused : goal.returns-in_err-converse-clause-refused
returns-in_err-converse-clause-refused g c =
    let p = err_from_is_err_and c.from_residual-in_err-converse.result c.from_residual-in_err-converse.ensures.1 in
    rw (p.1, p.2) (talk_refused (g.R.Read.remaining (flag.device c.args.image.now)) (g.Q.Read.remaining (flag.device c.args.schedule.now))
    (Keeps (buffer.sent g.W.Write.contents c.args.writer.now) (buffer.sent g.W.Write.contents c.converse.new.writer))
    (λ start stop. IfSome (g.C.Read.remaining (flag.device c.args.commands.now)) (λ input. IsStopped (opening start) input (g.C.Read.remaining (flag.device c.converse.new.commands))
    (Appends (buffer.written g.W.Write.contents c.args.writer.now) (buffer.sent g.W.Write.contents c.converse.new.writer)) stop))
    c.in_err-converse.field-0.0 c.in_ok-opened.opened.session c.in_ok-opened.ensures.ok c.in_ok-opened.ensures.place c.in_ok-opened.ensures.legal c.in_err-converse.ensures.stopped)

pub returns-in_err-converse-clause-readers : goal.returns-in_err-converse-clause-readers
returns-in_err-converse-clause-readers g c =
    let p = err_from_is_err_and c.from_residual-in_err-converse.result c.from_residual-in_err-converse.ensures.1 in
    rw (p.1, p.2) (readers_of _ _ _ _ c.in_err-converse.field-0.0 c.in_ok-opened.ensures.readers c.in_err-converse.ensures.reader)
