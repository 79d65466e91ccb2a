use Rattle.std.specs.Prelude.{IfSome}
use Rattle.std.specs.Io.KnownBytes.{Appends, Keeps}
use Rattle.std.proofs.lemmas.Result.{err_from_is_err_and}
use Rattle.rv_debug.specs.Talk.{IsStopped, IsTalk, lines_before_quit}
use Rattle.rv_memory.specs.Buffered as buffer
use Rattle.rv_memory.specs.Flagged as flag
use Rattle.rv_text.specs.Lines.{lines_of}
use Rattle.rv_engines.proofs.DebugLemmas.{of_the_run, readers_of, talk_refused}
use Rattle.rv_engines.proofs.debug.engine.run_debug.Goals as goal

pub returns-clause-text : goal.returns-clause-text
returns-clause-text g c =
    of_the_run (g.R.Read.remaining (flag.device c.args.image.now)) (g.Q.Read.remaining (flag.device c.args.schedule.now)) c.in_ok-session.session
    (λ q. IfSome (g.C.Read.remaining (flag.device c.args.commands.now)) (λ input. IsTalk q (lines_before_quit (lines_of input))
    (Appends (buffer.written g.W.Write.contents c.args.writer.now) (buffer.sent g.W.Write.contents c.talk.new.writer))))
    c.in_ok-session.ensures.ok c.in_ok-session.ensures.place c.in_ok-session.ensures.legal c.in_ok-talk.ensures.text

pub returns-in_err-talk-clause-refused : goal.returns-in_err-talk-clause-refused
returns-in_err-talk-clause-refused g c =
    let p = err_from_is_err_and c.from_residual-in_err-talk.result c.from_residual-in_err-talk.ensures.1 in
    rw (p.1, p.2) (talk_refused (g.R.Read.remaining (flag.device c.args.image.now)) (g.Q.Read.remaining (flag.device c.args.schedule.now))
    (Keeps (buffer.sent g.W.Write.contents c.args.writer.now) (buffer.sent g.W.Write.contents c.talk.new.writer))
    (λ start stop. IfSome (g.C.Read.remaining (flag.device c.args.commands.now)) (λ input. IsStopped start input (g.C.Read.remaining (flag.device c.talk.new.commands))
    (Appends (buffer.written g.W.Write.contents c.args.writer.now) (buffer.sent g.W.Write.contents c.talk.new.writer)) stop))
    c.in_err-talk.field-0.0 c.in_ok-session.session c.in_ok-session.ensures.ok c.in_ok-session.ensures.place c.in_ok-session.ensures.legal c.in_err-talk.ensures.stopped)

pub returns-in_err-talk-clause-readers : goal.returns-in_err-talk-clause-readers
returns-in_err-talk-clause-readers g c =
    let p = err_from_is_err_and c.from_residual-in_err-talk.result c.from_residual-in_err-talk.ensures.1 in
    rw (p.1, p.2) (readers_of _ _ _ _ c.in_err-talk.field-0.0 c.in_ok-session.ensures.readers c.in_err-talk.ensures.reader)
