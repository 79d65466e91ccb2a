use Rattle.std.proofs.Common.{◌≡◌, true, false, refl, arith}
use Rattle.std.proofs.lemmas.Bool.Decides.{nat_tests}
use Rattle.std.proofs.lemmas.Result.{err_from_is_err_and}
use Rattle.rv_memory.specs.Buffered as buffer
use Rattle.rv_memory.specs.Flagged as flag
use Rattle.rv_memory.specs.declared.flagged.TheConstants.{INPUT_LIMIT}
use Rattle.rv_debug.specs.Command.{command_of, is_quit}
use Rattle.rv_debug.proofs.TalkLemmas.{TalkSoFar-more, TalkSoFar-none, ended_talk, quit_talk, stopped_talk, within_end, within_quit}
use Rattle.rv_debug.proofs.talk.talk.Goals as goal

pub lines-init : goal.lines-init
lines-init g c =
    record {
      so_far = rw c.new-lines.ensures (TalkSoFar-none INPUT_LIMIT c.args.session.now (g.C.Read.remaining (flag.device c.args.commands.now)) (buffer.written g.W.Write.contents c.args.writer.now));
      reader = refl;
      writer = refl;
    }

pub returns-in_err-line-clause-stopped : goal.returns-in_err-line-clause-stopped
returns-in_err-line-clause-stopped g c =
    let p = err_from_is_err_and c.from_residual-in_err-line.result c.from_residual-in_err-line.ensures.1 in
    rw (p.1, p.2) (stopped_talk c.args.session.now c.lines.session (g.C.Read.remaining (flag.device c.args.commands.now)) _ c.lines.lines c.next_line.new.self (g.C.Read.remaining (flag.device c.next_line.new.reader)) _ _ (buffer.sent g.W.Write.contents c.finish.new.self) c.in_err-line.field-0.0 c.lines.invariant.so_far c.in_err-line.ensures.err c.in_ok-finish.ensures.sent)

pub returns-in-None-clause-text : goal.returns-in-None-clause-text
returns-in-None-clause-text g c =
    ended_talk INPUT_LIMIT c.args.session.now c.lines.session (g.C.Read.remaining (flag.device c.args.commands.now)) _ c.lines.lines _ _ (buffer.sent g.W.Write.contents c.finish.new.self) c.lines.invariant.so_far (rw c.in-None.is at c.in_ok-line.ensures.end) c.in_ok-finish.ensures.sent

pub returns-then-is_quit-clause-text : goal.returns-then-is_quit-clause-text
returns-then-is_quit-clause-text g c =
    let quits : is_quit (command_of c.in-Some.line) ≡ true = cc in
    quit_talk c.decimal_has_one_spelling.ensures INPUT_LIMIT c.args.session.now c.lines.session (g.C.Read.remaining (flag.device c.args.commands.now)) _ _ c.lines.lines c.next_line.new.self c.in-Some.line _ _ (buffer.sent g.W.Write.contents c.finish.new.self) c.lines.invariant.so_far (rw c.in-Some.is at c.in_ok-line.ensures.line) quits c.in_ok-finish.ensures.sent

pub lines-preserved : goal.lines-preserved
lines-preserved g c =
    let on : is_quit (command_of c.in-Some.line) ≡ false = cc in
    record {
      so_far = TalkSoFar-more c.decimal_has_one_spelling.ensures INPUT_LIMIT c.args.session.now c.lines.session c.answer.new.session (g.C.Read.remaining (flag.device c.args.commands.now)) _ _ c.lines.lines c.next_line.new.self c.in-Some.line _ _
          (buffer.sent g.W.Write.contents c.finish.new.self) _ (buffer.pending c.finish.new.self) c.lines.invariant.so_far (rw c.in-Some.is at c.in_ok-line.ensures.line) on c.in_ok-finish.ensures.sent c.in_ok-finish.ensures.pending
          (rw (c.read_command-command.ensures.value, c.as_bytes.ensures) at c.in_ok-answer.ensures.ok);
      reader = grind (arith, nat_tests);
      writer = grind (arith, nat_tests);
    }

pub returns-in-None-clause-within : goal.returns-in-None-clause-within
returns-in-None-clause-within g c =
    within_end c.args.session.now c.lines.session (g.C.Read.remaining (flag.device c.args.commands.now)) _ c.lines.lines _ _ c.lines.invariant.so_far (rw c.in-None.is at c.in_ok-line.ensures.end)

pub returns-then-is_quit-clause-within : goal.returns-then-is_quit-clause-within
returns-then-is_quit-clause-within g c =
    let quits : is_quit (command_of c.in-Some.line) ≡ true = cc in
    within_quit c.decimal_has_one_spelling.ensures c.args.session.now c.lines.session (g.C.Read.remaining (flag.device c.args.commands.now)) _ _ c.lines.lines c.next_line.new.self c.in-Some.line _ _ c.lines.invariant.so_far (rw c.in-Some.is at c.in_ok-line.ensures.line) quits
