use Rattle.std.proofs.Common.{◌<◌, List, ℕ, length, take, sym, subst, arith}
use Rattle.std.proofs.lemmas.Bool.Decides.{nat_tests}
use Rattle.std.proofs.lemmas.List.{take_more}
use Rattle.std.specs.Io.KnownBytes.{Appends}
use Rattle.rv_memory.specs.Buffered as buffer
use Rattle.rv_stub.proofs.TalkLemmas.{talk_more}
use Rattle.rv_stub.specs.Talk.{IsTalk}
use Rattle.rv_stub.proofs.talk.Conversation.hear_all.Goals as goal

pub loop-byte-preserved : goal.loop-byte-preserved
loop-byte-preserved g c =
    let a = buffer.written g.W.Write.contents c.args.writer.now in
    let d = buffer.written g.W.Write.contents c.hear.new.writer in
    let lt : c.loop-byte.byte-index < length c.args.bytes.now = omega arith in
    record {
      talk = subst (λ (l : List ℕ). IsTalk c.args.self.now l c.hear.new.self (Appends a d)) (sym (take_more c.args.bytes.now c.loop-byte.byte-index 0 lt))
          (talk_more c.args.self.now c.loop-byte.self c.hear.new.self (take c.loop-byte.byte-index c.args.bytes.now) _ a (buffer.written g.W.Write.contents c.loop-byte.writer) d c.loop-byte.invariant.talk c.in_ok-hear.ensures.turn);
      failed = grind (arith, nat_tests);
    }
