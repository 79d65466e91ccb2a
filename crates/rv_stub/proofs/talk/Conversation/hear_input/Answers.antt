use Rattle.std.proofs.Common.{◌≡◌, ◌<◌, true, false, arith}
use Rattle.std.proofs.lemmas.Bool.Decides.{nat_tests}
use Rattle.rv_memory.specs.declared.flagged.TheConstants.{INPUT_LIMIT}
use Rattle.rv_stub.proofs.TalkLemmas.{cut_read, handed, more_read, over_broken, over_read}
use Rattle.std.proofs.lemmas.Result.{err_from_is_err_and}
use Rattle.rv_stub.proofs.talk.Conversation.hear_input.Goals as goal

pub returns-then-self-clause-text : goal.returns-then-self-clause-text
returns-then-self-clause-text g c =
    let over : c.hear_all.new.self.is_over ≡ true = rw (← c.self.view_is) c.if-self.true in
    over_read INPUT_LIMIT c.args.self.now c.reads.self c.hear_all.new.self _ _ _ c.reads.left c.in-Ok.count c.within-within.result _ _ _ _ _ _ c.reads.invariant.so_far c.in-Ok.ensures.bytes.0 c.within-within.ensures.some
    (handed _ _ _ c.in_ok-finish.ensures.sent c.in_ok-finish.ensures.pending) c.in_ok-hear_all.ensures.talk over c.in_ok-send_last.ensures.sent

pub returns-in_err-await_acknowledgment-clause-stopped : goal.returns-in_err-await_acknowledgment-clause-stopped
returns-in_err-await_acknowledgment-clause-stopped g c =
    let over : c.hear_all.new.self.is_over ≡ true = rw (← c.self.view_is) c.if-self.true in
    let p = err_from_is_err_and c.from_residual-in_err-await_acknowledgment.result c.from_residual-in_err-await_acknowledgment.ensures.1 in
    rw (p.1, p.2, c.in_err-await_acknowledgment.ensures.fault) (over_broken INPUT_LIMIT c.args.self.now c.reads.self c.hear_all.new.self _ _ _ _ c.reads.left c.in-Ok.count c.within-within.result _ _ _ _ _ _ _ c.reads.invariant.so_far c.in-Ok.ensures.bytes.0 c.in_err-await_acknowledgment.ensures.taken.1 c.within-within.ensures.some
    (handed _ _ _ c.in_ok-finish.ensures.sent c.in_ok-finish.ensures.pending) c.in_ok-hear_all.ensures.talk over c.in_err-await_acknowledgment.ensures.waits c.in_ok-send_last.ensures.sent)

pub returns-then-within-count-clause-stopped : goal.returns-then-within-count-clause-stopped
returns-then-within-count-clause-stopped g c =
    let on : c.hear_all.new.self.is_over ≡ false = rw (← c.self.view_is) c.if-self.false in
    let cut : c.within-within.result < c.in-Ok.count = omega arith in
    cut_read c.args.self.now c.reads.self c.hear_all.new.self _ _ _ c.reads.left c.in-Ok.count c.within-within.result _ _ _ _ _ _ c.reads.invariant.so_far c.in-Ok.ensures.bytes.0 c.in-Ok.ensures.bound.0 cut (c.within-within.ensures.cut cut)
    (handed _ _ _ c.in_ok-finish.ensures.sent c.in_ok-finish.ensures.pending) c.in_ok-hear_all.ensures.talk on c.in_ok-send_last-2.ensures.sent

pub reads-preserved : goal.reads-preserved
reads-preserved g c =
    let on : c.hear_all.new.self.is_over ≡ false = rw (← c.self.view_is) c.if-self.false in
    let all : c.within-within.result ≡ c.in-Ok.count = omega (arith, c.within-within.ensures.some) in
    record {
      so_far = more_read INPUT_LIMIT c.args.self.now c.reads.self c.hear_all.new.self _ _ _ c.reads.left c.in-Ok.count c.within-within.result _ _ _ _ _ c.reads.invariant.so_far c.in-Ok.ensures.bytes.0 c.in-Ok.ensures.bound.0 all c.within-within.ensures.room
          (handed _ _ _ c.in_ok-finish.ensures.sent c.in_ok-finish.ensures.pending) c.in_ok-hear_all.ensures.talk on;
      reader = grind (arith, nat_tests);
      writer = grind (arith, nat_tests);
    }
