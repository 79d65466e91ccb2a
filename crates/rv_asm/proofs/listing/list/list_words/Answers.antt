use Rattle.std.proofs.Common.{◌^◌, arith}
use Rattle.std.proofs.lemmas.Bool.Decides.{nat_tests}
use Rattle.rv_asm.proofs.ListLemmas.{Listed-next, room_next}
use Rattle.rv_asm.proofs.listing.list.list_words.Goals as goal

pub loop-word-preserved : goal.loop-word-preserved
loop-word-preserved g c =
    record {
      written = Listed-next _ _ _ c.args.start c.args.bytes.now c.loop-word.address c.loop-word.rest.now c.in-Some.word c.in-Some.after.now c.loop-word.invariant.written c.in-Some.ensures c.in_ok-list_word.ensures.ok;
      failed = grind (arith, nat_tests);
      room = room_next c.loop-word.address (2 ^ 32) c.loop-word.rest.now c.in-Some.word c.in-Some.after.now c.in-Some.ensures c.loop-word.invariant.room;
    }
