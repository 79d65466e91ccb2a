use Rattle.std.proofs.Common.{◌<◌, length, arith}
use Rattle.std.proofs.lemmas.Option.{slice_get-get_or}
use Rattle.rv_explain.proofs.explain.all_blocks.Goals as goal

pub race_block-requires-clause-told : goal.race_block-requires-clause-told
race_block-requires-clause-told c =
    let below : c.loop-place.place < length c.args.races.now = omega arith in
    rw c.loop-place.invariant.same (c.requires.told c.loop-place.place _ (slice_get-get_or c.args.races.now c.loop-place.place _ below))
