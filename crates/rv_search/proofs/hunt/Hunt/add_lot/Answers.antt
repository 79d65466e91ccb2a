use Rattle.std.proofs.Common.{refl, length}
use Rattle.std.proofs.lemmas.Option.{slice_get_read}
use Rattle.rv_search.proofs.hunt.Hunt.add_lot.Goals as goal

pub add-requires-clause-kept : goal.add-requires-clause-kept
add-requires-clause-kept g c =
    c.requires.lot c.loop-place.place c.index-lot-place.result (slice_get_read c.args.lot.now (length c.args.lot.now) c.loop-place.place c.index-lot-place.result refl c.loop-place-test.true c.index-lot-place.is)
