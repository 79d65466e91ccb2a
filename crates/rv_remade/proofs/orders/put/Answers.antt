use Rattle.std.proofs.Common.{◌<◌, length, refl, rules}
use Rattle.std.proofs.lemmas.Option.{slice_get_read}
use Rattle.rv_remade.proofs.OrderShowingLemmas.{put_known}
use Rattle.rv_remade.proofs.orders.put.Goals as goal

pub returns-then-place-len : goal.returns-then-place-len
returns-then-place-len c = λ full of known.
    let shown = c.args.shown.now.items in
    let one = c.index_mut.result.now in
    let below : c.args.trial.place < length shown = search rules in
    put_known full shown c.args.trial one (slice_get_read shown (length shown) c.args.trial.place one refl below c.index_mut.ensures.value) of known
