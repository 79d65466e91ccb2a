use Rattle.std.proofs.Common.{get_or, refl}
use Rattle.std.proofs.lemmas.Option.{slice_get-get_or}
use Rattle.rv_hart.specs.declared.hart.Hart.{Hart}
use Rattle.rv_hart.proofs.HartsLemmas.{harts_after}
use Rattle.rv_hart.proofs.effect.see_and_advance.Goals as goal

pub returns : goal.returns
returns c =
    let first : Hart = c.index-harts-h.result in
    let default : Hart = c.index-harts-h-2.result in
    let hart : Hart = get_or c.args.harts.now c.args.h first in
    rw (c.move_on.ensures, c.see_all.ensures) (harts_after c.args.harts.now c.args.h c.args.loaded c.args.action c.args.write hart default hart.reservation (slice_get-get_or c.args.harts.now c.args.h first c.requires.hart) refl)
