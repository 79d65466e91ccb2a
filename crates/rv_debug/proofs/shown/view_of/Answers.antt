use Rattle.std.proofs.Common.{◌<◌, length, ◌∙◌, arith}
use Rattle.std.proofs.lemmas.List.{length-set}
use Rattle.std.specs.Prelude.{slice_get}
use Rattle.rv_debug.proofs.ViewLemmas.{one_more, view_is}
use Rattle.rv_debug.proofs.shown.view_of.Goals as goal

pub loop-r-preserved : goal.loop-r-preserved
loop-r-preserved g c =
    let size = c.loop-r.invariant.size in
    let below : c.loop-r.r < length c.loop-r.registers = omega arith in
    record {
      size = length-set c.loop-r.registers c.loop-r.r c.register.result ∙ size;
      shown = one_more (slice_get c.args.machine.now.state.harts c.args.h) c.loop-r.registers c.loop-r.r c.register.result below c.register.ensures c.loop-r.invariant.shown;
    }

pub returns : goal.returns
returns g c =
    view_is (slice_get c.args.machine.now.state.harts c.args.h) _ c.status.ensures c.pc.ensures c.reservation.ensures
    (λ r lt. c.loop-r.invariant.shown r (omega arith))
