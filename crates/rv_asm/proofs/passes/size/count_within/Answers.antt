use Rattle.std.proofs.Common.{◌≡◌, None, length, arith, ap}
use Rattle.std.specs.Prelude.{slice_get}
use Rattle.rv_asm.proofs.SizeLemmas.{one_fewer, no_more, counted}
use Rattle.rv_asm.proofs.passes.size.count_within.Goals as goal

pub loop-value-preserved : goal.loop-value-preserved
loop-value-preserved c =
    let fewer = one_fewer c.loop-value.values c.in-Some.value c.in-Some.ensures.first in
    let rest = ap length c.in-Some.ensures.rest in
    record {
      all = omega (arith, c.loop-value.invariant.all, fewer, rest);
      within = omega (arith, c.loop-value.invariant.within);
    }

pub returns : goal.returns
returns c =
    let none : None ≡ slice_get c.loop-value.values 0 = cc (c.in_default.ensures.first) in
    counted c.args.limit c.loop-value.count _ (omega (arith, c.loop-value.invariant.all, no_more c.loop-value.values none)) c.loop-value.invariant.within
