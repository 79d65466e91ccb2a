use Rattle.std.proofs.Common.{refl}
use Rattle.rv_asm.specs.Layout.{spot_of}
use Rattle.rv_asm.proofs.passes.labels.Labels.new.Goals as goal

pub invariant_of-result : goal.invariant_of-result
unfolding spot_of
invariant_of-result c = rw (c.new-2.ensures.empty, c.new.ensures.items) (record { finds = λ name. refl })
