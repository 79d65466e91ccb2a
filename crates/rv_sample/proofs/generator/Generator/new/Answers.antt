use Rattle.std.proofs.Common.{◌≡◌, sym, ◌∙◌}
use Rattle.rand_pcg.proofs.LcgLemmas.{advance_zero}
use Rattle.rand_pcg.specs.Pcg.{multiplier_64}
use Rattle.rv_sample.specs.Generator.{seeded}
use Rattle.rv_sample.proofs.generator.Generator.new.Goals as goal

pub invariant_of-result : goal.invariant_of-result
unfolding seeded
invariant_of-result c = c.new.ensures ∙ sym (advance_zero 64 multiplier_64 (seeded c.args.seed c.args.stream))
