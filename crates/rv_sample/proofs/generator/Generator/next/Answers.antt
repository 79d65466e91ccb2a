use Rattle.std.proofs.Common.{ap, ◌∙◌}
use Rattle.rand_pcg.specs.Lcg.{Lcg, next}
use Rattle.rand_pcg.specs.Pcg.{multiplier_64, pcg32}
use Rattle.rv_sample.specs.Generator.{seeded, word_at}
use Rattle.rv_sample.proofs.Steps.{one_step_more}
use Rattle.rv_sample.proofs.generator.Generator.next.Goals as goal

pub invariant_of-self : goal.invariant_of-self
invariant_of-self c =
    ap (λ p. p.1) c.next_word.ensures
    ∙ ap (next 64 multiplier_64) c.self.invariant
    ∙ one_step_more 64 multiplier_64 c.self.inside.taken (seeded c.self.inside.seed c.self.inside.stream)

pub returns-clause-word : goal.returns-clause-word
unfolding word_at
returns-clause-word c = rw (← c.self.view_is) (ap (λ p. p.0) c.next_word.ensures ∙ ap (λ (g : Lcg). (pcg32 g).0) c.self.invariant)
