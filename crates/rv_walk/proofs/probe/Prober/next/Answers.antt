use Rattle.std.proofs.Common.{◌≡◌, ◌≤◌, length, inl, inr, ap, sym, subst, ◌∙◌, arith}
use Rattle.std.proofs.lemmas.Bool.{cases_lt}
use Rattle.rv_collide.specs.Begun.{Begun}
use Rattle.rv_walk.specs.internal.Probing.{IsNow, Probing}
use Rattle.rv_walk.proofs.ProbingLemmas.{all_looked, none_goes, one_looked}
use Rattle.rv_walk.proofs.probe.Prober.next.Goals as goal

pub loop-passed-preserved : goal.loop-passed-preserved
loop-passed-preserved g c =
    λ s at k below.
    elim (cases_lt k c.loop-passed.passed) [
      | inl less ↦ c.loop-passed.invariant s at k less
      | inr le ↦ one_looked s c.args.from c.loop-passed.passed k c.from-harts.result c.args.self.now.held (omega arith) (λ free. c.goes.ensures.rests c.if-goes.false free s at)
    ]

pub returns-clause-none : goal.returns-clause-none
returns-clause-none g c =
    let view : c.self.inside.detector ≡ c.args.self.now.core = ap (λ (q : Probing). q.core) c.self.view_is in
    none_goes c.args.self.now (λ s at.
    let own : IsNow c.self.inside.detector s = subst (λ (b : Begun). IsNow b s) (sym view) at in
    let harts : length s.harts ≡ c.from-harts.result = c.facts.ensures.harts s own ∙ cc in
    let past : c.from-harts.result ≤ c.loop-passed.passed = c.loop-passed-test.false in
    all_looked c.numbers_in_a_circle.ensures s c.args.from c.from-harts.result c.args.self.now.held harts (λ k below. c.loop-passed.invariant s at k (omega arith)))
