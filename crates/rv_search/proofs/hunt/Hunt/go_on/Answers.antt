use Rattle.std.proofs.Common.{◌∙◌, sym}
use Rattle.rv_search.proofs.HuntLemmas.{all_noted}
use Rattle.rv_search.proofs.hunt.Hunt.go_on.Goals as goal

pub returns-clause-hunted : goal.returns-clause-hunted
returns-clause-hunted g c = all_noted c.args.self.now c.loop-alloc.hunted c.loop-alloc.noted.ends c.loop-alloc.invariant.so_far (sym c.goes_on.ensures ∙ c.loop-alloc-test.false)
