use Rattle.std.proofs.Common.{◌∙◌}
use Rattle.rayon.proofs.ListFacts.{IfOk-then}
use Rattle.rayon.proofs.ToStd.{slice-map}
use Rattle.rv_prune.specs.Class.{class}
use Rattle.rv_engines.proofs.run.table.classes.Goals as goal

pub returns : goal.returns
returns g c =
    IfOk-then c.collect.result _ _ c.collect.ensures (λ v h.
    let chain = rw (c.map.ensures.base, c.map.ensures.f) at h.1 in
    h.2 ∙ slice-map chain.0 c.args.endings.now (chain.1 ∙ c.par_iter.ensures) (λ ending. class c.args.image.now ending c.args.ranges.now) h.0 chain.2)
