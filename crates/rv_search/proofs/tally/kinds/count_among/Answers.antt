use Rattle.std.proofs.Common.{◌<◌, length, get_or, arith}
use Rattle.std.proofs.lemmas.List.{get_or_default}
use Rattle.std.proofs.lemmas.List.Edits.{map_over_more}
use Rattle.rv_search.specs.Kinds.{counted}
use Rattle.rv_search.specs.declared.tally.kinds.Kind.{Kind}
use Rattle.rv_search.specs.declared.end.End.TheVariants.{Exited}
use Rattle.rv_search.proofs.tally.kinds.count_among.Goals as goal

pub loop-kind-preserved : goal.loop-kind-preserved
loop-kind-preserved c =
    let default : Kind = record { end = Exited 0; count = 0 } in
    let within : c.loop-kind.kind-index < length c.loop-kind.kinds = omega arith in
    let from : c.loop-kind.kind-index < length c.args.kinds.now = omega arith in
    rw c.count.ensures (map_over_more (counted c.args.end) c.args.kinds.now c.loop-kind.kinds c.loop-kind.kind-index (get_or c.loop-kind.kinds c.loop-kind.kind-index default) from c.loop-kind.invariant (get_or_default c.loop-kind.kinds c.loop-kind.kind-index default _ within))
