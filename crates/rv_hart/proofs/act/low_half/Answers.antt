use Rattle.rv_hart.proofs.ProductLemmas.{low_half_is}
use Rattle.rv_hart.proofs.act.low_half.Goals as goal

pub returns : goal.returns
returns c = low_half_is c.args.a c.args.b c.ranges.a.fits c.ranges.b.fits
