use Rattle.std.proofs.Common.{length}
use Rattle.rv_sample.proofs.scan.+next_code.Given as goal

abbrev pub decreases-next_code : goal.decreases-next_code
decreases-next_code l = length l.segments.now
