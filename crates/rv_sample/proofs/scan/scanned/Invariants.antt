use Rattle.std.proofs.Common.{◌-◌, ◌^◌}
use Rattle.rv_sample.specs.internal.Code.{IsScanned}
use Rattle.rv_sample.proofs.scan.scanned.Given as goal

abbrev pub invariant-loop-segment : goal.invariant-loop-segment
invariant-loop-segment l = IsScanned l.segments l.excluded l.from l.found.items

abbrev pub decreases-loop-segment : goal.decreases-loop-segment
decreases-loop-segment l = 2 ^ 32 - l.from
