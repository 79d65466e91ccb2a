-- those so far
use Rattle.std.proofs.Common.{All, take}
use Rattle.rv_elf.specs.Contents.{IsSegment}
use Rattle.rv_elf.proofs.image.are_each_segments.Given as goal

abbrev pub invariant-loop-region : goal.invariant-loop-region
invariant-loop-region l = All IsSegment (take l.region-index l.regions)
