-- the segments so far
use Rattle.std.proofs.Common.{◌≡◌, map, take}
use Rattle.rv_elf.specs.Loaded.{segment}
use Rattle.rv_elf.proofs.segments.segments.Given as goal

abbrev pub invariant-loop-header : goal.invariant-loop-header
invariant-loop-header l = l.segments.items ≡ map (segment l.bytes) (take l.header-index l.headers)
