-- the end of the bytes so far
use Rattle.std.proofs.Common.{◌≡◌, ◌+◌, ◌*◌, length, take}
use Rattle.std.specs.List.{sum_by}
use Rattle.rv_elf.proofs.places.data_end.Given as goal

abbrev pub invariant-loop-segment : goal.invariant-loop-segment
invariant-loop-segment l =
    l.end ≡ 52 + 32 * length l.segments + sum_by (λ s. length s.bytes) (take l.segment-index l.segments)
