use Rattle.std.proofs.Common.{◌≡◌, ◌++◌, take}
use Rattle.std.specs.List.{flat_map}
use Rattle.rv_elf.proofs.writing.put_data.Given as goal

abbrev pub invariant-loop-segment : goal.invariant-loop-segment
invariant-loop-segment l =
    l.out.items ≡ l.initial.out.items ++ flat_map (λ s. s.bytes) (take l.segment-index l.segments)
