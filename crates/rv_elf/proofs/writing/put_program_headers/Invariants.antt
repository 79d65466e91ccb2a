-- the headers so far, and those of the rest
use Rattle.std.proofs.Common.{◌≡◌, ◌+◌, ◌++◌, length, drop}
use Rattle.std.specs.List.{flat_map, sum_by}
use Rattle.rv_elf.specs.Written.{headers_from, program_header_bytes}
use Rattle.rv_elf.proofs.writing.put_program_headers.Given as goal

abbrev pub invariant-loop-segment : goal.invariant-loop-segment
invariant-loop-segment l = record {
  put : l.out.items ++ flat_map program_header_bytes (headers_from l.offset (drop l.segment-index l.segments)) ≡ l.initial.out.items ++ flat_map program_header_bytes (headers_from l.start l.segments);
  offset : l.offset + sum_by (λ s. length s.bytes) (drop l.segment-index l.segments) ≡ l.start + sum_by (λ s. length s.bytes) l.segments;
}
