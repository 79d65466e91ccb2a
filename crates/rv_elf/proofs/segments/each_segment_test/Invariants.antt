-- the tests of what is left decide
use Rattle.std.proofs.Common.{◌≡◌, drop}
use Rattle.rv_elf.specs.Loaded.{each_segment_test}
use Rattle.rv_elf.proofs.segments.each_segment_test.Given as goal

abbrev pub invariant-loop-header : goal.invariant-loop-header
invariant-loop-header l =
    each_segment_test l.bytes (drop l.header-index l.headers) ≡ each_segment_test l.bytes l.headers
