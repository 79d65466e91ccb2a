-- the headers so far, and those of the rest of the table
use Rattle.std.proofs.Common.{◌≡◌, ◌-◌, ◌*◌, ◌++◌, length}
use Rattle.rv_elf.specs.Layout.{program_header, records}
use Rattle.rv_elf.proofs.segments.headers_in.Given as goal

abbrev pub invariant-loop : goal.invariant-loop
invariant-loop l = record {
  read : l.headers ++ records program_header 32 (l.count - l.counter) l.rest ≡ records program_header 32 l.count l.table;
  size : length l.rest ≡ 32 * (l.count - l.counter);
  few : length l.headers ≡ l.counter;
}
