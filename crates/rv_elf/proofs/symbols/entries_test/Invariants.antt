-- the rest has the room that is left exactly where the whole has its room
use Rattle.std.proofs.Common.{◌≡◌, ◌-◌, ◌*◌, ◌≤◌, length}
use Rattle.rv_elf.specs.Layout.{symbol_entry, records}
use Rattle.rv_elf.specs.Loaded.{entries_test}
use Rattle.rv_elf.proofs.symbols.entries_test.Given as goal

abbrev pub invariant-loop : goal.invariant-loop
invariant-loop l = record {
  tested : entries_test l.room l.names (records symbol_entry 16 (l.count - l.counter) l.rest) ≡ entries_test 67_108_864 l.names (records symbol_entry 16 l.count l.symbols);
  size : 16 * (l.count - l.counter) ≤ length l.rest;
}
