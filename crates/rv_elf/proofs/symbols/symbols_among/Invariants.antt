-- the symbols so far, and those of the rest
use Rattle.std.proofs.Common.{◌≡◌, ◌-◌, ◌*◌, ◌++◌, ◌≤◌, All, length}
use Rattle.rv_elf.specs.Contents.{IsSymbol}
use Rattle.rv_elf.specs.Layout.{symbol_entry, records}
use Rattle.rv_elf.specs.Loaded.{symbols_among}
use Rattle.rv_elf.proofs.symbols.symbols_among.Given as goal

abbrev pub invariant-loop : goal.invariant-loop
invariant-loop l = record {
  found : l.found.items ++ symbols_among l.names (records symbol_entry 16 (l.count - l.counter) l.rest) ≡ symbols_among l.names (records symbol_entry 16 l.count l.symbols);
  sound : All IsSymbol l.found.items;
  size : 16 * (l.count - l.counter) ≤ length l.rest;
}
