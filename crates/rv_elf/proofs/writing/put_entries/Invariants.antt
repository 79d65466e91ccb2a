-- the entries so far, and those of the rest
use Rattle.std.proofs.Common.{◌≡◌, ◌+◌, ◌++◌, length, drop}
use Rattle.std.specs.List.{flat_map, sum_by}
use Rattle.rv_elf.specs.Written.{entries_from, symbol_entry_bytes}
use Rattle.rv_elf.proofs.writing.put_entries.Given as goal

abbrev pub invariant-loop-symbol : goal.invariant-loop-symbol
invariant-loop-symbol l = record {
  put : l.out.items ++ flat_map symbol_entry_bytes (entries_from l.name (drop l.symbol-index l.symbols)) ≡ l.initial.out.items ++ flat_map symbol_entry_bytes (entries_from l.start l.symbols);
  name : l.name + sum_by (λ s. length s.name + 1) (drop l.symbol-index l.symbols) ≡ l.start + sum_by (λ s. length s.name + 1) l.symbols;
}
