-- the first is among the rest
use Rattle.std.proofs.Common.{◌≡◌, ◌-◌, ◌*◌, ◌==◌, length}
use Rattle.std.specs.List.{find}
use Rattle.rv_elf.specs.Layout.{section_header, records}
use Rattle.rv_elf.proofs.symbols.first_symbol_table.Given as goal

abbrev pub invariant-loop : goal.invariant-loop
invariant-loop l = record {
  first : find (λ s. s.sh_type == 2) (records section_header 40 (l.count - l.counter) l.rest) ≡ find (λ s. s.sh_type == 2) (records section_header 40 l.count l.sections);
  size : length l.rest ≡ 40 * (l.count - l.counter);
}
