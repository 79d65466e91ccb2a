use Rattle.std.proofs.Common.{◌==◌, arith, rules}
use Rattle.rv_elf.specs.Layout.{section_header}
use Rattle.rv_elf.proofs.Tables.{find_hit, find_miss}
use Rattle.rv_elf.proofs.symbols.first_symbol_table.Goals as goal

pub returns-then-section-eq-SHT_SYMTAB : goal.returns-then-section-eq-SHT_SYMTAB
returns-then-section-eq-SHT_SYMTAB c =
    find_hit (λ s. s.sh_type == 2) section_header 40 c.args.count c.loop.counter c.loop.rest.now c.read-section.result _ c.loop-test.true c.read-section.ensures (search rules) c.loop.invariant.first

pub loop-preserved : goal.loop-preserved
loop-preserved c = record {
  first =
      find_miss (λ s. s.sh_type == 2) section_header 40 c.args.count c.loop.counter c.loop.rest.now c.split_at.result.1.now c.read-section.result _ c.loop-test.true c.read-section.ensures (search rules) c.split_at.ensures.back c.loop.invariant.first;
  size = omega (arith, c.split_at.ensures.back_len);
}
