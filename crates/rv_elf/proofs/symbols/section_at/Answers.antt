use Rattle.std.proofs.Common.{Some, ap, sym, ◌∙◌, arith}
use Rattle.rv_elf.specs.Layout.{section_header}
use Rattle.rv_elf.proofs.Tables.{record_at, record_past}
use Rattle.rv_elf.proofs.symbols.section_at.Goals as goal

pub returns-then-index-from : goal.returns-then-index-from
returns-then-index-from c = sym (record_past section_header 40 c.args.count c.args.index c.args.sections.now (omega (arith, c.from.ensures)))

pub returns : goal.returns
returns c =
    ap (λ s. Some s) (c.read.ensures ∙ ap section_header c.split_at.ensures.back)
    ∙ sym (record_at section_header 40 c.args.count c.args.index c.args.sections.now (omega (arith, c.from.ensures)))
