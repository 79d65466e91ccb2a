use Rattle.std.proofs.Common.{◌∙◌, ap, sym}
use Rattle.rv_symbols.specs.Naming.{Naming}
use Rattle.rv_symbols.proofs.Tables.{nearest-within}
use Rattle.rv_symbols.specs.Symbols.{nearest}
use Rattle.rv_symbols.specs.internal.Steps.{told_at, unless_before}
use Rattle.rv_symbols.proofs.symbol_table.SymbolTable.nearest.Goals as goal

pub returns : goal.returns
returns c =
    c.unless_before.ensures
    ∙ ap (unless_before c.args.segment.now) (c.told_at-symbol.ensures ∙ ap (λ steps. told_at steps c.args.address) c.deref.ensures.value ∙ c.self.invariant.nearest.told c.args.address)
    ∙ sym (nearest-within c.self.inside.image.now c.args.segment.now c.args.address)
    ∙ ap (λ (naming : Naming). nearest naming.image c.args.segment.now c.args.address) c.self.view_is
