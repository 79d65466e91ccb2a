use Rattle.std.proofs.Common.{◌∙◌, ap}
use Rattle.rv_symbols.specs.Naming.{Naming}
use Rattle.rv_symbols.specs.Symbols.{holder}
use Rattle.rv_symbols.specs.internal.Steps.{first_by, told_at}
use Rattle.rv_symbols.proofs.symbol_table.SymbolTable.holder.Goals as goal

pub returns : goal.returns
unfolding holder first_by
returns c =
    c.told_at.ensures ∙ ap (λ steps. told_at steps c.args.address) c.deref.ensures.value ∙ c.self.invariant.holders.told c.args.address
    ∙ ap (λ (naming : Naming). holder naming.image c.args.address) c.self.view_is
