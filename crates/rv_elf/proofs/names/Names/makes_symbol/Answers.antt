use Rattle.std.proofs.Common.{ap, ◌∙◌}
use Rattle.std.specs.Prelude.{slice_get}
use Rattle.rv_elf.specs.internal.Steps.{name_starts}
use Rattle.rv_elf.proofs.Starts.{starts_at}
use Rattle.rv_elf.proofs.names.Names.makes_symbol.Goals as goal

pub returns-in-Some : goal.returns-in-Some
returns-in-Some c =
    let starts = c.deref.ensures.value ∙ c.self.invariant c.in-Some.starts c.in-Some.is ∙ ap name_starts c.self.view_is in
    c.start_at.ensures ∙ ap (λ xs. slice_get xs c.args.entry.now.st_name) starts ∙ starts_at c.args.self.now c.args.entry.now.st_name
