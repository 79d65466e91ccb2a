use Rattle.std.proofs.Common.{◌≡◌, sym, ◌∙◌}
use Rattle.rv_asm.proofs.PlacedLemmas.{placed-none, placed-some}
use Rattle.rv_asm.proofs.passes.cursor.PlacedLines.next_line.Goals as goal

pub returns-in_err-text-clause-taken : goal.returns-in_err-text-clause-taken
returns-in_err-text-clause-taken c =
    let none = sym c.self.view_is ∙ placed-none _ _ (c.in_err-text.ensures {u = tt}) in
    rw c.from_residual.ensures (none, none)

pub returns-clause-taken : goal.returns-clause-taken
returns-clause-taken c =
    let lines = sym c.self.view_is ∙ placed-some c.self.inside.place c.self.inside.rest.now c.in_ok-text.text.now c.in_ok-text.rest.now _ (c.in_ok-text.ensures {u = tt}).0 c.line_at-p.ensures.value in
    let same : c.line_at.result ≡ c.line_at-p.result = c.line_at.ensures.value ∙ sym c.line_at-p.ensures.value in
    rw (c.next_place-self-inside.ensures.value, same) lines
