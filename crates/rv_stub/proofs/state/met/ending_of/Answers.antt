use Rattle.std.proofs.Common.{◌∙◌, ap}
use Rattle.std.specs.Prelude.{slice_get}
use Rattle.rv_stub.proofs.MetLemmas.{of_pause}
use Rattle.rv_stub.proofs.state.met.ending_of.Goals as goal

pub returns-clause-of_pause : goal.returns-clause-of_pause
returns-clause-of_pause c =
    of_pause c.endings_are_of_pauses.ensures c.args.session.now c.args.n c.ending_at.result c.facts.ensures.legal (c.ending_at.ensures ∙ ap (λ l. slice_get l c.args.n) c.endings.ensures)
