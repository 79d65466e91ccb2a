use Rattle.std.proofs.Common.{◌≡◌}
use Rattle.rv_hart.specs.declared.quick.Attempt.TheVariants.{Nothing}
use Rattle.rv_hart.specs.declared.access.Common.TheVariants.{Untaken}
use Rattle.rv_hart.proofs.QuickLemmas.{not_accessed, not_silent, notes_kept}
use Rattle.rv_hart.proofs.machine.Machine.step_quick.Goals.{in-Nothing, in-Silent-attempt, in-Accessed-attempt}
use Rattle.rv_hart.proofs.machine.Machine.step_quick.Goals as goal

pub returns-clause-kept : goal.returns-clause-kept
returns-clause-kept g c =
    let same : c.tried-attempt.result ≡ Nothing → c.match-attempt-3.result ≡ Untaken = λ is. elim c.match-attempt-3.branch [
      | in-Nothing w ↦ w.result-is
      | in-Silent-attempt w ↦ not_silent c.tried-attempt.result c.match-attempt-3.result is w.in-Silent-attempt.is
      | in-Accessed-attempt w ↦ not_accessed c.tried-attempt.result c.match-attempt-3.result is w.in-Accessed-attempt.is
    ] in
    notes_kept c.args.self.now.state c.args.h c.tried-attempt.result c.match-attempt-3.result c.args.noted.now c.tried-attempt.new.noted c.requires.running (rw (← c.self.view_is) c.tried-attempt.ensures.kept) same
