use Rattle.std.proofs.Common.{◌≡◌, Some, rules}
use Rattle.std.specs.Prelude.{slice_get}
use Rattle.rv_hart.specs.NextAccess.{next_access}
use Rattle.rv_waits.specs.Round.{IsQuietStep}
use Rattle.rv_waits.proofs.TriedLemmas.{tried_more}
use Rattle.rv_waits.proofs.round.one_more.Goals as goal

pub returns-in-Quiet-clause-tried : goal.returns-in-Quiet-clause-tried
returns-in-Quiet-clause-tried g c =
    let s = c.args.copy.now.state in
    let t = c.told_step.new.machine.state in
    let h = c.args.h in
    let access = c.in-Quiet.access in
    let hart = c.hart.result.now in
    let quiet : IsQuietStep h s t = search rules in
    let there : slice_get s.harts h ≡ Some hart = search rules in
    let made : access ≡ next_access s h = search rules in
    λ done. tried_more h s t hart access c.args.seen.now c.see.new.seen quiet there made c.see.ensures.touched c.see.ensures.polls
