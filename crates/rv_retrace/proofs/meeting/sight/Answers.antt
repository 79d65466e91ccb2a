use Rattle.std.proofs.Common.{List, ap, refl, sym, ◌∙◌}
use Rattle.std.specs.Prelude.{option_and_then}
use Rattle.rv_gdb.specs.Points.{seen}
use Rattle.rv_gdb.specs.declared.point.Point.{Point}
use Rattle.rv_hart.specs.NextAccess.{next_access}
use Rattle.rv_retrace.proofs.StepLemmas.{unseen_by}
use Rattle.rv_retrace.proofs.meeting.sight.Goals as goal

pub returns-then-is_empty : goal.returns-then-is_empty
returns-then-is_empty g c =
    let access = next_access c.args.machine.now.state c.args.hart in
    sym (ap (λ (points : List Point). option_and_then (seen points) access) (c.if-is_empty.ensures.0 refl) ∙ unseen_by access)
