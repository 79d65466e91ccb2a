use Rattle.std.proofs.Common.{◌<◌, Bool, Some, length, get_or, ap, ◌∙◌, arith}
use Rattle.std.specs.Prelude.{◌||◌}
use Rattle.rv_hart.specs.internal.Harts.{holds}
use Rattle.rv_hart.proofs.HartsLemmas.{held_all, held_more}
use Rattle.std.proofs.lemmas.List.{get_or_default}
use Rattle.std.proofs.lemmas.List.Edits.{map_over_more}
use Rattle.rv_hart.specs.Step as spec
use Rattle.rv_hart.specs.declared.hart.Hart.{Hart}
use Rattle.rv_hart.proofs.effect.see_write.Goals as goal

pub loop-hart-preserved : goal.loop-hart-preserved
loop-hart-preserved c =
    let default : Hart = c.hart-item.result in
    let within : c.loop-hart.hart-index < length c.loop-hart.harts = omega arith in
    let from : c.loop-hart.hart-index < length c.args.harts.now = omega arith in (
      rw c.see.ensures (map_over_more (spec.seen_by (Some c.args.write.now)) c.args.harts.now c.loop-hart.harts c.loop-hart.hart-index (get_or c.loop-hart.harts c.loop-hart.hart-index default) from c.loop-hart.invariant.0 (get_or_default c.loop-hart.harts c.loop-hart.hart-index default _ within)),
      ap (λ (b : Bool). c.loop-hart.is_held || b) (c.is_some-is_held.ensures ∙ ap holds c.see.ensures) ∙ ap (λ (b : Bool). b || holds (spec.seen_by (Some c.args.write.now) (get_or c.loop-hart.harts c.loop-hart.hart-index default))) c.loop-hart.invariant.1
          ∙ held_more (spec.seen_by (Some c.args.write.now)) c.args.harts.now c.loop-hart.harts c.loop-hart.hart-index default from c.loop-hart.invariant.0,
    )

pub returns-clause-left : goal.returns-clause-left
returns-clause-left c =
    c.loop-hart.invariant.1 ∙ held_all (spec.seen_by (Some c.args.write.now)) c.args.harts.now c.loop-hart.harts c.loop-hart.hart-index c.loop-hart-test.false c.loop-hart.invariant.0
