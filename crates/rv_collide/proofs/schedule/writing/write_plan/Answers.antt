use Rattle.std.proofs.Common.{◌≡◌, ◌∙◌, ap}
use Rattle.std.specs.Fmt.{decimal}
use Rattle.rv_collide.specs.Numbers.{numbers}
use Rattle.rv_collide.proofs.GrammarLemmas.{plan_written_then}
use Rattle.rv_collide.proofs.schedule.writing.write_plan.Goals as goal

pub returns-clause-ok : goal.returns-clause-ok
returns-clause-ok g c =
    let harts : c.as_bytes.result.now ≡ decimal c.args.plan.now.harts = c.as_bytes.ensures ∙ c.new-harts.ensures ∙ ap decimal c.from.ensures in
    let steps : c.as_bytes-2.result.now ≡ decimal c.args.plan.now.steps = c.as_bytes-2.ensures ∙ c.new-steps.ensures ∙ ap decimal c.from-2.ensures in
    let arms : c.as_bytes-3.result.now ≡ decimal c.args.plan.now.arms = c.as_bytes-3.ensures ∙ c.new-arms.ensures ∙ ap decimal c.from-3.ensures in
    let pause : c.as_bytes-4.result.now ≡ decimal c.args.plan.now.pause = c.as_bytes-4.ensures ∙ c.new-pause.ensures ∙ ap decimal c.from-4.ensures in
    let slots : c.as_bytes-5.result.now ≡ decimal c.args.plan.now.slots = c.as_bytes-5.ensures ∙ c.new-slots.ensures ∙ ap decimal c.from-5.ensures in
    plan_written_then (numbers c.args.plan.now) c.put_pieces-3.result _ _ _ _ _ _ _ _ _ harts steps arms pause slots c.in_ok-put_pieces.ensures.ok c.in_ok-put_pieces-2.ensures.ok c.put_pieces-3.ensures.ok
