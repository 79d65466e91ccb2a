use Rattle.std.proofs.Common.{◌≡◌, ◌+◌, ◌<◌, length, take, ap, subst, ◌∙◌, arith}
use Rattle.std.proofs.lemmas.Option.{slice_get-get_or}
use Rattle.rv_collide.specs.Legal.{IsLegal}
use Rattle.rv_collide.specs.Stored.{Stored, setting_of, stored}
use Rattle.rv_collide.specs.declared.entry.Entry.TheVariants.{Stepped}
use Rattle.rv_collide.proofs.Replayed.{fault_told, one_more}
use Rattle.rv_collide.proofs.replay.replay_up_to.Goals as goal

pub loop-i-preserved : goal.loop-i-preserved
loop-i-preserved g c =
    let below : c.loop-i.i < length c.args.entries.now = omega arith in
    let there = slice_get-get_or c.args.entries.now c.loop-i.i (Stepped 0) below in
    let more : c.again.new.collider ≡ stored c.args.collider.now.image c.args.collider.now.plan (take (c.loop-i.i + 1) c.args.entries.now) =
    one_more c.args.collider.now.image c.args.collider.now.plan c.args.entries.now c.loop-i.i _ c.loop-i.collider c.loop-i.invariant.told there c.again.new.collider c.in_default.ensures.ok in
    record {
      told = c.steps_again-i-in-loop-i.ensures.told ∙ ap (λ (s : Stored). stored s.image s.plan (take c.steps_again-i-in-loop-i.result c.args.entries.now)) more;
      within = c.steps_again-i-in-loop-i.ensures.within;
    }

pub returns-in-Err-clause-err : goal.returns-in-Err-clause-err
returns-in-Err-clause-err g c =
    let below : c.loop-i.i < length c.args.entries.now = omega arith in
    let there = slice_get-get_or c.args.entries.now c.loop-i.i (Stepped 0) below in
    let legal = subst (λ (s : Stored). IsLegal (setting_of s) s.entries) c.loop-i.invariant.told c.facts.ensures.legal in
    fault_told c.args.collider.now.image c.args.collider.now.plan c.args.entries.now c.loop-i.i _ c.loop-i.collider c.loop-i.invariant.told there c.entries-place.result c.in-Err.why c.fault_at.result c.entries-place.ensures legal c.in-Err.ensures.err c.fault_at.ensures
