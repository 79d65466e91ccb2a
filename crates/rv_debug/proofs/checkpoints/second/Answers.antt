use Rattle.std.proofs.Common.{◌≡◌, ℕ, ◌*◌, ◌<◌, ◌≤◌, Some, length, refl, sym, subst, arith}
use Rattle.std.specs.Prelude.{IfOk, slice_get}
use Rattle.std.proofs.lemmas.Option.{slice_get_read}
use Rattle.rv_debug.specs.declared.checkpoints.TheConstants.{CHECKPOINT_ENTRIES}
use Rattle.rv_debug.proofs.CheckpointLemmas.{printed, shared}
use Rattle.rv_hart.specs.State.{Guest}
use Rattle.rv_debug.proofs.checkpoints.second.Goals as goal

pub share-requires-clause-printed : goal.share-requires-clause-printed
share-requires-clause-printed c =
    let m = c.index_mut-checkpoint.result.now in
    let count = c.requires.checkpoints.count_is in
    let within = c.requires.within in
    let below : c.args.c < length c.args.checkpoints.now.items = omega (arith, count, within) in
    let there : slice_get c.args.checkpoints.now.items c.args.c ≡ Some m = slice_get_read c.args.checkpoints.now.items (length c.args.checkpoints.now.items) c.args.c m refl below c.index_mut-checkpoint.ensures.value in
    subst (λ (n : ℕ). length m.state.output ≤ n) (sym c.steps-limit.ensures.value)
    (printed c.steps_of_legal_schedules.ensures.few c.args.schedule.now (CHECKPOINT_ENTRIES * c.args.c) m c.facts.ensures.legal c.requires.within (c.requires.checkpoints.each c.args.c m there))

pub returns-clause-at : goal.returns-clause-at
returns-clause-at c =
    let m = c.index_mut-checkpoint.result.now in
    let count = c.requires.checkpoints.count_is in
    let within = c.requires.within in
    let below : c.args.c < length c.args.checkpoints.now.items = omega (arith, count, within) in
    let there : slice_get c.args.checkpoints.now.items c.args.c ≡ Some m = slice_get_read c.args.checkpoints.now.items (length c.args.checkpoints.now.items) c.args.c m refl below c.index_mut-checkpoint.ensures.value in
    shared c.args.schedule.now (CHECKPOINT_ENTRIES * c.args.c) m c.share.result (c.requires.checkpoints.each c.args.c m there)
    (subst (λ (n : ℕ). IfOk c.share.result (λ (copy : Guest). copy ≡ record { state = m.state; limit = n })) c.steps-limit.ensures.value c.share.ensures.equal)
