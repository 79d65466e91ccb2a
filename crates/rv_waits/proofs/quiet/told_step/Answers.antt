use Rattle.std.proofs.Common.{◌≡◌, false, length, rules, sym}
use Rattle.std.specs.Prelude.{slice_get}
use Rattle.rv_hart.specs.Locality.{at_conditional}
use Rattle.rv_hart.specs.NextAccess.{next_access}
use Rattle.rv_hart.specs.declared.access.Event.TheVariants.{Moved}
use Rattle.rv_waits.specs.Round.{IsQuietStep}
use Rattle.rv_waits.specs.internal.Four.{AreBytesFrom}
use Rattle.rv_waits.proofs.QuietLemmas.{BeginsAt, answered, if_quiet, moved_step, quiet_made}
use Rattle.rv_waits.proofs.quiet.told_step.Goals as goal

pub returns-clause-step : goal.returns-clause-step
returns-clause-step g c = answered g.S.ByteStore.can_refuse c.args.machine.now c.step-2.new.self c.args.h _ c.step-2.result c.told_of-told.ensures c.step-2.ensures

pub returns-clause-quiet : goal.returns-clause-quiet
returns-clause-quiet g c =
    let s = c.args.machine.now.state in
    let t = c.step-2.new.self.state in
    let h = c.args.h in
    let no_sc : at_conditional s.memory (slice_get s.harts h) ≡ false = cc in
    let first : BeginsAt (next_access s h) c.first_of-first.result = search rules in
    let before : AreBytesFrom s.memory c.first_of-first.result c.four_bytes-bytes.result = search rules in
    let after : AreBytesFrom t.memory c.first_of-first.result c.four_bytes-bytes.result = search rules in
    let printed : length t.output ≡ length s.output = cc in
    if_quiet (λ access. IsQuietStep h s t) c.told_of-told.result c.step-2.result c.told_of-told.ensures (λ access e.
    quiet_made c.store_keeps_the_rest.ensures.bytes c.reservations_and_accesses.ensures.sizes c.what_no_step_does.ensures.output s t h c.first_of-first.result access c.four_bytes-bytes.result
    (moved_step g.S.ByteStore.can_refuse c.args.machine.now c.step-2.new.self h c.step-2.result access c.step-2.ensures e) no_sc first before after printed)

pub returns-clause-access : goal.returns-clause-access
returns-clause-access g c =
    let s = c.args.machine.now.state in
    let t = c.step-2.new.self.state in
    let h = c.args.h in
    if_quiet (λ access. access ≡ next_access s h) c.told_of-told.result c.step-2.result c.told_of-told.ensures (λ access e.
    sym (c.reservations_and_accesses.ensures.next s t h (Moved access) (moved_step g.S.ByteStore.can_refuse c.args.machine.now c.step-2.new.self h c.step-2.result access c.step-2.ensures e)))
