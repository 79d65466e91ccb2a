use Rattle.std.proofs.Common.{◌≡◌, ◌<◌, ◌≤◌, ◌∙◌, sym, ap, refl, true, false, length, Some, arith}
use Rattle.std.specs.Prelude.{slice_get}
use Rattle.std.proofs.lemmas.Option.{slice_get_past, slice_get_read}
use Rattle.rv_hart.specs.Refusals.{is_running_hart, is_print}
use Rattle.rv_hart.specs.Step.{action_at}
use Rattle.rv_hart.proofs.RefusalLemmas.{past_idle, is_idle, running_idle, idle_prints, does_print, printed_there, no_room, is_full}
use Rattle.rv_hart.proofs.machine.Machine.tested.Goals.{else-is_print-via-then-is_print+else-len-self, else-is_print-via-else-is_print}
use Rattle.rv_hart.proofs.machine.Machine.tested.Goals as goal

pub returns-then-h-len-clause-not_running : goal.returns-then-h-len-clause-not_running
returns-then-h-len-clause-not_running g c =
    let past : length c.args.self.now.state.harts ≤ c.args.h = rw (← c.self.view_is) (omega (arith, c.self.inside.harts.ok.0)) in
    (λ e. cc, λ idle. absurd (past_idle c.args.self.now.state c.args.h past idle))

pub returns-then-h-len-clause-output_full : goal.returns-then-h-len-clause-output_full
returns-then-h-len-clause-output_full g c =
    let past : length c.args.self.now.state.harts ≤ c.args.h = rw (← c.self.view_is) (omega (arith, c.self.inside.harts.ok.0)) in
    (λ e. cc, λ none. absurd (idle_prints c.args.self.now.state.memory (slice_get c.args.self.now.state.harts c.args.h) (rw (slice_get_past c.args.self.now.state.harts c.args.h past) refl) none.prints))

pub returns-then-not-is_running-clause-not_running : goal.returns-then-not-is_running-clause-not_running
returns-then-not-is_running-clause-not_running g c =
    let within : c.args.h < length c.args.self.now.state.harts = rw (← c.self.view_is) (omega (arith, c.self.inside.harts.ok.0)) in
    let found : slice_get c.args.self.now.state.harts c.args.h ≡ Some c.index-hart.result.now = rw (← c.self.view_is) (slice_get_read c.self.inside.harts.items c.len.result c.args.h c.index-hart.result.now (c.len.ensures ∙ c.self.inside.harts.ok.0) (omega arith) c.index-hart.ensures) in
    let idle : is_running_hart (slice_get c.args.self.now.state.harts c.args.h) ≡ false = rw found (sym c.is_running.ensures ∙ c.if-not-is_running.true) in
    (λ e. is_idle c.args.self.now.state c.args.h within idle, λ i. refl)

pub returns-then-not-is_running-clause-output_full : goal.returns-then-not-is_running-clause-output_full
returns-then-not-is_running-clause-output_full g c =
    let found : slice_get c.args.self.now.state.harts c.args.h ≡ Some c.index-hart.result.now = rw (← c.self.view_is) (slice_get_read c.self.inside.harts.items c.len.result c.args.h c.index-hart.result.now (c.len.ensures ∙ c.self.inside.harts.ok.0) (omega arith) c.index-hart.ensures) in
    let idle : is_running_hart (slice_get c.args.self.now.state.harts c.args.h) ≡ false = rw found (sym c.is_running.ensures ∙ c.if-not-is_running.true) in
    (λ e. cc, λ none. absurd (idle_prints c.args.self.now.state.memory (slice_get c.args.self.now.state.harts c.args.h) idle none.prints))

pub returns-then-len-self-clause-not_running : goal.returns-then-len-self-clause-not_running
returns-then-len-self-clause-not_running g c =
    let found : slice_get c.args.self.now.state.harts c.args.h ≡ Some c.index-hart.result.now = rw (← c.self.view_is) (slice_get_read c.self.inside.harts.items c.len.result c.args.h c.index-hart.result.now (c.len.ensures ∙ c.self.inside.harts.ok.0) (omega arith) c.index-hart.ensures) in
    let running : is_running_hart (slice_get c.args.self.now.state.harts c.args.h) ≡ true = rw found (sym c.is_running.ensures ∙ c.if-not-is_running.false) in
    (λ e. cc, λ idle. absurd (running_idle c.args.self.now.state c.args.h running idle))

pub returns-then-len-self-clause-output_full : goal.returns-then-len-self-clause-output_full
returns-then-len-self-clause-output_full g c =
    let found : slice_get c.args.self.now.state.harts c.args.h ≡ Some c.index-hart.result.now = rw (← c.self.view_is) (slice_get_read c.self.inside.harts.items c.len.result c.args.h c.index-hart.result.now (c.len.ensures ∙ c.self.inside.harts.ok.0) (omega arith) c.index-hart.ensures) in
    let action : c.action_at-action.result ≡ action_at c.args.self.now.state.memory c.index-hart.result.now = rw (← c.self.view_is) c.action_at-action.ensures.value in
    let print : is_print (action_at c.args.self.now.state.memory c.index-hart.result.now) ≡ true = ap is_print (sym action) ∙ sym c.is_print.ensures ∙ c.if-is_print.true in
    let full : c.args.self.now.limit ≤ length c.args.self.now.state.output = rw (← c.self.view_is) (omega (arith, c.self.inside.output.ok.0)) in
    (λ e. no_room c.args.self.now c.args.h (does_print c.args.self.now.state.memory (slice_get c.args.self.now.state.harts c.args.h) c.index-hart.result.now found (sym c.is_running.ensures ∙ c.if-not-is_running.false) print) full, λ none. refl)

pub returns-clause-ok : goal.returns-clause-ok
returns-clause-ok g c =
    let found : slice_get c.args.self.now.state.harts c.args.h ≡ Some c.index-hart.result.now = rw (← c.self.view_is) (slice_get_read c.self.inside.harts.items c.len.result c.args.h c.index-hart.result.now (c.len.ensures ∙ c.self.inside.harts.ok.0) (omega arith) c.index-hart.ensures) in
    let action : c.action_at-action.result ≡ action_at c.args.self.now.state.memory c.index-hart.result.now = rw (← c.self.view_is) c.action_at-action.ensures.value in
    rw found (record { running = sym c.is_running.ensures ∙ c.if-not-is_running.false; next = action })

pub returns-clause-able : goal.returns-clause-able
returns-clause-able g c = rw (← c.self.view_is) c.action_at-action.ensures.able

pub returns-clause-not_running : goal.returns-clause-not_running
returns-clause-not_running g c =
    let found : slice_get c.args.self.now.state.harts c.args.h ≡ Some c.index-hart.result.now = rw (← c.self.view_is) (slice_get_read c.self.inside.harts.items c.len.result c.args.h c.index-hart.result.now (c.len.ensures ∙ c.self.inside.harts.ok.0) (omega arith) c.index-hart.ensures) in
    let running : is_running_hart (slice_get c.args.self.now.state.harts c.args.h) ≡ true = rw found (sym c.is_running.ensures ∙ c.if-not-is_running.false) in
    (λ e. cc, λ idle. absurd (running_idle c.args.self.now.state c.args.h running idle))

pub returns-clause-room : goal.returns-clause-room
returns-clause-room g c = λ print.
    elim c.else-is_print.branch [
      | else-is_print-via-then-is_print+else-len-self w ↦ rw (← c.self.view_is) (omega (arith, c.self.inside.output.ok.0))
      | else-is_print-via-else-is_print w ↦ absurd (let wrong : true ≡ false = sym print ∙ sym c.is_print.ensures ∙ w.if-is_print.false in cc)
    ]

pub returns-clause-output_full : goal.returns-clause-output_full
returns-clause-output_full g c =
    let found : slice_get c.args.self.now.state.harts c.args.h ≡ Some c.index-hart.result.now = rw (← c.self.view_is) (slice_get_read c.self.inside.harts.items c.len.result c.args.h c.index-hart.result.now (c.len.ensures ∙ c.self.inside.harts.ok.0) (omega arith) c.index-hart.ensures) in
    let action : c.action_at-action.result ≡ action_at c.args.self.now.state.memory c.index-hart.result.now = rw (← c.self.view_is) c.action_at-action.ensures.value in (
      λ e. cc,
      λ none.
          let full = is_full c.args.self.now c.args.h none in
          let print : is_print c.action_at-action.result ≡ true = ap is_print action ∙ printed_there c.args.self.now.state.memory (slice_get c.args.self.now.state.harts c.args.h) c.index-hart.result.now found (sym c.is_running.ensures ∙ c.if-not-is_running.false) none.prints in
          let below = returns-clause-room g c print in
          absurd (omega arith),
    )
