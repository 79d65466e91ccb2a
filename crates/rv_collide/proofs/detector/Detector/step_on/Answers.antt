use Rattle.std.proofs.Common.{◌≡◌, ◌+◌, ◌*◌, ◌≤◌, ℕ, List, [], true, false, length, sym, ap, subst, ◌∙◌, arith}
use Rattle.std.specs.FinSet.{FinSet, contains}
use Rattle.std.specs.Ordering.{nat_cmp}
use Rattle.std.specs.Prelude.{IfSome, Option, Some, is_ok, option_and_then, option_map}
use Rattle.rv_collide.specs.Armed.{armed}
use Rattle.rv_collide.specs.Forced.{Turn, forced}
use Rattle.std.specs.Vec.{vec_capacity}
use Rattle.rv_hart.specs.Fetched.{IsWordOf}
use Rattle.rv_hart.specs.NextAccess.{accessed}
use Rattle.rv_hart.specs.State.{State}
use Rattle.rv_hart.specs.Step.{step_of}
use Rattle.rv_hart.specs.declared.access.Event.{Event}
use Rattle.rv_break.specs.Breakpoints.{Breaks}
use Rattle.rv_collide.specs.Detected.{IsEvent, IsWord, StepsOn}
use Rattle.rv_collide.specs.Numbers.{numbers}
use Rattle.rv_collide.specs.Begun.{Begun, setting_of, begun}
use Rattle.rv_collide.specs.declared.entry.Entry.{Entry}
use Rattle.rv_collide.specs.declared.entry.Entry.TheVariants.{Stepped}
use Rattle.rv_collide.specs.internal.Core.{IsCore, slots_seen}
use Rattle.rv_collide.specs.Pause.{openings}
use Rattle.rv_collide.specs.internal.GoesOn.{GoesOn}
use Rattle.rv_collide.proofs.ArmedAccesses.{kept_plain}
use Rattle.rv_collide.proofs.GoesOn.{step_forced}
use Rattle.rv_collide.proofs.Until.{until_kept}
use Rattle.rv_collide.proofs.QuickTurns.{goes_on, made, may_turn, not_kept, same_state, steps_on, was_still}
use Rattle.rv_collide.proofs.Growth.{core_step, turn_parts}
use Rattle.rv_collide.proofs.LawLemmas.{runs_in}
use Rattle.rv_collide.proofs.Rooms.{room_to_step}
use Rattle.rv_collide.proofs.Unwatched.{unwatched}
use Rattle.rv_collide.proofs.detector.Detector.step_on.Goals as goal

pub common_step-common-requires : goal.common_step-common-requires
common_step-common-requires g c =
    let s = setting_of (begun c.self.inside.begin.value.state (numbers c.self.inside.plan) c.self.inside.entries.items) in
    let accepted = subst (λ (v : Begun). is_ok (forced (setting_of v) v.entries (Turn c.args.h)) ≡ true) (sym c.self.view_is) c.requires.accepted in
    let runs = (may_turn s c.self.inside.entries.items c.args.h accepted).runs in
    let is = subst (λ (v : Begun). IsWord v c.args.h c.args.word) (sym c.self.view_is) c.requires.word in
    record {
      running = runs_in s.start c.self.inside.machine.state c.self.inside.entries.items (length c.self.inside.entries.items) c.args.h c.self.invariant.0.now runs;
      word = subst (λ (t : State). IsWordOf t c.args.h c.args.word) (same_state (sym is.reached ∙ c.self.invariant.0.now)) is.word_is;
    }

pub show_noted-requires : goal.show_noted-requires
show_noted-requires g c =
    let s = setting_of (begun c.self.inside.begin.value.state (numbers c.self.inside.plan) c.self.inside.entries.items) in
    λ none. unwatched s.plan.slots s.start c.self.inside.entries.items c.self.inside.breaks.slots c.self.invariant.0.slots_are
    (subst (λ (v : Begun). openings v.entries ≡ []) (sym c.self.view_is) (c.requires.unwatched none))

pub push_reserved-requires : goal.push_reserved-requires
push_reserved-requires g c =
    let s = setting_of (begun c.self.inside.begin.value.state (numbers c.self.inside.plan) c.self.inside.entries.items) in
    let event = made c.common_step-common.result c.common_step-common.new.noted.access c.in_default.not-Untaken in
    let step : step_of c.self.inside.machine.state c.args.h ≡ Some (event.event, c.common_step-common.new.machine.state) =
    subst (λ (o : Option Event). IfSome o (λ e. step_of c.self.inside.machine.state c.args.h ≡ Some (e, c.common_step-common.new.machine.state))) event.event_is c.common_step-common.ensures.step in
    let armed_are = c.self.invariant.0.armed_are in
    let passed : c.args.is_watched ≡ true → IfSome (accessed event.event) (λ access. contains (armed s.start c.self.inside.entries.items) access.pc ≡ false) = λ watched.
    subst (λ (a : FinSet nat_cmp). IfSome (accessed event.event) (λ access. contains a access.pc ≡ false)) armed_are
    (subst (λ (o : Option Event). IfSome o (λ e. IfSome (accessed e) (λ access. contains c.self.inside.breaks.armed access.pc ≡ false))) event.event_is (c.common_step-common.ensures.passed watched)) in
    let goes = goes_on c.args.is_watched (begun c.self.inside.begin.value.state (numbers c.self.inside.plan) c.self.inside.entries.items) c.self.inside.machine.state c.common_step-common.new.machine.state c.args.h event.event
    (subst (λ (v : Begun). is_ok (forced (setting_of v) v.entries (Turn c.args.h)) ≡ true) (sym c.self.view_is) c.requires.accepted)
    (λ unwatched. subst (λ (v : Begun). GoesOn v c.args.h) (sym c.self.view_is) (c.requires.goes_on unwatched)) c.self.invariant.0.now step passed in
    let ok = step_forced (begun c.self.inside.begin.value.state (numbers c.self.inside.plan) c.self.inside.entries.items) c.self.inside.machine.state c.args.h (event.event, c.common_step-common.new.machine.state) c.self.invariant.0.now c.self.invariant.0.harts goes step in
    let parts = turn_parts s c.self.inside.entries.items c.args.h (Stepped c.args.h) ok in
    let lt = room_to_step s c.self.inside.entries.items (length c.self.inside.endings.items) (vec_capacity c.self.inside.entries) c.self.invariant.0.room c.self.invariant.1.for_entries parts.left in
    omega (arith, c.self.inside.entries.ok.0)

pub invariant_of-self-2 : goal.invariant_of-self-2
invariant_of-self-2 g c =
    let s = setting_of (begun c.self.inside.begin.value.state (numbers c.self.inside.plan) c.self.inside.entries.items) in
    let event = made c.common_step-common.result c.common_step-common.new.noted.access c.in_default.not-Untaken in
    let step : step_of c.self.inside.machine.state c.args.h ≡ Some (event.event, c.common_step-common.new.machine.state) =
    subst (λ (o : Option Event). IfSome o (λ e. step_of c.self.inside.machine.state c.args.h ≡ Some (e, c.common_step-common.new.machine.state))) event.event_is c.common_step-common.ensures.step in
    let armed_are = c.self.invariant.0.armed_are in
    let passed : c.args.is_watched ≡ true → IfSome (accessed event.event) (λ access. contains (armed s.start c.self.inside.entries.items) access.pc ≡ false) = λ watched.
    subst (λ (a : FinSet nat_cmp). IfSome (accessed event.event) (λ access. contains a access.pc ≡ false)) armed_are
    (subst (λ (o : Option Event). IfSome o (λ e. IfSome (accessed e) (λ access. contains c.self.inside.breaks.armed access.pc ≡ false))) event.event_is (c.common_step-common.ensures.passed watched)) in
    let goes = goes_on c.args.is_watched (begun c.self.inside.begin.value.state (numbers c.self.inside.plan) c.self.inside.entries.items) c.self.inside.machine.state c.common_step-common.new.machine.state c.args.h event.event
    (subst (λ (v : Begun). is_ok (forced (setting_of v) v.entries (Turn c.args.h)) ≡ true) (sym c.self.view_is) c.requires.accepted)
    (λ unwatched. subst (λ (v : Begun). GoesOn v c.args.h) (sym c.self.view_is) (c.requires.goes_on unwatched)) c.self.invariant.0.now step passed in
    let ok = step_forced (begun c.self.inside.begin.value.state (numbers c.self.inside.plan) c.self.inside.entries.items) c.self.inside.machine.state c.args.h (event.event, c.common_step-common.new.machine.state) c.self.invariant.0.now c.self.invariant.0.harts goes step in
    let size = c.len-place.ensures ∙ c.self.inside.entries.ok.0 in
    let seen = λ (place : ℕ) (o : Option Event). slots_seen (option_map (λ access. record { place = place; hart = c.args.h; access = access }) (option_and_then accessed o)) c.self.inside.breaks.slots in (
      subst (λ (ys : List Entry). IsCore s ys c.common_step-common.new.machine c.show_noted.new.breaks c.self.inside.openings.items c.self.inside.endings.items (c.self.inside.steps + 1) c.self.inside.arms) (sym c.push_reserved.ensures.items)
          (core_step c.reservations_and_accesses.ensures.next c.what_no_step_does.ensures.output s c.self.inside.entries.items c.self.inside.machine c.common_step-common.new.machine c.self.inside.breaks c.show_noted.new.breaks c.self.inside.openings.items c.self.inside.endings.items c.self.inside.steps c.self.inside.arms c.args.h event.event c.self.invariant.0 ok step c.common_step-common.ensures.harts c.common_step-common.ensures.limit
          (ap (λ (b : Breaks). b.armed) c.show_noted.ensures)
          (ap (λ (b : Breaks). b.slots) c.show_noted.ensures ∙ ap (seen c.len-place.result) event.event_is ∙ ap (λ n. seen n (Some event.event)) size)),
      record {
        for_entries = subst (λ (n : ℕ). s.plan.steps + 4 * s.plan.arms ≤ n) (sym c.push_reserved.ensures.capacity) c.self.invariant.1.for_entries;
        for_openings = c.self.invariant.1.for_openings;
        for_endings = c.self.invariant.1.for_endings;
      },
      until_kept c.self.inside.plan.steps c.self.inside.until c.self.inside.breaks c.show_noted.new.breaks c.self.inside.openings.items (ap (λ (b : Breaks). b.armed) c.show_noted.ensures) c.self.invariant.2,
      not_kept c.self.inside.machine.state c.args.h c.common_step-common.result c.self.inside.noted c.common_step-common.new.noted c.self.invariant.3 c.common_step-common.ensures.kept c.in_default.not-Untaken,
    )

pub returns-clause-steps : goal.returns-clause-steps
returns-clause-steps g c = λ _.
    let s = setting_of (begun c.self.inside.begin.value.state (numbers c.self.inside.plan) c.self.inside.entries.items) in
    let was = begun c.self.inside.begin.value.state (numbers c.self.inside.plan) c.self.inside.entries.items in
    let event = made c.common_step-common.result c.common_step-common.new.noted.access c.in_default.not-Untaken in
    let step : step_of c.self.inside.machine.state c.args.h ≡ Some (event.event, c.common_step-common.new.machine.state) =
    subst (λ (o : Option Event). IfSome o (λ e. step_of c.self.inside.machine.state c.args.h ≡ Some (e, c.common_step-common.new.machine.state))) event.event_is c.common_step-common.ensures.step in
    let armed_are = c.self.invariant.0.armed_are in
    let passed : c.args.is_watched ≡ true → IfSome (accessed event.event) (λ access. contains (armed s.start c.self.inside.entries.items) access.pc ≡ false) = λ watched.
    subst (λ (a : FinSet nat_cmp). IfSome (accessed event.event) (λ access. contains a access.pc ≡ false)) armed_are
    (subst (λ (o : Option Event). IfSome o (λ e. IfSome (accessed e) (λ access. contains c.self.inside.breaks.armed access.pc ≡ false))) event.event_is (c.common_step-common.ensures.passed watched)) in
    let goes = goes_on c.args.is_watched (begun c.self.inside.begin.value.state (numbers c.self.inside.plan) c.self.inside.entries.items) c.self.inside.machine.state c.common_step-common.new.machine.state c.args.h event.event
    (subst (λ (v : Begun). is_ok (forced (setting_of v) v.entries (Turn c.args.h)) ≡ true) (sym c.self.view_is) c.requires.accepted)
    (λ unwatched. subst (λ (v : Begun). GoesOn v c.args.h) (sym c.self.view_is) (c.requires.goes_on unwatched)) c.self.invariant.0.now step passed in
    let ok = step_forced (begun c.self.inside.begin.value.state (numbers c.self.inside.plan) c.self.inside.entries.items) c.self.inside.machine.state c.args.h (event.event, c.common_step-common.new.machine.state) c.self.invariant.0.now c.self.invariant.0.harts goes step in
    let is : IsEvent was c.args.h event.event = record { state = c.self.inside.machine.state; after = c.common_step-common.new.machine.state; reached = c.self.invariant.0.now; step = step } in
    let more = ap (λ ys. begun c.self.inside.begin.value.state (numbers c.self.inside.plan) ys) c.push_reserved.ensures.items in
    subst (λ (v : Begun). StepsOn v (begun c.self.inside.begin.value.state (numbers c.self.inside.plan) c.push_reserved.new.self.items) c.args.h) c.self.view_is
    (steps_on c.what_no_step_does.ensures.moves was _ c.args.h event.event ok is more event.moved)

pub pause_kept-requires-clause-plain : goal.pause_kept-requires-clause-plain
pause_kept-requires-clause-plain g c =
    kept_plain (begun c.self.inside.begin.value.state (numbers c.self.inside.plan) c.self.inside.entries.items) c.self.inside.machine.state c.args.h c.common_step-common.result c.self.inside.noted c.common_step-common.new.noted c.self.invariant.0.now c.self.invariant.3 c.common_step-common.ensures.kept c.if-self.true

pub returns-else-may_pause-clause-other : goal.returns-else-may_pause-clause-other
returns-else-may_pause-clause-other g c = λ _.
    was_still c.args.self.now (begun c.self.inside.begin.value.state (numbers c.self.inside.plan) c.self.inside.entries.items) c.args.h c.requires.accepted c.self.view_is

pub returns-else-self-clause-other : goal.returns-else-self-clause-other
returns-else-self-clause-other g c = λ _.
    was_still c.args.self.now (begun c.self.inside.begin.value.state (numbers c.self.inside.plan) c.self.inside.entries.items) c.args.h c.requires.accepted c.self.view_is
