use Rattle.std.proofs.Common.{◌≡◌, ◌+◌, ◌*◌, ◌≤◌, ◌<◌, ℕ, List, [], length, Ok, sym, ap, subst, ◌∙◌, arith}
use Rattle.std.specs.Prelude.{option_map}
use Rattle.std.specs.Vec.{vec_capacity}
use Rattle.rv_hart.specs.NextAccess.{accessed}
use Rattle.rv_break.specs.Breakpoints.{Breaks}
use Rattle.rv_collide.specs.Forced.{Turn, forced}
use Rattle.rv_collide.specs.Numbers.{numbers}
use Rattle.rv_collide.specs.Begun.{Begun, setting_of, begun}
use Rattle.rv_collide.specs.declared.entry.Entry.{Entry}
use Rattle.rv_collide.specs.declared.entry.Entry.TheVariants.{Stepped}
use Rattle.rv_collide.specs.internal.Core.{IsCore, slots_seen}
use Rattle.rv_collide.specs.Pause.{openings}
use Rattle.rv_collide.specs.internal.GoesOn.{GoesOn}
use Rattle.rv_collide.proofs.GoesOn.{step_forced}
use Rattle.rv_collide.proofs.Until.{until_kept}
use Rattle.rv_collide.proofs.Growth.{core_step, turn_parts}
use Rattle.rv_collide.proofs.LawLemmas.{runs_in}
use Rattle.rv_collide.proofs.Rooms.{room_to_step}
use Rattle.rv_collide.proofs.Unwatched.{unwatched}
use Rattle.rv_collide.proofs.detector.Detector.step.Goals as goal

pub returns-in-None-clause-memory : goal.returns-in-None-clause-memory
returns-in-None-clause-memory g c =
    let s = setting_of (begun c.self.inside.begin.value.state (numbers c.self.inside.plan) c.self.inside.entries.items) in
    λ was.
    let ok = subst (λ (v : Begun). forced (setting_of v) v.entries (Turn c.args.h) ≡ Ok (Stepped c.args.h)) (sym c.self.view_is) was in
    let parts = turn_parts s c.self.inside.entries.items c.args.h (Stepped c.args.h) ok in
    let runs = runs_in s.start c.self.inside.machine.state c.self.inside.entries.items (length c.self.inside.entries.items) c.args.h c.self.invariant.0.now parts.runs in
    let left = parts.left in
    let printed = c.self.invariant.0.output in
    let limit = c.self.invariant.0.limit in
    let room : length c.self.inside.machine.state.output < c.self.inside.machine.limit = omega arith in
    c.in-None.ensures.memory runs room

pub show-requires : goal.show-requires
show-requires g c =
    let s = setting_of (begun c.self.inside.begin.value.state (numbers c.self.inside.plan) c.self.inside.entries.items) in
    λ none. unwatched s.plan.slots s.start c.self.inside.entries.items c.self.inside.breaks.slots c.self.invariant.0.slots_are
    (subst (λ (v : Begun). openings v.entries ≡ []) (sym c.self.view_is) (c.requires.unwatched none))

pub push_reserved-requires : goal.push_reserved-requires
push_reserved-requires g c =
    let s = setting_of (begun c.self.inside.begin.value.state (numbers c.self.inside.plan) c.self.inside.entries.items) in
    let goes = subst (λ (v : Begun). GoesOn v c.args.h) (sym c.self.view_is) c.requires.goes_on in
    let ok = step_forced (begun c.self.inside.begin.value.state (numbers c.self.inside.plan) c.self.inside.entries.items) c.self.inside.machine.state c.args.h (c.in-Some.event, c.stepped.new.machine.state) c.self.invariant.0.now c.self.invariant.0.harts goes c.in-Some.ensures.step in
    let parts = turn_parts s c.self.inside.entries.items c.args.h (Stepped c.args.h) ok in
    let lt = room_to_step s c.self.inside.entries.items (length c.self.inside.endings.items) (vec_capacity c.self.inside.entries) c.self.invariant.0.room c.self.invariant.1.for_entries parts.left in
    omega (arith, c.self.inside.entries.ok.0)

pub invariant_of-self-2 : goal.invariant_of-self-2
invariant_of-self-2 g c =
    let s = setting_of (begun c.self.inside.begin.value.state (numbers c.self.inside.plan) c.self.inside.entries.items) in
    let goes = subst (λ (v : Begun). GoesOn v c.args.h) (sym c.self.view_is) c.requires.goes_on in
    let ok = step_forced (begun c.self.inside.begin.value.state (numbers c.self.inside.plan) c.self.inside.entries.items) c.self.inside.machine.state c.args.h (c.in-Some.event, c.stepped.new.machine.state) c.self.invariant.0.now c.self.invariant.0.harts goes c.in-Some.ensures.step in
    let size = c.len-place.ensures ∙ c.self.inside.entries.ok.0 in (
      subst (λ (ys : List Entry). IsCore s ys c.stepped.new.machine c.show.new.breaks c.self.inside.openings.items c.self.inside.endings.items (c.self.inside.steps + 1) c.self.inside.arms) (sym c.push_reserved.ensures.items)
          (core_step c.reservations_and_accesses.ensures.next c.what_no_step_does.ensures.output s c.self.inside.entries.items c.self.inside.machine c.stepped.new.machine c.self.inside.breaks c.show.new.breaks c.self.inside.openings.items c.self.inside.endings.items c.self.inside.steps c.self.inside.arms c.args.h c.in-Some.event c.self.invariant.0 ok c.in-Some.ensures.step c.stepped.ensures.harts c.stepped.ensures.limit
          (ap (λ (b : Breaks). b.armed) c.show.ensures)
          (ap (λ (b : Breaks). b.slots) c.show.ensures ∙ ap (λ n. slots_seen (option_map (λ access. record { place = n; hart = c.args.h; access = access }) (accessed c.in-Some.event)) c.self.inside.breaks.slots) size)),
      record {
        for_entries = subst (λ (n : ℕ). s.plan.steps + 4 * s.plan.arms ≤ n) (sym c.push_reserved.ensures.capacity) c.self.invariant.1.for_entries;
        for_openings = c.self.invariant.1.for_openings;
        for_endings = c.self.invariant.1.for_endings;
      },
      until_kept c.self.inside.plan.steps c.self.inside.until c.self.inside.breaks c.show.new.breaks c.self.inside.openings.items (ap (λ (b : Breaks). b.armed) c.show.ensures) c.self.invariant.2,
      c.self.invariant.3,
    )

pub returns-clause-forced : goal.returns-clause-forced
returns-clause-forced g c =
    let goes = subst (λ (v : Begun). GoesOn v c.args.h) (sym c.self.view_is) c.requires.goes_on in
    let ok = step_forced (begun c.self.inside.begin.value.state (numbers c.self.inside.plan) c.self.inside.entries.items) c.self.inside.machine.state c.args.h (c.in-Some.event, c.stepped.new.machine.state) c.self.invariant.0.now c.self.invariant.0.harts goes c.in-Some.ensures.step in
    subst (λ (v : Begun). forced (setting_of v) v.entries (Turn c.args.h) ≡ Ok (Stepped c.args.h)) c.self.view_is ok
