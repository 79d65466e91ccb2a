use Rattle.std.proofs.Common.{◌≡◌, ◌+◌, ◌-◌, ◌*◌, ◌≤◌, ℕ, List, ◌++◌, [], ◌∷◌, length, Some, Ok, refl, sym, ap, subst, ◌∙◌, arith}
use Rattle.std.specs.Prelude.{◌==◌, ◌<◌, option_and_then, option_map, position, slice_get, IfSome}
use Rattle.std.specs.Vec.{vec_capacity}
use Rattle.rv_break.specs.Breakpoints.{Breaks}
use Rattle.rv_break.specs.Slots.{Slots, IsClaimed, seen_at}
use Rattle.rv_collide.specs.Forced.{Resume, forced}
use Rattle.rv_collide.specs.Numbers.{numbers}
use Rattle.rv_collide.specs.Pause.{Opening, openings}
use Rattle.rv_collide.specs.Begun.{Begun, setting_of, begun}
use Rattle.rv_collide.specs.Verdict.{ending_at, endings}
use Rattle.rv_collide.specs.declared.ending.Ending.{Ending}
use Rattle.rv_collide.specs.declared.entry.Entry.{Entry}
use Rattle.rv_collide.specs.declared.entry.Entry.TheVariants.{Resumed}
use Rattle.rv_collide.specs.declared.open_pause.OpenPause.{OpenPause}
use Rattle.rv_collide.specs.internal.Core.{IsCore, IsUntil, opening}
use Rattle.rv_collide.proofs.Endings.{some_told, told_last}
use Rattle.rv_collide.proofs.Growth.{core_resume, kept_found, opening_kept}
use Rattle.rv_collide.proofs.OpenPauses.{bytes_now, size_of, slot_claimed, slot_seen, told}
use Rattle.rv_collide.proofs.Rooms.{room_to_end, room_to_resume}
use Rattle.rv_collide.proofs.Taken.{taken, within_opened}
use Rattle.rv_collide.proofs.detector.Detector.end.Goals as goal

pub taken_out-open-requires : goal.taken_out-open-requires
taken_out-open-requires g c =
    let below : c.args.place < length c.self.inside.openings.items = within_opened c.self.inside.entries.items c.self.inside.openings.items c.args.h c.args.place c.self.invariant.0.openings_are (subst (λ (u : Begun). position (λ (o : Opening). o.hart == c.args.h) (openings u.entries) ≡ Some c.args.place) (sym c.self.view_is) c.requires.placed) in
    omega (arith, c.self.inside.openings.ok.0)

pub released-seen-requires : goal.released-seen-requires
released-seen-requires g c =
    let s = setting_of (begun c.self.inside.begin.value.state (numbers c.self.inside.plan) c.self.inside.entries.items) in
    let t = taken c.self.inside.entries.items c.self.inside.openings.items c.taken_out-open.new.openings.items c.args.h c.args.place c.taken_out-open.result c.self.invariant.0.openings_are c.self.invariant.0.apart (subst (λ (u : Begun). position (λ (o : Opening). o.hart == c.args.h) (openings u.entries) ≡ Some c.args.place) (sym c.self.view_is) c.requires.placed) c.taken_out-open.ensures.value c.taken_out-open.ensures.items in
    let of_h = opening_kept c.self.inside.entries.items c.self.inside.openings.items c.args.h c.self.invariant.0.openings_are ∙ ap (option_map opening) t.pause in
    let k = kept_found s.plan.slots s.start c.self.inside.entries.items (λ (q : OpenPause). q.hart == c.args.h) c.self.inside.openings.items c.taken_out-open.result c.self.invariant.0.kept t.pause in
    subst (λ (xs : Slots). IfSome c.taken_out-open.result.slot (λ n. IsClaimed xs n)) (sym c.self.invariant.0.slots_are)
    (slot_claimed s.start c.self.inside.entries.items c.args.h (opening c.taken_out-open.result) c.taken_out-open.result.access c.self.invariant.0.apart of_h k.access s.plan.slots c.taken_out-open.result.slot refl k.within)

pub number_at-new-requires : goal.number_at-new-requires
number_at-new-requires g c =
    let s = setting_of (begun c.self.inside.begin.value.state (numbers c.self.inside.plan) c.self.inside.entries.items) in
    let t = taken c.self.inside.entries.items c.self.inside.openings.items c.taken_out-open.new.openings.items c.args.h c.args.place c.taken_out-open.result c.self.invariant.0.openings_are c.self.invariant.0.apart (subst (λ (u : Begun). position (λ (o : Opening). o.hart == c.args.h) (openings u.entries) ≡ Some c.args.place) (sym c.self.view_is) c.requires.placed) c.taken_out-open.ensures.value c.taken_out-open.ensures.items in
    let k = kept_found s.plan.slots s.start c.self.inside.entries.items (λ (q : OpenPause). q.hart == c.args.h) c.self.inside.openings.items c.taken_out-open.result c.self.invariant.0.kept t.pause in
    size_of c.reservations_and_accesses.ensures.sizes s.start c.self.inside.entries.items c.taken_out-open.result.place c.taken_out-open.result.hart c.taken_out-open.result.access k.access

pub push_reserved-requires : goal.push_reserved-requires
push_reserved-requires g c =
    let s = setting_of (begun c.self.inside.begin.value.state (numbers c.self.inside.plan) c.self.inside.entries.items) in
    let t = taken c.self.inside.entries.items c.self.inside.openings.items c.taken_out-open.new.openings.items c.args.h c.args.place c.taken_out-open.result c.self.invariant.0.openings_are c.self.invariant.0.apart (subst (λ (u : Begun). position (λ (o : Opening). o.hart == c.args.h) (openings u.entries) ≡ Some c.args.place) (sym c.self.view_is) c.requires.placed) c.taken_out-open.ensures.value c.taken_out-open.ensures.items in
    let of_h = opening_kept c.self.inside.entries.items c.self.inside.openings.items c.args.h c.self.invariant.0.openings_are ∙ ap (option_map opening) t.pause in
    let lt = room_to_resume s c.self.inside.entries.items (length c.self.inside.endings.items) (vec_capacity c.self.inside.entries) c.self.invariant.0.room c.self.invariant.1.for_entries c.args.h (opening c.taken_out-open.result) of_h in
    omega (arith, c.self.inside.entries.ok.0)

pub push_reserved-requires-2 : goal.push_reserved-requires-2
push_reserved-requires-2 g c =
    let s = setting_of (begun c.self.inside.begin.value.state (numbers c.self.inside.plan) c.self.inside.entries.items) in
    let t = taken c.self.inside.entries.items c.self.inside.openings.items c.taken_out-open.new.openings.items c.args.h c.args.place c.taken_out-open.result c.self.invariant.0.openings_are c.self.invariant.0.apart (subst (λ (u : Begun). position (λ (o : Opening). o.hart == c.args.h) (openings u.entries) ≡ Some c.args.place) (sym c.self.view_is) c.requires.placed) c.taken_out-open.ensures.value c.taken_out-open.ensures.items in
    let of_h = opening_kept c.self.inside.entries.items c.self.inside.openings.items c.args.h c.self.invariant.0.openings_are ∙ ap (option_map opening) t.pause in
    let lt = room_to_end s c.self.inside.entries.items (length c.self.inside.endings.items) (vec_capacity c.self.inside.endings) c.args.h (opening c.taken_out-open.result) c.self.invariant.0.room c.self.invariant.1.for_endings of_h in
    omega (arith, c.self.inside.endings.ok.0)

pub invariant_of-self : goal.invariant_of-self
invariant_of-self g c =
    let s = setting_of (begun c.self.inside.begin.value.state (numbers c.self.inside.plan) c.self.inside.entries.items) in
    let ok = subst (λ (u : Begun). forced (setting_of u) u.entries (Resume c.args.h) ≡ Ok (Resumed c.args.h)) (sym c.self.view_is) c.requires.forced in
    let t = taken c.self.inside.entries.items c.self.inside.openings.items c.taken_out-open.new.openings.items c.args.h c.args.place c.taken_out-open.result c.self.invariant.0.openings_are c.self.invariant.0.apart (subst (λ (u : Begun). position (λ (o : Opening). o.hart == c.args.h) (openings u.entries) ≡ Some c.args.place) (sym c.self.view_is) c.requires.placed) c.taken_out-open.ensures.value c.taken_out-open.ensures.items in
    let of_h = opening_kept c.self.inside.entries.items c.self.inside.openings.items c.args.h c.self.invariant.0.openings_are ∙ ap (option_map opening) t.pause in
    let k = kept_found s.plan.slots s.start c.self.inside.entries.items (λ (q : OpenPause). q.hart == c.args.h) c.self.inside.openings.items c.taken_out-open.result c.self.invariant.0.kept t.pause in
    let seen = c.released-seen.ensures.seen
    ∙ ap (λ (xs : Slots). option_and_then (seen_at xs) c.taken_out-open.result.slot) c.self.invariant.0.slots_are
    ∙ slot_seen s.start c.self.inside.entries.items c.args.h (opening c.taken_out-open.result) c.taken_out-open.result.access c.self.invariant.0.apart of_h k.access s.plan.slots c.taken_out-open.result.slot refl k.within in
    let told_is = c.ending_of-ending.ensures ∙ told s.start c.self.inside.entries.items c.taken_out-open.result c.released-seen.result c.len.result c.number_at-new.result k.old seen
    (c.len.ensures ∙ c.self.inside.entries.ok.0)
    (c.number_at-new.ensures ∙ bytes_now s.start c.self.inside.machine.state c.self.inside.entries.items (length c.self.inside.entries.items) c.taken_out-open.result.access c.self.invariant.0.now) in
    let core = core_resume s c.self.inside.entries.items c.self.inside.machine c.self.inside.breaks c.released-seen.new.breaks c.self.inside.openings.items c.self.inside.endings.items c.self.inside.steps c.self.inside.arms c.args.h c.taken_out-open.result c.ending_of-ending.result c.self.invariant.0 ok t.pause
    (ap (λ (b : Breaks). b.armed) c.released-seen.ensures.after)
    (ap (λ (b : Breaks). b.slots) c.released-seen.ensures.after)
    told_is in (
      subst (λ (ys : List Entry). IsCore s ys c.self.inside.machine c.released-seen.new.breaks c.taken_out-open.new.openings.items c.push_reserved-2.new.self.items c.self.inside.steps c.self.inside.arms) (sym c.push_reserved.ensures.items)
          (subst (λ (es : List Ending). IsCore s (c.self.inside.entries.items ++ Resumed c.args.h ∷ []) c.self.inside.machine c.released-seen.new.breaks c.taken_out-open.new.openings.items es c.self.inside.steps c.self.inside.arms) (sym c.push_reserved-2.ensures.items)
          (subst (λ (ps : List OpenPause). IsCore s (c.self.inside.entries.items ++ Resumed c.args.h ∷ []) c.self.inside.machine c.released-seen.new.breaks ps (c.self.inside.endings.items ++ c.ending_of-ending.result ∷ []) c.self.inside.steps c.self.inside.arms) (sym t.others) core)),
      record {
        for_entries = subst (λ (n : ℕ). s.plan.steps + 4 * s.plan.arms ≤ n) (sym c.push_reserved.ensures.capacity) c.self.invariant.1.for_entries;
        for_openings = subst (λ (n : ℕ). s.plan.arms ≤ n) (sym c.taken_out-open.ensures.capacity) c.self.invariant.1.for_openings;
        for_endings = subst (λ (n : ℕ). s.plan.arms ≤ n) (sym c.push_reserved-2.ensures.capacity) c.self.invariant.1.for_endings;
      },
      subst (λ (ps : List OpenPause). IsUntil c.self.inside.plan.steps c.released-seen.new.breaks ps c.until-self-inside.result) c.deref.ensures.value c.until-self-inside.ensures,
      c.self.invariant.3,
    )

pub returns-clause-told : goal.returns-clause-told
returns-clause-told g c =
    let s = setting_of (begun c.self.inside.begin.value.state (numbers c.self.inside.plan) c.self.inside.entries.items) in
    let t = taken c.self.inside.entries.items c.self.inside.openings.items c.taken_out-open.new.openings.items c.args.h c.args.place c.taken_out-open.result c.self.invariant.0.openings_are c.self.invariant.0.apart (subst (λ (u : Begun). position (λ (o : Opening). o.hart == c.args.h) (openings u.entries) ≡ Some c.args.place) (sym c.self.view_is) c.requires.placed) c.taken_out-open.ensures.value c.taken_out-open.ensures.items in
    let of_h = opening_kept c.self.inside.entries.items c.self.inside.openings.items c.args.h c.self.invariant.0.openings_are ∙ ap (option_map opening) t.pause in
    let k = kept_found s.plan.slots s.start c.self.inside.entries.items (λ (q : OpenPause). q.hart == c.args.h) c.self.inside.openings.items c.taken_out-open.result c.self.invariant.0.kept t.pause in
    let xs = c.self.inside.entries.items in
    record {
      some = subst (λ (ys : List Entry). 0 < length (endings s.start ys)) (sym c.push_reserved.ensures.items)
          (some_told s.start xs c.args.h (opening c.taken_out-open.result) c.taken_out-open.result.access of_h k.access);
      last = subst (λ (ys : List Entry). ending_at s.start ys (length c.args.self.now.entries) ≡ slice_get (endings s.start ys) (length (endings s.start ys) - 1)) (sym c.push_reserved.ensures.items)
          (subst (λ (u : Begun). ending_at s.start (xs ++ Resumed c.args.h ∷ []) (length u.entries) ≡ slice_get (endings s.start (xs ++ Resumed c.args.h ∷ [])) (length (endings s.start (xs ++ Resumed c.args.h ∷ [])) - 1)) c.self.view_is
          (told_last s.start xs c.args.h (opening c.taken_out-open.result) c.taken_out-open.result.access of_h k.access));
    }
