use Rattle.std.proofs.Common.{◌≡◌, ◌⊎◌, false, inl, inr, sym, subst, refl}
use Rattle.std.proofs.lemmas.List.{length-set}
use Rattle.rv_hart.specs.declared.hart.Hart.{Hart}
use Rattle.rv_hart.specs.declared.quick.Attempt.TheVariants.{Accessed, Silent, Reserved}
use Rattle.rv_hart.specs.internal.Harts.{any_holds}
use Rattle.rv_hart.specs.internal.Quick.{Fetches, KeepsBack, Tried, event_of_attempt, is_reserving}
use Rattle.rv_hart.proofs.QuickLemmas.{fetches_there, keeps_there, running_within, tried_seen, tried_unseen}
use Rattle.rv_hart.proofs.quick.tried.Goals.{else-reserved-via-then-reserved+else-noted, else-reserved-via-else-reserved}
use Rattle.rv_hart.proofs.quick.tried.Goals as goal

pub moved_from-attempt-requires : goal.moved_from-attempt-requires
moved_from-attempt-requires g c =
    record {
      fetches = subst (λ (x : Hart). Fetches (g.S.ByteStore.memory c.args.store.now) c.args.word x) (sym c.index_mut.ensures.value)
          (fetches_there c.args.harts.now.items (g.S.ByteStore.memory c.args.store.now) c.args.h c.args.word c.index_mut.result.now c.requires.running c.requires.fetches);
    }

pub returns-in-Silent-clause-tried : goal.returns-in-Silent-clause-tried
returns-in-Silent-clause-tried g c =
    let before = g.S.ByteStore.memory c.args.store.now in
    let after = g.S.ByteStore.memory c.moved_from-attempt.new.store in
    let tried = subst (λ (x : Hart). Tried (g.P.Stops.passes c.args.stops.now) x c.moved_from-attempt.new.hart before after (event_of_attempt c.moved_from-attempt.result c.moved_from-attempt.new.noted.access) (is_reserving c.moved_from-attempt.result)) c.index_mut.ensures.value c.moved_from-attempt.ensures.tried in
    tried_unseen (g.P.Stops.passes c.args.stops.now) c.args.harts.now.items before after c.args.h c.index_mut.result.now c.moved_from-attempt.new.hart c.moved_from-attempt.result Silent c.moved_from-attempt.new.noted.access
    c.in-Silent.is (running_within c.args.harts.now.items c.args.h c.requires.running) tried tt

pub returns-in-Silent-clause-held : goal.returns-in-Silent-clause-held
returns-in-Silent-clause-held g c = λ free.
    let before = g.S.ByteStore.memory c.args.store.now in
    let after = g.S.ByteStore.memory c.moved_from-attempt.new.store in
    let tried = subst (λ (x : Hart). Tried (g.P.Stops.passes c.args.stops.now) x c.moved_from-attempt.new.hart before after (event_of_attempt c.moved_from-attempt.result c.moved_from-attempt.new.noted.access) (is_reserving c.moved_from-attempt.result)) c.index_mut.ensures.value c.moved_from-attempt.ensures.tried in
    (tried_unseen (g.P.Stops.passes c.args.stops.now) c.args.harts.now.items before after c.args.h c.index_mut.result.now c.moved_from-attempt.new.hart c.moved_from-attempt.result Silent c.moved_from-attempt.new.noted.access
    c.in-Silent.is (running_within c.args.harts.now.items c.args.h c.requires.running) tried tt).held refl (c.requires.held free)

pub settle-requires : goal.settle-requires
settle-requires g c =
    record { hart = rw length-set (running_within c.args.harts.now.items c.args.h c.requires.running); writes = c.if-noted.true }

pub returns-then-noted : goal.returns-then-noted
returns-then-noted g c =
    let before = g.S.ByteStore.memory c.args.store.now in
    let after = g.S.ByteStore.memory c.moved_from-attempt.new.store in
    let tried = subst (λ (x : Hart). Tried (g.P.Stops.passes c.args.stops.now) x c.moved_from-attempt.new.hart before after (event_of_attempt c.moved_from-attempt.result c.moved_from-attempt.new.noted.access) (is_reserving c.moved_from-attempt.result)) c.index_mut.ensures.value c.moved_from-attempt.ensures.tried in
    record {
      tried = tried_seen (g.P.Stops.passes c.args.stops.now) c.args.harts.now.items c.settle.new.harts.items before after c.args.h c.index_mut.result.now c.moved_from-attempt.new.hart c.moved_from-attempt.result c.moved_from-attempt.new.noted.access
          c.in-Accessed.is (running_within c.args.harts.now.items c.args.h c.requires.running) tried c.settle.ensures.sees;
      kept = keeps_there c.args.harts.now.items (g.S.ByteStore.memory c.args.store.now) c.args.h c.index_mut.result.now c.moved_from-attempt.result Accessed c.args.noted.now c.moved_from-attempt.new.noted
          c.in-Accessed.is (running_within c.args.harts.now.items c.args.h c.requires.running)
          (subst (λ (x : Hart). KeepsBack (g.S.ByteStore.memory c.args.store.now) x c.moved_from-attempt.result c.args.noted.now c.moved_from-attempt.new.noted) c.index_mut.ensures.value c.moved_from-attempt.ensures.kept);
      held = c.settle.ensures.held;
      len = c.settle.ensures.len;
    }

pub returns-else-reserved : goal.returns-else-reserved
returns-else-reserved g c =
    let before = g.S.ByteStore.memory c.args.store.now in
    let after = g.S.ByteStore.memory c.moved_from-attempt.new.store in
    let harts = c.args.harts.now.items in
    let how : (any_holds harts ≡ false) ⊎ (c.moved_from-attempt.new.noted.access.write ≡ false) = elim c.else-reserved.branch [
      | else-reserved-via-then-reserved+else-noted w ↦ inr w.if-noted.false
      | else-reserved-via-else-reserved w ↦ inl (c.requires.held w.if-reserved.false)
    ] in
    let tried = subst (λ (x : Hart). Tried (g.P.Stops.passes c.args.stops.now) x c.moved_from-attempt.new.hart before after (event_of_attempt c.moved_from-attempt.result c.moved_from-attempt.new.noted.access) (is_reserving c.moved_from-attempt.result)) c.index_mut.ensures.value c.moved_from-attempt.ensures.tried in
    let at = tried_unseen (g.P.Stops.passes c.args.stops.now) harts before after c.args.h c.index_mut.result.now c.moved_from-attempt.new.hart c.moved_from-attempt.result Accessed c.moved_from-attempt.new.noted.access
    c.in-Accessed.is (running_within harts c.args.h c.requires.running) tried how in
    record {
      tried = at;
      kept = keeps_there c.args.harts.now.items (g.S.ByteStore.memory c.args.store.now) c.args.h c.index_mut.result.now c.moved_from-attempt.result Accessed c.args.noted.now c.moved_from-attempt.new.noted
          c.in-Accessed.is (running_within c.args.harts.now.items c.args.h c.requires.running)
          (subst (λ (x : Hart). KeepsBack (g.S.ByteStore.memory c.args.store.now) x c.moved_from-attempt.result c.args.noted.now c.moved_from-attempt.new.noted) c.index_mut.ensures.value c.moved_from-attempt.ensures.kept);
      held = λ free. at.held refl (c.requires.held free);
      len = refl;
    }

pub returns-in-Reserved : goal.returns-in-Reserved
returns-in-Reserved g c =
    let before = g.S.ByteStore.memory c.args.store.now in
    let after = g.S.ByteStore.memory c.moved_from-attempt.new.store in
    let harts = c.args.harts.now.items in
    let tried = subst (λ (x : Hart). Tried (g.P.Stops.passes c.args.stops.now) x c.moved_from-attempt.new.hart before after (event_of_attempt c.moved_from-attempt.result c.moved_from-attempt.new.noted.access) (is_reserving c.moved_from-attempt.result)) c.index_mut.ensures.value c.moved_from-attempt.ensures.tried in
    record {
      tried = rw c.in-Reserved.is (tried_unseen (g.P.Stops.passes c.args.stops.now) harts before after c.args.h c.index_mut.result.now c.moved_from-attempt.new.hart c.moved_from-attempt.result Reserved c.moved_from-attempt.new.noted.access
          c.in-Reserved.is (running_within harts c.args.h c.requires.running) tried tt);
      kept = rw c.in-Reserved.is (keeps_there c.args.harts.now.items (g.S.ByteStore.memory c.args.store.now) c.args.h c.index_mut.result.now c.moved_from-attempt.result Reserved c.args.noted.now c.moved_from-attempt.new.noted
          c.in-Reserved.is (running_within c.args.harts.now.items c.args.h c.requires.running)
          (subst (λ (x : Hart). KeepsBack (g.S.ByteStore.memory c.args.store.now) x c.moved_from-attempt.result c.args.noted.now c.moved_from-attempt.new.noted) c.index_mut.ensures.value c.moved_from-attempt.ensures.kept));
      held = λ free. cc;
      len = refl;
    }

pub returns-in-Silent-clause-kept : goal.returns-in-Silent-clause-kept
returns-in-Silent-clause-kept g c =
    keeps_there c.args.harts.now.items (g.S.ByteStore.memory c.args.store.now) c.args.h c.index_mut.result.now c.moved_from-attempt.result Silent c.args.noted.now c.moved_from-attempt.new.noted
    c.in-Silent.is (running_within c.args.harts.now.items c.args.h c.requires.running)
    (subst (λ (x : Hart). KeepsBack (g.S.ByteStore.memory c.args.store.now) x c.moved_from-attempt.result c.args.noted.now c.moved_from-attempt.new.noted) c.index_mut.ensures.value c.moved_from-attempt.ensures.kept)

pub returns-in_default-attempt-2-clause-kept : goal.returns-in_default-attempt-2-clause-kept
returns-in_default-attempt-2-clause-kept g c =
    keeps_there c.args.harts.now.items (g.S.ByteStore.memory c.args.store.now) c.args.h c.index_mut.result.now c.moved_from-attempt.result c.moved_from-attempt.result c.args.noted.now c.moved_from-attempt.new.noted
    refl (running_within c.args.harts.now.items c.args.h c.requires.running)
    (subst (λ (x : Hart). KeepsBack (g.S.ByteStore.memory c.args.store.now) x c.moved_from-attempt.result c.args.noted.now c.moved_from-attempt.new.noted) c.index_mut.ensures.value c.moved_from-attempt.ensures.kept)
