use Rattle.std.proofs.Common.{◌≡◌, ◌∙◌, refl, sym, Some, length, ap, arith}
use Rattle.std.specs.Prelude.{slice_get}
use Rattle.std.proofs.lemmas.Option.{slice_get_read}
use Rattle.rv_hart.specs.Step.{memory_after}
use Rattle.rv_hart.proofs.StepLemmas.{able_write, step_made, harts_back, length_back, on_err, on_ok, prints_within, sound_after, writes_next}
use Rattle.rv_hart.specs.internal.Harts.{any_holds}
use Rattle.rv_hart.specs.State.{Guest}
use Rattle.rv_hart.proofs.machine.Machine.take.Goals as goal

pub returns-clause-step : goal.returns-clause-step
returns-clause-step g c =
    let takes = rw (← c.self.view_is) at c.requires.takes in
    let within = rw (← c.self.view_is) at c.requires.hart in
    let found : slice_get c.self.inside.harts.items c.args.h ≡ Some c.index-hart.result.now = slice_get_read c.self.inside.harts.items (length c.self.inside.harts.items) c.args.h c.index-hart.result.now refl within c.index-hart.ensures in
    rw (← c.self.view_is) (step_made _ _ c.args.h c.loaded_by-loaded.result c.index-hart.result.now c.args.action c.written_by-write.result c.event_of-event.result found takes c.loaded_by-loaded.ensures.value c.written_by-write.ensures.value c.event_of-event.ensures
    (harts_back c.self.inside.harts.items c.deref_mut.result.now c.see_and_advance.new.harts c.self.inside.harts.len c.args.h c.loaded_by-loaded.result c.args.action c.written_by-write.result c.index-hart.result.now c.deref_mut.ensures.value c.self.inside.harts.ok.0 found c.see_and_advance.ensures)
    (c.put.ensures ∙ ap (λ m. memory_after m c.written_by-write.result) c.ready.ensures.same)
    c.print.ensures.items)

pub invariant_of-self : goal.invariant_of-self
invariant_of-self g c = rw c.ready.ensures.same c.self.invariant

pub returns-then-is_err-clause-refused : goal.returns-then-is_err-clause-refused
returns-then-is_err-clause-refused g c = rw c.ready.ensures.same c.self.view_is

pub invariant_of-self-2 : goal.invariant_of-self-2
invariant_of-self-2 g c =
    let before = rw (← c.ready.ensures.same) at c.self.invariant.sound in
    let printed = prints_within c.args.action c.self.inside.output.len c.self.inside.limit c.self.invariant.printed (λ print. let room = rw (← c.self.view_is) at (c.requires.room print) in omega (arith, c.self.inside.output.ok.0)) in
    record {
      some = c.self.invariant.some;
      within = c.self.invariant.within;
      sound = rw c.put.ensures (sound_after _ c.written_by-write.result c.memory_is_sound.ensures.stored before);
      printed = rw c.print.ensures.len printed;
      room = rw c.print.ensures.capacity c.self.invariant.room;
      held = λ none. ap any_holds (sym c.deref.ensures.value) ∙ sym c.any_holds-self-inside.ensures ∙ none;
    }

pub returns-clause-harts : goal.returns-clause-harts
returns-clause-harts g c =
    rw (← c.self.view_is) (length_back c.self.inside.harts.items c.see_and_advance.new.harts c.self.inside.harts.len c.self.inside.harts.ok.0)

pub put-requires-clause-able : goal.put-requires-clause-able
put-requires-clause-able g c =
    let able = rw (← c.self.view_is) at c.requires.able in
    rw (c.ready.ensures.same, c.written_by-write.ensures.value) (able_write _ c.loaded_by-loaded.result c.index-hart.result.now c.args.action able)

pub put-requires-clause-ready : goal.put-requires-clause-ready
put-requires-clause-ready g c = on_ok c.ready.result (sym c.is_err.ensures.value ∙ c.if-is_err.false) c.ready.ensures.ready

pub returns-then-is_err-clause-no_memory : goal.returns-then-is_err-clause-no_memory
returns-then-is_err-clause-no_memory g c = on_err c.ready.result (sym c.is_err.ensures.value ∙ c.if-is_err.true) c.ready.ensures.refused

pub returns-then-is_err-clause-harts : goal.returns-then-is_err-clause-harts
returns-then-is_err-clause-harts g c = ap (λ (guest : Guest). length guest.state.harts) c.self.view_is

pub returns-then-is_err-clause-writes : goal.returns-then-is_err-clause-writes
returns-then-is_err-clause-writes g c =
    let takes = rw (← c.self.view_is) at c.requires.takes in
    let within = rw (← c.self.view_is) at c.requires.hart in
    let found : slice_get c.self.inside.harts.items c.args.h ≡ Some c.index-hart.result.now = slice_get_read c.self.inside.harts.items (length c.self.inside.harts.items) c.args.h c.index-hart.result.now refl within c.index-hart.ensures in
    rw (← c.self.view_is) (writes_next _ c.args.h c.loaded_by-loaded.result c.index-hart.result.now c.args.action c.written_by-write.result found takes c.written_by-write.ensures.value
    (on_err c.ready.result (sym c.is_err.ensures.value ∙ c.if-is_err.true) c.ready.ensures.writes))
