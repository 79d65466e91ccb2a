use Rattle.std.proofs.Common.{◌≡◌, ℕ, ◌<◌, List, [], ◌∷◌, length, Some, refl, sym, ap, subst, ◌∙◌, arith, rules}
use Rattle.rv_hart.specs.NextAccess.{accessed}
use Rattle.rv_hart.specs.declared.access.Event.TheVariants.{Moved}
use Rattle.rv_walk.specs.Burst.{IsShortened, longer}
use Rattle.rv_walk.specs.NearPair.{WasMade}
use Rattle.rv_walk.specs.Walked.{Walked, IsAt}
use Rattle.rv_walk.specs.internal.Inside.{AreOf, IsInside}
use Rattle.rv_walk.proofs.LongerLemmas.{accesses_longer, last_made, with_steps}
use Rattle.rv_walk.proofs.ResultLemmas.{on_err}
use Rattle.rv_walk.proofs.StandsLemmas.{at_run, runs_within}
use Rattle.rv_walk.proofs.StepLemmas.{inside_after, only_memory}
use Rattle.rv_walk.proofs.walk.Walk.advance.Goals as goal

pub step-requires-clause-hart : goal.step-requires-clause-hart
step-requires-clause-hart g c =
    let at : IsAt c.args.self.now c.self.inside.machine.state = subst (λ (v : Walked). IsAt v c.self.inside.machine.state) c.self.view_is (at_run _ _ c.self.invariant.reached) in
    runs_within c.self.inside.machine.state.harts c.args.h (c.requires.runs c.self.inside.machine.state at)

pub memory_of-requires : goal.memory_of-requires
memory_of-requires g c =
    let at : IsAt c.args.self.now c.self.inside.machine.state = subst (λ (v : Walked). IsAt v c.self.inside.machine.state) c.self.view_is (at_run _ _ c.self.invariant.reached) in
    let left : length c.self.inside.harts.items < c.self.inside.most = subst (λ (v : Walked). length v.harts < v.most) (sym c.self.view_is) c.requires.left in
    let prints = c.self.invariant.prints in
    let room : length c.self.inside.machine.state.output < c.self.inside.machine.limit = omega arith in
    only_memory _ c.self.inside.machine c.step.new.machine c.args.h c.in-Err.fault c.in-Err.ensures.step (c.requires.runs c.self.inside.machine.state at) room

pub invariant_of-self-in_err-see : goal.invariant_of-self-in_err-see
invariant_of-self-in_err-see g c =
    let own : Walked = record {
      start = c.self.inside.begin.value.state;
      harts = c.self.inside.harts.items;
      most = c.self.inside.most;
      sites = c.self.inside.sites.now;
    } in
    let left : length c.self.inside.harts.items < c.self.inside.most = subst (λ (v : Walked). length v.harts < v.most) (sym c.self.view_is) c.requires.left in
    let event = c.in-Ok.event in
    let moved : c.in-Ok.event ≡ Moved c.in-Moved-Some.field-0 = c.in-Moved-Some.is in
    let noted : c.in-Moved-Some.field-0 ≡ Some c.in-Moved-Some.access = search rules in
    let is : accessed c.in-Ok.event ≡ Some c.in-Moved-Some.access = ap accessed moved ∙ noted in
    let size : c.len-place.result ≡ length c.self.inside.harts.items = c.len-place.ensures ∙ c.self.inside.harts.ok.0 in
    let made : WasMade (with_steps own (c.args.h ∷ [])) (record { place = c.len-place.result; hart = c.args.h; access = c.in-Moved-Some.access }) = subst (λ (n : ℕ). WasMade (with_steps own (c.args.h ∷ [])) (record { place = n; hart = c.args.h; access = c.in-Moved-Some.access })) (sym size) (last_made c.reservations_and_accesses.ensures.next own c.self.inside.machine.state c.step.new.machine.state c.args.h c.in-Ok.event c.in-Moved-Some.access c.self.invariant.reached c.in-Ok.ensures.step.step is) in
    let seen : AreOf (with_steps own (c.args.h ∷ [])) c.see.new.self = c.see.ensures (with_steps own (c.args.h ∷ [])) refl made (accesses_longer own (c.args.h ∷ []) c.self.inside.accesses c.self.invariant.seen) in
    subst (λ (hs : List ℕ). IsInside (record {
      start = c.self.inside.begin.value.state;
      harts = hs;
      most = c.self.inside.most;
      sites = c.self.inside.sites.now;
    }) c.step.new.machine c.step.new.self c.push_reserved.new.self c.see.new.self) (sym c.push_reserved.ensures.items)
    (inside_after c.what_no_step_does.ensures.output own c.self.inside.machine c.step.new.machine c.self.inside.watch c.step.new.self c.self.inside.harts c.push_reserved.new.self c.self.inside.accesses c.see.new.self c.args.h c.in-Ok.event c.self.invariant left c.in-Ok.ensures.step.step c.in-Ok.ensures.step.limit c.in-Ok.ensures.watch c.push_reserved.ensures.capacity seen)

pub invariant_of-self-in-Some-1 : goal.invariant_of-self-in-Some-1
invariant_of-self-in-Some-1 g c =
    let own : Walked = record {
      start = c.self.inside.begin.value.state;
      harts = c.self.inside.harts.items;
      most = c.self.inside.most;
      sites = c.self.inside.sites.now;
    } in
    let left : length c.self.inside.harts.items < c.self.inside.most = subst (λ (v : Walked). length v.harts < v.most) (sym c.self.view_is) c.requires.left in
    let event = c.in-Ok.event in
    let moved : c.in-Ok.event ≡ Moved c.in-Moved-Some.field-0 = c.in-Moved-Some.is in
    let noted : c.in-Moved-Some.field-0 ≡ Some c.in-Moved-Some.access = search rules in
    let is : accessed c.in-Ok.event ≡ Some c.in-Moved-Some.access = ap accessed moved ∙ noted in
    let size : c.len-place.result ≡ length c.self.inside.harts.items = c.len-place.ensures ∙ c.self.inside.harts.ok.0 in
    let made : WasMade (with_steps own (c.args.h ∷ [])) (record { place = c.len-place.result; hart = c.args.h; access = c.in-Moved-Some.access }) = subst (λ (n : ℕ). WasMade (with_steps own (c.args.h ∷ [])) (record { place = n; hart = c.args.h; access = c.in-Moved-Some.access })) (sym size) (last_made c.reservations_and_accesses.ensures.next own c.self.inside.machine.state c.step.new.machine.state c.args.h c.in-Ok.event c.in-Moved-Some.access c.self.invariant.reached c.in-Ok.ensures.step.step is) in
    let seen : AreOf (with_steps own (c.args.h ∷ [])) c.see.new.self = c.see.ensures (with_steps own (c.args.h ∷ [])) refl made (accesses_longer own (c.args.h ∷ []) c.self.inside.accesses c.self.invariant.seen) in
    subst (λ (hs : List ℕ). IsInside (record {
      start = c.self.inside.begin.value.state;
      harts = hs;
      most = c.self.inside.most;
      sites = c.self.inside.sites.now;
    }) c.step.new.machine c.step.new.self c.push_reserved.new.self c.see.new.self) (sym c.push_reserved.ensures.items)
    (inside_after c.what_no_step_does.ensures.output own c.self.inside.machine c.step.new.machine c.self.inside.watch c.step.new.self c.self.inside.harts c.push_reserved.new.self c.self.inside.accesses c.see.new.self c.args.h c.in-Ok.event c.self.invariant left c.in-Ok.ensures.step.step c.in-Ok.ensures.step.limit c.in-Ok.ensures.watch c.push_reserved.ensures.capacity seen)

pub invariant_of-self-in_default : goal.invariant_of-self-in_default
invariant_of-self-in_default g c =
    let own : Walked = record {
      start = c.self.inside.begin.value.state;
      harts = c.self.inside.harts.items;
      most = c.self.inside.most;
      sites = c.self.inside.sites.now;
    } in
    let left : length c.self.inside.harts.items < c.self.inside.most = subst (λ (v : Walked). length v.harts < v.most) (sym c.self.view_is) c.requires.left in
    let seen : AreOf (with_steps own (c.args.h ∷ [])) c.self.inside.accesses = accesses_longer own (c.args.h ∷ []) c.self.inside.accesses c.self.invariant.seen in
    subst (λ (hs : List ℕ). IsInside (record {
      start = c.self.inside.begin.value.state;
      harts = hs;
      most = c.self.inside.most;
      sites = c.self.inside.sites.now;
    }) c.step.new.machine c.step.new.self c.push_reserved.new.self c.self.inside.accesses) (sym c.push_reserved.ensures.items)
    (inside_after c.what_no_step_does.ensures.output own c.self.inside.machine c.step.new.machine c.self.inside.watch c.step.new.self c.self.inside.harts c.push_reserved.new.self c.self.inside.accesses c.self.inside.accesses c.args.h c.in-Ok.event c.self.invariant left c.in-Ok.ensures.step.step c.in-Ok.ensures.step.limit c.in-Ok.ensures.watch c.push_reserved.ensures.capacity seen)

pub invariant_of-self-in_default-2 : goal.invariant_of-self-in_default-2
invariant_of-self-in_default-2 g c =
    let own : Walked = record {
      start = c.self.inside.begin.value.state;
      harts = c.self.inside.harts.items;
      most = c.self.inside.most;
      sites = c.self.inside.sites.now;
    } in
    let left : length c.self.inside.harts.items < c.self.inside.most = subst (λ (v : Walked). length v.harts < v.most) (sym c.self.view_is) c.requires.left in
    let seen : AreOf (with_steps own (c.args.h ∷ [])) c.self.inside.accesses = accesses_longer own (c.args.h ∷ []) c.self.inside.accesses c.self.invariant.seen in
    subst (λ (hs : List ℕ). IsInside (record {
      start = c.self.inside.begin.value.state;
      harts = hs;
      most = c.self.inside.most;
      sites = c.self.inside.sites.now;
    }) c.step.new.machine c.step.new.self c.push_reserved.new.self c.self.inside.accesses) (sym c.push_reserved.ensures.items)
    (inside_after c.what_no_step_does.ensures.output own c.self.inside.machine c.step.new.machine c.self.inside.watch c.step.new.self c.self.inside.harts c.push_reserved.new.self c.self.inside.accesses c.self.inside.accesses c.args.h c.in-Ok.event c.self.invariant left c.in-Ok.ensures.step.step c.in-Ok.ensures.step.limit c.in-Ok.ensures.watch c.push_reserved.ensures.capacity seen)

pub returns-in_err-see-clause-refused : goal.returns-in_err-see-clause-refused
returns-in_err-see-clause-refused g c =
    let own : Walked = record {
      start = c.self.inside.begin.value.state;
      harts = c.self.inside.harts.items;
      most = c.self.inside.most;
      sites = c.self.inside.sites.now;
    } in
    let grown : with_steps own (c.args.h ∷ []) ≡ longer c.args.self.now c.args.h 1 = ap (λ (v : Walked). longer v c.args.h 1) c.self.view_is in
    let it : IsShortened c.args.self.now (record {
      start = c.self.inside.begin.value.state;
      harts = c.push_reserved.new.self.items;
      most = c.self.inside.most;
      sites = c.self.inside.sites.now;
    }) c.args.h 1 = record {
      turns = 1;
      within = omega arith;
      walk = ap (λ (hs : List ℕ). record own { harts = hs }) c.push_reserved.ensures.items ∙ grown;
    } in
    on_err c.from_residual.result _ it
