-- An anchor stays one: after its hart's quiet steps, and after other harts' steps that leave what it touched.
use Rattle.std.proofs.Common.{◌≡◌, ◌≢◌, ℕ, zero, suc, ◌+◌, ◌≤◌, inl, inr, Bool, true, false, Option, Some, refl, sym, ap, subst, ◌∙◌}
use Rattle.std.specs.Prelude.{slice_get, IsTrue, ◌||◌, ◌↔◌}
use Rattle.rv_hart.specs.Locality.{LocalityLaw, SamePermissions}
use Rattle.rv_hart.specs.NextAccess.{next_access}
use Rattle.rv_hart.specs.State.{State}
use Rattle.rv_hart.specs.Step.{step_of}
use Rattle.rv_hart.specs.StepLaws.{OtherHartsStay, SameButReservation}
use Rattle.rv_hart.specs.declared.access.Access.{Access}
use Rattle.rv_hart.specs.declared.access.Event.{Event}
use Rattle.rv_hart.specs.declared.access.Event.TheVariants.{Moved}
use Rattle.rv_hart.specs.declared.hart.Hart.{Hart}
use Rattle.rv_memory.specs.Memory.{byte}
use Rattle.rv_memory.specs.MemoryLaws.{StoreKeepsOtherBytes, StoreKeepsPermissions}
use Rattle.rv_waits.specs.Round.{IsQuietStep, IsRound, IsWhereItWas, StepsQuietly}
use Rattle.rv_waits.specs.Touched.{covers}
use Rattle.rv_waits.specs.Touches.{Loads, SomeStep, Touches, in_access, in_instruction, is_among, is_read, touches_next}
use Rattle.rv_waits.specs.Tried.{IsTried}
use Rattle.rv_waits.specs.Watch.{IsAnchor}
use Rattle.rv_waits.specs.declared.round.Seen.{Seen}
use Rattle.rv_waits.specs.declared.watch.Anchor.{Anchor}
use Rattle.rv_waits.specs.internal.Added.{IsAdded}
use Rattle.rv_waits.proofs.AlikeLemmas.{SameTouchedIn, in_both, same_byte, same_permissions, step_alike, steps_alike, where_back, where_it_was, where_on}
use Rattle.rv_waits.proofs.RoundLemmas.{steps_memory, where_left}
use Rattle.rv_waits.proofs.StepLemmas.{same_step, step_keeps_permissions}
use Rattle.rv_waits.proofs.TriedLemmas.{tried_none, tried_more}

-- ---- a round from a state that is alike is the same one

-- whether a step is so depends only on its hart and its access
abbrev IsOfStep : (State → Type 0) → ℕ → Type 0
IsOfStep P h = (x y : State) → IsWhereItWas h x y → next_access y h ≡ next_access x h → P x ↔ P y

some_same : LocalityLaw → StoreKeepsOtherBytes → (P : State → Type 0) (h : ℕ) → IsOfStep P h → (n : ℕ) (s u t : State) → StepsQuietly h n s u → IsWhereItWas h s t → SamePermissions s.memory t.memory → SameTouchedIn n s h t.memory → SomeStep P h n s ↔ SomeStep P h n t
some_same local keeps P h same zero s u t steps w permissions bytes = (λ none. none, λ none. none)
some_same local keeps P h same (suc n) s u t (next, quiet, rest) w permissions bytes =
    let first = step_alike local keeps h s next t quiet w permissions (λ address e. bytes address (inl e)) in
    let kept : SamePermissions next.memory first.0.memory = same_permissions s.memory next.memory t.memory first.0.memory quiet.memory first.1.memory permissions in
    let touched : SameTouchedIn n next h first.0.memory = λ address e. same_byte s.memory next.memory t.memory first.0.memory address quiet.memory first.1.memory (bytes address (inr (next, (Moved quiet.moves.0, quiet.moves.1), e))) in
    let more = some_same local keeps P h same n next u first.0 rest first.2 kept touched in
    let here = same s t w first.3 in
    let to : SomeStep P h (suc n) s → SomeStep P h (suc n) t = λ one. elim one [
      | inl p ↦ inl (here.0 p)
      | inr (other, made, later) ↦
          inr (first.0, (Moved first.1.moves.0, first.1.moves.1), more.0 (subst (SomeStep P h n) (same_step s other next h made.0 (Moved quiet.moves.0) made.1 quiet.moves.1) later))
    ] in
    let from : SomeStep P h (suc n) t → SomeStep P h (suc n) s = λ one. elim one [
      | inl p ↦ inl (here.1 p)
      | inr (other, made, later) ↦
          inr (next, (Moved quiet.moves.0, quiet.moves.1), more.1 (subst (SomeStep P h n) (same_step t other first.0 h made.0 (Moved first.1.moves.0) made.1 first.1.moves.1) later))
    ] in
    (to, from)

same_touches : (h address : ℕ) (x y : State) → IsWhereItWas h x y → next_access y h ≡ next_access x h → touches_next y h address ≡ touches_next x h address
same_touches h address x y w access =
    let b = in_both h x y w in
    let instruction : in_instruction (slice_get y.harts h) address ≡ in_instruction (slice_get x.harts h) address =
    ap (λ (o : Option Hart). in_instruction o address) b.2.there_too ∙ ap (λ (pc : ℕ). is_among pc 4 address) b.2.same.pc ∙ sym (ap (λ (o : Option Hart). in_instruction o address) b.2.there) in
    ap (λ (a : Bool). a || in_access (next_access y h) address) instruction ∙ ap (λ (a : Option Access). in_instruction (slice_get x.harts h) address || in_access a address) access

touching : (h address : ℕ) → IsOfStep (λ x. touches_next x h address ≡ true) h
touching h address x y w access =
    let same = same_touches h address x y w access in
    (λ e. same ∙ e, λ e. sym same ∙ e)

loading : (h : ℕ) → IsOfStep (λ x. is_read (next_access x h) ≡ true) h
loading h x y w access = (λ e. ap is_read access ∙ e, λ e. sym (ap is_read access) ∙ e)

abbrev TriedToo : ℕ → ℕ → State → State → Seen → Type 0
TriedToo h n u t seen = (v : State) × IsTried h n t v seen × IsWhereItWas h u v

tried_alike : LocalityLaw → StoreKeepsOtherBytes → (h n : ℕ) (s u t : State) (seen : Seen) → IsTried h n s u seen → IsWhereItWas h s t → SamePermissions s.memory t.memory → SameTouchedIn n s h t.memory → TriedToo h n u t seen
tried_alike local keeps h n s u t seen tried w permissions bytes =
    let found = steps_alike local keeps h n s u t tried.steps w permissions bytes in
    let loads = some_same local keeps (λ x. is_read (next_access x h) ≡ true) h (loading h) n s u t tried.steps w permissions bytes in
    let touches : (address : ℕ) → Touches h n t address → covers seen.touched address ≡ true = λ address e.
    tried.touched address ((some_same local keeps (λ x. touches_next x h address ≡ true) h (touching h address) n s u t tried.steps w permissions bytes).1 e) in
    (found.0, record { steps = found.1; loads = (λ e. loads.0 (tried.loads.0 e), λ l. tried.loads.1 (loads.1 l)); touched = touches }, found.2)

-- ---- an anchor

-- the hart as it is now
pub anchor_now : (s : State) (h : ℕ) (hart : Hart) (anchor : Anchor) → slice_get s.harts h ≡ Some hart → anchor.hart ≡ hart → anchor.steps ≡ 0 → anchor.seen.polls ≡ false → IsAnchor s h anchor
anchor_now s h hart anchor there same none unseen =
    let here : slice_get s.harts h ≡ Some anchor.hart = there ∙ ap Some (sym same) in
    let tried : IsTried h anchor.steps s s anchor.seen = subst (λ (n : ℕ). IsTried h n s s anchor.seen) (sym none) (tried_none h s anchor.seen unseen) in
    record { from = s; to = s; there = here; memory = refl; tried = tried; here = where_it_was h s s hart hart (record { there = there; there_too = there; same = record { registers = refl; pc = refl; status = refl } }) }

-- its hart has made one more quiet step
pub anchor_more : LocalityLaw → StoreKeepsOtherBytes → (s t : State) (h : ℕ) (hart : Hart) (access : Option Access) (old new : Anchor) → IsAnchor s h old → IsQuietStep h s t → slice_get s.harts h ≡ Some hart → access ≡ next_access s h → new.hart ≡ old.hart → new.steps ≡ old.steps + 1 → IsAdded old.seen.touched new.seen.touched hart.pc access → new.seen.polls ≡ (old.seen.polls || is_read access) → IsAnchor t h new
anchor_more local keeps s t h hart access old new a quiet there made same_hart steps added polls =
    let memory : a.to.memory ≡ s.memory = steps_memory h old.steps a.from a.to a.tried.steps ∙ a.memory in
    let on = step_alike local keeps h s t a.to quiet (where_back h a.to s a.here) (λ address size need. rw memory refl) (λ address e. rw memory refl) in
    let b = in_both h a.to s a.here in
    let both : Some b.1 ≡ Some hart = sym b.2.there_too ∙ there in
    let met : b.1 ≡ hart = cc in
    let pc : b.0.pc ≡ hart.pc = sym b.2.same.pc ∙ ap (λ (x : Hart). x.pc) met in
    let added_too : IsAdded old.seen.touched new.seen.touched b.0.pc access = subst (λ (k : ℕ). IsAdded old.seen.touched new.seen.touched k access) (sym pc) added in
    let tried = tried_more h a.to on.0 b.0 access old.seen new.seen on.1 b.2.there (made ∙ sym on.3) added_too polls old.steps a.from a.tried in
    record {
      from = a.from;
      to = on.0;
      there = a.there ∙ ap Some (sym same_hart);
      memory = a.memory ∙ sym quiet.memory;
      tried = subst (λ (n : ℕ). IsTried h n a.from on.0 new.seen) (sym steps) tried;
      here = where_back h t on.0 on.2;
    }

-- another hart has made a step that left what it touched
pub anchor_left : LocalityLaw → OtherHartsStay → StoreKeepsOtherBytes → StoreKeepsPermissions → (s t : State) (h j : ℕ) (event : Event) (anchor : Anchor) → IsAnchor s h anchor → step_of s j ≡ Some (event, t) → j ≢ h → ((address : ℕ) → covers anchor.seen.touched address ≡ true → byte t.memory address ≡ byte s.memory address) → IsAnchor t h anchor
anchor_left local stay keeps permissions s t h j event anchor a step ne left =
    let from : State = record a.from { memory = t.memory } in
    let w : IsWhereItWas h a.from from = where_it_was h a.from from anchor.hart anchor.hart (record { there = a.there; there_too = a.there; same = record { registers = refl; pc = refl; status = refl } }) in
    let allowed : SamePermissions a.from.memory t.memory = same_permissions s.memory a.from.memory t.memory t.memory a.memory refl (step_keeps_permissions permissions s t j event step) in
    let bytes : SameTouchedIn anchor.steps a.from h t.memory = λ address e. same_byte s.memory a.from.memory t.memory t.memory address a.memory refl (left address (a.tried.touched address e)) in
    let on = tried_alike local keeps h anchor.steps a.from a.to from anchor.seen a.tried w allowed bytes in
    let stays : IsWhereItWas h s t = where_left stay s t a.to h j event (where_back h a.to s a.here) step ne in
    record {
      from = from;
      to = on.0;
      there = a.there;
      memory = refl;
      tried = on.1;
      here = where_on h on.0 a.to t (where_back h a.to on.0 on.2) (where_on h a.to s t a.here stays);
    }

-- ---- a hart that has come back to its anchor waits

pub record IsFound (h : ℕ) (s : State) (n : ℕ) (seen : Seen) : Type 0 where
  pub round : IsRound s h n
  pub loads : IsTrue seen.polls ↔ Loads h n s
  pub touched : (address : ℕ) → Touches h n s address → covers seen.touched address ≡ true

pub anchor_found : LocalityLaw → StoreKeepsOtherBytes → (s : State) (h : ℕ) (hart : Hart) (anchor : Anchor) → IsAnchor s h anchor → 1 ≤ anchor.steps → slice_get s.harts h ≡ Some hart → SameButReservation anchor.hart hart → IsFound h s anchor.steps anchor.seen
anchor_found local keeps s h hart anchor a some there same =
    let w : IsWhereItWas h a.from s = where_it_was h a.from s anchor.hart hart (record { there = a.there; there_too = there; same = same }) in
    let on = tried_alike local keeps h anchor.steps a.from a.to s anchor.seen a.tried w (λ address size need. rw a.memory refl) (λ address e. rw a.memory refl) in
    let back : IsWhereItWas h s on.0 = where_on h s a.to on.0 (where_back h a.to s a.here) on.2 in
    record { round = record { some = some; back = (on.0, on.1.steps, back) }; loads = on.1.loads; touched = on.1.touched }
