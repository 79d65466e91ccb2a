-- One more quiet step of a hart: what it loads and touches is added to what the earlier ones did.
use Rattle.std.proofs.Common.{◌≡◌, ℕ, zero, suc, ◌+◌, ◌≤◌, ◌⊎◌, inl, inr, Bool, true, false, Option, Some, refl, sym, ap, subst, ◌∙◌, add-one}
use Rattle.std.specs.Prelude.{slice_get, IsTrue, ◌||◌}
use Rattle.rv_hart.specs.NextAccess.{next_access}
use Rattle.rv_hart.specs.State.{State}
use Rattle.rv_hart.specs.StepLaws.{SameButReservation}
use Rattle.rv_hart.specs.declared.access.Access.{Access}
use Rattle.rv_hart.specs.declared.access.Event.TheVariants.{Moved}
use Rattle.rv_hart.specs.declared.hart.Hart.{Hart}
use Rattle.rv_waits.specs.Round.{IsQuietStep, IsRound, StepsQuietly}
use Rattle.rv_waits.specs.Touched.{covers}
use Rattle.rv_waits.specs.Touches.{Loads, SomeStep, Touches, in_access, in_instruction, is_among, is_read, touches_next}
use Rattle.rv_waits.specs.declared.round.Seen.{Seen}
use Rattle.rv_waits.specs.declared.touched.Touched.{Touched}
use Rattle.rv_waits.specs.Tried.{IsTried}
use Rattle.rv_waits.specs.internal.Added.{IsAdded}
use Rattle.rv_waits.proofs.AlikeLemmas.{where_it_was}
use Rattle.rv_waits.proofs.RoundLemmas.{steps_snoc}
use Rattle.rv_waits.proofs.StepLemmas.{same_step}

-- ---- one of some steps, and of one more

some_step_snoc : (P : State → Type 0) (h n : ℕ) (s t : State) → StepsQuietly h n s t → SomeStep P h (suc n) s → SomeStep P h n s ⊎ P t
some_step_snoc P h zero s t steps (inl p) = inr (subst P steps p)
some_step_snoc P h zero s t steps (inr (next, made, none)) = absurd none
some_step_snoc P h (suc n) s t (next, quiet, rest) (inl p) = inl (inl p)
some_step_snoc P h (suc n) s t (next, quiet, rest) (inr (other, made, more)) =
    let met : other ≡ next = same_step s other next h made.0 (Moved quiet.moves.0) made.1 quiet.moves.1 in
    elim (some_step_snoc P h n next t rest (subst (SomeStep P h (suc n)) met more)) [
      | inl q ↦ inl (inr (next, (Moved quiet.moves.0, quiet.moves.1), q))
      | inr p ↦ inr p
    ]

some_step_more : (P : State → Type 0) (h n : ℕ) (s : State) → SomeStep P h n s → SomeStep P h (suc n) s
some_step_more P h zero s none = absurd none
some_step_more P h (suc n) s (inl p) = inl p
some_step_more P h (suc n) s (inr (next, made, more)) = inr (next, made, some_step_more P h n next more)

some_step_last : (P : State → Type 0) (h n : ℕ) (s t : State) → StepsQuietly h n s t → P t → SomeStep P h (suc n) s
some_step_last P h zero s t steps p = inl (subst P (sym steps) p)
some_step_last P h (suc n) s t (next, quiet, rest) p =
    inr (next, (Moved quiet.moves.0, quiet.moves.1), some_step_last P h n next t rest p)

-- ---- what was tried

false_true : false ≡ true → ⊥
false_true e = cc

pub tried_none : (h : ℕ) (s : State) (seen : Seen) → seen.polls ≡ false → IsTried h 0 s s seen
tried_none h s seen none = record { steps = refl; loads = (λ e. absurd (false_true (sym none ∙ e)), λ l. absurd l); touched = λ address t. absurd t }

or_cases : (a b : Bool) → (a || b) ≡ true → (a ≡ true) ⊎ (b ≡ true)
or_cases true b e = inl refl
or_cases false b e = inr e

or_left : (a b : Bool) → a ≡ true → (a || b) ≡ true
or_left a b e = rw e refl

or_right : (a b : Bool) → b ≡ true → (a || b) ≡ true
or_right true b e = refl
or_right false b e = e

-- what the step touches is covered
step_covered : (s : State) (h address : ℕ) (hart : Hart) (access : Option Access) (touched : Touched) → slice_get s.harts h ≡ Some hart → access ≡ next_access s h → (is_among hart.pc 4 address ≡ true → covers touched address ≡ true) → (in_access access address ≡ true → covers touched address ≡ true) → touches_next s h address ≡ true → covers touched address ≡ true
step_covered s h address hart access touched there made instruction accessed e =
    elim (or_cases (in_instruction (slice_get s.harts h) address) (in_access (next_access s h) address) e) [
      | inl i ↦ instruction (ap (λ (o : Option Hart). in_instruction o address) (sym there) ∙ i)
      | inr d ↦ accessed (ap (λ (a : Option Access). in_access a address) made ∙ d)
    ]

tried_suc : (h n : ℕ) (s t u : State) (hart : Hart) (access : Option Access) (old new : Seen) → IsTried h n s t old → IsQuietStep h t u → slice_get t.harts h ≡ Some hart → access ≡ next_access t h → IsAdded old.touched new.touched hart.pc access → new.polls ≡ (old.polls || is_read access) → IsTried h (suc n) s u new
tried_suc h n s t u hart access old new tried quiet there made added both =
    let Reads : State → Type 0 = λ x. is_read (next_access x h) ≡ true in
    let to : IsTrue new.polls → Loads h (suc n) s = λ e.
    elim (or_cases old.polls (is_read access) (sym both ∙ e)) [
      | inl before ↦ some_step_more Reads h n s (tried.loads.0 before)
      | inr now ↦ some_step_last Reads h n s t tried.steps (ap is_read (sym made) ∙ now)
    ] in
    let from : Loads h (suc n) s → IsTrue new.polls = λ l.
    elim (some_step_snoc Reads h n s t tried.steps l) [
      | inl before ↦ both ∙ or_left old.polls (is_read access) (tried.loads.1 before)
      | inr now ↦ both ∙ or_right old.polls (is_read access) (ap is_read made ∙ now)
    ] in
    let touched : (address : ℕ) → Touches h (suc n) s address → covers new.touched address ≡ true = λ address e.
    elim (some_step_snoc (λ x. touches_next x h address ≡ true) h n s t tried.steps e) [
      | inl before ↦ added.kept address (tried.touched address before)
      | inr now ↦ step_covered t h address hart access new.touched there made (added.instruction address) (added.accessed address) now
    ] in
    record { steps = steps_snoc h n s t u tried.steps quiet; loads = (to, from); touched = touched }

pub tried_more : (h : ℕ) (t u : State) (hart : Hart) (access : Option Access) (old new : Seen) → IsQuietStep h t u → slice_get t.harts h ≡ Some hart → access ≡ next_access t h → IsAdded old.touched new.touched hart.pc access → new.polls ≡ (old.polls || is_read access) → (n : ℕ) → (s : State) → IsTried h n s t old → IsTried h (n + 1) s u new
tried_more h t u hart access old new quiet there made added both n s tried =
    rw add-one (tried_suc h n s t u hart access old new tried quiet there made added both)

pub round_tried : (h n : ℕ) (s t : State) (one other : Hart) (seen : Seen) → IsTried h n s t seen → 1 ≤ n → slice_get s.harts h ≡ Some one → slice_get t.harts h ≡ Some other → SameButReservation one other → IsRound s h n
round_tried h n s t one other seen tried some there there_too same =
    record { some = some; back = (t, tried.steps, where_it_was h s t one other (record { there = there; there_too = there_too; same = same })) }
