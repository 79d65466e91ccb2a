-- A hart polls where its steps load data.
use Rattle.std.proofs.Common.{◌≡◌, ℕ, inl, inr, Bool, true, false, Some, List, [], ◌∷◌, length, refl, sym, ap, subst, ◌∙◌}
use Rattle.std.specs.Prelude.{◌⊎◌, ◌||◌}
use Rattle.rv_hart.specs.State.{State}
use Rattle.rv_hart.specs.Step.{step_of}
use Rattle.rv_hart.specs.declared.access.Event.{Event}
use Rattle.rv_waits.specs.Touches.{Loads, is_read}
use Rattle.rv_stuck.specs.Acts.{polls}
use Rattle.rv_stuck.specs.StuckEnd.{StepsLead}
use Rattle.rv_stuck.specs.StuckEndLaws.{PollsWhereItLoads}
use Rattle.rv_stuck.specs.declared.stuck.RoundStep.{RoundStep}

or_cases : (a b : Bool) → (a || b) ≡ true → (a ≡ true) ⊎ (b ≡ true)
or_cases true b e = inl refl
or_cases false b e = inr e

or_left : (a b : Bool) → a ≡ true → (a || b) ≡ true
or_left true b e = refl
or_left false b e = cc

or_right : (a b : Bool) → b ≡ true → (a || b) ≡ true
or_right true b e = refl
or_right false b e = e

false_true : false ≡ true → ⊥
false_true e = cc

-- there is one step of a hart from a state
same_step : (s t u : State) (h : ℕ) (e f : Event) → step_of s h ≡ Some (e, t) → step_of s h ≡ Some (f, u) → t ≡ u
same_step s t u h e f one two =
    let both : Some (e, t) ≡ Some (f, u) = sym one ∙ two in
    let pair : (e, t) ≡ (f, u) = cc in
    ap (λ (p : Event × State). p.1) pair

loads_where : (h : ℕ) (steps : List RoundStep) (s t : State) → StepsLead h steps s t → (polls steps ≡ true → Loads h (length steps) s) × (Loads h (length steps) s → polls steps ≡ true)
loads_where h [] s t lead = ((λ e. absurd (false_true e)), (λ l. absurd l))
loads_where h (step ∷ steps) s t (next, is, rest) =
    let more = loads_where h steps next t rest in
    let to : (is_read step.access || polls steps) ≡ true → Loads h (length (step ∷ steps)) s = λ e.
    elim (or_cases (is_read step.access) (polls steps) e) [
      | inl now ↦ inl (ap is_read (sym is.next.accesses) ∙ now)
      | inr later ↦ inr (next, is.made, more.0 later)
    ] in
    let from : Loads h (length (step ∷ steps)) s → (is_read step.access || polls steps) ≡ true = λ l.
    elim l [
      | inl now ↦ or_left (is_read step.access) (polls steps) (ap is_read is.next.accesses ∙ now)
      | inr later ↦
          let met : later.0 ≡ next = same_step s later.0 next h later.1.0 is.made.0 later.1.1 is.made.1 in
          or_right (is_read step.access) (polls steps) (more.1 (subst (Loads h (length steps)) met later.2))
    ] in
    (to, from)

pub polls_where_it_loads : PollsWhereItLoads
polls_where_it_loads s h steps (t, lead) = loads_where h steps s t lead
