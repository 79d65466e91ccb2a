-- In a legal list each pause has an access and each resumption an ending.
use Rattle.std.proofs.Common.{◌≡◌, ℕ, zero, suc, ◌+◌, true, false, cond, List, [], ◌∷◌, length, map, take, Option, Some, None, Result, Ok, refl, sym, ap, subst, ◌∙◌, arith}
use Rattle.std.specs.Prelude.{◌==◌, not, is_some, IsSome, IsSomeAnd, nat_lt, filter_map, find, slice_get, option_and_then, option_map}
use Rattle.std.specs.List.{cons_option, range_with_len}
use Rattle.std.proofs.lemmas.Bool.Decides.{nat_tests}
use Rattle.rv_collide.specs.Entries.{places, steps}
use Rattle.rv_collide.specs.First.{paused_access}
use Rattle.rv_collide.specs.Forced.{Setting, Turn, Resume, forced, turn_entry}
use Rattle.rv_collide.specs.Laws.{PausesHaveAccesses, ResumptionsHaveEndings, OneEndingForEach}
use Rattle.rv_collide.specs.Legal.{IsLegal}
use Rattle.rv_collide.specs.Next.{next, plain, runs_at}
use Rattle.rv_collide.specs.Pause.{Opening, Pause, ended, opening_of, openings, pause_ended, resumed_hart}
use Rattle.rv_collide.specs.StateAt.{state_at}
use Rattle.rv_collide.specs.Verdict.{ending, ending_at, endings}
use Rattle.rv_collide.specs.declared.ending.Ending.{Ending}
use Rattle.rv_collide.specs.declared.entry.Entry.{Entry}
use Rattle.rv_collide.specs.declared.entry.Entry.TheVariants.{Stepped, Paused, Resumed, Armed, Disarmed}
use Rattle.rv_collide.specs.declared.refused.Refused.{Refused}
use Rattle.rv_hart.specs.NextAccess.{next_access, next_plain}
use Rattle.rv_hart.specs.State.{State}
use Rattle.rv_hart.specs.declared.access.Access.{Access}
use Rattle.rv_collide.proofs.ArmedAccesses.{plain_next}
use Rattle.rv_collide.proofs.LawLemmas.{has, some_same, wanted}
use Rattle.rv_collide.proofs.OpenAt.{has_ended}
use Rattle.rv_collide.proofs.Prefix.{state_end}

-- ---- accesses

plain_is_next : (s : Option State) (hart : ℕ) → IsSome (option_and_then (λ t. next_plain t hart) s) → IsSome (option_and_then (λ t. next_access t hart) s)
plain_is_next None hart some = some
plain_is_next (Some s) hart some =
    let access = has (next_plain s hart) some in
    subst IsSome (sym (plain_next s hart access.0 access.1)) refl

stepped_is_not_paused : {P : Type 0} (hart other : ℕ) (slot : Option ℕ) → Stepped other ≡ Paused hart slot → P
stepped_is_not_paused hart other slot h = cc

pauses_at : (setting : Setting) (entries : List Entry) (other hart : ℕ) (slot : Option ℕ) (access : Option Access) → turn_entry setting entries other access ≡ Paused hart slot → IsSome access
pauses_at setting entries other hart slot None h = stepped_is_not_paused hart other slot h
pauses_at setting entries other hart slot (Some access) h = refl

ok_same : (a b : Entry) (r : Result Entry Refused) → r ≡ Ok a → r ≡ Ok b → a ≡ b
ok_same a b r here there = cc

turn_is : (setting : Setting) (entries : List Entry) (hart : ℕ) (e : Entry) → forced setting entries (Turn hart) ≡ Ok e → turn_entry setting entries hart (plain setting.start entries (length entries) hart) ≡ e
unfolding forced
turn_is setting entries hart e h =
    ok_same _ e _ refl
    (wanted (nat_lt (length (steps entries)) setting.plan.steps) _ _ e
    (wanted (not (is_some (opening_of entries hart))) _ _ e (wanted (runs_at setting.start entries (length entries) hart) _ _ e (wanted (nat_lt hart setting.plan.harts) _ _ e h).1).1).1).1

next_at_end : (setting : Setting) (entries : List Entry) (hart : ℕ) (slot : Option ℕ) → forced setting entries (Turn hart) ≡ Ok (Paused hart slot) → IsSome (next setting.start entries (length entries) hart)
unfolding next plain
next_at_end setting entries hart slot h =
    plain_is_next (state_at setting.start entries (length entries)) hart
    (pauses_at setting entries hart hart slot (plain setting.start entries (length entries) hart) (turn_is setting entries hart (Paused hart slot) h))

-- a place of the list is the end of the entries before it
next_there : (start : State) (entries : List Entry) (place hart : ℕ) → next start (take place entries) (length (take place entries)) hart ≡ next start entries place hart
unfolding next state_at
next_there start entries place hart = ap (option_and_then (λ t. next_access t hart)) (state_end start (take place entries))

pub has_access : PausesHaveAccesses
has_access setting entries legal place hart slot there =
    subst IsSome (next_there setting.start entries place hart) (next_at_end setting (take place entries) hart slot (legal place (Paused hart slot) there))

-- ---- endings

resume_is : (setting : Setting) (entries : List Entry) (hart : ℕ) (e : Entry) → forced setting entries (Resume hart) ≡ Ok e → is_some (opening_of entries hart) ≡ true
unfolding forced
resume_is setting entries hart e h =
    (wanted (is_some (opening_of entries hart)) _ _ e (wanted (nat_lt hart setting.plan.harts) _ _ e h).1).0

found_hart : (hart : ℕ) (os : List Opening) (o : Opening) → find (λ (p : Opening). p.hart == hart) os ≡ Some o → o.hart ≡ hart
found_hart hart [] o h = cc
found_hart hart (x ∷ os) o h =
    elim (x.hart == hart) as (λ b. (x.hart == hart) ≡ b → cond b (Some x) (find (λ (p : Opening). p.hart == hart) os) ≡ Some o → o.hart ≡ hart) [
      | true ↦ λ own found. let same : x.hart ≡ hart = grind (arith, nat_tests) in sym (ap (λ (p : Opening). p.hart) (some_same x o found)) ∙ same
      | false ↦ λ other found. found_hart hart os o found
    ] refl h

opening_hart : (entries : List Entry) (hart : ℕ) (o : Opening) → opening_of entries hart ≡ Some o → o.hart ≡ hart
unfolding opening_of
opening_hart entries hart o h = found_hart hart (openings entries) o h

ends_there : (entries : List Entry) (place hart : ℕ) (o : Opening) → slice_get entries place ≡ Some (Resumed hart) → opening_of (take place entries) hart ≡ Some o → pause_ended entries place ≡ Some (ended place o)
unfolding pause_ended
ends_there entries place hart o there opens =
    ap (λ (e : Option Entry). option_and_then (λ h. option_map (ended place) (opening_of (take place entries) h)) (option_and_then resumed_hart e)) there
    ∙ ap (option_map (ended place)) opens

abbrev IsOf : ℕ → Option Ending → Type 0
IsOf hart told = IsSomeAnd told (λ told. told.hart ≡ hart)

told_of : (start : State) (entries : List Entry) (place hart : ℕ) (pause : Pause) → pause_ended entries place ≡ Some pause → IsSome (paused_access start entries pause) → pause.hart ≡ hart → IsOf hart (ending_at start entries place)
unfolding ending_at ending
told_of start entries place hart pause ends some own =
    let access = has (paused_access start entries pause) some in
    subst (IsOf hart)
    (sym (ap (option_and_then (λ pause. option_map (ending start entries pause) (paused_access start entries pause))) ends ∙ ap (option_map (ending start entries pause)) access.1))
    own

access_of : (setting : Setting) (entries : List Entry) (place : ℕ) (pause : Pause) → IsLegal setting entries → pause_ended entries place ≡ Some pause → IsSome (paused_access setting.start entries pause)
unfolding paused_access
access_of setting entries place pause legal ends =
    has_access setting entries legal pause.paused_at pause.hart pause.slot (has_ended entries place pause ends).pauses

pub has_ending : ResumptionsHaveEndings
has_ending setting entries legal place hart there =
    let o = has (opening_of (take place entries) hart) (resume_is setting (take place entries) hart (Resumed hart) (legal place (Resumed hart) there)) in
    let ends = ends_there entries place hart o.0 there o.1 in
    told_of setting.start entries place hart (ended place o.0) ends (access_of setting entries place (ended place o.0) legal ends) (opening_hart (take place entries) hart o.0 o.1)

-- ---- in their order

none_ended : (entries : List Entry) (place : ℕ) (e : Entry) → slice_get entries place ≡ Some e → resumed_hart e ≡ None → pause_ended entries place ≡ None
unfolding pause_ended
none_ended entries place e there none =
    ap (λ (x : Option Entry). option_and_then (λ h. option_map (ended place) (opening_of (take place entries) h)) (option_and_then resumed_hart x)) there
    ∙ ap (λ (x : Option ℕ). option_and_then (λ h. option_map (ended place) (opening_of (take place entries) h)) x) none

none_told : (start : State) (entries : List Entry) (place : ℕ) (e : Entry) → slice_get entries place ≡ Some e → resumed_hart e ≡ None → option_map (λ (told : Ending). told.hart) (ending_at start entries place) ≡ None
unfolding ending_at
none_told start entries place e there none =
    ap (λ (p : Option Pause). option_map (λ (told : Ending). told.hart) (option_and_then (λ pause. option_map (ending start entries pause) (paused_access start entries pause)) p)) (none_ended entries place e there none)

hart_of : (hart : ℕ) (told : Option Ending) → IsOf hart told → option_map (λ (told : Ending). told.hart) told ≡ Some hart
hart_of hart None own = absurd own
hart_of hart (Some told) own = ap Some own

module _ (setting : Setting) (entries : List Entry) (legal : IsLegal setting entries) where
  told_hart : (place : ℕ) (e : Entry) → slice_get entries place ≡ Some e → option_map (λ (told : Ending). told.hart) (ending_at setting.start entries place) ≡ resumed_hart e
  told_hart place (Resumed hart) there = hart_of hart (ending_at setting.start entries place) (has_ending setting entries legal place hart there)
  told_hart place (Stepped hart) there = none_told setting.start entries place (Stepped hart) there refl
  told_hart place (Paused hart slot) there = none_told setting.start entries place (Paused hart slot) there refl
  told_hart place (Armed address) there = none_told setting.start entries place (Armed address) there refl
  told_hart place (Disarmed address) there = none_told setting.start entries place (Disarmed address) there refl

map_told : (told : Option Ending) (rest : List Ending) → map (λ (told : Ending). told.hart) (cons_option told rest) ≡ cons_option (option_map (λ (told : Ending). told.hart) told) (map (λ (told : Ending). told.hart) rest)
map_told None rest = refl
map_told (Some told) rest = refl

-- endings from a place on, where the entries from there on are these
in_order : (told : ℕ → Option Ending) (later : List Entry) (from : ℕ) → ((i : ℕ) (e : Entry) → slice_get later i ≡ Some e → option_map (λ (told : Ending). told.hart) (told (from + i)) ≡ resumed_hart e) → map (λ (told : Ending). told.hart) (filter_map told (range_with_len from (length later))) ≡ filter_map resumed_hart later
in_order told [] from each = refl
in_order told (e ∷ later) from each =
    let here : from + 0 ≡ from = omega arith in
    let next : (i : ℕ) → from + suc i ≡ (from + 1) + i = λ i. omega arith in
    map_told (told from) (filter_map told (range_with_len (from + 1) (length later)))
    ∙ ap (λ (o : Option ℕ). cons_option o (map (λ (told : Ending). told.hart) (filter_map told (range_with_len (from + 1) (length later))))) (ap (λ (k : ℕ). option_map (λ (told : Ending). told.hart) (told k)) (sym here) ∙ each zero e refl)
    ∙ ap (cons_option (resumed_hart e)) (in_order told later (from + 1) (λ i x there. ap (λ (k : ℕ). option_map (λ (told : Ending). told.hart) (told k)) (sym (next i)) ∙ each (suc i) x there))

pub one_for_each : OneEndingForEach
unfolding endings places
one_for_each setting entries legal =
    in_order (ending_at setting.start entries) entries 0 (λ i e there. ap (λ (k : ℕ). option_map (λ (told : Ending). told.hart) (ending_at setting.start entries k)) (zero_add i) ∙ told_hart setting entries legal i e there)
  where
    zero_add : (i : ℕ) → 0 + i ≡ i
    zero_add i = omega arith
