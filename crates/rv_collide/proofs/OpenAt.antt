-- Where the open pauses of a list began, and that none of their harts makes a step of a legal list.
use Rattle.std.proofs.Common.{◌≡◌, ℕ, zero, suc, ◌+◌, ◌≤◌, ◌<◌, Bool, true, false, cond, List, [], ◌∷◌, ◌++◌, length, take, Option, Some, None, Ok, refl, sym, ap, subst, ◌∙◌, arith}
use Rattle.std.specs.Prelude.{◌==◌, ◌||◌, not, find, is_some, nat_lt, slice_get, option_and_then, option_map}
use Rattle.std.specs.List.{list_any}
use Rattle.std.specs.Option.{option_or}
use Rattle.std.proofs.lemmas.List.Folds.{find-append}
use Rattle.std.proofs.lemmas.Option.{slice_get_within}
use Rattle.rv_collide.specs.Entries.{stepped_hart, stepped_at}
use Rattle.rv_collide.specs.Forced.{Setting, Turn, forced}
use Rattle.rv_collide.specs.Legal.{IsLegal}
use Rattle.rv_collide.specs.Next.{runs_at}
use Rattle.rv_collide.specs.Pause.{Pause, Opening, resumes, opened, openings_from, openings, opening_of, ended, resumed_hart, pause_ended}
use Rattle.rv_collide.specs.declared.entry.Entry.{Entry}
use Rattle.rv_collide.specs.declared.entry.Entry.TheVariants.{Stepped, Paused, Resumed, Armed, Disarmed}
use Rattle.rv_collide.proofs.LawLemmas.{eq_itself, some_same, wanted}

-- ---- elements of the first entries

get_kept : (xs : List Entry) (n i : ℕ) → i < n → slice_get (take n xs) i ≡ slice_get xs i
get_kept xs zero i below = absurd (omega arith)
get_kept [] (suc n) i below = refl
get_kept (x ∷ xs) (suc n) zero below = refl
get_kept (x ∷ xs) (suc n) (suc i) below = get_kept xs n i (omega arith)

get_longer : (xs : List Entry) (n m i : ℕ) (e : Entry) → n ≤ m → slice_get (take n xs) i ≡ Some e → slice_get (take m xs) i ≡ Some e
get_longer xs zero m i e le there = cc
get_longer [] (suc n) m i e le there = cc
get_longer (x ∷ xs) (suc n) zero i e le there = absurd (omega arith)
get_longer (x ∷ xs) (suc n) (suc m) zero e le there = there
get_longer (x ∷ xs) (suc n) (suc m) (suc i) e le there = get_longer xs n m i e (omega arith) there

get_whole : (xs : List Entry) (n i : ℕ) (e : Entry) → slice_get (take n xs) i ≡ Some e → slice_get xs i ≡ Some e
get_whole xs zero i e there = cc
get_whole [] (suc n) i e there = cc
get_whole (x ∷ xs) (suc n) zero e there = there
get_whole (x ∷ xs) (suc n) (suc i) e there = get_whole xs n i e there

-- ---- no entry resumes the hart

or_first : (a b : Bool) → (a || b) ≡ false → a ≡ false
or_first true b h = cc
or_first false b h = refl

or_second : (a b : Bool) → (a || b) ≡ false → b ≡ false
or_second true b h = cc
or_second false b h = h

none_resumes : (hart : ℕ) (xs : List Entry) → list_any (resumes hart) xs ≡ false → (i : ℕ) (e : Entry) → slice_get xs i ≡ Some e → resumes hart e ≡ false
none_resumes hart [] none i e there = cc
none_resumes hart (x ∷ xs) none zero e there = subst (λ (y : Entry). resumes hart y ≡ false) (some_same x e there) (or_first (resumes hart x) (list_any (resumes hart) xs) none)
none_resumes hart (x ∷ xs) none (suc i) e there = none_resumes hart xs (or_second (resumes hart x) (list_any (resumes hart) xs) none) i e there

none_resume : (hart : ℕ) (xs : List Entry) → ((i : ℕ) (e : Entry) → slice_get xs i ≡ Some e → resumes hart e ≡ false) → list_any (resumes hart) xs ≡ false
none_resume hart [] each = refl
none_resume hart (x ∷ xs) each =
    ap (λ b. b || list_any (resumes hart) xs) (each zero x refl) ∙ none_resume hart xs (λ i e there. each (suc i) e there)

-- ---- an open pause is where its hart was paused and not resumed since

pub record Began (xs : List Entry) (base : ℕ) (o : Opening) : Type 0 where
  pub at : ℕ
  pub place_is : o.place ≡ base + at
  pub pauses : slice_get xs at ≡ Some (Paused o.hart o.slot)
  pub stays : (j : ℕ) (e : Entry) → at < j → slice_get xs j ≡ Some e → resumes o.hart e ≡ false

stays_deeper : (x : Entry) (xs : List Entry) (hart i : ℕ) → ((j : ℕ) (e : Entry) → i < j → slice_get xs j ≡ Some e → resumes hart e ≡ false) → (j : ℕ) (e : Entry) → suc i < j → slice_get (x ∷ xs) j ≡ Some e → resumes hart e ≡ false
stays_deeper x xs hart i stays zero e lt there = absurd (omega arith)
stays_deeper x xs hart i stays (suc j) e lt there = stays j e (omega arith) there

deeper : (x : Entry) (xs : List Entry) (base : ℕ) (o : Opening) → Began xs (base + 1) o → Began (x ∷ xs) base o
deeper x xs base o b = record {
  at = suc b.at;
  place_is = let is = b.place_is in omega arith;
  pauses = b.pauses;
  stays = stays_deeper x xs o.hart b.at b.stays;
}

stays_first : (x : Entry) (xs : List Entry) (hart : ℕ) → list_any (resumes hart) xs ≡ false → (j : ℕ) (e : Entry) → 0 < j → slice_get (x ∷ xs) j ≡ Some e → resumes hart e ≡ false
stays_first x xs hart none zero e lt there = absurd (omega arith)
stays_first x xs hart none (suc j) e lt there = none_resumes hart xs none j e there

abbrev paused : ℕ → Option ℕ → ℕ → Opening
paused hart slot place = record { hart = hart; slot = slot; place = place }

here : (hart : ℕ) (slot : Option ℕ) (xs : List Entry) (base : ℕ) → list_any (resumes hart) xs ≡ false → Began (Paused hart slot ∷ xs) base (paused hart slot base)
here hart slot xs base none = record {
  at = zero;
  place_is = omega arith;
  pauses = refl;
  stays = stays_first (Paused hart slot) xs hart none;
}

began_from : (xs : List Entry) (base hart : ℕ) (o : Opening) → find (λ (p : Opening). p.hart == hart) (openings_from base xs) ≡ Some o → Began xs base o
unfolding openings_from
began_from [] base hart o h = cc
began_from (Stepped k ∷ xs) base hart o h = deeper (Stepped k) xs base o (began_from xs (base + 1) hart o h)
began_from (Resumed k ∷ xs) base hart o h = deeper (Resumed k) xs base o (began_from xs (base + 1) hart o h)
began_from (Armed a ∷ xs) base hart o h = deeper (Armed a) xs base o (began_from xs (base + 1) hart o h)
began_from (Disarmed a ∷ xs) base hart o h = deeper (Disarmed a) xs base o (began_from xs (base + 1) hart o h)
began_from (Paused k slot ∷ xs) base hart o h =
    elim (list_any (resumes k) xs) as (λ b. list_any (resumes k) xs ≡ b → find (λ (p : Opening). p.hart == hart) (cond b [] (paused k slot base ∷ []) ++ openings_from (base + 1) xs) ≡ Some o → Began (Paused k slot ∷ xs) base o) [
      | true ↦ λ any found. deeper (Paused k slot) xs base o (began_from xs (base + 1) hart o found)
      | false ↦ λ any found.
          elim (k == hart) as (λ b. cond b (Some (paused k slot base)) (find (λ (p : Opening). p.hart == hart) (openings_from (base + 1) xs)) ≡ Some o → Began (Paused k slot ∷ xs) base o) [
            | true ↦ λ first. subst (λ (p : Opening). Began (Paused k slot ∷ xs) base p) (some_same (paused k slot base) o first) (here k slot xs base any)
            | false ↦ λ first. deeper (Paused k slot) xs base o (began_from xs (base + 1) hart o first)
          ] found
    ] refl h

some_later : {X : Type 0} → (a b : Option X) → is_some b ≡ true → is_some (option_or a b) ≡ true
some_later None b h = h
some_later (Some x) b h = refl

first_is_open : (hart : ℕ) (slot : Option ℕ) (base : ℕ) (xs : List Entry) (os : List Opening) → list_any (resumes hart) xs ≡ false → is_some (find (λ (p : Opening). p.hart == hart) (opened base (Paused hart slot) xs ++ os)) ≡ true
first_is_open hart slot base xs os none =
    ap (λ b. is_some (find (λ (p : Opening). p.hart == hart) (cond b [] (paused hart slot base ∷ []) ++ os))) none
    ∙ ap (λ b. is_some (cond b (Some (paused hart slot base)) (find (λ (p : Opening). p.hart == hart) os))) (eq_itself hart)

open_from : (xs : List Entry) (base hart i : ℕ) (slot : Option ℕ) → slice_get xs i ≡ Some (Paused hart slot) → ((j : ℕ) (e : Entry) → i < j → slice_get xs j ≡ Some e → resumes hart e ≡ false) → is_some (find (λ (p : Opening). p.hart == hart) (openings_from base xs)) ≡ true
unfolding openings_from
open_from [] base hart i slot pauses stays = cc
open_from (x ∷ xs) base hart zero slot pauses stays =
    subst (λ (y : Entry). is_some (find (λ (p : Opening). p.hart == hart) (opened base y xs ++ openings_from (base + 1) xs)) ≡ true) (sym (some_same x (Paused hart slot) pauses))
    (first_is_open hart slot base xs (openings_from (base + 1) xs) (none_resume hart xs (λ j e there. stays (suc j) e (omega arith) there)))
open_from (x ∷ xs) base hart (suc i) slot pauses stays =
    ap is_some (find-append (λ (p : Opening). p.hart == hart) (opened base x xs) (openings_from (base + 1) xs))
    ∙ some_later (find (λ (p : Opening). p.hart == hart) (opened base x xs)) (find (λ (p : Opening). p.hart == hart) (openings_from (base + 1) xs))
    (open_from xs (base + 1) hart i slot pauses (λ j e lt there. stays (suc j) e (omega arith) there))

-- ---- a pause that has ended

pub record HasEnded (entries : List Entry) (place : ℕ) (pause : Pause) : Type 0 where
  pub inside : place < length entries
  pub ends : pause.resumed_at ≡ place
  pub starts : pause.paused_at < place
  pub pauses : slice_get entries pause.paused_at ≡ Some (Paused pause.hart pause.slot)
  pub stays : (j : ℕ) (e : Entry) → pause.paused_at < j → slice_get (take place entries) j ≡ Some e → resumes pause.hart e ≡ false

below_take : (xs : List Entry) (n i : ℕ) (e : Entry) → slice_get (take n xs) i ≡ Some e → i < n
below_take xs zero i e there = cc
below_take [] (suc n) i e there = cc
below_take (x ∷ xs) (suc n) zero e there = omega arith
below_take (x ∷ xs) (suc n) (suc i) e there = let rest = below_take xs n i e there in omega arith

ended_opening : (entries : List Entry) (place : ℕ) (o : Opening) → place < length entries → Began (take place entries) 0 o → HasEnded entries place (ended place o)
ended_opening entries place o inside b =
    let at_is = b.place_is in
    let same : b.at ≡ o.place = omega arith in
    let pauses : slice_get (take place entries) o.place ≡ Some (Paused o.hart o.slot) = subst (λ (i : ℕ). slice_get (take place entries) i ≡ Some (Paused o.hart o.slot)) same b.pauses in
    record {
      inside = inside;
      ends = refl;
      starts = below_take entries place o.place (Paused o.hart o.slot) pauses;
      pauses = get_whole entries place o.place (Paused o.hart o.slot) pauses;
      stays = λ j e lt there. b.stays j e (omega arith) there;
    }

of_opening : (entries : List Entry) (place hart : ℕ) (pause : Pause) (o : Option Opening) → place < length entries → opening_of (take place entries) hart ≡ o → option_map (ended place) o ≡ Some pause → HasEnded entries place pause
unfolding opening_of openings
of_opening entries place hart pause None inside is h = cc
of_opening entries place hart pause (Some o) inside is h =
    subst (λ (p : Pause). HasEnded entries place p) (some_same (ended place o) pause h) (ended_opening entries place o inside (began_from (take place entries) 0 hart o is))

of_entry : (entries : List Entry) (place : ℕ) (pause : Pause) (e : Option Entry) → slice_get entries place ≡ e → option_and_then (λ hart. option_map (ended place) (opening_of (take place entries) hart)) (option_and_then resumed_hart e) ≡ Some pause → HasEnded entries place pause
of_entry entries place pause None is h = cc
of_entry entries place pause (Some (Stepped hart)) is h = cc
of_entry entries place pause (Some (Paused hart slot)) is h = cc
of_entry entries place pause (Some (Armed address)) is h = cc
of_entry entries place pause (Some (Disarmed address)) is h = cc
of_entry entries place pause (Some (Resumed hart)) is h =
    of_opening entries place hart pause (opening_of (take place entries) hart) (slice_get_within entries place (Resumed hart) is) refl h

pub has_ended : (entries : List Entry) (place : ℕ) (pause : Pause) → pause_ended entries place ≡ Some pause → HasEnded entries place pause
unfolding pause_ended
has_ended entries place pause h = of_entry entries place pause (slice_get entries place) refl h

-- ---- its hart makes no step

step_there : (hart : ℕ) (e : Option Entry) → option_and_then stepped_hart e ≡ Some hart → e ≡ Some (Stepped hart)
step_there hart None h = cc
step_there hart (Some (Stepped k)) h = cc
step_there hart (Some (Paused k slot)) h = cc
step_there hart (Some (Resumed k)) h = cc
step_there hart (Some (Armed address)) h = cc
step_there hart (Some (Disarmed address)) h = cc

turn_not_paused : (setting : Setting) (entries : List Entry) (hart : ℕ) (e : Entry) → forced setting entries (Turn hart) ≡ Ok e → not (is_some (opening_of entries hart)) ≡ true
unfolding forced
turn_not_paused setting entries hart e h =
    (wanted (not (is_some (opening_of entries hart))) _ _ e (wanted (runs_at setting.start entries (length entries) hart) _ _ e (wanted (nat_lt hart setting.plan.harts) _ _ e h).1).1).0

open_still : (entries : List Entry) (place : ℕ) (pause : Pause) → HasEnded entries place pause → (q : ℕ) → pause.paused_at < q → q ≤ place → is_some (opening_of (take q entries) pause.hart) ≡ true
unfolding opening_of openings
open_still entries place pause p q after le =
    open_from (take q entries) 0 pause.hart pause.paused_at pause.slot
    (get_kept entries q pause.paused_at after ∙ p.pauses)
    (λ j e lt there. p.stays j e lt (get_longer entries q place j e le there))

never_both : (b : Bool) → b ≡ true → not b ≡ true → ⊥
never_both true is isnt = cc
never_both false is isnt = cc

pub step_not_paused : (setting : Setting) (entries : List Entry) (place : ℕ) (pause : Pause) → IsLegal setting entries → HasEnded entries place pause → (q : ℕ) → pause.paused_at < q → q ≤ place → stepped_at entries q ≡ Some pause.hart → ⊥
unfolding stepped_at
step_not_paused setting entries place pause legal p q after le steps =
    let there = step_there pause.hart (slice_get entries q) steps in
    never_both (is_some (opening_of (take q entries) pause.hart)) (open_still entries place pause p q after le)
    (turn_not_paused setting (take q entries) pause.hart (Stepped pause.hart) (legal q (Stepped pause.hart) there))

pub no_step_at : (entries : List Entry) (place : ℕ) (pause : Pause) → HasEnded entries place pause → stepped_at entries pause.paused_at ≡ None
unfolding stepped_at
no_step_at entries place pause p = ap (option_and_then stepped_hart) p.pauses
