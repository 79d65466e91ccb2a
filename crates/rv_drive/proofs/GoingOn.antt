-- Open pauses after one more entry, with the steps of other harts since.
use Rattle.std.proofs.Common.{◌≡◌, ◌≢◌, ℕ, suc, ◌+◌, ◌≤◌, ◌⊎◌, inl, inr, Bool, true, false, cond, List, [], ◌∷◌, ◌++◌, length, drop, Option, Some, None, refl, sym, ap, subst, ◌∙◌, arith, zero-add}
use Rattle.std.specs.Prelude.{◌==◌, not, filter, find, filter_map, count_by}
use Rattle.std.specs.List.{list_any}
use Rattle.std.specs.Option.{option_or}
use Rattle.std.proofs.lemmas.Bool.{cases_eq}
use Rattle.std.proofs.lemmas.Bool.Decides.{nat_tests}
use Rattle.std.proofs.lemmas.List.{append-nil, drop-append-le}
use Rattle.std.proofs.lemmas.List.Elements.{filter_map-append}
use Rattle.std.proofs.lemmas.List.Folds.{find-append}
use Rattle.std.proofs.lemmas.List.Sums.{sum_by-append}
use Rattle.std.proofs.Math.Seq.{drop-append_seam}
use Rattle.rv_drive.specs.Able.{others_steps}
use Rattle.rv_drive.specs.DriverLaws.{Begins, GoesOn, PausesGoOn, is_others_step}
use Rattle.rv_collide.specs.Entries.{stepped_hart, steps}
use Rattle.rv_collide.specs.Pause.{Opening, opened, opening_of, openings, openings_from, resumes}
use Rattle.rv_collide.specs.declared.entry.Entry.{Entry}
use Rattle.rv_collide.specs.declared.entry.Entry.TheVariants.{Stepped, Paused, Resumed, Armed, Disarmed}
use Rattle.rv_collide.specs.ListLaws.{OthersStayOpen, ResumptionEndsOne}

-- ---- the steps of other harts since

counted : (hart : ℕ) (entry : Entry) → count_by (λ other. not (other == hart)) (filter_map stepped_hart (entry ∷ [])) ≡ cond (is_others_step hart entry) 1 0
counted hart (Stepped other) = zero-add (cond (not (other == hart)) 1 0)
counted hart (Paused other slot) = refl
counted hart (Resumed other) = refl
counted hart (Armed address) = refl
counted hart (Disarmed address) = refl

one_more : (entries : List Entry) (entry : Entry) (opening : Opening) → opening.place ≤ length entries → others_steps (entries ++ entry ∷ []) opening ≡ others_steps entries opening + cond (is_others_step opening.hart entry) 1 0
unfolding others_steps steps
one_more entries entry opening le =
    let p : ℕ → Bool = λ (other : ℕ). not (other == opening.hart) in
    ap (λ xs. count_by p (filter_map stepped_hart xs)) (drop-append-le opening.place entries (entry ∷ []) le)
    ∙ ap (count_by p) (filter_map-append stepped_hart (drop opening.place entries) (entry ∷ []))
    ∙ sum_by-append (λ x. cond (p x) 1 0) (filter_map stepped_hart (drop opening.place entries)) (filter_map stepped_hart (entry ∷ []))
    ∙ ap (λ n. count_by p (filter_map stepped_hart (drop opening.place entries)) + n) (counted opening.hart entry)

-- ---- what is found

same_opening : (x y : Opening) → Some x ≡ Some y → x ≡ y
same_opening x y h = cc

find_passes : (p : Opening → Bool) (os : List Opening) (o : Opening) → find p os ≡ Some o → p o ≡ true
find_passes p [] o h = cc
find_passes p (x ∷ os) o h =
    elim (p x) as (λ b. p x ≡ b → cond b (Some x) (find p os) ≡ Some o → p o ≡ true) [
      | true ↦ λ passes first. subst (λ (y : Opening). p y ≡ true) (same_opening x o first) passes
      | false ↦ λ fails later. find_passes p os o later
    ] refl h

equal : (a b : ℕ) → (a == b) ≡ true → a ≡ b
equal a b h = grind (arith, nat_tests)

not_equal : (a b : ℕ) → a ≢ b → (a == b) ≡ false
not_equal a b h = grind (arith, nat_tests)

abbrev of_hart : ℕ → Opening → Bool
of_hart hart o = o.hart == hart

open_place : (base : ℕ) (xs : List Entry) (hart : ℕ) (o : Opening) → find (of_hart hart) (openings_from base xs) ≡ Some o → o.place ≤ base + length xs
unfolding openings_from
open_place base [] hart o h = cc
open_place base (Stepped k ∷ xs) hart o h = (let at = open_place (base + 1) xs hart o h in omega arith)
open_place base (Resumed k ∷ xs) hart o h = (let at = open_place (base + 1) xs hart o h in omega arith)
open_place base (Armed a ∷ xs) hart o h = (let at = open_place (base + 1) xs hart o h in omega arith)
open_place base (Disarmed a ∷ xs) hart o h = (let at = open_place (base + 1) xs hart o h in omega arith)
open_place base (Paused k slot ∷ xs) hart o h =
    elim (list_any (resumes k) xs) as (λ b. find (of_hart hart) (cond b [] (record { hart = k; slot = slot; place = base } ∷ []) ++ openings_from (base + 1) xs) ≡ Some o → o.place ≤ base + suc (length xs)) [
      | true ↦ λ later. (let at = open_place (base + 1) xs hart o later in omega arith)
      | false ↦ λ found.
          elim (k == hart) as (λ b. cond b (Some (record { hart = k; slot = slot; place = base })) (find (of_hart hart) (openings_from (base + 1) xs)) ≡ Some o → o.place ≤ base + suc (length xs)) [
            | true ↦ λ first. (let at : base ≡ o.place = ap (λ (x : Opening). x.place) (same_opening (record { hart = k; slot = slot; place = base }) o first) in omega arith)
            | false ↦ λ later. (let at = open_place (base + 1) xs hart o later in omega arith)
          ] found
    ] h

abbrev without_hart : ℕ → List Opening → List Opening
without_hart hart os = filter (λ (o : Opening). not (o.hart == hart)) os

none_left : (k : ℕ) (os : List Opening) → find (of_hart k) (without_hart k os) ≡ None
none_left k [] = refl
none_left k (x ∷ os) =
    elim (x.hart == k) as (λ b. (x.hart == k) ≡ b → find (of_hart k) (cond (not b) (x ∷ without_hart k os) (without_hart k os)) ≡ None) [
      | true ↦ λ same. none_left k os
      | false ↦ λ other. ap (λ b. cond b (Some x) (find (of_hart k) (without_hart k os))) other ∙ none_left k os
    ] refl

still_found : (k hart : ℕ) (os : List Opening) (o : Opening) → hart ≢ k → find (of_hart hart) (without_hart k os) ≡ Some o → find (of_hart hart) os ≡ Some o
still_found k hart [] o ne h = h
still_found k hart (x ∷ os) o ne h =
    elim (x.hart == k) as (λ b. (x.hart == k) ≡ b → find (of_hart hart) (cond (not b) (x ∷ without_hart k os) (without_hart k os)) ≡ Some o → find (of_hart hart) (x ∷ os) ≡ Some o) [
      | true ↦ λ same found. ap (λ b. cond b (Some x) (find (of_hart hart) os)) (not_equal x.hart hart (λ e. ne (sym e ∙ equal x.hart k same))) ∙ still_found k hart os o ne found
      | false ↦ λ other found.
          elim (x.hart == hart) as (λ b. cond b (Some x) (find (of_hart hart) (without_hart k os)) ≡ Some o → cond b (Some x) (find (of_hart hart) os) ≡ Some o) [
            | true ↦ λ first. first
            | false ↦ λ later. still_found k hart os o ne later
          ] found
    ] refl h

none_is_some : (o : Opening) → None ≡ Some o → ⊥
none_is_some o h = cc

found_before : (k hart : ℕ) (os : List Opening) (o : Opening) → find (of_hart hart) (without_hart k os) ≡ Some o → find (of_hart hart) os ≡ Some o
found_before k hart os o h =
    elim (cases_eq hart k) [
      | inl same ↦ absurd (none_is_some o (sym (none_left k os) ∙ ap (λ (n : ℕ). find (of_hart n) (without_hart k os)) (sym same) ∙ h))
      | inr ne ↦ still_found k hart os o ne h
    ]

-- ---- the law

goes_on : (entries : List Entry) (entry : Entry) (hart : ℕ) (o : Opening) → opening_of entries hart ≡ Some o → GoesOn entries entry hart o
unfolding opening_of openings
goes_on entries entry hart o h =
    let at = open_place 0 entries hart o h in
    let own : o.hart ≡ hart = equal o.hart hart (find_passes (of_hart hart) (openings_from 0 entries) o h) in
    record {
      was_open = h;
      steps = one_more entries entry o (omega arith) ∙ ap (λ (k : ℕ). others_steps entries o + cond (is_others_step k entry) 1 0) own;
    }

or_cases : (a b : Option Opening) (o : Opening) → option_or a b ≡ Some o → (a ≡ Some o) ⊎ (b ≡ Some o)
or_cases None b o h = inr h
or_cases (Some x) b o h = inl h

just_begun : (entries : List Entry) (k : ℕ) (slot : Option ℕ) (hart : ℕ) (o : Opening) → find (of_hart hart) (record { hart = k; slot = slot; place = length entries } ∷ []) ≡ Some o → Begins entries (Paused k slot) hart o
unfolding others_steps steps
just_begun entries k slot hart o h =
    elim (k == hart) as (λ b. (k == hart) ≡ b → cond b (Some (record { hart = k; slot = slot; place = length entries })) None ≡ Some o → Begins entries (Paused k slot) hart o) [
      | true ↦ λ same found.
          (let place : length entries ≡ o.place = ap (λ (x : Opening). x.place) (same_opening (record { hart = k; slot = slot; place = length entries }) o found) in
          let here : o.place ≡ length entries = sym place in
          record {
            slot = slot;
            pauses = ap (λ (n : ℕ). Paused n slot) (equal k hart same);
            steps = ap (λ (n : ℕ). count_by (λ other. not (other == o.hart)) (filter_map stepped_hart (drop n (entries ++ Paused k slot ∷ [])))) here ∙ ap (λ xs. count_by (λ other. not (other == o.hart)) (filter_map stepped_hart xs)) (drop-append_seam entries (Paused k slot ∷ []));
          })
      | false ↦ λ other found. absurd (none_is_some o found)
    ] refl h

pub going_on : OthersStayOpen → ResumptionEndsOne → PausesGoOn
unfolding opening_of openings
going_on stay ends entries (Stepped k) hart o h =
    inl (goes_on entries (Stepped k) hart o (sym (ap (find (of_hart hart)) (stay entries (Stepped k) (λ n. refl) ∙ append-nil (openings_from 0 entries))) ∙ h))
going_on stay ends entries (Armed a) hart o h =
    inl (goes_on entries (Armed a) hart o (sym (ap (find (of_hart hart)) (stay entries (Armed a) (λ n. refl) ∙ append-nil (openings_from 0 entries))) ∙ h))
going_on stay ends entries (Disarmed a) hart o h =
    inl (goes_on entries (Disarmed a) hart o (sym (ap (find (of_hart hart)) (stay entries (Disarmed a) (λ n. refl) ∙ append-nil (openings_from 0 entries))) ∙ h))
going_on stay ends entries (Resumed k) hart o h =
    inl (goes_on entries (Resumed k) hart o (found_before k hart (openings_from 0 entries) o (sym (ap (find (of_hart hart)) (ends entries k)) ∙ h)))
going_on stay ends entries (Paused k slot) hart o h =
    elim (or_cases (find (of_hart hart) (openings_from 0 entries)) (find (of_hart hart) (opened (length entries) (Paused k slot) [])) o (sym (ap (find (of_hart hart)) (stay entries (Paused k slot) (λ n. refl)) ∙ find-append (of_hart hart) (openings_from 0 entries) (opened (length entries) (Paused k slot) [])) ∙ h)) [
      | inl before ↦ inl (goes_on entries (Paused k slot) hart o before)
      | inr begun ↦ inr (just_begun entries k slot hart o begun)
    ]
