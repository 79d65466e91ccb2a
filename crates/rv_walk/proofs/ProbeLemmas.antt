-- A probe that has one entry more.
use Rattle.std.proofs.Common.{◌≡◌, ◌⊎◌, inl, inr, ℕ, zero, suc, ◌+◌, ◌-◌, ◌≤◌, ◌<◌, Bool, true, false, cond, Option, Some, None, List, [], ◌∷◌, ◌++◌, length, take, refl, sym, ap, subst, ◌∙◌, arith, append-nil}
use Rattle.std.specs.Prelude.{Ok, Err, Result, find, is_some, nat_lt, slice_get, ◌==◌, not, if◌then◌else◌}
use Rattle.std.specs.Option.{option_or}
use Rattle.std.proofs.lemmas.Bool.{eq-eqb, lt-ltb}
use Rattle.std.proofs.lemmas.List.{take-append-le}
use Rattle.std.proofs.lemmas.List.Elements.{filter_map-append}
use Rattle.std.proofs.lemmas.List.Folds.{find-append}
use Rattle.std.proofs.Math.Seq.{take-length}
use Rattle.rv_collide.specs.Begun.{Begun, added, setting_of}
use Rattle.rv_collide.specs.Entries.{stepped_hart, steps}
use Rattle.rv_collide.specs.Forced.{Setting, Turn, Resume, forced, turn_entry}
use Rattle.rv_collide.specs.Next.{plain, runs_at}
use Rattle.rv_collide.specs.ListLaws.{OthersStayOpen}
use Rattle.rv_collide.specs.Pause.{Opening, opened, opening_of, openings, resumes}
use Rattle.rv_collide.specs.StateAt.{state_at}
use Rattle.rv_collide.specs.declared.entry.Entry.{Entry}
use Rattle.rv_collide.specs.declared.entry.Entry.TheVariants.{Stepped, Paused, Resumed, Armed, Disarmed}
use Rattle.rv_collide.specs.declared.refused.Refused.{Refused}
use Rattle.rv_collide.specs.declared.refused.Refused.TheVariants.{NoHart, NotPaused, NotRunning, StepsSpent, Paused as Is_paused}
use Rattle.rv_drive.specs.Able.{others_steps}
use Rattle.rv_drive.specs.DriverLaws.{PausesGoOn, is_others_step}
use Rattle.rv_hart.specs.Run.{run}
use Rattle.rv_hart.specs.State.{State}
use Rattle.rv_hart.specs.Step.{step_of}
use Rattle.rv_hart.specs.declared.access.Event.{Event}
use Rattle.rv_memory.specs.Chain.{◌>>=◌, want}
use Rattle.rv_walk.specs.Probe.{Aim, IsAimedAt, IsProbe, MayEnd}
use Rattle.rv_walk.specs.declared.probe.Held.{Held}
use Rattle.rv_walk.specs.internal.Probing.{IsHeld, IsNow}
use Rattle.rv_walk.proofs.LongerLemmas.{run_more}

-- ---- one entry more

-- what stands at a place of the longer list
old_or_new : {X : Type 0} → (xs : List X) (x y : X) (i : ℕ) → slice_get (xs ++ x ∷ []) i ≡ Some y → ((i < length xs) × (slice_get xs i ≡ Some y)) ⊎ ((i ≡ length xs) × (y ≡ x))
old_or_new [] x y zero is = inr (refl, cc)
old_or_new [] x y (suc i) is = cc
old_or_new (z ∷ xs) x y zero is = inl (omega arith, is)
old_or_new (z ∷ xs) x y (suc i) is = elim (old_or_new xs x y i is) [
  | inl it ↦ inl (let l : i < length xs = it.0 in omega arith, it.1)
  | inr it ↦ inr (ap suc it.0, it.1)
]

take_same : (xs : List Entry) (x : Entry) (place : ℕ) → place ≤ length xs → take place (xs ++ x ∷ []) ≡ take place xs
take_same xs x place within = take-append-le place xs (x ∷ []) within

state_same : (start : State) (xs : List Entry) (x : Entry) (place : ℕ) → place ≤ length xs → state_at start (xs ++ x ∷ []) place ≡ state_at start xs place
unfolding state_at
state_same start xs x place within = ap (λ (es : List Entry). run start (steps es)) (take_same xs x place within)

end_stays : (core : Begun) (x : Entry) (place hart : ℕ) → place ≤ length core.entries → MayEnd core place hart → MayEnd (added core x) place hart
end_stays core x place hart within may =
    let same : take place (core.entries ++ x ∷ []) ≡ take place core.entries = take_same core.entries x place within in
    elim may [
      | inl due ↦ inl (due.0, ap (λ es. opening_of es hart) same ∙ due.1, ap (λ es. others_steps es due.0) same ∙ due.2)
      | inr rest ↦ elim rest [
        | inl spent ↦ inr (inl (ap (λ es. length (steps es)) same ∙ spent))
        | inr others ↦ inr (inr (λ s at other apart. others s (sym (state_same core.start core.entries x place within) ∙ at) other apart))
      ]
    ]

pub grown : (aim : Aim) (core : Begun) (x : Entry) → IsProbe aim core → ((address : ℕ) → x ≡ Armed address → IsAimedAt aim address) → ((hart : ℕ) → x ≡ Resumed hart → MayEnd core (length core.entries) hart) → IsProbe aim (added core x)
grown aim core x probe arms ends = record {
  armed = λ place address is. elim (old_or_new core.entries x (Armed address) place is) [
    | inl it ↦ probe.armed place address it.1
    | inr it ↦ arms address (sym it.1)
  ];
  ended = λ place hart is. elim (old_or_new core.entries x (Resumed hart) place is) [
    | inl it ↦ let l : place < length core.entries = it.0 in end_stays core x place hart (omega arith) (probe.ended place hart it.1)
    | inr it ↦ let e : place ≡ length core.entries = it.0 in
        subst (λ (p : ℕ). MayEnd (added core x) p hart) (sym e) (end_stays core x (length core.entries) hart (omega arith) (ends hart (sym it.1)))
  ];
}

-- ---- the state at the end

steps_more : (xs : List Entry) (x : Entry) → steps (xs ++ x ∷ []) ≡ steps xs ++ steps (x ∷ [])
unfolding steps
steps_more xs x = filter_map-append stepped_hart xs (x ∷ [])

now_run : (start : State) (xs : List Entry) → state_at start xs (length xs) ≡ run start (steps xs)
unfolding state_at
now_run start xs = ap (λ (es : List Entry). run start (steps es)) (take-length xs)

no_steps : (x : Entry) → stepped_hart x ≡ None → steps (x ∷ []) ≡ []
unfolding steps
no_steps (Stepped h) is = cc
no_steps (Paused h slot) is = refl
no_steps (Resumed h) is = refl
no_steps (Armed a) is = refl
no_steps (Disarmed a) is = refl

pub now_same : (core : Begun) (x : Entry) (s : State) → stepped_hart x ≡ None → IsNow (added core x) s → IsNow core s
now_same core x s none now =
    let e : steps (core.entries ++ x ∷ []) ≡ steps core.entries = steps_more core.entries x ∙ ap (λ hs. steps core.entries ++ hs) (no_steps x none) ∙ append-nil (steps core.entries) in
    now_run core.start core.entries ∙ ap (run core.start) (sym e) ∙ sym (now_run core.start (core.entries ++ x ∷ [])) ∙ now

one_step : (h : ℕ) → steps (Stepped h ∷ []) ≡ h ∷ []
unfolding steps
one_step h = refl

pub now_step : (core : Begun) (h : ℕ) (event : Event) (s t u : State) → IsNow core s → step_of s h ≡ Some (event, t) → IsNow (added core (Stepped h)) u → t ≡ u
now_step core h event s t u now step after =
    let was : run core.start (steps core.entries) ≡ Some s = sym (now_run core.start core.entries) ∙ now in
    let on : run core.start (steps core.entries ++ h ∷ []) ≡ Some t = run_more core.start s t (steps core.entries) h event was step in
    let more : steps (core.entries ++ Stepped h ∷ []) ≡ steps core.entries ++ h ∷ [] = steps_more core.entries (Stepped h) ∙ ap (λ hs. steps core.entries ++ hs) (one_step h) in
    let e : Some t ≡ Some u = sym on ∙ ap (run core.start) (sym more) ∙ sym (now_run core.start (core.entries ++ Stepped h ∷ [])) ∙ after in
    cc

-- ---- the pause that is open

stays_open : OthersStayOpen → (xs : List Entry) (x : Entry) (hart : ℕ) (opening : Opening) → ((other : ℕ) → resumes other x ≡ false) → opening_of xs hart ≡ Some opening → opening_of (xs ++ x ∷ []) hart ≡ Some opening
unfolding opening_of
stays_open stay xs x hart opening none open_is =
    let p : Opening → Bool = λ o. o.hart == hart in
    let e : find p (openings (xs ++ x ∷ [])) ≡ option_or (find p (openings xs)) (find p (opened (length xs) x [])) =
    ap (find p) (stay xs x none) ∙ find-append p (openings xs) (opened (length xs) x []) in
    e ∙ ap (λ (o : Option Opening). option_or o (find p (opened (length xs) x []))) open_is

-- of a pause that is open the entry counts, where it is another hart's step
counts_on : OthersStayOpen → PausesGoOn → (xs : List Entry) (x : Entry) (hart : ℕ) (opening : Opening) → ((other : ℕ) → resumes other x ≡ false) → ((slot : Option ℕ) → x ≡ Paused hart slot → ⊥) → opening_of xs hart ≡ Some opening → others_steps (xs ++ x ∷ []) opening ≡ others_steps xs opening + (if is_others_step hart x then 1 else 0)
counts_on stay on xs x hart opening none other open_is = elim (on xs x hart opening (stays_open stay xs x hart opening none open_is)) [
  | inl goes ↦ goes.steps
  | inr begins ↦ absurd (other begins.slot begins.pauses)
]

pub held_on : OthersStayOpen → PausesGoOn → (core : Begun) (x : Entry) (held : Held) → ((other : ℕ) → resumes other x ≡ false) → ((slot : Option ℕ) → x ≡ Paused held.hart slot → ⊥) → is_others_step held.hart x ≡ false → IsHeld core held → IsHeld (added core x) held
held_on stay on core x held none other no_step is =
    let counted = counts_on stay on core.entries x held.hart is.0 none other is.1 in
    let same : others_steps (core.entries ++ x ∷ []) is.0 ≡ others_steps core.entries is.0 + 0 = counted ∙ ap (λ (b : Bool). others_steps core.entries is.0 + (if b then 1 else 0)) no_step in
    let sum : others_steps core.entries is.0 + held.left ≡ core.plan.pause = is.2 in
    (is.0, stays_open stay core.entries x held.hart is.0 none is.1, omega arith, is.3)

pub held_less : OthersStayOpen → PausesGoOn → (core : Begun) (h : ℕ) (held : Held) → 1 ≤ held.left → is_others_step held.hart (Stepped h) ≡ true → IsHeld core held → IsHeld (added core (Stepped h)) (record held { left = held.left - 1 })
held_less stay on core h held some step is =
    let counted = counts_on stay on core.entries (Stepped h) held.hart is.0 (λ other. refl) (λ slot e. cc) is.1 in
    let one : others_steps (core.entries ++ Stepped h ∷ []) is.0 ≡ others_steps core.entries is.0 + 1 = counted ∙ ap (λ (b : Bool). others_steps core.entries is.0 + (if b then 1 else 0)) step in
    let sum : others_steps core.entries is.0 + held.left ≡ core.plan.pause = is.2 in
    (is.0, stays_open stay core.entries (Stepped h) held.hart is.0 (λ other. refl) is.1, omega arith, is.3)

-- ---- a pause that begins, and one that ends

want_ok : {A : Type 0} → (b : Bool) (f : Refused) (k : Unit {0} → Result A Refused) (x : A) → (want b f >>= k) ≡ Ok x → (b ≡ true) × (k tt ≡ Ok x)
want_ok true f k x e = (refl, e)
want_ok false f k x e = cc

not_true : (b : Bool) → not b ≡ true → b ≡ false
not_true true e = cc
not_true false e = refl

-- a hart whose turn is accepted is not paused
pub accepted_free : (setting : Setting) (entries : List Entry) (h : ℕ) (x : Entry) → forced setting entries (Turn h) ≡ Ok x → is_some (opening_of entries h) ≡ false
unfolding forced
accepted_free setting entries h x e =
    let runs : Bool = runs_at setting.start entries (length entries) h in
    let paused : Bool = is_some (opening_of entries h) in
    let left : Bool = nat_lt (length (steps entries)) setting.plan.steps in
    let last : Unit {0} → Result Entry Refused = λ _. Ok (turn_entry setting entries h (plain setting.start entries (length entries) h)) in
    let a = want_ok (nat_lt h setting.plan.harts) NoHart (λ _. want runs NotRunning >>= λ _. want (not paused) Is_paused >>= λ _. want left StepsSpent >>= last) x e in
    let b = want_ok runs NotRunning (λ _. want (not paused) Is_paused >>= λ _. want left StepsSpent >>= last) x a.1 in
    let d = want_ok (not paused) Is_paused (λ _. want left StepsSpent >>= last) x b.1 in
    not_true paused d.0

found : (p : Opening → Bool) (xs : List Opening) (o : Opening) → is_some (find p xs) ≡ false → p o ≡ true → option_or (find p xs) (find p (o ∷ [])) ≡ Some o
found p xs o none same =
    elim (find p xs) as (λ (f : Option Opening). is_some f ≡ false → option_or f (find p (o ∷ [])) ≡ Some o) [
      | None ↦ λ n. ap (λ (b : Bool). cond b (Some o) None) same
      | Some other ↦ λ n. let e : true ≡ false = n in cc
    ] none

opens : OthersStayOpen → (xs : List Entry) (h : ℕ) (slot : Option ℕ) → is_some (opening_of xs h) ≡ false → opening_of (xs ++ Paused h slot ∷ []) h ≡ Some (record { hart = h; slot = slot; place = length xs })
unfolding opening_of
opens stay xs h slot none =
    let p : Opening → Bool = λ o. o.hart == h in
    let o : Opening = record { hart = h; slot = slot; place = length xs } in
    let e : find p (openings (xs ++ Paused h slot ∷ [])) ≡ option_or (find p (openings xs)) (find p (o ∷ [])) =
    ap (find p) (stay xs (Paused h slot) (λ other. refl)) ∙ find-append p (openings xs) (o ∷ []) in
    e ∙ found p (openings xs) o none (eq-eqb h h refl)

some_is : (o : Option Opening) (opening : Opening) → o ≡ Some opening → is_some o ≡ true
some_is o opening e = ap is_some e

pub held_from : OthersStayOpen → PausesGoOn → (core : Begun) (h : ℕ) (slot : Option ℕ) → is_some (opening_of core.entries h) ≡ false → h < core.plan.harts → IsHeld (added core (Paused h slot)) (record { hart = h; left = core.plan.pause })
held_from stay on core h slot none is_hart =
    let o : Opening = record { hart = h; slot = slot; place = length core.entries } in
    let open_is : opening_of (core.entries ++ Paused h slot ∷ []) h ≡ Some o = opens stay core.entries h slot none in
    let zero_is : others_steps (core.entries ++ Paused h slot ∷ []) o ≡ 0 = elim (on core.entries (Paused h slot) h o open_is) [
      | inl goes ↦ let e : true ≡ false = sym (some_is (opening_of core.entries h) o goes.was_open) ∙ none in cc
      | inr begins ↦ begins.steps
    ] in
    (o, open_is, omega arith, is_hart)

-- the pause that is open may be ended
pub resumes_held : (core : Begun) (held : Held) (fault : Refused) → IsHeld core held → forced (setting_of core) core.entries (Resume held.hart) ≡ Err fault → ⊥
unfolding forced
resumes_held core held fault is e =
    let a : nat_lt held.hart core.plan.harts ≡ true = lt-ltb held.hart core.plan.harts is.3 in
    let b : is_some (opening_of core.entries held.hart) ≡ true = some_is (opening_of core.entries held.hart) is.0 is.1 in
    let f : forced (setting_of core) core.entries (Resume held.hart) ≡ Ok (Resumed held.hart) =
    ap (λ (t : Bool). want t NoHart >>= λ _. want (is_some (opening_of core.entries held.hart)) NotPaused >>= λ _. Ok (Resumed held.hart)) a
    ∙ ap (λ (t : Bool). want t NotPaused >>= λ _. Ok (Resumed held.hart)) b in
    let g : Ok (Resumed held.hart) ≡ Err fault = sym f ∙ e in
    cc

-- ---- why a pause may end

whole : (xs : List Entry) → take (length xs) xs ≡ xs
whole xs = take-length xs

pub due_ends : (core : Begun) (held : Held) → held.left ≡ 0 → IsHeld core held → MayEnd core (length core.entries) held.hart
due_ends core held none is =
    let sum : others_steps core.entries is.0 + held.left ≡ core.plan.pause = is.2 in
    let all : others_steps core.entries is.0 ≡ core.plan.pause = omega arith in
    inl (is.0, ap (λ (es : List Entry). opening_of es held.hart) (whole core.entries) ∙ is.1, ap (λ (es : List Entry). others_steps es is.0) (whole core.entries) ∙ all)

pub spent_ends : (core : Begun) (left hart : ℕ) → length (steps core.entries) + left ≡ core.plan.steps → left ≡ 0 → MayEnd core (length core.entries) hart
spent_ends core left hart sum none =
    let all : length (steps core.entries) ≡ core.plan.steps = omega arith in
    inr (inl (ap (λ (es : List Entry). length (steps es)) (whole core.entries) ∙ all))
