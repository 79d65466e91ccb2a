-- Seeded runs: each entry's source, and what follows of it.
use Rattle.std.proofs.Common.{◌≡◌, ℕ, zero, suc, ◌+◌, ◌-◌, ◌%◌, ◌≤◌, ◌<◌, ◌⊎◌, inl, inr, Bool, true, false, cond, List, [], ◌∷◌, ◌++◌, length, take, Option, Some, None, Ok, Err, Result, refl, sym, ap, subst, ◌∙◌, arith, length-append}
use Rattle.std.specs.Prelude.{◌==◌, ◌&&◌, ◌||◌, not, nat_le, nat_lt, is_ok, is_some, find, slice_get, option_and_then, option_map, count_by}
use Rattle.std.specs.Result.{result_ok}
use Rattle.std.specs.FinSet.{contains, len}
use Rattle.std.specs.List.{list_any}
use Rattle.std.specs.Option.{option_or, option_map_or, option_to_list}
use Rattle.std.proofs.lemmas.Bool.{cases_lt}
use Rattle.std.proofs.lemmas.Bool.Decides.{nat_tests}
use Rattle.std.proofs.lemmas.List.{append-nil, take_all, take-append-le, length-take-le}
use Rattle.std.proofs.lemmas.Option.{slice_get_past, slice_get_within}
use Rattle.rv_break.specs.declared.claim.TheConstants.{ARMED_LIMIT}
use Rattle.rv_drive.specs.Able.{able, another_is_able, due, is_able, is_due, others_steps, HasEnded}
use Rattle.rv_collide.specs.Armed.{armed, arms}
use Rattle.rv_drive.specs.Drawn.{IsDrawn, driven, picked_hart, turn_drawn, turns_and_resumptions}
use Rattle.rv_drive.specs.Draws.{Sampling, IsOwed, arms_or_disarms, draw, draw_after, draws, first_draws, is_resumed, next_index, owed}
use Rattle.rv_drive.specs.DriverLaws.{OneRunAtMost, DrawnIsLegal, DrawnIsLong, DrawnIsArmedByDraws, DrawnHasEnded, AddsItsKind, DueIsResumed, AbleTakesTurn}
use Rattle.rv_collide.specs.Entries.{steps}
use Rattle.rv_collide.specs.Forced.{Setting, Turn, Resume, Arm, Disarm, forced, turn_entry, least_free}
use Rattle.rv_collide.specs.Legal.{IsLegal, call_of}
use Rattle.rv_collide.specs.Next.{plain, runs_at}
use Rattle.rv_collide.specs.Pause.{Opening, opening_of, openings, openings_from, resumes}
use Rattle.rv_collide.specs.declared.entry.Entry.{Entry}
use Rattle.rv_collide.specs.declared.entry.Entry.TheVariants.{Stepped, Paused, Resumed, Armed, Disarmed}
use Rattle.rv_collide.specs.declared.refused.Refused.{Refused}
use Rattle.rv_hart.specs.declared.access.Access.{Access}
use Rattle.rv_memory.specs.Chain.{◌>>=◌, want}
use Rattle.rv_drive.proofs.Fronts.{get_front, get_last, one_at_most, one_longer, own_length, some_there}
use Rattle.rv_drive.proofs.KeptLemmas.{and_first, and_second, lt_is, may_resume, not_true}
use Rattle.rv_drive.proofs.RowLemmas.{find_within, kept_by_filter, none_found}

-- ---- answers

ok_of : (r : Result Entry Refused) (e : Entry) → result_ok r ≡ Some e → r ≡ Ok e
ok_of (Ok x) e h = cc
ok_of (Err x) e h = cc

then_some : {X Y : Type 0} → (f : X → Option Y) (o : Option X) (y : Y) → option_and_then f o ≡ Some y → (x : X) × (o ≡ Some x) × (f x ≡ Some y)
then_some f None y h = cc
then_some f (Some x) y h = (x, refl, h)

same_value : {X : Type 0} → (x y : X) → Some x ≡ Some y → x ≡ y
same_value x y h = cc

none_is_some : (e : Entry) → None ≡ Some e → ⊥
none_is_some e h = cc

or_cases : {X : Type 0} → (a b : Option X) (x : X) → option_or a b ≡ Some x → (a ≡ Some x) ⊎ ((a ≡ None) × (b ≡ Some x))
or_cases None b x h = inr (refl, h)
or_cases (Some y) b x h = inl h

or_first_none : {X : Type 0} → (a b : Option X) → option_or a b ≡ None → a ≡ None
or_first_none None b h = refl
or_first_none (Some x) b h = cc

or_second_none : {X : Type 0} → (a b : Option X) → option_or a b ≡ None → b ≡ None
or_second_none None b h = h
or_second_none (Some x) b h = cc

map_some : {X Y : Type 0} → (f : X → Y) (o : Option X) (y : Y) → option_map f o ≡ Some y → (x : X) × (o ≡ Some x) × (f x ≡ y)
map_some f None y h = cc
map_some f (Some x) y h = (x, refl, same_value (f x) y h)

map_none : {X Y : Type 0} → (f : X → Y) (o : Option X) → option_map f o ≡ None → o ≡ None
map_none f None h = refl
map_none f (Some x) h = cc

same_ok : (a b : Entry) (r : Result Entry Refused) → r ≡ Ok a → r ≡ Ok b → a ≡ b
same_ok a b r h k = cc

-- a test whose chain is answered has passed, and so has the rest
wanted : {A E : Type 0} → (b : Bool) (e : E) (next : Unit {0} → Result A E) (x : A) → (want b e >>= next) ≡ Ok x → (b ≡ true) × (next tt ≡ Ok x)
wanted true e next x h = (refl, h)
wanted false e next x h = cc

arm_forced : (setting : Setting) (xs : List Entry) (a : ℕ) (e : Entry) → forced setting xs (Arm a) ≡ Ok e → e ≡ Armed a
unfolding forced
arm_forced setting xs a e h =
    let one = wanted (nat_lt (count_by arms xs) setting.plan.arms) _ _ e h in
    let two = wanted (a % 4 == 0) _ _ e one.1 in
    let three = wanted (not (contains (armed setting.start xs) a)) _ _ e two.1 in
    let four = wanted (nat_lt (len (armed setting.start xs)) ARMED_LIMIT) _ _ e three.1 in
    sym (same_ok (Armed a) e (Ok (Armed a)) refl four.1)

-- ---- turns

record IsTurn (e : Entry) (hart : ℕ) : Type 0 where
  call : call_of e ≡ Turn hart
  quiet : arms_or_disarms e ≡ false
  stays : is_resumed e ≡ false

entry_is_turn : (setting : Setting) (xs : List Entry) (hart : ℕ) (o : Option Access) → IsTurn (turn_entry setting xs hart o) hart
entry_is_turn setting xs hart None = record { call = refl; quiet = refl; stays = refl }
entry_is_turn setting xs hart (Some access) =
    elim (contains (armed setting.start xs) access.pc) as (λ b. IsTurn (cond b (Paused hart (least_free setting.plan.slots xs)) (Stepped hart)) hart) [
      | true ↦ record { call = refl; quiet = refl; stays = refl }
      | false ↦ record { call = refl; quiet = refl; stays = refl }
    ]

turn_forced : (setting : Setting) (xs : List Entry) (hart : ℕ) (e : Entry) → forced setting xs (Turn hart) ≡ Ok e → IsTurn e hart
unfolding forced
turn_forced setting xs hart e h =
    let one = wanted (nat_lt hart setting.plan.harts) _ _ e h in
    let two = wanted (runs_at setting.start xs (length xs) hart) _ _ e one.1 in
    let three = wanted (not (is_some (opening_of xs hart))) _ _ e two.1 in
    let four = wanted (nat_lt (length (steps xs)) setting.plan.steps) _ _ e three.1 in
    subst (λ (x : Entry). IsTurn x hart) (same_ok (turn_entry setting xs hart (plain setting.start xs (length xs) hart)) e (Ok (turn_entry setting xs hart (plain setting.start xs (length xs) hart))) refl four.1)
    (entry_is_turn setting xs hart (plain setting.start xs (length xs) hart))

-- ---- draws

pub record IsArming (setting : Setting) (xs : List Entry) (e : Entry) : Type 0 where
  pub address : ℕ
  pub is : e ≡ Armed address
  pub accepted : forced setting xs (Arm address) ≡ Ok e

pub draw_arms : (setting : Setting) (sampling : Sampling) (xs : List Entry) (index : ℕ) (e : Entry) → draw setting sampling xs index ≡ Some e → IsArming setting xs e
unfolding draw
draw_arms setting sampling xs index e h =
    let site = then_some (λ a. result_ok (forced setting xs (Arm a))) (sampling.site_of (sampling.word_at index)) e h in
    let ok = ok_of (forced setting xs (Arm site.0)) e site.2 in
    record { address = site.0; is = arm_forced setting xs site.0 e ok; accepted = ok }

-- an entry of the first draws is what a draw adds to those before it
pub record IsFirstDraw (setting : Setting) (sampling : Sampling) (all : List Entry) (place : ℕ) (e : Entry) : Type 0 where
  pub number : ℕ
  pub before : take place all ≡ draws setting sampling number
  pub adds : draw setting sampling (draws setting sampling number) number ≡ Some e

nothing_there : (place : ℕ) (e : Entry) → slice_get [] place ≡ Some e → ⊥
nothing_there place e h = cc

at_end : (xs : List Entry) (x : Entry) (place : ℕ) → length xs ≤ place → place < length (xs ++ x ∷ []) → place ≡ length xs
at_end xs x place past within = omega (arith, length-append xs (x ∷ []))

last_draw : (setting : Setting) (sampling : Sampling) (n place : ℕ) (e : Entry) (d : Option Entry) → draw setting sampling (draws setting sampling n) n ≡ d → length (draws setting sampling n) ≤ place → slice_get (draws setting sampling n ++ option_to_list d) place ≡ Some e → IsFirstDraw setting sampling (draws setting sampling n ++ option_to_list d) place e
last_draw setting sampling n place e None gives past there =
    absurd (none_is_some e (sym (slice_get_past (draws setting sampling n) place past) ∙ ap (λ xs. slice_get xs place) (sym (append-nil (draws setting sampling n))) ∙ there))
last_draw setting sampling n place e (Some x) gives past there =
    let within = slice_get_within (draws setting sampling n ++ x ∷ []) place e there in
    let here : place ≡ length (draws setting sampling n) = at_end (draws setting sampling n) x place past within in
    let same : x ≡ e = same_value x e (sym (get_last (draws setting sampling n) x) ∙ ap (slice_get (draws setting sampling n ++ x ∷ [])) (sym here) ∙ there) in
    record {
      number = n;
      before = ap (λ k. take k (draws setting sampling n ++ x ∷ [])) here ∙ take-append-le (length (draws setting sampling n)) (draws setting sampling n) (x ∷ []) (omega arith) ∙ take_all (length (draws setting sampling n)) (draws setting sampling n) (omega arith);
      adds = gives ∙ ap Some same;
    }

pub in_draws : (setting : Setting) (sampling : Sampling) (n place : ℕ) (e : Entry) → slice_get (draws setting sampling n) place ≡ Some e → IsFirstDraw setting sampling (draws setting sampling n) place e
unfolding draws
in_draws setting sampling zero place e h = absurd (nothing_there place e h)
in_draws setting sampling (suc n) place e h =
    let d = draw setting sampling (draws setting sampling n) n in
    elim (cases_lt place (length (draws setting sampling n))) [
      | inl lt ↦ (let front = in_draws setting sampling n place e (sym (get_front (draws setting sampling n) (option_to_list d) place lt) ∙ h) in
          record { number = front.number; before = take-append-le place (draws setting sampling n) (option_to_list d) (omega arith) ∙ front.before; adds = front.adds })
      | inr past ↦ last_draw setting sampling n place e d refl past h
    ]

-- ---- a drawn list begins with the first draws

first_or : {X : Type 0} → (a b c : Option X) (x : X) → a ≡ Some x → option_or (option_or a b) c ≡ a
first_or None b c x h = cc
first_or (Some y) b c x h = refl

driven_at : (setting : Setting) (sampling : Sampling) (entries : List Entry) (n : ℕ) → length entries ≡ n → n < length (draws setting sampling first_draws) → driven setting sampling entries ≡ slice_get (draws setting sampling first_draws) n
unfolding driven owed
driven_at setting sampling entries n long below =
    let all = draws setting sampling first_draws in
    let there = some_there all n below in
    first_or (slice_get all (length entries)) _ _ there.0 (ap (slice_get all) long ∙ there.1) ∙ ap (slice_get all) long

begins : (setting : Setting) (sampling : Sampling) (entries : List Entry) → IsDrawn setting sampling entries → (n : ℕ) → n ≤ length (draws setting sampling first_draws) → take n entries ≡ take n (draws setting sampling first_draws)
begins setting sampling entries drawn zero below = refl
begins setting sampling entries drawn (suc n) below =
    let before = begins setting sampling entries drawn n (omega arith) in
    let all = draws setting sampling first_draws in
    one_longer entries n
    ∙ ap (λ o. take n entries ++ option_to_list o) (drawn n ∙ driven_at setting sampling (take n entries) n (ap length before ∙ length-take-le n all (omega arith)) (omega arith))
    ∙ ap (λ xs. xs ++ option_to_list (slice_get all n)) before
    ∙ sym (one_longer all n)

-- ---- what the draws add, arms

first_arms : (setting : Setting) (sampling : Sampling) (entries : List Entry) (place : ℕ) (e : Entry) → IsDrawn setting sampling entries → slice_get (draws setting sampling first_draws) (length (take place entries)) ≡ Some e → IsArming setting (take place entries) e
first_arms setting sampling entries place e drawn there =
    let all = draws setting sampling first_draws in
    let at = length (take place entries) in
    let below = slice_get_within all at e there in
    let f = in_draws setting sampling first_draws at e there in
    let front : draws setting sampling f.number ≡ take place entries =
    sym f.before ∙ sym (begins setting sampling entries drawn at (omega arith)) ∙ own_length entries place in
    subst (λ (xs : List Entry). IsArming setting xs e) front (draw_arms setting sampling (draws setting sampling f.number) f.number e f.adds)

drew : (setting : Setting) (sampling : Sampling) (xs : List Entry) (b : Bool) (index : ℕ) (e : Entry) → cond b (draw setting sampling xs index) None ≡ Some e → IsArming setting xs e
drew setting sampling xs true index e h = draw_arms setting sampling xs index e h
drew setting sampling xs false index e h = cc

later_arms : (setting : Setting) (sampling : Sampling) (takes : Entry → Bool) (xs : List Entry) (e : Entry) → draw_after setting sampling takes xs ≡ Some e → IsArming setting xs e
unfolding draw_after
later_arms setting sampling takes xs e h =
    let last = then_some (λ last. cond (is_resumed last) (draw setting sampling xs (next_index takes (take (length xs - 1) xs))) None) (slice_get xs (length xs - 1)) e h in
    drew setting sampling xs (is_resumed last.0) (next_index takes (take (length xs - 1) xs)) e last.2

owed_arms : (setting : Setting) (sampling : Sampling) (entries : List Entry) (place : ℕ) (e : Entry) → IsDrawn setting sampling entries → owed setting sampling turns_and_resumptions (take place entries) ≡ Some e → IsArming setting (take place entries) e
unfolding owed
owed_arms setting sampling entries place e drawn h =
    elim (or_cases (slice_get (draws setting sampling first_draws) (length (take place entries))) (draw_after setting sampling turns_and_resumptions (take place entries)) e h) [
      | inl first ↦ first_arms setting sampling entries place e drawn first
      | inr later ↦ later_arms setting sampling turns_and_resumptions (take place entries) e later.1
    ]

-- ---- where an entry comes from

data Source (setting : Setting) (sampling : Sampling) (xs : List Entry) (e : Entry) : Type 0 where
  Drew : IsArming setting xs e → Source setting sampling xs e
  Ended : (hart : ℕ) → owed setting sampling turns_and_resumptions xs ≡ None → due setting xs ≡ Some hart → e ≡ Resumed hart → Source setting sampling xs e
  Took : (hart : ℕ) → owed setting sampling turns_and_resumptions xs ≡ None → forced setting xs (Turn hart) ≡ Ok e → Source setting sampling xs e

source : (setting : Setting) (sampling : Sampling) (entries : List Entry) (place : ℕ) (e : Entry) → IsDrawn setting sampling entries → driven setting sampling (take place entries) ≡ Some e → Source setting sampling (take place entries) e
unfolding driven turn_drawn
source setting sampling entries place e drawn h =
    elim (or_cases (owed setting sampling turns_and_resumptions (take place entries)) _ e h) [
      | inl draws ↦ Drew (owed_arms setting sampling entries place e drawn draws)
      | inr other ↦ elim (or_cases (option_map Resumed (due setting (take place entries))) _ e other.1) [
        | inl resumed ↦ (let d = map_some Resumed (due setting (take place entries)) e resumed in Ended d.0 other.0 d.1 (sym d.2))
        | inr turned ↦ (let t = then_some (λ hart. result_ok (forced setting (take place entries) (Turn hart))) (picked_hart setting (take place entries) (sampling.word_at (next_index turns_and_resumptions (take place entries)))) e turned.1 in
            Took t.0 other.0 (ok_of (forced setting (take place entries) (Turn t.0)) e t.2))
      ]
    ]

-- ---- the pause that is due

below_is : (a b : ℕ) → a < 0 + b → nat_lt a b ≡ true
below_is a b h = grind (arith, nat_tests)

due_of : (setting : Setting) (xs : List Entry) (hart : ℕ) → due setting xs ≡ Some hart → (is_due setting xs hart ≡ true) × (hart < setting.plan.harts)
unfolding due
due_of setting xs hart h =
    let w = find_within (is_due setting xs) 0 setting.plan.harts hart h in
    let below = w.below in
    (w.passes, omega arith)

-- ---- the laws

accepted : (setting : Setting) (sampling : Sampling) (xs : List Entry) (e : Entry) → Source setting sampling xs e → forced setting xs (call_of e) ≡ Ok e
accepted setting sampling xs e (Drew a) = ap (λ x. forced setting xs (call_of x)) a.is ∙ a.accepted
accepted setting sampling xs e (Ended hart none found is) =
    let d = due_of setting xs hart found in
    ap (λ x. forced setting xs (call_of x)) is ∙ may_resume setting xs hart d.0 d.1 ∙ ap Ok (sym is)
accepted setting sampling xs e (Took hart none ok) = ap (forced setting xs) (turn_forced setting xs hart e ok).call ∙ ok

pub one_run : OneRunAtMost
one_run setting sampling one other h k = one_at_most (driven setting sampling) one other h k

pub legal : DrawnIsLegal
legal setting sampling entries drawn place e there =
    accepted setting sampling (take place entries) e (source setting sampling entries place e drawn (sym (drawn place) ∙ there))

not_armed : (hart address : ℕ) → Resumed hart ≡ Armed address → ⊥
not_armed hart address h = cc

same_hart : (a b : ℕ) → Resumed a ≡ Resumed b → a ≡ b
same_hart a b h = cc

true_not_false : true ≡ false → ⊥
true_not_false h = cc

resumed_when_due : (setting : Setting) (sampling : Sampling) (xs : List Entry) (hart : ℕ) → Source setting sampling xs (Resumed hart) → is_due setting xs hart ≡ true
resumed_when_due setting sampling xs hart (Drew a) = absurd (not_armed hart a.address a.is)
resumed_when_due setting sampling xs hart (Ended other none found is) =
    subst (λ (h : ℕ). is_due setting xs h ≡ true) (same_hart other hart (sym is)) (due_of setting xs other found).0
resumed_when_due setting sampling xs hart (Took other none ok) = absurd (true_not_false (turn_forced setting xs other (Resumed hart) ok).stays)

pub long : DrawnIsLong
long setting sampling entries drawn place hart there =
    resumed_when_due setting sampling (take place entries) hart (source setting sampling entries place (Resumed hart) drawn (sym (drawn place) ∙ there))

quiet : (setting : Setting) (sampling : Sampling) (xs : List Entry) (e : Entry) → owed setting sampling turns_and_resumptions xs ≡ None → driven setting sampling xs ≡ Some e → Source setting sampling xs e → arms_or_disarms e ≡ false
unfolding driven turn_drawn
quiet setting sampling xs e none h source =
    elim (or_cases (owed setting sampling turns_and_resumptions xs) _ e h) [
      | inl draws ↦ absurd (none_is_some e (sym none ∙ draws))
      | inr other ↦ elim (or_cases (option_map Resumed (due setting xs)) _ e other.1) [
        | inl resumed ↦ ap arms_or_disarms (sym (map_some Resumed (due setting xs) e resumed).2)
        | inr turned ↦ (let t = then_some (λ hart. result_ok (forced setting xs (Turn hart))) (picked_hart setting xs (sampling.word_at (next_index turns_and_resumptions xs))) e turned.1 in
            (turn_forced setting xs t.0 e (ok_of (forced setting xs (Turn t.0)) e t.2)).quiet)
      ]
    ]

owed_there : (setting : Setting) (sampling : Sampling) (entries : List Entry) (place : ℕ) → IsDrawn setting sampling entries → (o there : Option Entry) → owed setting sampling turns_and_resumptions (take place entries) ≡ o → slice_get entries place ≡ there → IsOwed o there
unfolding driven
owed_there setting sampling entries place drawn (Some e) there owes at =
    sym at ∙ drawn place ∙ ap (λ o. option_or o (option_or (option_map Resumed (due setting (take place entries))) (turn_drawn setting sampling (take place entries)))) owes
owed_there setting sampling entries place drawn None None owes at = refl
owed_there setting sampling entries place drawn None (Some e) owes at =
    let gives = sym (drawn place) ∙ at in
    ap not (quiet setting sampling (take place entries) e owes gives (source setting sampling entries place e drawn gives))

pub arms_by_draws : DrawnIsArmedByDraws
arms_by_draws setting sampling entries drawn place = owed_there setting sampling entries place drawn _ _ refl refl

-- ---- the end

turn_ok : (setting : Setting) (xs : List Entry) (h : ℕ) → nat_lt h setting.plan.harts ≡ true → runs_at setting.start xs (length xs) h ≡ true → is_some (opening_of xs h) ≡ false → nat_lt (length (steps xs)) setting.plan.steps ≡ true → forced setting xs (Turn h) ≡ Ok (turn_entry setting xs h (plain setting.start xs (length xs) h))
unfolding forced
turn_ok setting xs h hart runs free left = rw (hart, runs, free, left) refl

able_turn : (setting : Setting) (xs : List Entry) (hart : ℕ) → is_able setting xs hart ≡ true → nat_lt hart setting.plan.harts ≡ true → forced setting xs (Turn hart) ≡ Ok (turn_entry setting xs hart (plain setting.start xs (length xs) hart))
unfolding is_able
able_turn setting xs hart h within =
    let runs_free = and_first (runs_at setting.start xs (length xs) hart && not (is_some (opening_of xs hart))) (nat_lt (length (steps xs)) setting.plan.steps) h in
    let left = and_second (runs_at setting.start xs (length xs) hart && not (is_some (opening_of xs hart))) (nat_lt (length (steps xs)) setting.plan.steps) h in
    turn_ok setting xs hart within
    (and_first (runs_at setting.start xs (length xs) hart) (not (is_some (opening_of xs hart))) runs_free)
    (not_true (is_some (opening_of xs hart)) (and_second (runs_at setting.start xs (length xs) hart) (not (is_some (opening_of xs hart))) runs_free))
    left

some_turn : (setting : Setting) (sampling : Sampling) (xs : List Entry) → turn_drawn setting sampling xs ≡ None → 0 < length (able setting xs) → ⊥
unfolding turn_drawn picked_hart able
some_turn setting sampling xs none some =
    let index = sampling.word_at (next_index turns_and_resumptions xs) % length (able setting xs) in
    let picked = some_there (able setting xs) index (omega arith) in
    let among = kept_by_filter (is_able setting xs) 0 setting.plan.harts index picked.0 picked.1 in
    let turn = able_turn setting xs picked.0 among.passes (below_is picked.0 setting.plan.harts among.below) in
    none_is_some (turn_entry setting xs picked.0 (plain setting.start xs (length xs) picked.0))
    (sym none
    ∙ ap (option_and_then (λ hart. result_ok (forced setting xs (Turn hart)))) picked.1
    ∙ ap result_ok turn)

empty_list : (xs : List ℕ) → (0 < length xs → ⊥) → xs ≡ []
empty_list [] none = refl
empty_list (x ∷ xs) none = absurd (none (omega arith))

same_head : (a b : Opening) (xs ys : List Opening) → a ∷ xs ≡ b ∷ ys → a ≡ b
same_head a b xs ys h = cc

head_open : (place : ℕ) (xs : List Entry) (o : Opening) (os : List Opening) → openings_from place xs ≡ o ∷ os → (k : ℕ) × (slice_get xs k ≡ Some (Paused o.hart o.slot))
unfolding openings_from
head_open place [] o os h = cc
head_open place (Stepped hart ∷ xs) o os h = (let rest = head_open (place + 1) xs o os h in (suc rest.0, rest.1))
head_open place (Resumed hart ∷ xs) o os h = (let rest = head_open (place + 1) xs o os h in (suc rest.0, rest.1))
head_open place (Armed address ∷ xs) o os h = (let rest = head_open (place + 1) xs o os h in (suc rest.0, rest.1))
head_open place (Disarmed address ∷ xs) o os h = (let rest = head_open (place + 1) xs o os h in (suc rest.0, rest.1))
head_open place (Paused hart slot ∷ xs) o os h =
    elim (list_any (resumes hart) xs) as (λ b. cond b [] (record { hart = hart; slot = slot; place = place } ∷ []) ++ openings_from (place + 1) xs ≡ o ∷ os → (k : ℕ) × (slice_get (Paused hart slot ∷ xs) k ≡ Some (Paused o.hart o.slot))) [
      | true ↦ λ later. (let rest = head_open (place + 1) xs o os later in (suc rest.0, rest.1))
      | false ↦ λ here. (0, ap (λ (p : Opening). Some (Paused p.hart p.slot)) (same_head (record { hart = hart; slot = slot; place = place }) o (openings_from (place + 1) xs) os here))
    ] h

is_hart : (setting : Setting) (xs : List Entry) (hart : ℕ) (e : Entry) → forced setting xs (Turn hart) ≡ Ok e → nat_lt hart setting.plan.harts ≡ true
unfolding forced
is_hart setting xs hart e h = (wanted (nat_lt hart setting.plan.harts) _ _ e h).0

or_true : (b : Bool) → (b || true) ≡ true
or_true true = refl
or_true false = refl

eq_itself : (a : ℕ) → (a == a) ≡ true
eq_itself a = grind (arith, nat_tests)

open_is_due : (setting : Setting) (xs : List Entry) (o : Opening) (os : List Opening) → openings xs ≡ o ∷ os → able setting xs ≡ [] → is_due setting xs o.hart ≡ true
unfolding is_due opening_of another_is_able
open_is_due setting xs o os opens none =
    ap (λ ps. option_map_or (λ opening. nat_le setting.plan.pause (others_steps xs opening) || not (list_any (λ other. not (other == o.hart)) (able setting xs))) (find (λ (p : Opening). p.hart == o.hart) ps) false) opens
    ∙ ap (λ b. option_map_or (λ opening. nat_le setting.plan.pause (others_steps xs opening) || not (list_any (λ other. not (other == o.hart)) (able setting xs))) (cond b (Some o) (find (λ (p : Opening). p.hart == o.hart) os)) false) (eq_itself o.hart)
    ∙ ap (λ hs. nat_le setting.plan.pause (others_steps xs o) || not (list_any (λ other. not (other == o.hart)) hs)) none
    ∙ or_true (nat_le setting.plan.pause (others_steps xs o))

is_below : (a b : ℕ) → nat_lt a b ≡ true → a < 0 + b
is_below a b h = grind (arith, nat_tests)

no_openings : (setting : Setting) (xs : List Entry) → IsLegal setting xs → able setting xs ≡ [] → due setting xs ≡ None → (os : List Opening) → openings xs ≡ os → openings xs ≡ []
unfolding due openings
no_openings setting xs lawful none undue [] opens = opens
no_openings setting xs lawful none undue (o ∷ os) opens =
    let at = head_open 0 xs o os opens in
    let within = is_hart setting (take at.0 xs) o.hart (Paused o.hart o.slot) (lawful at.0 (Paused o.hart o.slot) at.1) in
    absurd (true_not_false (sym (open_is_due setting xs o os opens none) ∙ none_found (is_due setting xs) 0 setting.plan.harts o.hart undue (omega arith) (is_below o.hart setting.plan.harts within)))

none_left : (setting : Setting) (sampling : Sampling) (xs : List Entry) → IsLegal setting xs → driven setting sampling xs ≡ None → HasEnded setting xs
unfolding driven
none_left setting sampling xs lawful none =
    let rest = or_second_none (owed setting sampling turns_and_resumptions xs) _ none in
    let undue = map_none Resumed (due setting xs) (or_first_none (option_map Resumed (due setting xs)) _ rest) in
    let no_turn = or_second_none (option_map Resumed (due setting xs)) (turn_drawn setting sampling xs) rest in
    let idle = empty_list (able setting xs) (some_turn setting sampling xs no_turn) in
    record { none_open = no_openings setting xs lawful idle undue (openings xs) refl; none_able = idle }

pub ended : DrawnHasEnded
ended setting sampling entries drawn =
    let n = length entries in
    none_left setting sampling entries (legal setting sampling entries drawn)
    (ap (driven setting sampling) (sym (take_all n entries (omega arith))) ∙ sym (drawn n) ∙ slice_get_past entries n (omega arith))

-- ---- what a driver may do

pub adds_its_kind : AddsItsKind
unfolding forced
adds_its_kind setting xs (Turn hart) e h = (turn_forced setting xs hart e h).call
adds_its_kind setting xs (Arm address) e h = ap call_of (arm_forced setting xs address e h)
adds_its_kind setting xs (Resume hart) e h =
    let one = wanted (nat_lt hart setting.plan.harts) _ _ e h in
    let two = wanted (is_some (opening_of xs hart)) _ _ e one.1 in
    ap call_of (sym (same_ok (Resumed hart) e (Ok (Resumed hart)) refl two.1))
adds_its_kind setting xs (Disarm address) e h =
    let one = wanted (contains (armed setting.start xs) address) _ _ e h in
    ap call_of (sym (same_ok (Disarmed address) e (Ok (Disarmed address)) refl one.1))

pub due_is_resumed : DueIsResumed
due_is_resumed setting xs hart h =
    let d = due_of setting xs hart h in
    may_resume setting xs hart d.0 d.1

pub able_takes_turn : AbleTakesTurn
able_takes_turn setting xs hart h below = ap is_ok (able_turn setting xs hart h (lt_is hart setting.plan.harts below))
