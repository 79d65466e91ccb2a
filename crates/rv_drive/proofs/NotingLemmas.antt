-- What a driver knows ahead, after an address is armed, after a hart is paused, and after all harts are asked.
use Rattle.std.proofs.Common.{◌≡◌, ◌≢◌, ℕ, suc, ◌+◌, ◌≤◌, ◌<◌, inl, inr, Bool, true, false, cond, List, [], ◌∷◌, ◌++◌, length, set, get_or, Option, Some, None, Ok, Err, Result, refl, sym, ap, subst, ◌∙◌, arith, get_or-set_same, get_or-set_other}
use Rattle.std.specs.Prelude.{◌==◌, ◌&&◌, not, nat_lt, filter, filter_map, find, is_some, slice_get, slice_index, vec_capacity, IfOk, OnErr}
use Rattle.std.specs.List.{list_any, range_with_len}
use Rattle.std.specs.Option.{option_map_or, option_or}
use Rattle.std.proofs.lemmas.Bool.{cases_eq, cases_lt}
use Rattle.std.proofs.lemmas.Bool.Decides.{nat_tests}
use Rattle.std.proofs.lemmas.List.{append-nil, take_all}
use Rattle.std.proofs.lemmas.List.Folds.{find-append}
use Rattle.rv_drive.specs.internal.Kept.{IsAhead, IsKept, IsNoted, NoneLasts}
use Rattle.rv_drive.proofs.AheadLemmas.{filter_same_test, found_more, other_able}
use Rattle.rv_drive.proofs.KeptLemmas.{kept_armed_or_not, kept_pause, other_is, steps_more}
use Rattle.rv_drive.proofs.RowLemmas.{kept_by_filter}
use Rattle.rv_drive.specs.Able.{able, another_is_able, is_able}
use Rattle.rv_drive.specs.DriverLaws.{PausesGoOn}
use Rattle.rv_drive.specs.declared.ahead.Ahead.{Ahead}
use Rattle.rv_collide.specs.Answers.{Adds}
use Rattle.rv_collide.specs.Entries.{stepped_hart, steps}
use Rattle.rv_collide.specs.Forced.{Arm, Setting}
use Rattle.rv_collide.specs.ListLaws.{OthersStayOpen}
use Rattle.rv_collide.specs.Next.{runs_at}
use Rattle.rv_collide.specs.Pause.{Opening, opened, opening_of, openings}
use Rattle.rv_collide.specs.StateAt.{state_at}
use Rattle.rv_collide.specs.Stored.{Stored, added, setting_of}
use Rattle.rv_collide.specs.declared.entry.Entry.{Entry}
use Rattle.rv_collide.specs.declared.entry.Entry.TheVariants.{Armed, Paused}
use Rattle.rv_collide.specs.declared.refused.Refused.{Refused}
use Rattle.rv_hart.specs.Refusals.{is_running_hart}
use Rattle.rv_hart.specs.Run.{run}
use Rattle.rv_hart.specs.State.{State}

-- ---- an entry that is no step

same_steps : (xs : List Entry) (e : Entry) → filter_map stepped_hart (e ∷ []) ≡ [] → steps (xs ++ e ∷ []) ≡ steps xs
same_steps xs e none = steps_more xs e ∙ ap (λ (hs : List ℕ). steps xs ++ hs) none ∙ append-nil (steps xs)

same_state : (start : State) (xs : List Entry) (e : Entry) → filter_map stepped_hart (e ∷ []) ≡ [] → state_at start (xs ++ e ∷ []) (length (xs ++ e ∷ [])) ≡ state_at start xs (length xs)
unfolding state_at
same_state start xs e none =
    ap (λ ys. run start (steps ys)) (take_all (length (xs ++ e ∷ [])) (xs ++ e ∷ []) (omega arith))
    ∙ ap (run start) (same_steps xs e none)
    ∙ sym (ap (λ ys. run start (steps ys)) (take_all (length xs) xs (omega arith)))

same_runs : (start : State) (xs : List Entry) (e : Entry) (hart : ℕ) → filter_map stepped_hart (e ∷ []) ≡ [] → runs_at start (xs ++ e ∷ []) (length (xs ++ e ∷ [])) hart ≡ runs_at start xs (length xs) hart
unfolding runs_at
same_runs start xs e hart none =
    ap (λ (o : Option State). option_map_or (λ (s : State). is_running_hart (slice_get s.harts hart)) o false) (same_state start xs e none)

able_then : (setting : Setting) (xs : List Entry) (e : Entry) (hart : ℕ) (b : Bool) → filter_map stepped_hart (e ∷ []) ≡ [] → is_some (opening_of (xs ++ e ∷ []) hart) ≡ b → is_able setting (xs ++ e ∷ []) hart ≡ (runs_at setting.start xs (length xs) hart && not b && nat_lt (length (steps xs)) setting.plan.steps)
unfolding is_able
able_then setting xs e hart b none is =
    let ys = xs ++ e ∷ [] in
    ap (λ r. r && not (is_some (opening_of ys hart)) && nat_lt (length (steps ys)) setting.plan.steps) (same_runs setting.start xs e hart none)
    ∙ ap (λ o. runs_at setting.start xs (length xs) hart && not o && nat_lt (length (steps ys)) setting.plan.steps) is
    ∙ ap (λ (hs : List ℕ). runs_at setting.start xs (length xs) hart && not b && nat_lt (length hs) setting.plan.steps) (same_steps xs e none)

able_still : (setting : Setting) (xs : List Entry) (e : Entry) (hart : ℕ) → filter_map stepped_hart (e ∷ []) ≡ [] → opening_of (xs ++ e ∷ []) hart ≡ opening_of xs hart → is_able setting (xs ++ e ∷ []) hart ≡ is_able setting xs hart
unfolding is_able
able_still setting xs e hart none same = able_then setting xs e hart (is_some (opening_of xs hart)) none (ap is_some same)

-- ---- an armed address

opening_armed : OthersStayOpen → (xs : List Entry) (a hart : ℕ) → opening_of (xs ++ Armed a ∷ []) hart ≡ opening_of xs hart
unfolding opening_of
opening_armed stay xs a hart = ap (find (λ (o : Opening). o.hart == hart)) (stay xs (Armed a) (λ n. refl) ∙ append-nil (openings xs))

able_armed : OthersStayOpen → (setting : Setting) (xs : List Entry) (a : ℕ) → able setting xs ≡ able setting (xs ++ Armed a ∷ [])
unfolding able
able_armed stay setting xs a =
    filter_same_test (is_able setting xs) (is_able setting (xs ++ Armed a ∷ [])) 0 setting.plan.harts (λ hart. sym (able_still setting xs (Armed a) hart refl (opening_armed stay xs a hart)))

pub armed_ahead : PausesGoOn → OthersStayOpen → (d : Ahead) (core : Stored) (a : ℕ) (r : Result (Unit {0}) Refused) → IfOk r (λ u. Adds d.collider core (Arm a) (Armed a)) → OnErr r (core ≡ d.collider) → IsAhead d → IsAhead (record d { collider = core })
armed_ahead law stay d core a (Ok u) ok stays k =
    subst (λ (c : Stored). IsAhead (record d { collider = c })) (sym ok.is_added) (record {
      kept = subst (λ (c : Stored). IsKept c.entries d.made d.made_at) ok.is_added (kept_armed_or_not law d.collider core a d.made d.made_at (Ok u) ok stays k.kept);
      able_are = k.able_are ∙ able_armed stay (setting_of d.collider) d.collider.entries a;
      lasts = λ hart o below is. k.lasts hart o below (sym (opening_armed stay d.collider.entries a hart) ∙ is);
      room = k.room;
    })
armed_ahead law stay d core a (Err fault) ok stays k = subst (λ (c : Stored). IsAhead (record d { collider = c })) (sym stays) k

-- ---- a paused hart

or_none : (o : Option Opening) → option_or o None ≡ o
or_none None = refl
or_none (Some x) = refl

or_some : (o : Option Opening) (x : Opening) → is_some (option_or o (Some x)) ≡ true
or_some None x = refl
or_some (Some y) x = refl

same_hart : (h : ℕ) → (h == h) ≡ true
same_hart h = grind (arith, nat_tests)

opening_paused : OthersStayOpen → (xs : List Entry) (h hart : ℕ) (slot : Option ℕ) (b : Bool) → (h == hart) ≡ b → opening_of (xs ++ Paused h slot ∷ []) hart ≡ option_or (opening_of xs hart) (cond b (Some (record { hart = h; slot = slot; place = length xs })) None)
unfolding opening_of
opening_paused stay xs h hart slot b is =
    ap (find (λ (o : Opening). o.hart == hart)) (stay xs (Paused h slot) (λ n. refl))
    ∙ find-append (λ (o : Opening). o.hart == hart) (openings xs) (opened (length xs) (Paused h slot) [])
    ∙ ap (λ c. option_or (find (λ (o : Opening). o.hart == hart) (openings xs)) (cond c (Some (record { hart = h; slot = slot; place = length xs })) None)) is

opening_other : OthersStayOpen → (xs : List Entry) (h hart : ℕ) (slot : Option ℕ) → hart ≢ h → opening_of (xs ++ Paused h slot ∷ []) hart ≡ opening_of xs hart
opening_other stay xs h hart slot ne = opening_paused stay xs h hart slot false (other_is h hart (λ same. ne (sym same))) ∙ or_none (opening_of xs hart)

opening_own : OthersStayOpen → (xs : List Entry) (h hart : ℕ) (slot : Option ℕ) → hart ≡ h → is_some (opening_of (xs ++ Paused h slot ∷ []) hart) ≡ true
opening_own stay xs h hart slot same =
    ap is_some (opening_paused stay xs h hart slot true (ap (λ (n : ℕ). h == n) same ∙ same_hart h)) ∙ or_some (opening_of xs hart) (record { hart = h; slot = slot; place = length xs })

never : (b c : Bool) → (b && false && c) ≡ false
never true c = refl
never false c = refl

and_not : (b c : Bool) → c ≡ true → (b && not c) ≡ false
and_not true true is = refl
and_not false true is = refl
and_not b false is = cc

and_so : (b c : Bool) → c ≡ false → (b && not c) ≡ b
and_so true false is = refl
and_so false false is = refl
and_so b true is = cc

able_paused : OthersStayOpen → (setting : Setting) (xs : List Entry) (h hart : ℕ) (slot : Option ℕ) → is_able setting (xs ++ Paused h slot ∷ []) hart ≡ (is_able setting xs hart && not (hart == h))
able_paused stay setting xs h hart slot =
    elim (cases_eq hart h) [
      | inl same ↦ able_then setting xs (Paused h slot) hart true refl (opening_own stay xs h hart slot same)
          ∙ never (runs_at setting.start xs (length xs) hart) (nat_lt (length (steps xs)) setting.plan.steps)
          ∙ sym (and_not (is_able setting xs hart) (hart == h) (ap (λ (n : ℕ). n == h) same ∙ same_hart h))
      | inr ne ↦ able_still setting xs (Paused h slot) hart refl (opening_other stay xs h hart slot ne)
          ∙ sym (and_so (is_able setting xs hart) (hart == h) (other_is hart h ne))
    ]

filter_once : (b : Bool) (q : ℕ → Bool) (x : ℕ) (xs : List ℕ) → cond (b && q x) (x ∷ filter q xs) (filter q xs) ≡ filter q (cond b (x ∷ xs) xs)
filter_once true q x xs = refl
filter_once false q x xs = refl

filter_both : (p q r : ℕ → Bool) (xs : List ℕ) → ((k : ℕ) → r k ≡ (p k && q k)) → filter r xs ≡ filter q (filter p xs)
filter_both p q r [] is = refl
filter_both p q r (x ∷ xs) is =
    ap (λ b. cond b (x ∷ filter r xs) (filter r xs)) (is x)
    ∙ ap (λ (ys : List ℕ). cond (p x && q x) (x ∷ ys) ys) (filter_both p q r xs is)
    ∙ filter_once (p x) q x (filter p xs)

all_paused : OthersStayOpen → (setting : Setting) (xs : List Entry) (h : ℕ) (slot : Option ℕ) → able setting (xs ++ Paused h slot ∷ []) ≡ filter (λ k. not (k == h)) (able setting xs)
unfolding able
all_paused stay setting xs h slot =
    filter_both (is_able setting xs) (λ k. not (k == h)) (is_able setting (xs ++ Paused h slot ∷ [])) (range_with_len 0 setting.plan.harts) (λ hart. able_paused stay setting xs h hart slot)

lasts_paused : OthersStayOpen → (setting : Setting) (xs : List Entry) (h made : ℕ) (slot : Option ℕ) (made_at : List ℕ) (was is : ℕ) → h < length made_at → NoneLasts setting xs made_at was → is ≤ was → is ≤ made + setting.plan.pause → NoneLasts setting (xs ++ Paused h slot ∷ []) (set made_at h made) is
lasts_paused stay setting xs h made slot made_at was is within before sooner end = λ hart o below there.
    elim (cases_eq hart h) [
      | inl same ↦ (let here : get_or (set made_at h made) hart 0 ≡ made = ap (λ (n : ℕ). get_or (set made_at h made) n 0) same ∙ get_or-set_same made_at h made 0 within in
          omega (arith, here, end))
      | inr ne ↦ (let stays : get_or (set made_at h made) hart 0 ≡ get_or made_at hart 0 = get_or-set_other made_at h hart made 0 ne in
          let long = before hart o below (sym (opening_other stay xs h hart slot ne) ∙ there) in
          omega (arith, stays, sooner, long))
    ]

pub held_ahead : PausesGoOn → OthersStayOpen → (d e : Ahead) (h : ℕ) (slot : Option ℕ) → h < 16 → is_some (opening_of d.collider.entries h) ≡ false → IsAhead d → e.collider ≡ added d.collider (Paused h slot) → e.made ≡ d.made → e.made_at ≡ set d.made_at h d.made → e.able.items ≡ filter (λ k. not (k == h)) d.able.items → vec_capacity e.able ≡ vec_capacity d.able → e.earliest ≤ d.earliest → e.earliest ≤ d.made + d.collider.plan.pause → IsAhead e
held_ahead law stay d e h slot below free k core made made_at able_are room sooner end =
    let harts = k.kept.harts in
    let was_room = k.room in
    let after = added d.collider (Paused h slot) in
    let kept = kept_pause law d.collider.entries d.made d.made_at h slot below free k.kept in
    let lasts = lasts_paused stay (setting_of d.collider) d.collider.entries h d.made slot d.made_at d.earliest e.earliest (omega (arith, harts)) k.lasts sooner end in
    record {
      kept = subst (λ (c : Stored). IsKept c.entries e.made e.made_at) (sym core)
          (subst (λ (n : ℕ). IsKept after.entries n e.made_at) (sym made) (subst (λ (ns : List ℕ). IsKept after.entries d.made ns) (sym made_at) kept));
      able_are = able_are ∙ ap (filter (λ k. not (k == h))) k.able_are ∙ sym (all_paused stay (setting_of d.collider) d.collider.entries h slot) ∙ ap (λ (c : Stored). able (setting_of c) c.entries) (sym core);
      lasts = subst (λ (c : Stored). NoneLasts (setting_of c) c.entries e.made_at e.earliest) (sym core)
          (subst (λ (ns : List ℕ). NoneLasts (setting_of d.collider) after.entries ns e.earliest) (sym made_at) lasts);
      room = omega (arith, room, was_room);
    }

-- ---- a paused hart is not able, so each able one is another

not_none : (n m : ℕ) → n ≡ suc m → (n == 0) ≡ false
not_none n m is = grind (arith, nat_tests)

pub no_other : (setting : Setting) (xs : List Entry) (hart n : ℕ) (row : List ℕ) → is_some (opening_of xs hart) ≡ true → row ≡ able setting xs → n ≡ length row → (n == 0) ≡ not (another_is_able setting xs hart)
unfolding another_is_able able
no_other setting xs hart n [] is_open are long =
    ap (λ (m : ℕ). m == 0) long ∙ ap (λ (ys : List ℕ). not (list_any (λ other. not (other == hart)) ys)) are
no_other setting xs hart n (x ∷ row) is_open are long =
    not_none n (length row) long
    ∙ sym (ap not (other_able setting xs hart x is_open (kept_by_filter (is_able setting xs) 0 setting.plan.harts 0 x (ap (λ (ys : List ℕ). slice_get ys 0) (sym are)))))

-- ---- all harts, one by one

pub able_when : (setting : Setting) (xs : List Entry) (hart made : ℕ) (o r l : Bool) → o ≡ is_some (opening_of xs hart) → r ≡ runs_at setting.start xs (length xs) hart → l ≡ nat_lt made setting.plan.steps → made ≡ length (steps xs) → (r && not o && l) ≡ is_able setting xs hart
unfolding is_able
able_when setting xs hart made o r l open_is runs_is left_is count =
    ap (λ b. b && not o && l) runs_is
    ∙ ap (λ b. runs_at setting.start xs (length xs) hart && not b && l) open_is
    ∙ ap (λ b. runs_at setting.start xs (length xs) hart && not (is_some (opening_of xs hart)) && b) (left_is ∙ ap (λ (n : ℕ). nat_lt n setting.plan.steps) count)

pub not_open : (setting : Setting) (xs : List Entry) (hart : ℕ) → is_some (opening_of xs hart) ≡ true → is_able setting xs hart ≡ false
unfolding is_able
not_open setting xs hart is =
    ap (λ b. runs_at setting.start xs (length xs) hart && not b && nat_lt (length (steps xs)) setting.plan.steps) is
    ∙ never (runs_at setting.start xs (length xs) hart) (nat_lt (length (steps xs)) setting.plan.steps)

pub not_running : (setting : Setting) (xs : List Entry) (hart : ℕ) → runs_at setting.start xs (length xs) hart ≡ false → is_able setting xs hart ≡ false
unfolding is_able
not_running setting xs hart is = ap (λ b. b && not (is_some (opening_of xs hart)) && nat_lt (length (steps xs)) setting.plan.steps) is

and_never : (b : Bool) → (b && false) ≡ false
and_never true = refl
and_never false = refl

pub not_left : (setting : Setting) (xs : List Entry) (hart made : ℕ) → nat_lt made setting.plan.steps ≡ false → made ≡ length (steps xs) → is_able setting xs hart ≡ false
unfolding is_able
not_left setting xs hart made is count =
    ap (λ b. runs_at setting.start xs (length xs) hart && not (is_some (opening_of xs hart)) && b) (ap (λ (n : ℕ). nat_lt n setting.plan.steps) (sym count) ∙ is)
    ∙ and_never (runs_at setting.start xs (length xs) hart && not (is_some (opening_of xs hart)))

pub added_where : (xs : List ℕ) (h : ℕ) {ys : List ℕ} (b c : Bool) → b ≡ c → ys ≡ xs ++ cond c (h ∷ []) [] → ys ≡ xs ++ cond b (h ∷ []) []
added_where xs h b c same is = is ∙ ap (λ (d : Bool). xs ++ cond d (h ∷ []) []) (sym same)

pub noted_more : (d e : Ahead) (h : ℕ) → IsNoted d h → e.able.items ≡ d.able.items ++ cond (is_able (setting_of d.collider) d.collider.entries h) (h ∷ []) [] → vec_capacity e.able ≡ vec_capacity d.able → e.earliest ≤ d.earliest → (is_some (opening_of d.collider.entries h) ≡ true → e.earliest ≤ slice_index d.made_at h + d.collider.plan.pause) → e ≡ record d { able = e.able; earliest = e.earliest } → IsNoted e (h + 1)
noted_more d e h k found room sooner end others =
    let was_room = k.room in
    subst (λ (x : Ahead). IsNoted x (h + 1)) (sym others) (record {
      kept = k.kept;
      found = found_more (is_able (setting_of d.collider) d.collider.entries) h d.able.items e.able.items (is_able (setting_of d.collider) d.collider.entries h) refl k.found found;
      lasts = λ hart o below is. elim (cases_lt hart h) [
        | inl lt ↦ (let long = k.lasts hart o lt is in omega (arith, long, sooner))
        | inr ge ↦ (let same : hart ≡ h = omega arith in
            let here = end (ap (λ (n : ℕ). is_some (opening_of d.collider.entries n)) (sym same) ∙ ap is_some is) in
            subst (λ (n : ℕ). e.earliest ≤ slice_index d.made_at n + d.collider.plan.pause) (sym same) here)
      ];
      room = omega (arith, room, was_room);
    })

pub all_noted : (d : Ahead) (h : ℕ) → IsNoted d h → h ≡ d.collider.plan.harts → IsAhead d
unfolding able
all_noted d h k all = record {
  kept = k.kept;
  able_are = k.found ∙ ap (λ (n : ℕ). filter (is_able (setting_of d.collider) d.collider.entries) (range_with_len 0 n)) all;
  lasts = λ hart o below is. k.lasts hart o (omega arith) is;
  room = k.room;
}

-- ---- where no pause is open

no_opening : (xs : List Entry) (hart : ℕ) → openings xs ≡ [] → is_some (opening_of xs hart) ≡ false
unfolding opening_of
no_opening xs hart none = ap (λ (os : List Opening). is_some (find (λ (o : Opening). o.hart == hart) os)) none

alone : (b : Bool) → b ≡ (b && not false && true)
alone true = refl
alone false = refl

-- a hart that runs is able, where steps are left
pub running_able : (setting : Setting) (xs : List Entry) (hart : ℕ) (runs : Bool) → openings xs ≡ [] → nat_lt (length (steps xs)) setting.plan.steps ≡ true → runs ≡ runs_at setting.start xs (length xs) hart → runs ≡ is_able setting xs hart
running_able setting xs hart runs none left is =
    alone runs ∙ able_when setting xs hart (length (steps xs)) false runs true (sym (no_opening xs hart none)) is (sym left) refl

never_zero : (n : ℕ) → (suc n == 0) ≡ false
never_zero n = grind (arith, nat_tests)

both_ways : false ≡ true → ⊥
both_ways h = cc

of_length : (os : List Opening) → (length os == 0) ≡ true → os ≡ []
of_length [] h = refl
of_length (o ∷ os) h = absurd (both_ways (sym (never_zero (length os)) ∙ h))

pub unpaused_ahead : (d : Ahead) → openings d.collider.entries ≡ [] → IsKept d.collider.entries d.made d.made_at → d.able.items ≡ able (setting_of d.collider) d.collider.entries → 16 ≤ vec_capacity d.able → IsAhead d
unpaused_ahead d none kept are room = record {
  kept = kept;
  able_are = are;
  lasts = λ hart o below is. absurd (both_ways (sym (no_opening d.collider.entries hart none) ∙ ap is_some is));
  room = room;
}

pub no_pauses : (xs : List Entry) → (length (openings xs) == 0) ≡ true → openings xs ≡ []
no_pauses xs h = of_length (openings xs) h
