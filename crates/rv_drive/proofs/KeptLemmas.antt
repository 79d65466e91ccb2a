-- What a driver keeps, after one more entry.
use Rattle.std.proofs.Common.{◌≡◌, ◌≢◌, ℕ, ◌+◌, ◌<◌, inl, inr, Bool, true, false, cond, List, [], ◌∷◌, ◌++◌, length, set, get_or, Option, Some, None, Ok, Err, Result, refl, sym, ap, subst, ◌∙◌, arith, length-append, length-set, get_or-set_same, get_or-set_other}
use Rattle.std.specs.Prelude.{◌==◌, ◌&&◌, ◌||◌, nat_le, nat_lt, is_ok, IsTrue, not, filter_map, is_some, IfOk, IfErr, OnErr}
use Rattle.std.specs.Result.{result_ok}
use Rattle.std.specs.Option.{option_map_or, option_to_list}
use Rattle.std.proofs.lemmas.Bool.Decides.{nat_tests}
use Rattle.std.proofs.lemmas.List.{append-nil}
use Rattle.std.proofs.lemmas.List.Elements.{filter_map-append}
use Rattle.rv_drive.specs.internal.Kept.{IsKept}
use Rattle.rv_drive.specs.Able.{another_is_able, is_able, is_due, others_steps}
use Rattle.rv_collide.specs.Answers.{Adds, IsRefusedTurn}
use Rattle.rv_drive.specs.DriverLaws.{PausesGoOn, is_others_step}
use Rattle.rv_collide.specs.Entries.{stepped_hart, steps}
use Rattle.rv_collide.specs.Forced.{Setting, Arm, Resume, Turn, forced}
use Rattle.rv_collide.specs.Next.{runs_at}
use Rattle.rv_collide.specs.Pause.{Opening, opening_of, openings, openings_from}
use Rattle.rv_collide.specs.Stored.{Stored, setting_of}
use Rattle.rv_collide.specs.declared.entry.Entry.{Entry}
use Rattle.rv_collide.specs.declared.entry.Entry.TheVariants.{Stepped, Paused, Resumed, Armed}
use Rattle.rv_collide.specs.declared.refused.Refused.{Refused}
use Rattle.rv_collide.specs.declared.refused.Refused.TheVariants.{NoHart, NotPaused}
use Rattle.rv_memory.specs.Chain.{◌>>=◌, want}

pub steps_more : (entries : List Entry) (e : Entry) → steps (entries ++ e ∷ []) ≡ steps entries ++ filter_map stepped_hart (e ∷ [])
unfolding steps
steps_more entries e = filter_map-append stepped_hart entries (e ∷ [])

nothing_open : (hart : ℕ) (o : Opening) → opening_of [] hart ≡ Some o → ⊥
unfolding opening_of openings openings_from
nothing_open hart o h = cc

pub kept_new : (entries : List Entry) (made_at : List ℕ) → entries ≡ [] → length made_at ≡ 16 → IsKept entries 0 made_at
unfolding steps
kept_new entries made_at none long = record {
  made_is = ap (λ xs. length (filter_map stepped_hart xs)) (sym none);
  harts = long;
  since = λ hart o h. absurd (nothing_open hart o (ap (λ xs. opening_of xs hart) (sym none) ∙ h));
}

armed_paused : (a hart : ℕ) (slot : Option ℕ) → Armed a ≡ Paused hart slot → ⊥
armed_paused a hart slot h = cc

resumed_paused : (k hart : ℕ) (slot : Option ℕ) → Resumed k ≡ Paused hart slot → ⊥
resumed_paused k hart slot h = cc

stepped_paused : (k hart : ℕ) (slot : Option ℕ) → Stepped k ≡ Paused hart slot → ⊥
stepped_paused k hart slot h = cc

pub kept_arm : PausesGoOn → (entries : List Entry) (made : ℕ) (made_at : List ℕ) (a : ℕ) → IsKept entries made made_at → IsKept (entries ++ Armed a ∷ []) made made_at
kept_arm law entries made made_at a k = record {
  made_is = k.made_is ∙ ap length (sym (steps_more entries (Armed a) ∙ append-nil (steps entries)));
  harts = k.harts;
  since = λ hart o h. elim (law entries (Armed a) hart o h) [
    | inl g ↦ (let before = k.since hart o g.was_open in omega (arith, g.steps, before))
    | inr b ↦ absurd (armed_paused a hart b.slot b.pauses)
  ];
}

pub kept_resume : PausesGoOn → (entries : List Entry) (made : ℕ) (made_at : List ℕ) (j : ℕ) → IsKept entries made made_at → IsKept (entries ++ Resumed j ∷ []) made made_at
kept_resume law entries made made_at j k = record {
  made_is = k.made_is ∙ ap length (sym (steps_more entries (Resumed j) ∙ append-nil (steps entries)));
  harts = k.harts;
  since = λ hart o h. elim (law entries (Resumed j) hart o h) [
    | inl g ↦ (let before = k.since hart o g.was_open in omega (arith, g.steps, before))
    | inr b ↦ absurd (resumed_paused j hart b.slot b.pauses)
  ];
}

differ : false ≡ true → ⊥
differ h = cc

open_is_other : (entries : List Entry) (j hart : ℕ) (o : Opening) → is_some (opening_of entries j) ≡ false → opening_of entries hart ≡ Some o → j ≢ hart
open_is_other entries j hart o free h same = differ (sym free ∙ ap (λ (n : ℕ). is_some (opening_of entries n)) same ∙ ap is_some h)

pub other_is : (j hart : ℕ) → j ≢ hart → (j == hart) ≡ false
other_is j hart ne = grind (arith, nat_tests)

pub kept_step : PausesGoOn → (entries : List Entry) (made : ℕ) (made_at : List ℕ) (j : ℕ) → is_some (opening_of entries j) ≡ false → IsKept entries made made_at → IsKept (entries ++ Stepped j ∷ []) (made + 1) made_at
kept_step law entries made made_at j free k = record {
  made_is = (let before = k.made_is in let more = ap length (steps_more entries (Stepped j)) in omega (arith, before, more, length-append (steps entries) (j ∷ [])));
  harts = k.harts;
  since = λ hart o h. elim (law entries (Stepped j) hart o h) [
    | inl g ↦ (let before = k.since hart o g.was_open in
        let one : is_others_step hart (Stepped j) ≡ true = ap not (other_is j hart (open_is_other entries j hart o free g.was_open)) in
        let more : others_steps (entries ++ Stepped j ∷ []) o ≡ others_steps entries o + 1 = g.steps ∙ ap (λ b. others_steps entries o + cond b 1 0) one in
        omega (arith, before, more))
    | inr b ↦ absurd (stepped_paused j hart b.slot b.pauses)
  ];
}

same_hart : (a b : ℕ) (s t : Option ℕ) → Paused a s ≡ Paused b t → a ≡ b
same_hart a b s t h = cc

pub kept_pause : PausesGoOn → (entries : List Entry) (made : ℕ) (made_at : List ℕ) (j : ℕ) (slot : Option ℕ) → j < 16 → is_some (opening_of entries j) ≡ false → IsKept entries made made_at → IsKept (entries ++ Paused j slot ∷ []) made (set made_at j made)
kept_pause law entries made made_at j slot below free k = record {
  made_is = k.made_is ∙ ap length (sym (steps_more entries (Paused j slot) ∙ append-nil (steps entries)));
  harts = length-set made_at j made ∙ k.harts;
  since = λ hart o h. elim (law entries (Paused j slot) hart o h) [
    | inl g ↦ (let before = k.since hart o g.was_open in
        let ne : hart ≢ j = λ e. open_is_other entries j hart o free g.was_open (sym e) in
        let stays : get_or (set made_at j made) hart 0 ≡ get_or made_at hart 0 = get_or-set_other made_at j hart made 0 ne in
        omega (arith, g.steps, before, stays))
    | inr b ↦ (let same = same_hart j hart slot b.slot b.pauses in
        let long = k.harts in
        let within : j < length made_at = omega (arith, long) in
        let here : get_or (set made_at j made) hart 0 ≡ made = ap (λ (n : ℕ). get_or (set made_at j made) n 0) (sym same) ∙ get_or-set_same made_at j made 0 within in
        omega (arith, b.steps, here))
  ];
}

-- ---- an arming that may be refused

pub armed_or_not : (old new : Stored) (a : ℕ) (r : Result (Unit {0}) Refused) → IfOk r (λ u. Adds old new (Arm a) (Armed a)) → IfErr r (λ fault. forced (setting_of old) old.entries (Arm a) ≡ Err fault) → OnErr r (new ≡ old) → new ≡ record old { entries = old.entries ++ option_to_list (result_ok (forced (setting_of old) old.entries (Arm a))) }
armed_or_not old new a (Ok u) ok err stays =
    ok.is_added ∙ ap (λ r. record old { entries = old.entries ++ option_to_list (result_ok r) }) (sym ok.is_forced)
armed_or_not old new a (Err fault) ok err stays =
    stays ∙ ap (λ (xs : List Entry). record old { entries = xs }) (sym (append-nil old.entries)) ∙ ap (λ r. record old { entries = old.entries ++ option_to_list (result_ok r) }) (sym err)

pub kept_armed_or_not : PausesGoOn → (old new : Stored) (a made : ℕ) (made_at : List ℕ) (r : Result (Unit {0}) Refused) → IfOk r (λ u. Adds old new (Arm a) (Armed a)) → OnErr r (new ≡ old) → IsKept old.entries made made_at → IsKept new.entries made made_at
kept_armed_or_not law old new a made made_at (Ok u) ok stays k =
    subst (λ (c : Stored). IsKept c.entries made made_at) (sym ok.is_added) (kept_arm law old.entries made made_at a k)
kept_armed_or_not law old new a made made_at (Err fault) ok stays k =
    subst (λ (c : Stored). IsKept c.entries made made_at) (sym stays) k

-- ---- a resumption that is due

pub lt_is : (a b : ℕ) → a < b → nat_lt a b ≡ true
lt_is a b h = grind (arith, nat_tests)

due_is_open : (f : Opening → Bool) (o : Option Opening) → option_map_or f o false ≡ true → is_some o ≡ true
due_is_open f None h = cc
due_is_open f (Some x) h = refl

pub may_resume : (setting : Setting) (entries : List Entry) (hart : ℕ) → is_due setting entries hart ≡ true → hart < setting.plan.harts → forced setting entries (Resume hart) ≡ Ok (Resumed hart)
unfolding is_due forced
may_resume setting entries hart due below =
    let some = due_is_open (λ opening. nat_le setting.plan.pause (others_steps entries opening) || not (another_is_able setting entries hart)) (opening_of entries hart) due in
    ap (λ b. want b NoHart >>= λ _. want (is_some (opening_of entries hart)) NotPaused >>= λ _. Ok (Resumed hart)) (lt_is hart setting.plan.harts below)
    ∙ ap (λ b. want b NotPaused >>= λ _. Ok (Resumed hart)) some

err_is_ok : (r : Result Entry Refused) (fault : Refused) (e : Entry) → r ≡ Err fault → r ≡ Ok e → ⊥
err_is_ok r fault e h k = cc

pub never_refused : (setting : Setting) (entries : List Entry) (hart : ℕ) (fault : Refused) → is_due setting entries hart ≡ true → hart < setting.plan.harts → forced setting entries (Resume hart) ≡ Err fault → ⊥
never_refused setting entries hart fault due below err =
    err_is_ok (forced setting entries (Resume hart)) fault (Resumed hart) err (may_resume setting entries hart due below)

-- ---- a turn of an able hart

pub record IsReady (setting : Setting) (entries : List Entry) (hart : ℕ) : Type 0 where
  pub free : is_some (opening_of entries hart) ≡ false
  pub left : length (steps entries) < setting.plan.steps

pub and_first : (b c : Bool) → (b && c) ≡ true → b ≡ true
and_first true c h = refl
and_first false c h = cc

pub and_second : (b c : Bool) → (b && c) ≡ true → c ≡ true
and_second true c h = h
and_second false c h = cc

pub not_true : (b : Bool) → not b ≡ true → b ≡ false
not_true true h = cc
not_true false h = refl

lt_of : (a b : ℕ) → nat_lt a b ≡ true → a < b
lt_of a b h = grind (arith, nat_tests)

pub is_ready : (setting : Setting) (entries : List Entry) (hart : ℕ) → is_able setting entries hart ≡ true → IsReady setting entries hart
unfolding is_able
is_ready setting entries hart h =
    let first = and_first (runs_at setting.start entries (length entries) hart && not (is_some (opening_of entries hart))) (nat_lt (length (steps entries)) setting.plan.steps) h in
    record {
      free = not_true (is_some (opening_of entries hart)) (and_second (runs_at setting.start entries (length entries) hart) (not (is_some (opening_of entries hart))) first);
      left = lt_of (length (steps entries)) setting.plan.steps (and_second (runs_at setting.start entries (length entries) hart && not (is_some (opening_of entries hart))) (nat_lt (length (steps entries)) setting.plan.steps) h);
    }

err_not_ok : (r : Result Entry Refused) (fault : Refused) → r ≡ Err fault → is_ok r ≡ true → ⊥
err_not_ok r fault h k = (let e : false ≡ true = ap is_ok (sym h) ∙ k in differ e)

false_is_not : IsTrue false → ⊥
false_is_not h = cc

pub not_refused : (old : Stored) (hart : ℕ) (fault : Refused) → IsRefusedTurn old hart fault false → is_ok (forced (setting_of old) old.entries (Turn hart)) ≡ true → ⊥
not_refused old hart fault (inl err) may = err_not_ok (forced (setting_of old) old.entries (Turn hart)) fault err may
not_refused old hart fault (inr memory) may = false_is_not memory.1
