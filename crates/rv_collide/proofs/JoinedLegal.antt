-- A list is legal behind a prefix, and under each plan with room for it.
use Rattle.std.proofs.Common.{◌≡◌, ℕ, zero, suc, ◌+◌, ◌-◌, ◌%◌, ◌≤◌, ◌<◌, Bool, true, false, cond, List, [], ◌∷◌, ◌++◌, length, take, Option, Some, None, Ok, refl, sym, ap, subst, ◌∙◌, arith, inl, inr, length-append}
use Rattle.std.specs.Prelude.{◌==◌, not, nat_lt, is_some, count_by, slice_get, option_map}
use Rattle.std.specs.FinSet.{FinSet, contains, len}
use Rattle.std.specs.Ordering.{nat_cmp}
use Rattle.std.proofs.lemmas.Bool.{cases_lt}
use Rattle.std.proofs.lemmas.Bool.Decides.{nat_tests}
use Rattle.std.proofs.lemmas.List.{take-append-le}
use Rattle.std.proofs.lemmas.List.Sums.{sum_by-append}
use Rattle.std.proofs.Math.Seq.{take-append-add}
use Rattle.rv_break.specs.declared.claim.TheConstants.{ARMED_LIMIT}
use Rattle.rv_collide.specs.Armed.{armed, arms}
use Rattle.rv_collide.specs.Entries.{steps}
use Rattle.rv_collide.specs.Forced.{Setting, Turn, Resume, Arm, Disarm, forced, least_free, turn_entry}
use Rattle.rv_collide.specs.Joined.{IsEnough, IsPrefix, JoinedIsLegal, RoomIsEnough, opening_later, steps_needed}
use Rattle.rv_collide.specs.Legal.{call_of}
use Rattle.rv_collide.specs.Next.{plain, runs_at}
use Rattle.rv_collide.specs.Pause.{Opening, opening_of}
use Rattle.rv_collide.specs.Plan.{Numbers}
use Rattle.rv_collide.specs.declared.entry.Entry.{Entry}
use Rattle.rv_collide.specs.declared.entry.Entry.TheVariants.{Stepped, Paused, Resumed, Armed, Disarmed}
use Rattle.rv_hart.specs.State.{State}
use Rattle.rv_hart.specs.declared.access.Access.{Access}
use Rattle.rv_collide.proofs.Behind.{free_behind, get_behind, opening_behind, plain_behind, runs_behind}
use Rattle.rv_collide.proofs.Calls.{arm_ok, disarm_ok, resume_ok, turn_ok}
use Rattle.rv_collide.proofs.JoinedLists.{armed_behind}
use Rattle.rv_collide.proofs.LawLemmas.{some_same, wanted}
use Rattle.rv_collide.proofs.Prefix.{get_front}

not_false : (b : Bool) → not b ≡ true → b ≡ false
not_false true h = cc
not_false false h = refl

is_below : (a b : ℕ) → a < b → nat_lt a b ≡ true
is_below a b h = grind (arith, nat_tests)

-- ---- room

abbrev pub turns : Entry → Bool
turns (Stepped hart) = true
turns (Paused hart slot) = true
turns (Resumed hart) = false
turns (Armed address) = false
turns (Disarmed address) = false

-- what is left of a plan's steps and arms, where the entry asks for it
pub record HasLeft (plan : Numbers) (zs : List Entry) (e : Entry) : Type 0 where
  pub step_left : turns e ≡ true → length (steps zs) < plan.steps
  pub arm_left : arms e ≡ true → count_by arms zs < plan.arms

steps_before : (zs : List Entry) (place : ℕ) (e : Entry) → slice_get zs place ≡ Some e → turns e ≡ true → length (steps (take place zs)) < steps_needed zs
unfolding steps steps_needed
steps_before [] place e there turn = cc
steps_before (Stepped h ∷ zs) zero e there turn = omega arith
steps_before (Paused h slot ∷ zs) zero e there turn = omega arith
steps_before (Resumed h ∷ zs) zero e there turn = let own = ap turns (some_same (Resumed h) e there) ∙ turn in cc
steps_before (Armed a ∷ zs) zero e there turn = let own = ap turns (some_same (Armed a) e there) ∙ turn in cc
steps_before (Disarmed a ∷ zs) zero e there turn = let own = ap turns (some_same (Disarmed a) e there) ∙ turn in cc
steps_before (Stepped h ∷ zs) (suc place) e there turn = let rest = steps_before zs place e there turn in omega arith
steps_before (Paused h slot ∷ zs) (suc place) e there turn = let rest = steps_before zs place e there turn in omega arith
steps_before (Resumed h ∷ zs) (suc place) e there turn = steps_before zs place e there turn
steps_before (Armed a ∷ zs) (suc place) e there turn = steps_before zs place e there turn
steps_before (Disarmed a ∷ zs) (suc place) e there turn = steps_before zs place e there turn

pub one_more : (z : Entry) (zs : List Entry) → count_by arms (z ∷ zs) ≡ (0 + cond (arms z) 1 0) + count_by arms zs
one_more z zs = sum_by-append (λ x. cond (arms x) 1 0) (z ∷ []) zs

none_before : (z : Entry) (zs : List Entry) → arms z ≡ true → 0 < count_by arms (z ∷ zs)
none_before z zs arm =
    let all = one_more z zs ∙ ap (λ b. (0 + cond b 1 0) + count_by arms zs) arm in omega arith

arms_before : (zs : List Entry) (place : ℕ) (e : Entry) → slice_get zs place ≡ Some e → arms e ≡ true → count_by arms (take place zs) < count_by arms zs
arms_before [] place e there arm = cc
arms_before (z ∷ zs) zero e there arm = none_before z zs (ap arms (some_same z e there) ∙ arm)
arms_before (z ∷ zs) (suc place) e there arm =
    let rest = arms_before zs place e there arm in
    let all = one_more z zs in
    let front = one_more z (take place zs) in
    omega arith

left_at : (plan other : Numbers) (zs : List Entry) → IsEnough plan other zs → (place : ℕ) (e : Entry) → slice_get zs place ≡ Some e → HasLeft other (take place zs) e
left_at plan other zs enough place e there =
    let room = enough.room in
    let room_to_arm = enough.arms_made in
    record {
      step_left = λ turn. let before = steps_before zs place e there turn in omega arith;
      arm_left = λ arm. let before = arms_before zs place e there arm in omega arith;
    }

-- ---- lists at whose ends the same calls are accepted

pub record AreAlike (one : Setting) (xs : List Entry) (other : Setting) (zs : List Entry) : Type 0 where
  pub harts : one.plan.harts ≡ other.plan.harts
  pub slots : one.plan.slots ≡ other.plan.slots
  pub run : (h : ℕ) → runs_at other.start zs (length zs) h ≡ runs_at one.start xs (length xs) h
  pub would : (h : ℕ) → plain other.start zs (length zs) h ≡ plain one.start xs (length xs) h
  pub paused : (h : ℕ) → is_some (opening_of zs h) ≡ is_some (opening_of xs h)
  pub armed_are : armed other.start zs ≡ armed one.start xs
  pub free : (count : ℕ) → least_free count zs ≡ least_free count xs

module _ (one : Setting) (xs : List Entry) (other : Setting) (zs : List Entry) (alike : AreAlike one xs other zs) where
  turned_alike : (h : ℕ) (access : Option Access) → turn_entry other zs h access ≡ turn_entry one xs h access
  turned_alike h None = refl
  turned_alike h (Some access) =
      ap (λ (s : FinSet nat_cmp). cond (contains s access.pc) (Paused h (least_free other.plan.slots zs)) (Stepped h)) alike.armed_are
      ∙ ap (λ (slot : Option ℕ). cond (contains (armed one.start xs) access.pc) (Paused h slot) (Stepped h)) (ap (λ n. least_free n zs) (sym alike.slots) ∙ alike.free one.plan.slots)

  turn_alike : (h : ℕ) (e : Entry) → length (steps zs) < other.plan.steps → forced one xs (Turn h) ≡ Ok e → forced other zs (Turn h) ≡ Ok e
  unfolding forced
  turn_alike h e left ok =
      let a = wanted (nat_lt h one.plan.harts) _ _ e ok in
      let b = wanted (runs_at one.start xs (length xs) h) _ _ e a.1 in
      let c = wanted (not (is_some (opening_of xs h))) _ _ e b.1 in
      let d = wanted (nat_lt (length (steps xs)) one.plan.steps) _ _ e c.1 in
      turn_ok other zs h (ap (nat_lt h) (sym alike.harts) ∙ a.0) (alike.run h ∙ b.0) (alike.paused h ∙ not_false (is_some (opening_of xs h)) c.0) (is_below (length (steps zs)) other.plan.steps left)
      ∙ ap Ok (ap (turn_entry other zs h) (alike.would h) ∙ turned_alike h (plain one.start xs (length xs) h))
      ∙ d.1

  resume_alike : (h : ℕ) → forced one xs (Resume h) ≡ Ok (Resumed h) → forced other zs (Resume h) ≡ Ok (Resumed h)
  unfolding forced
  resume_alike h ok =
      let a = wanted (nat_lt h one.plan.harts) _ _ (Resumed h) ok in
      let b = wanted (is_some (opening_of xs h)) _ _ (Resumed h) a.1 in
      resume_ok other zs h (ap (nat_lt h) (sym alike.harts) ∙ a.0) (alike.paused h ∙ b.0)

  arm_alike : (address : ℕ) → count_by arms zs < other.plan.arms → forced one xs (Arm address) ≡ Ok (Armed address) → forced other zs (Arm address) ≡ Ok (Armed address)
  unfolding forced
  arm_alike address left ok =
      let a = wanted (nat_lt (count_by arms xs) one.plan.arms) _ _ (Armed address) ok in
      let b = wanted (address % 4 == 0) _ _ (Armed address) a.1 in
      let c = wanted (not (contains (armed one.start xs) address)) _ _ (Armed address) b.1 in
      let d = wanted (nat_lt (len (armed one.start xs)) ARMED_LIMIT) _ _ (Armed address) c.1 in
      arm_ok other zs address (is_below (count_by arms zs) other.plan.arms left) b.0
      (ap (λ (s : FinSet nat_cmp). contains s address) alike.armed_are ∙ not_false (contains (armed one.start xs) address) c.0)
      (ap (λ (s : FinSet nat_cmp). nat_lt (len s) ARMED_LIMIT) alike.armed_are ∙ d.0)

  disarm_alike : (address : ℕ) → forced one xs (Disarm address) ≡ Ok (Disarmed address) → forced other zs (Disarm address) ≡ Ok (Disarmed address)
  unfolding forced
  disarm_alike address ok =
      let a = wanted (contains (armed one.start xs) address) _ _ (Disarmed address) ok in
      disarm_ok other zs address (ap (λ (s : FinSet nat_cmp). contains s address) alike.armed_are ∙ a.0)

  pub forced_alike : (e : Entry) → HasLeft other.plan zs e → forced one xs (call_of e) ≡ Ok e → forced other zs (call_of e) ≡ Ok e
  forced_alike (Stepped h) left ok = turn_alike h (Stepped h) (left.step_left refl) ok
  forced_alike (Paused h slot) left ok = turn_alike h (Paused h slot) (left.step_left refl) ok
  forced_alike (Resumed h) left ok = resume_alike h ok
  forced_alike (Armed a) left ok = arm_alike a (left.arm_left refl) ok
  forced_alike (Disarmed a) left ok = disarm_alike a ok

-- ---- other plans

abbrev from : State → Numbers → Setting
from start plan = record { start = start; plan = plan }

alike_itself : (start : State) (plan other : Numbers) (zs : List Entry) → plan.harts ≡ other.harts → plan.slots ≡ other.slots → AreAlike (from start plan) zs (from start other) zs
alike_itself start plan other zs harts slots = record {
  harts = harts;
  slots = slots;
  run = λ h. refl;
  would = λ h. refl;
  paused = λ h. refl;
  armed_are = refl;
  free = λ count. refl;
}

pub room_is_enough : RoomIsEnough
room_is_enough start plan other entries legal enough place e there =
    forced_alike (from start plan) (take place entries) (from start other) (take place entries)
    (alike_itself start plan other (take place entries) enough.harts enough.slots) e (left_at plan other entries enough place e there) (legal place e there)

-- ---- behind a prefix

same_paused : (by : ℕ) (o : Option Opening) → is_some (option_map (opening_later by) o) ≡ is_some o
same_paused by None = refl
same_paused by (Some o) = refl

alike_behind : (start end : State) (before after whole : Numbers) (xs zs : List Entry) → IsPrefix (from start before) xs end → after.harts ≡ whole.harts → after.slots ≡ whole.slots → AreAlike (from end after) zs (from start whole) (xs ++ zs)
alike_behind start end before after whole xs zs is harts slots = record {
  harts = harts;
  slots = slots;
  run = λ h. ap (λ n. runs_at start (xs ++ zs) n h) (length-append xs zs) ∙ runs_behind start end xs is.leads zs (length zs) h;
  would = λ h. ap (λ n. plain start (xs ++ zs) n h) (length-append xs zs) ∙ plain_behind start end xs is.leads zs (length zs) h;
  paused = λ h. ap is_some (opening_behind xs is.unwatched zs h) ∙ same_paused (length xs) (opening_of zs h);
  armed_are = armed_behind start end xs is.leads is.unarmed zs;
  free = λ count. free_behind xs is.unwatched zs count;
}

split : (place n : ℕ) → n ≤ place → n + (place - n) ≡ place
split place n le = omega arith

pub joined_is_legal : JoinedIsLegal
joined_is_legal start end before after whole xs ys is legal room_before room_after place e there =
    elim (cases_lt place (length xs)) [
      | inl lt ↦
          let there_before : slice_get xs place ≡ Some e = sym (get_front xs ys place lt) ∙ there in
          let same : take place (xs ++ ys) ≡ take place xs = take-append-le place xs ys (omega arith) in
          let left = left_at before whole (xs ++ ys) room_before place e there in
          subst (λ (zs : List Entry). forced (from start whole) zs (call_of e) ≡ Ok e) (sym same)
          (forced_alike (from start before) (take place xs) (from start whole) (take place xs)
          (alike_itself start before whole (take place xs) room_before.harts room_before.slots) e
          (subst (λ (zs : List Entry). HasLeft whole zs e) same left) (is.legal place e there_before))
      | inr le ↦
          let i = place - length xs in
          let at : length xs + i ≡ place = split place (length xs) le in
          let there_after : slice_get ys i ≡ Some e = sym (get_behind xs ys i) ∙ ap (slice_get (xs ++ ys)) at ∙ there in
          let same : take place (xs ++ ys) ≡ xs ++ take i ys = ap (λ n. take n (xs ++ ys)) (sym at) ∙ take-append-add xs ys i in
          let left = left_at before whole (xs ++ ys) room_before place e there in
          subst (λ (zs : List Entry). forced (from start whole) zs (call_of e) ≡ Ok e) (sym same)
          (forced_alike (from end after) (take i ys) (from start whole) (xs ++ take i ys)
          (alike_behind start end before after whole xs (take i ys) is room_after.harts room_after.slots) e
          (subst (λ (zs : List Entry). HasLeft whole zs e) same left) (legal i e there_after))
    ]
