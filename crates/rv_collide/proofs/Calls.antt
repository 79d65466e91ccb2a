-- What a call is forced to do, test by test.
use Rattle.std.proofs.Common.{◌≡◌, ℕ, ◌%◌, ◌<◌, ◌≤◌, Bool, true, false, List, length, Ok, Err, refl, sym, arith}
use Rattle.std.specs.Prelude.{◌==◌, ◌&&◌, not, nat_lt, is_some, count_by}
use Rattle.std.specs.FinSet.{contains, len}
use Rattle.std.proofs.lemmas.Bool.Decides.{nat_tests}
use Rattle.rv_break.specs.declared.claim.TheConstants.{ARMED_LIMIT}
use Rattle.rv_collide.specs.Armed.{armed, arms}
use Rattle.rv_collide.specs.Entries.{steps}
use Rattle.rv_collide.specs.Forced.{Setting, Turn, Resume, Arm, Disarm, forced, turn_entry}
use Rattle.rv_collide.specs.Next.{plain, runs_at}
use Rattle.rv_collide.specs.Pause.{opening_of}
use Rattle.rv_collide.specs.declared.entry.Entry.{Entry}
use Rattle.rv_collide.specs.declared.entry.Entry.TheVariants.{Resumed, Armed, Disarmed}
use Rattle.rv_collide.specs.declared.refused.Refused.TheVariants.{NoHart, NotRunning, Paused, StepsSpent, NotPaused, ArmsSpent, Misaligned, AlreadyArmed, ArmedFull, NotArmed}

module _ (setting : Setting) (xs : List Entry) (a : ℕ) where
  pub disarm_ok : contains (armed setting.start xs) a ≡ true → forced setting xs (Disarm a) ≡ Ok (Disarmed a)
  unfolding forced
  disarm_ok there = rw there refl

  pub disarm_refused : contains (armed setting.start xs) a ≡ false → forced setting xs (Disarm a) ≡ Err NotArmed
  unfolding forced
  disarm_refused absent = rw absent refl

  pub arm_spent : nat_lt (count_by arms xs) setting.plan.arms ≡ false → forced setting xs (Arm a) ≡ Err ArmsSpent
  unfolding forced
  arm_spent spent = rw spent refl

  pub arm_misaligned : nat_lt (count_by arms xs) setting.plan.arms ≡ true → (a % 4 == 0) ≡ false → forced setting xs (Arm a) ≡ Err Misaligned
  unfolding forced
  arm_misaligned left odd = rw (left, odd) refl

  pub arm_again : nat_lt (count_by arms xs) setting.plan.arms ≡ true → (a % 4 == 0) ≡ true → contains (armed setting.start xs) a ≡ true → forced setting xs (Arm a) ≡ Err AlreadyArmed
  unfolding forced
  arm_again left aligned there = rw (left, aligned, there) refl

  pub arm_full : nat_lt (count_by arms xs) setting.plan.arms ≡ true → (a % 4 == 0) ≡ true → contains (armed setting.start xs) a ≡ false → nat_lt (len (armed setting.start xs)) ARMED_LIMIT ≡ false → forced setting xs (Arm a) ≡ Err ArmedFull
  unfolding forced
  arm_full left aligned absent full = rw (left, aligned, absent, full) refl

  pub arm_ok : nat_lt (count_by arms xs) setting.plan.arms ≡ true → (a % 4 == 0) ≡ true → contains (armed setting.start xs) a ≡ false → nat_lt (len (armed setting.start xs)) ARMED_LIMIT ≡ true → forced setting xs (Arm a) ≡ Ok (Armed a)
  unfolding forced
  arm_ok left aligned absent room = rw (left, aligned, absent, room) refl

module _ (setting : Setting) (xs : List Entry) (h : ℕ) where
  pub turn_no_hart : nat_lt h setting.plan.harts ≡ false → forced setting xs (Turn h) ≡ Err NoHart
  unfolding forced
  turn_no_hart past = rw past refl

  pub turn_not_running : nat_lt h setting.plan.harts ≡ true → runs_at setting.start xs (length xs) h ≡ false → forced setting xs (Turn h) ≡ Err NotRunning
  unfolding forced
  turn_not_running hart idle = rw (hart, idle) refl

  pub turn_paused : nat_lt h setting.plan.harts ≡ true → runs_at setting.start xs (length xs) h ≡ true → is_some (opening_of xs h) ≡ true → forced setting xs (Turn h) ≡ Err Paused
  unfolding forced
  turn_paused hart runs paused = rw (hart, runs, paused) refl

  pub turn_spent : nat_lt h setting.plan.harts ≡ true → runs_at setting.start xs (length xs) h ≡ true → is_some (opening_of xs h) ≡ false → nat_lt (length (steps xs)) setting.plan.steps ≡ false → forced setting xs (Turn h) ≡ Err StepsSpent
  unfolding forced
  turn_spent hart runs free spent = rw (hart, runs, free, spent) refl

  pub turn_ok : nat_lt h setting.plan.harts ≡ true → runs_at setting.start xs (length xs) h ≡ true → is_some (opening_of xs h) ≡ false → nat_lt (length (steps xs)) setting.plan.steps ≡ true → forced setting xs (Turn h) ≡ Ok (turn_entry setting xs h (plain setting.start xs (length xs) h))
  unfolding forced
  turn_ok hart runs free left = rw (hart, runs, free, left) refl

  pub resume_no_hart : nat_lt h setting.plan.harts ≡ false → forced setting xs (Resume h) ≡ Err NoHart
  unfolding forced
  resume_no_hart past = rw past refl

  pub resume_not_paused : nat_lt h setting.plan.harts ≡ true → is_some (opening_of xs h) ≡ false → forced setting xs (Resume h) ≡ Err NotPaused
  unfolding forced
  resume_not_paused hart free = rw (hart, free) refl

  pub resume_ok : nat_lt h setting.plan.harts ≡ true → is_some (opening_of xs h) ≡ true → forced setting xs (Resume h) ≡ Ok (Resumed h)
  unfolding forced
  resume_ok hart paused = rw (hart, paused) refl

pub not_equal : (a : ℕ) → (a ≡ 0 → ⊥) → (a == 0) ≡ false
not_equal a ne = grind (arith, nat_tests)

pub equal : (a : ℕ) → a ≡ 0 → (a == 0) ≡ true
equal a e = grind (arith, nat_tests)

pub room_of : (b c : Bool) → true ≡ (not b && c) → c ≡ true
room_of true c h = cc
room_of false c h = sym h

pub not_below : (h harts n : ℕ) → harts ≡ n → harts ≤ h → nat_lt h n ≡ false
not_below h harts n is le = grind (arith, nat_tests)

pub is_below : (h harts n : ℕ) → harts ≡ n → h < harts → nat_lt h n ≡ true
is_below h harts n is lt = grind (arith, nat_tests)
