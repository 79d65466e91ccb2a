-- A legal schedule of a plan may be written.
use Rattle.std.proofs.Common.{◌≡◌, ℕ, zero, suc, ◌+◌, ◌*◌, ◌≤◌, ◌<◌, Bool, true, false, cond, List, [], ◌∷◌, ◌++◌, length, take, Option, Some, None, Ok, refl, sym, ap, subst, ◌∙◌, arith, length-append, add-one, zero-le}
use Rattle.std.specs.Prelude.{All, IfSome, nat_lt, count_by, is_some, option_map, option_and_then}
use Rattle.std.specs.FinSet.{FinSet, contains, insert, remove, len, len-empty}
use Rattle.std.specs.Ordering.{nat_cmp}
use Rattle.std.proofs.lemmas.List.Elements.{All-push}
use Rattle.std.proofs.Math.Seq.{take-length}
use Rattle.rv_collide.specs.Armed.{armed, arms, last_armed, mentions}
use Rattle.rv_collide.specs.Entries.{places, steps}
use Rattle.rv_collide.specs.Forced.{Setting, Turn, Resume, Arm, Disarm, forced, turn_entry, least_free}
use Rattle.rv_collide.specs.Grammar.{IsInReach}
use Rattle.rv_collide.specs.GrammarLaws.{LegalIsWritable}
use Rattle.rv_collide.specs.Legal.{IsLegal, call_of}
use Rattle.rv_collide.specs.Next.{next, plain}
use Rattle.rv_collide.specs.Pause.{Opening, opening_of, openings, openings_from}
use Rattle.rv_collide.specs.Plan.{IsPlan}
use Rattle.rv_collide.specs.StateAt.{state_at}
use Rattle.rv_collide.specs.declared.entry.Entry.{Entry}
use Rattle.rv_collide.specs.declared.entry.Entry.TheVariants.{Stepped, Paused, Resumed, Armed, Disarmed}
use Rattle.rv_collide.specs.declared.schedule.format.Format.TheVariants.{Second}
use Rattle.rv_hart.specs.NextAccess.{next_access, next_plain}
use Rattle.rv_hart.specs.State.{State}
use Rattle.rv_hart.specs.declared.access.Access.{Access}
use Rattle.rv_collide.proofs.ArmedAccesses.{plain_next}
use Rattle.rv_collide.proofs.ArmedLemmas.{armed_after, armed_push}
use Rattle.rv_collide.proofs.Growth.{arm_parts, count_push, disarm_part, fewer_open, free_within, len_with, len_without, openings_after, quiet_openings, resume_part, size_push, turn_parts}
use Rattle.rv_collide.proofs.LawLemmas.{below_of, take_next, wanted}
use Rattle.rv_collide.proofs.Openings.{without_hart}
use Rattle.rv_collide.proofs.Prefix.{steps_quiet, steps_step}
use Rattle.rv_collide.proofs.Slots.{openings_pause}

-- what the text needs of the entries so far, with what bounds their number
record IsRoomy (setting : Setting) (xs : List Entry) : Type 0 where
  pub steps_left : length (steps xs) ≤ setting.plan.steps
  pub arms_left : count_by arms xs ≤ setting.plan.arms
  pub few : length xs + 2 * len (armed setting.start xs) + length (openings xs) ≤ length (steps xs) + 3 * count_by arms xs
  pub reach : All (IsInReach Second) xs

-- ---- a hart that a call names

turn_hart : (setting : Setting) (xs : List Entry) (h : ℕ) (e : Entry) → forced setting xs (Turn h) ≡ Ok e → h < setting.plan.harts
unfolding forced
turn_hart setting xs h e ok = below_of h setting.plan.harts (wanted (nat_lt h setting.plan.harts) _ _ e ok).0

resume_hart : (setting : Setting) (xs : List Entry) (h : ℕ) (e : Entry) → forced setting xs (Resume h) ≡ Ok e → h < setting.plan.harts
unfolding forced
resume_hart setting xs h e ok = below_of h setting.plan.harts (wanted (nat_lt h setting.plan.harts) _ _ e ok).0

-- ---- a pause takes an armed address

record Takes (setting : Setting) (xs : List Entry) (h : ℕ) (slot : Option ℕ) : Type 0 where
  pub access : Access
  pub would : next setting.start xs (length xs) h ≡ Some access
  pub there : contains (armed setting.start xs) access.pc ≡ true
  pub free : least_free setting.plan.slots xs ≡ slot

next_of_plain : (h : ℕ) (o : Option State) (a : Access) → option_and_then (λ t. next_plain t h) o ≡ Some a → option_and_then (λ t. next_access t h) o ≡ Some a
next_of_plain h None a would = cc
next_of_plain h (Some s) a would = plain_next s h a would

plain_is_next : (start : State) (xs : List Entry) (n h : ℕ) (a : Access) → plain start xs n h ≡ Some a → next start xs n h ≡ Some a
unfolding plain next
plain_is_next start xs n h a would = next_of_plain h (state_at start xs n) a would

takes_by : (setting : Setting) (xs : List Entry) (h : ℕ) (slot : Option ℕ) (a : Access) (b : Bool) → next setting.start xs (length xs) h ≡ Some a → contains (armed setting.start xs) a.pc ≡ b → cond b (Paused h (least_free setting.plan.slots xs)) (Stepped h) ≡ Paused h slot → Takes setting xs h slot
takes_by setting xs h slot a true would there is = record { access = a; would = would; there = there; free = cc }
takes_by setting xs h slot a false would there is = cc

takes_of : (setting : Setting) (xs : List Entry) (h : ℕ) (slot : Option ℕ) (o : Option Access) → plain setting.start xs (length xs) h ≡ o → turn_entry setting xs h o ≡ Paused h slot → Takes setting xs h slot
takes_of setting xs h slot None would is = cc
takes_of setting xs h slot (Some a) would is = takes_by setting xs h slot a (contains (armed setting.start xs) a.pc) (plain_is_next setting.start xs (length xs) h a would) refl is

slot_in_reach : (slot_count : ℕ) → slot_count ≤ 8 → (slot : Option ℕ) → IfSome slot (λ s. s < slot_count) → IfSome slot (λ s. s ≤ 7)
slot_in_reach slot_count most None below = tt
slot_in_reach slot_count most (Some slot) below = omega arith

opening_found : (xs : List Entry) (h : ℕ) (o : Option Opening) → opening_of xs h ≡ o → is_some o ≡ true → length (without_hart h (openings xs)) + 1 ≤ length (openings xs)
opening_found xs h None found some = cc
opening_found xs h (Some o) found some = fewer_open xs h o found

-- ---- one more entry

module _ (setting : Setting) (plan : IsPlan setting.plan) (xs : List Entry) (r : IsRoomy setting xs) where
  with_arm : (a : ℕ) → forced setting xs (Arm a) ≡ Ok (Armed a) → IsRoomy setting (xs ++ Armed a ∷ [])
  with_arm a ok =
      let parts = arm_parts setting xs a (Armed a) ok in
      let left = parts.left in
      let count = count_push xs (Armed a) 1 refl in
      let n1 = ap length (steps_quiet xs (Armed a) refl) in
      let n2 = ap length (quiet_openings xs (Armed a) (λ h. refl) (λ place. refl)) in
      let n3 = size_push xs (Armed a) in
      let set_now : armed setting.start (xs ++ Armed a ∷ []) ≡ insert (armed setting.start xs) a = armed_push setting.start xs (Armed a) in
      let size = ap len set_now ∙ len_with (armed setting.start xs) a parts.absent in
      let r1 = r.steps_left in let r2 = r.arms_left in let r3 = r.few in
      record { steps_left = omega arith; arms_left = omega arith; few = omega arith; reach = All-push (IsInReach Second) xs (Armed a) r.reach tt }

  with_disarm : (a : ℕ) → forced setting xs (Disarm a) ≡ Ok (Disarmed a) → IsRoomy setting (xs ++ Disarmed a ∷ [])
  with_disarm a ok =
      let there = disarm_part setting xs a (Disarmed a) ok in
      let count = count_push xs (Disarmed a) 0 refl in
      let n1 = ap length (steps_quiet xs (Disarmed a) refl) in
      let n2 = ap length (quiet_openings xs (Disarmed a) (λ h. refl) (λ place. refl)) in
      let n3 = size_push xs (Disarmed a) in
      let set_now : armed setting.start (xs ++ Disarmed a ∷ []) ≡ remove (armed setting.start xs) a = armed_push setting.start xs (Disarmed a) in
      let size = ap (λ (s : FinSet nat_cmp). len s + 1) set_now ∙ len_without (armed setting.start xs) a there in
      let r1 = r.steps_left in let r2 = r.arms_left in let r3 = r.few in
      record { steps_left = omega arith; arms_left = omega arith; few = omega arith; reach = All-push (IsInReach Second) xs (Disarmed a) r.reach tt }

  with_step : (h : ℕ) → forced setting xs (Turn h) ≡ Ok (Stepped h) → IsRoomy setting (xs ++ Stepped h ∷ [])
  with_step h ok =
      let parts = turn_parts setting xs h (Stepped h) ok in
      let left = parts.left in
      let hart = turn_hart setting xs h (Stepped h) ok in
      let most = plan.harts in
      let count = count_push xs (Stepped h) 0 refl in
      let n1 = ap length (steps_step xs h) ∙ length-append (steps xs) (h ∷ []) in
      let n2 = ap length (quiet_openings xs (Stepped h) (λ k. refl) (λ place. refl)) in
      let n3 = size_push xs (Stepped h) in
      let set_now : armed setting.start (xs ++ Stepped h ∷ []) ≡ armed setting.start xs = armed_push setting.start xs (Stepped h) in
      let size = ap len set_now in
      let r1 = r.steps_left in let r2 = r.arms_left in let r3 = r.few in
      record { steps_left = omega arith; arms_left = omega arith; few = omega arith; reach = All-push (IsInReach Second) xs (Stepped h) r.reach (omega arith) }

  with_pause : (h : ℕ) (slot : Option ℕ) → forced setting xs (Turn h) ≡ Ok (Paused h slot) → IsRoomy setting (xs ++ Paused h slot ∷ [])
  with_pause h slot ok =
      let parts = turn_parts setting xs h (Paused h slot) ok in
      let hart = turn_hart setting xs h (Paused h slot) ok in
      let most = plan.harts in
      let taken = takes_of setting xs h slot (plain setting.start xs (length xs) h) refl parts.is in
      let count = count_push xs (Paused h slot) 0 refl in
      let n1 = ap length (steps_quiet xs (Paused h slot) refl) in
      let n2 = ap length (openings_pause xs h slot) ∙ length-append (openings xs) (record { hart = h; slot = slot; place = length xs } ∷ []) in
      let n3 = size_push xs (Paused h slot) in
      let set_now : armed setting.start (xs ++ Paused h slot ∷ []) ≡ remove (armed setting.start xs) taken.access.pc =
      armed_push setting.start xs (Paused h slot) ∙ ap (λ (would : Option Access). armed_after (option_map (λ (access : Access). record { address = access.pc; arms = false }) would) (armed setting.start xs)) taken.would in
      let size = ap (λ (s : FinSet nat_cmp). len s + 1) set_now ∙ len_without (armed setting.start xs) taken.access.pc taken.there in
      let r1 = r.steps_left in let r2 = r.arms_left in let r3 = r.few in
      record { steps_left = omega arith; arms_left = omega arith; few = omega arith; reach = All-push (IsInReach Second) xs (Paused h slot) r.reach (omega arith, slot_in_reach setting.plan.slots plan.slots slot (free_within setting.plan.slots xs slot taken.free)) }

  with_resume : (h : ℕ) → forced setting xs (Resume h) ≡ Ok (Resumed h) → IsRoomy setting (xs ++ Resumed h ∷ [])
  with_resume h ok =
      let hart = resume_hart setting xs h (Resumed h) ok in
      let most = plan.harts in
      let count = count_push xs (Resumed h) 0 refl in
      let n1 = ap length (steps_quiet xs (Resumed h) refl) in
      let n2 = ap length (openings_after xs h) in
      let n3 = size_push xs (Resumed h) in
      let n4 = opening_found xs h (opening_of xs h) refl (resume_part setting xs h (Resumed h) ok) in
      let set_now : armed setting.start (xs ++ Resumed h ∷ []) ≡ armed setting.start xs = armed_push setting.start xs (Resumed h) in
      let size = ap len set_now in
      let r1 = r.steps_left in let r2 = r.arms_left in let r3 = r.few in
      record { steps_left = omega arith; arms_left = omega arith; few = omega arith; reach = All-push (IsInReach Second) xs (Resumed h) r.reach (omega arith) }

  with_entry : (e : Entry) → forced setting xs (call_of e) ≡ Ok e → IsRoomy setting (xs ++ e ∷ [])
  with_entry (Stepped h) ok = with_step h ok
  with_entry (Paused h slot) ok = with_pause h slot ok
  with_entry (Resumed h) ok = with_resume h ok
  with_entry (Armed a) ok = with_arm a ok
  with_entry (Disarmed a) ok = with_disarm a ok

-- ---- the whole

nothing : (setting : Setting) → IsRoomy setting []
unfolding steps armed mentions places last_armed openings openings_from
nothing setting = let e = len-empty nat_cmp in record { steps_left = zero-le; arms_left = zero-le; few = omega arith; reach = λ k d below. absurd (omega arith) }

front : (setting : Setting) (entries : List Entry) → IsPlan setting.plan → IsLegal setting entries → (n : ℕ) → n ≤ length entries → IsRoomy setting (take n entries)
front setting entries plan legal zero below = nothing setting
front setting entries plan legal (suc n) below =
    let t = take_next entries n (omega arith) in
    let is : take (suc n) entries ≡ take n entries ++ t.0 ∷ [] = rw (← add-one n) t.2 in
    subst (λ (ys : List Entry). IsRoomy setting ys) (sym is)
    (with_entry setting plan (take n entries) (front setting entries plan legal n (omega arith)) t.0 (legal n t.0 t.1))

pub legal_is_writable : LegalIsWritable
legal_is_writable setting entries plan legal =
    let r = subst (λ (ys : List Entry). IsRoomy setting ys) (take-length entries) (front setting entries plan legal (length entries) (omega arith)) in
    let r1 = r.steps_left in let r2 = r.arms_left in let r3 = r.few in
    record { plan = tt; each = r.reach; few = omega arith }
