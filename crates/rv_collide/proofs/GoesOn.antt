-- A turn that is a step, if there is such a hart and it runs.
use Rattle.std.proofs.Common.{◌≡◌, ℕ, true, false, cond, List, [], ◌∷◌, length, Option, Some, None, Ok, inl, inr, refl, sym, ap, ◌∙◌, arith}
use Rattle.std.specs.Prelude.{◌==◌, nat_lt, slice_get, map}
use Rattle.std.specs.FinSet.{contains, len, contains-empty, empty_of_len}
use Rattle.std.specs.Option.{option_map_or}
use Rattle.std.specs.Ordering.{nat_cmp}
use Rattle.std.proofs.lemmas.Bool.{cases_lt}
use Rattle.std.proofs.lemmas.Bool.Decides.{nat_tests}
use Rattle.rv_collide.specs.Armed.{armed}
use Rattle.rv_collide.specs.Forced.{Turn, forced, turn_entry, least_free}
use Rattle.rv_collide.specs.Next.{plain, runs_at}
use Rattle.rv_collide.specs.Pause.{openings}
use Rattle.rv_collide.specs.StateAt.{state_at}
use Rattle.rv_collide.specs.Begun.{Begun, setting_of}
use Rattle.rv_collide.specs.declared.entry.Entry.{Entry}
use Rattle.rv_collide.specs.declared.entry.Entry.TheVariants.{Stepped, Paused}
use Rattle.rv_collide.specs.declared.open_pause.OpenPause.{OpenPause}
use Rattle.rv_collide.specs.internal.Core.{opening}
use Rattle.rv_collide.specs.internal.GoesOn.{GoesOn}
use Rattle.rv_hart.specs.Refusals.{is_running_hart}
use Rattle.rv_hart.specs.State.{State, is_running}
use Rattle.rv_hart.specs.Step.{action_at, step_by, step_of, step_of_hart}
use Rattle.rv_hart.specs.declared.access.Access.{Access}
use Rattle.rv_hart.specs.declared.access.Event.{Event}
use Rattle.rv_hart.specs.declared.hart.Hart.{Hart}
use Rattle.rv_collide.proofs.Calls.{turn_ok}
use Rattle.rv_collide.proofs.StepFaults.{no_hart}

runs_by : (s : State) (h : ℕ) (o : Option Hart) (p : Event × State) → step_of_hart s h o ≡ Some p → is_running_hart o ≡ true
runs_by s h None p made = cc
runs_by s h (Some hart) p made =
    elim (is_running hart.status) as (λ b. cond b (Some (step_by s h hart (action_at s.memory hart))) None ≡ Some p → b ≡ true) [ true ↦ λ e. refl | false ↦ λ e. cc ] made

-- what made a step is a running hart
pub runs_now : (s : State) (h : ℕ) (p : Event × State) → step_of s h ≡ Some p → is_running_hart (slice_get s.harts h) ≡ true
unfolding step_of
runs_now s h p made = runs_by s h (slice_get s.harts h) p made

pub within : (harts : List Hart) (h n : ℕ) → length harts ≡ n → is_running_hart (slice_get harts h) ≡ true → nat_lt h n ≡ true
within harts h n count runs =
    elim (cases_lt h n) [
      | inl lt ↦ grind (arith, nat_tests)
      | inr past ↦ absurd (no_hart harts h runs (omega arith))
    ]

pub runs_there : (start s : State) (xs : List Entry) (n h : ℕ) → state_at start xs n ≡ Some s → is_running_hart (slice_get s.harts h) ≡ true → runs_at start xs n h ≡ true
unfolding runs_at
runs_there start s xs n h at runs = ap (λ (o : Option State). option_map_or (λ (s : State). is_running_hart (slice_get s.harts h)) o false) at ∙ runs

-- a turn that goes on was forced to be the step that was made
pub step_forced : (c : Begun) (s : State) (h : ℕ) (p : Event × State) → state_at (setting_of c).start c.entries (length c.entries) ≡ Some s → length s.harts ≡ c.plan.harts → GoesOn c h → step_of s h ≡ Some p → forced (setting_of c) c.entries (Turn h) ≡ Ok (Stepped h)
step_forced c s h p at count goes made =
    let runs = runs_now s h p made in
    turn_ok (setting_of c) c.entries h (within s.harts h c.plan.harts count runs) (runs_there (setting_of c).start s c.entries (length c.entries) h at runs) goes.free goes.left ∙ ap Ok goes.passes

by_access : (c : Begun) (h : ℕ) (o : Option Access) → len (armed (setting_of c).start c.entries) ≡ 0 → turn_entry (setting_of c) c.entries h o ≡ Stepped h
by_access c h None none = refl
by_access c h (Some access) none =
    ap (λ b. cond b (Paused h (least_free c.plan.slots c.entries)) (Stepped h)) (ap (λ s. contains s access.pc) (empty_of_len (armed (setting_of c).start c.entries) none) ∙ contains-empty nat_cmp access.pc)

is_zero : (n : ℕ) → (n == 0) ≡ true → n ≡ 0
is_zero n h = grind (arith, nat_tests)

-- where no address is armed, no turn is a pause
pub unarmed : (c : Begun) (h : ℕ) → (len (armed (setting_of c).start c.entries) == 0) ≡ true → turn_entry (setting_of c) c.entries h (plain (setting_of c).start c.entries (length c.entries) h) ≡ Stepped h
unarmed c h none = by_access c h (plain (setting_of c).start c.entries (length c.entries) h) (is_zero (len (armed (setting_of c).start c.entries)) none)

none_of : (opened : List OpenPause) (n : ℕ) → n ≡ length opened → (n == 0) ≡ true → opened ≡ []
none_of [] n is none = refl
none_of (p ∷ opened) n is none = absurd (grind (arith, nat_tests))

-- where none is kept, no pause is open
pub none_open : (xs : List Entry) (opened : List OpenPause) (n : ℕ) → map opening opened ≡ openings xs → n ≡ length opened → (n == 0) ≡ true → openings xs ≡ []
none_open xs opened n are is none = sym are ∙ ap (map opening) (none_of opened n is none)
