-- The access that a hart would make at an armed address.
use Rattle.std.proofs.Common.{◌≡◌, ℕ, Bool, true, false, cond, List, length, Option, Some, None, refl, sym, ap, ◌∙◌}
use Rattle.std.specs.Prelude.{slice_get, option_and_then, IsSomeAnd, IfSome, IfNone}
use Rattle.std.specs.FinSet.{contains}
use Rattle.rv_collide.specs.Detected.{IsArmedAccess}
use Rattle.rv_collide.specs.Armed.{armed}
use Rattle.rv_collide.specs.Forced.{turn_entry, least_free}
use Rattle.rv_collide.specs.Next.{next, plain}
use Rattle.rv_collide.specs.StateAt.{state_at}
use Rattle.rv_collide.specs.Begun.{Begun, setting_of}
use Rattle.rv_collide.specs.declared.entry.Entry.{Entry}
use Rattle.rv_collide.specs.declared.entry.Entry.TheVariants.{Stepped, Paused}
use Rattle.rv_hart.specs.Common.{NotesKept}
use Rattle.rv_hart.specs.NextAccess.{accessed, access_of_step, at_plain, next_access, next_plain}
use Rattle.rv_hart.specs.State.{State, is_running}
use Rattle.rv_hart.specs.Step.{action_at, event_of, reserves, step_by, step_of, step_of_hart}
use Rattle.rv_hart.specs.declared.access.Access.{Access}
use Rattle.rv_hart.specs.declared.access.Common.{Common}
use Rattle.rv_hart.specs.declared.access.Noted.{Noted}
use Rattle.rv_hart.specs.declared.action.Action.{Action}
use Rattle.rv_hart.specs.declared.action.Action.TheVariants.{Trap, Set, Load, Store, Reserve, Conditional, Replace, Print, Exit}
use Rattle.rv_hart.specs.declared.hart.Hart.{Hart}
use Rattle.rv_collide.proofs.LawLemmas.{some_same}

-- ---- an access is at its hart's pc

pc_of : (a b : Access) → Some a ≡ Some b → b.pc ≡ a.pc
pc_of a b h = ap (λ (x : Access). x.pc) (sym (some_same a b h))

accessed_pc : (hart : Hart) (action : Action) (a : Access) → accessed (event_of hart action) ≡ Some a → a.pc ≡ hart.pc
accessed_pc hart (Trap cause) a h = cc
accessed_pc hart (Exit code) a h = cc
accessed_pc hart (Set rd value next) a h = cc
accessed_pc hart (Print byte) a h = cc
accessed_pc hart (Load rd address size signed) a h = pc_of (record { pc = hart.pc; first = address; size = size; read = true; write = false }) a h
accessed_pc hart (Store address size value) a h = pc_of (record { pc = hart.pc; first = address; size = size; read = false; write = true }) a h
accessed_pc hart (Reserve rd address) a h = pc_of (record { pc = hart.pc; first = address; size = 4; read = true; write = false }) a h
accessed_pc hart (Conditional rd address value) a h =
    elim (reserves hart.reservation address) as (λ b. cond b (Some (record { pc = hart.pc; first = address; size = 4; read = false; write = true })) None ≡ Some a → a.pc ≡ hart.pc) [
      | true ↦ λ e. pc_of (record { pc = hart.pc; first = address; size = 4; read = false; write = true }) a e
      | false ↦ λ e. cc
    ] h
accessed_pc hart (Replace rd address combine value) a h = pc_of (record { pc = hart.pc; first = address; size = 4; read = true; write = true }) a h

step_pc : (s : State) (h pc : ℕ) (o : Option Hart) (a : Access) → access_of_step (step_of_hart s h o) ≡ Some a → IsSomeAnd o (λ hart. pc ≡ hart.pc) → a.pc ≡ pc
step_pc s h pc None a would at = absurd at
step_pc s h pc (Some hart) a would at =
    elim (is_running hart.status) as (λ b. access_of_step (cond b (Some (step_by s h hart (action_at s.memory hart))) None) ≡ Some a → a.pc ≡ hart.pc) [
      | true ↦ λ e. accessed_pc hart (action_at s.memory hart) a e
      | false ↦ λ e. cc
    ] would ∙ sym at

pub next_pc : (s : State) (h pc : ℕ) (a : Access) → next_access s h ≡ Some a → IsSomeAnd (slice_get s.harts h) (λ hart. pc ≡ hart.pc) → a.pc ≡ pc
unfolding next_access step_of
next_pc s h pc a would at = step_pc s h pc (slice_get s.harts h) a would at

-- ---- a plain access is one

where_wanted : (b : Bool) (o : Option Access) (a : Access) → cond b o None ≡ Some a → o ≡ Some a
where_wanted true o a h = h
where_wanted false o a h = cc

pub plain_next : (s : State) (h : ℕ) (a : Access) → next_plain s h ≡ Some a → next_access s h ≡ Some a
unfolding next_plain
plain_next s h a would = where_wanted (at_plain s.memory (slice_get s.harts h)) (next_access s h) a would

pub plain_now : (start s : State) (xs : List Entry) (n h : ℕ) → state_at start xs n ≡ Some s → plain start xs n h ≡ next_plain s h
unfolding plain
plain_now start s xs n h at = ap (option_and_then (λ (t : State). next_plain t h)) at

pub next_now : (start s : State) (xs : List Entry) (n h : ℕ) → state_at start xs n ≡ Some s → next start xs n h ≡ next_access s h
unfolding next
next_now start s xs n h at = ap (option_and_then (λ (t : State). next_access t h)) at

-- ---- at an armed address

module _ (c : Begun) (s : State) (h pc : ℕ) (at : state_at (setting_of c).start c.entries (length c.entries) ≡ Some s) (there : IsSomeAnd (slice_get s.harts h) (λ hart. pc ≡ hart.pc)) where
  pub armed_some : (o : Option Access) → contains (armed (setting_of c).start c.entries) pc ≡ true → o ≡ next_plain s h → IfSome o (λ access. IsArmedAccess c h access)
  armed_some None in_set is = tt
  armed_some (Some access) in_set is =
      let would = plain_next s h access (sym is) in
      record {
        is_plain = plain_now (setting_of c).start s c.entries (length c.entries) h at ∙ sym is;
        is_next = next_now (setting_of c).start s c.entries (length c.entries) h at ∙ would;
        is_armed = ap (contains (armed (setting_of c).start c.entries)) (next_pc s h pc access would there) ∙ in_set;
      }

  pub armed_none : (o : Option Access) → o ≡ next_plain s h → IfNone o (turn_entry (setting_of c) c.entries h (plain (setting_of c).start c.entries (length c.entries) h) ≡ Stepped h)
  armed_none None is = ap (turn_entry (setting_of c) c.entries h) (plain_now (setting_of c).start s c.entries (length c.entries) h at ∙ sym is)
  armed_none (Some access) is = tt

  by_plain : (o : Option Access) → contains (armed (setting_of c).start c.entries) pc ≡ false → next_plain s h ≡ o → turn_entry (setting_of c) c.entries h o ≡ Stepped h
  by_plain None absent is = refl
  by_plain (Some access) absent is =
      ap (λ b. cond b (Paused h (least_free c.plan.slots c.entries)) (Stepped h)) (ap (contains (armed (setting_of c).start c.entries)) (next_pc s h pc access (plain_next s h access is) there) ∙ absent)

  pub not_armed : contains (armed (setting_of c).start c.entries) pc ≡ false → turn_entry (setting_of c) c.entries h (plain (setting_of c).start c.entries (length c.entries) h) ≡ Stepped h
  not_armed absent =
      ap (turn_entry (setting_of c) c.entries h) (plain_now (setting_of c).start s c.entries (length c.entries) h at)
      ∙ by_plain (next_plain s h) absent refl

pub armed_turn : (c : Begun) (h : ℕ) (a : Access) → IsArmedAccess c h a → turn_entry (setting_of c) c.entries h (plain (setting_of c).start c.entries (length c.entries) h) ≡ Paused h (least_free c.plan.slots c.entries)
armed_turn c h a is =
    ap (turn_entry (setting_of c) c.entries h) is.is_plain
    ∙ ap (λ b. cond b (Paused h (least_free c.plan.slots c.entries)) (Stepped h)) is.is_armed

-- the plain access that the hart would make, at an armed address
pub plain_armed : (c : Begun) (s : State) (h : ℕ) (a : Access) → state_at (setting_of c).start c.entries (length c.entries) ≡ Some s → plain (setting_of c).start c.entries (length c.entries) h ≡ Some a → contains (armed (setting_of c).start c.entries) a.pc ≡ true → IsArmedAccess c h a
plain_armed c s h a at is in_set =
    record {
      is_plain = is;
      is_next = next_now (setting_of c).start s c.entries (length c.entries) h at ∙ plain_next s h a (sym (plain_now (setting_of c).start s c.entries (length c.entries) h at) ∙ is);
      is_armed = in_set;
    }

-- a plain access that a step was kept back from is the one that the hart would make
pub kept_plain : (c : Begun) (s : State) (h : ℕ) (common : Common) (before after : Noted) → state_at (setting_of c).start c.entries (length c.entries) ≡ Some s → before.is_kept_back ≡ false → NotesKept s h common before after → after.is_kept_back ≡ true → plain (setting_of c).start c.entries (length c.entries) h ≡ Some after.access
kept_plain c s h common before after at free kept noted = plain_now (setting_of c).start s c.entries (length c.entries) h at ∙ (kept free noted).1
