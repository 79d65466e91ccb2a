-- A hart's plain access depends on its registers, its pc, the word there and the permissions of memory alone.
use Rattle.std.proofs.Common.{◌≡◌, ℕ, ◌%◌, Bool, true, false, cond, Option, Some, None, refl, sym, ap, ◌∙◌}
use Rattle.std.specs.Prelude.{◌==◌, slice_get, option_map}
use Rattle.rv_hart.specs.Act.{act, address, source_2}
use Rattle.rv_hart.specs.NextAccess.{accessed, access_of_step, at_plain, is_plain, is_plain_op, next_access, next_plain}
use Rattle.rv_hart.specs.State.{State, is_running}
use Rattle.rv_hart.specs.Step.{action_at, action_at_word, allowed, event_of, reserves, state_after, step_by, step_of, step_of_hart}
use Rattle.rv_hart.specs.declared.access.Access.{Access}
use Rattle.rv_hart.specs.declared.access.Event.{Event}
use Rattle.rv_hart.specs.declared.access.Event.TheVariants.{Moved, Exited, Stopped}
use Rattle.rv_hart.specs.declared.action.Action.{Action}
use Rattle.rv_hart.specs.declared.action.Action.TheVariants.{Trap, Load, Store, Reserve, Conditional, Replace}
use Rattle.rv_hart.specs.declared.hart.Cause.TheVariants.{FetchFault, LoadMisaligned, LoadFault, StoreMisaligned, StoreFault}
use Rattle.rv_hart.specs.declared.hart.Hart.{Hart}
use Rattle.rv_isa.specs.Decoded.{decoded, op_at, with_operands}
use Rattle.rv_isa.specs.Shape.{shape_of}
use Rattle.rv_isa.specs.declared.instr.Instr.{Instr}
use Rattle.rv_isa.specs.declared.op.Op.{Op}
use Rattle.rv_isa.specs.declared.op.Op.TheVariants.{Lb, Lh, Lw, Lbu, Lhu, Sb, Sh, Sw}
use Rattle.rv_memory.specs.Memory.{Memory, load, permits}
use Rattle.rv_memory.specs.declared.store.Need.{Need}
use Rattle.rv_memory.specs.declared.store.Need.TheVariants as need

some_same : {A : Type 0} → (x y : A) → Some x ≡ Some y → x ≡ y
some_same x y h = cc

-- the two memories have the same permissions
abbrev pub SamePermissions : Memory → Memory → Type 0
SamePermissions m n = (address size : ℕ) (wanted : Need) → permits n address size wanted ≡ permits m address size wanted

-- the hart with another reservation
abbrev pub with_reservation : Hart → Option ℕ → Hart
with_reservation a r = record a { reservation = r }

module _ (m n : Memory) (same : SamePermissions m n) (a : Hart) (r : Option ℕ) where
  abbrev Same : Action → Action → Type 0
  Same x y = accessed (event_of a (allowed m x)) ≡ accessed (event_of (with_reservation a r) (allowed n y))

  load_tests : (rd first size : ℕ) (signed b c : Bool) → accessed (event_of a (cond b (cond c (Load rd first size signed) (Trap LoadFault)) (Trap LoadMisaligned))) ≡ accessed (event_of (with_reservation a r) (cond b (cond c (Load rd first size signed) (Trap LoadFault)) (Trap LoadMisaligned)))
  load_tests rd first size signed true true = refl
  load_tests rd first size signed true false = refl
  load_tests rd first size signed false c = refl

  same_load : (rd first size : ℕ) (signed : Bool) → Same (Load rd first size signed) (Load rd first size signed)
  same_load rd first size signed =
      load_tests rd first size signed (first % size == 0) (permits m first size need.Read)
      ∙ ap (λ c. accessed (event_of (with_reservation a r) (cond (first % size == 0) (cond c (Load rd first size signed) (Trap LoadFault)) (Trap LoadMisaligned)))) (sym (same first size need.Read))

  store_tests : (first size value : ℕ) (b c : Bool) → accessed (event_of a (cond b (cond c (Store first size value) (Trap StoreFault)) (Trap StoreMisaligned))) ≡ accessed (event_of (with_reservation a r) (cond b (cond c (Store first size value) (Trap StoreFault)) (Trap StoreMisaligned)))
  store_tests first size value true true = refl
  store_tests first size value true false = refl
  store_tests first size value false c = refl

  same_store : (first size value : ℕ) → Same (Store first size value) (Store first size value)
  same_store first size value =
      store_tests first size value (first % size == 0) (permits m first size need.Write)
      ∙ ap (λ c. accessed (event_of (with_reservation a r) (cond (first % size == 0) (cond c (Store first size value) (Trap StoreFault)) (Trap StoreMisaligned)))) (sym (same first size need.Write))

  same_act : (op : Op) (i : Instr) → is_plain (shape_of op) ≡ true → Same (act op i a) (act op i (with_reservation a r))
  same_act Lb i plain = same_load i.rd (address i a) 1 true
  same_act Lh i plain = same_load i.rd (address i a) 2 true
  same_act Lw i plain = same_load i.rd (address i a) 4 false
  same_act Lbu i plain = same_load i.rd (address i a) 1 false
  same_act Lhu i plain = same_load i.rd (address i a) 2 false
  same_act Sb i plain = same_store (address i a) 1 (source_2 i a)
  same_act Sh i plain = same_store (address i a) 2 (source_2 i a)
  same_act Sw i plain = same_store (address i a) 4 (source_2 i a)
  same_act _ i plain = cc

  same_word : (word : ℕ) (op : Option Op) → is_plain_op op ≡ true → Same (action_at_word (option_map (λ op. with_operands op word) op) a) (action_at_word (option_map (λ op. with_operands op word) op) (with_reservation a r))
  same_word word None plain = cc
  same_word word (Some op) plain = same_act op (with_operands op word) plain

  same_fetch : (b : Bool) (x y : Action) → Same x y → Same (cond b x (Trap FetchFault)) (cond b y (Trap FetchFault))
  same_fetch true x y h = h
  same_fetch false x y h = refl

  same_action : load n a.pc 4 ≡ load m a.pc 4 → at_plain m (Some a) ≡ true → accessed (event_of a (action_at m a)) ≡ accessed (event_of (with_reservation a r) (action_at n (with_reservation a r)))
  same_action word plain =
      same_fetch (permits m a.pc 4 need.Execute) (action_at_word (decoded (load m a.pc 4)) a) (action_at_word (decoded (load m a.pc 4)) (with_reservation a r)) (same_word (load m a.pc 4) (op_at (load m a.pc 4)) plain)
      ∙ ap (λ b. accessed (event_of (with_reservation a r) (allowed n (cond b (action_at_word (decoded (load m a.pc 4)) (with_reservation a r)) (Trap FetchFault))))) (sym (same a.pc 4 need.Execute))
      ∙ ap (λ w. accessed (event_of (with_reservation a r) (allowed n (cond (permits n a.pc 4 need.Execute) (action_at_word (decoded w) (with_reservation a r)) (Trap FetchFault))))) (sym word)

-- ---- the step

pub moved_by : (e : Event) (x : Access) → accessed e ≡ Some x → e ≡ Moved (Some x)
moved_by (Moved access) x h = ap Moved h
moved_by (Exited code) x h = cc
moved_by (Stopped cause) x h = cc

-- a plain access is of a running hart at a plain load or store
record IsPlainStep (s : State) (a : Hart) (x : Access) : Type 0 where
  pub plain : at_plain s.memory (Some a) ≡ true
  pub running : is_running a.status ≡ true
  pub access : accessed (event_of a (action_at s.memory a)) ≡ Some x

by_tests : (s : State) (h : ℕ) (a : Hart) (x : Access) (plain running : Bool) → at_plain s.memory (Some a) ≡ plain → is_running a.status ≡ running → cond plain (access_of_step (cond running (Some (step_by s h a (action_at s.memory a))) None)) None ≡ Some x → IsPlainStep s a x
by_tests s h a x false running is runs would = cc
by_tests s h a x true false is runs would = cc
by_tests s h a x true true is runs would = record { plain = is; running = runs; access = would }

plain_step : (s : State) (h : ℕ) (a : Hart) (x : Access) → slice_get s.harts h ≡ Some a → next_plain s h ≡ Some x → IsPlainStep s a x
unfolding next_plain next_access step_of
plain_step s h a x there would =
    by_tests s h a x (at_plain s.memory (Some a)) (is_running a.status) refl refl
    (sym (ap (λ (o : Option Hart). cond (at_plain s.memory o) (access_of_step (step_of_hart s h o)) None) there) ∙ would)

step_there : (t : State) (h : ℕ) (b : Hart) → slice_get t.harts h ≡ Some b → is_running b.status ≡ true → step_of t h ≡ Some (step_by t h b (action_at t.memory b))
unfolding step_of
step_there t h b there running =
    ap (step_of_hart t h) there ∙ ap (λ c. cond c (Some (step_by t h b (action_at t.memory b))) None) running

-- A hart that stands where it stood, with the same registers, makes the plain access that it would have made, where
-- the word there and the permissions are the same.
pub same_step : (s t : State) (h : ℕ) (a : Hart) (r : Option ℕ) (x : Access) → SamePermissions s.memory t.memory → slice_get s.harts h ≡ Some a → slice_get t.harts h ≡ Some (with_reservation a r) → load t.memory a.pc 4 ≡ load s.memory a.pc 4 → next_plain s h ≡ Some x → step_of t h ≡ Some (Moved (Some x), state_after t h (with_reservation a r) (action_at t.memory (with_reservation a r)))
same_step s t h a r x same there still word would =
    let p = plain_step s h a x there would in
    let b = with_reservation a r in
    step_there t h b still p.running
    ∙ ap (λ (e : Event). Some (e, state_after t h b (action_at t.memory b)))
    (moved_by (event_of b (action_at t.memory b)) x (sym (same_action s.memory t.memory same a r word p.plain) ∙ p.access))

-- ---- where the access is

pc_of : (a b : Access) → Some a ≡ Some b → b.pc ≡ a.pc
pc_of a b h = ap (λ (x : Access). x.pc) (sym (some_same a b h))

accessed_pc : (hart : Hart) (action : Action) (a : Access) → accessed (event_of hart action) ≡ Some a → a.pc ≡ hart.pc
accessed_pc hart (Load rd address size signed) a h = pc_of (record { pc = hart.pc; first = address; size = size; read = true; write = false }) a h
accessed_pc hart (Store address size value) a h = pc_of (record { pc = hart.pc; first = address; size = size; read = false; write = true }) a h
accessed_pc hart (Reserve rd address) a h = pc_of (record { pc = hart.pc; first = address; size = 4; read = true; write = false }) a h
accessed_pc hart (Conditional rd address value) a h =
    elim (reserves hart.reservation address) as (λ b. cond b (Some (record { pc = hart.pc; first = address; size = 4; read = false; write = true })) None ≡ Some a → a.pc ≡ hart.pc) [
      | true ↦ λ e. pc_of (record { pc = hart.pc; first = address; size = 4; read = false; write = true }) a e
      | false ↦ λ e. cc
    ] h
accessed_pc hart (Replace rd address combine value) a h = pc_of (record { pc = hart.pc; first = address; size = 4; read = true; write = true }) a h
accessed_pc hart _ a h = cc

pub plain_pc : (s : State) (h : ℕ) (a : Hart) (x : Access) → slice_get s.harts h ≡ Some a → next_plain s h ≡ Some x → x.pc ≡ a.pc
plain_pc s h a x there would = accessed_pc a (action_at s.memory a) x (plain_step s h a x there would).access

-- a plain access is of a hart that there is
pub plain_hart : (s : State) (h : ℕ) (x : Access) → next_plain s h ≡ Some x → (a : Hart) × (slice_get s.harts h ≡ Some a)
unfolding next_plain
plain_hart s h x would =
    elim (slice_get s.harts h) as (λ (o : Option Hart). slice_get s.harts h ≡ o → cond (at_plain s.memory o) (next_access s h) None ≡ Some x → (a : Hart) × (slice_get s.harts h ≡ Some a)) [
      | None ↦ λ is w. cc
      | Some a ↦ λ is w. (a, is)
    ] refl would
