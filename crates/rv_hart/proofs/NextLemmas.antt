use Rattle.std.proofs.Common.{◌≡◌, ℕ, ◌-◌, ◌%◌, Bool, true, false, cond, Option, Some, None, refl}
use Rattle.std.specs.Prelude.{◌==◌, not, nat_lt, slice_get, option_map}
use Rattle.rv_hart.specs.Act.{act, branch, jump, following, immediate, address, source_1, source_2}
use Rattle.rv_hart.specs.NextAccess.{next_access, next_plain, accessed, access_of_step, is_plain, is_plain_op, at_plain}
use Rattle.rv_hart.specs.internal.HartAccess.{hart_access, hart_plain, plain_access}
use Rattle.rv_hart.specs.Registers.{get}
use Rattle.rv_hart.specs.State.{State, is_running}
use Rattle.rv_hart.specs.Step.{step_of, step_by, access_of, event_of, action_at_word, tested, allowed, action_at}
use Rattle.rv_hart.specs.Arithmetic as arithmetic
use Rattle.rv_hart.specs.declared.action.Action.{Action}
use Rattle.rv_hart.specs.declared.action.Action.TheVariants.{Trap, Set, Load, Store, Reserve, Conditional, Replace, Print, Exit}
use Rattle.rv_hart.specs.declared.hart.Cause.{Cause}
use Rattle.rv_hart.specs.declared.hart.Cause.TheVariants.{TargetMisaligned, FetchFault, Illegal, LoadMisaligned, LoadFault, StoreMisaligned, StoreFault, UnknownCall}
use Rattle.rv_hart.specs.declared.hart.Hart.{Hart}
use Rattle.rv_isa.specs.Decoded.{op_at, with_operands, decoded}
use Rattle.rv_isa.specs.Shape.{shape_of}
use Rattle.rv_isa.specs.declared.instr.Instr.{Instr}
use Rattle.rv_isa.specs.declared.op.Op.{Op}
use Rattle.rv_isa.specs.declared.op.Op.TheVariants.{Jal, Jalr, Beq, Bne, Blt, Bge, Bltu, Bgeu, Ecall}
use Rattle.rv_memory.specs.Memory.{Memory, load, permits}
use Rattle.rv_memory.specs.declared.store.Need.{Need}
use Rattle.rv_memory.specs.declared.store.Need.TheVariants as need

-- ---- the access of a step is the access of its action

accessed_event : (hart : Hart) (action : Action) → accessed (event_of hart action) ≡ access_of hart action
accessed_event hart (Trap cause) = refl
accessed_event hart (Exit code) = refl
accessed_event hart (Set rd value next) = refl
accessed_event hart (Print byte) = refl
accessed_event hart (Load rd address size signed) = refl
accessed_event hart (Store address size value) = refl
accessed_event hart (Reserve rd address) = refl
accessed_event hart (Conditional rd address value) = refl
accessed_event hart (Replace rd address combine value) = refl

pub access_if_running : (running : Bool) (s : State) (h : ℕ) (hart : Hart) (action : Action) → access_of_step (cond running (Some (step_by s h hart action)) None) ≡ cond running (access_of hart action) None
access_if_running true s h hart action = accessed_event hart action
access_if_running false s h hart action = refl

pub next_access_is : (s : State) (h : ℕ) (hart : Hart) → slice_get s.harts h ≡ Some hart → next_access s h ≡ hart_access s.memory hart
unfolding next_access step_of
next_access_is s h hart e = rw e (access_if_running (is_running hart.status) s h hart (action_at s.memory hart))

-- ---- a plain load or store is one by its action

abbrev acts_plainly : Action → Bool
acts_plainly (Load rd address size signed) = true
acts_plainly (Store address size value) = true
acts_plainly (Trap cause) = false
acts_plainly (Set rd value next) = false
acts_plainly (Reserve rd address) = false
acts_plainly (Conditional rd address value) = false
acts_plainly (Replace rd address combine value) = false
acts_plainly (Print byte) = false
acts_plainly (Exit code) = false

jump_at : (aligned : Bool) (rd value next : ℕ) → acts_plainly (cond aligned (Set rd value next) (Trap TargetMisaligned)) ≡ false
jump_at true rd value next = refl
jump_at false rd value next = refl

plain_jump : (i : Instr) (hart : Hart) (target : ℕ) → acts_plainly (jump i hart target) ≡ false
plain_jump i hart target = jump_at (target % 4 == 0) i.rd (following hart) target

branch_at : (taken aligned : Bool) (next after : ℕ) → acts_plainly (cond taken (cond aligned (Set 0 0 next) (Trap TargetMisaligned)) (Set 0 0 after)) ≡ false
branch_at true true next after = refl
branch_at true false next after = refl
branch_at false aligned next after = refl

plain_branch : (i : Instr) (hart : Hart) (taken : Bool) → acts_plainly (branch i hart taken) ≡ false
plain_branch i hart taken =
    branch_at taken (arithmetic.plus hart.pc (immediate i) % 4 == 0) (arithmetic.plus hart.pc (immediate i)) (following hart)

call_at : (exits prints : Bool) (code byte : ℕ) → acts_plainly (cond exits (Exit code) (cond prints (Print byte) (Trap UnknownCall))) ≡ false
call_at true prints code byte = refl
call_at false true code byte = refl
call_at false false code byte = refl

plain_op : (op : Op) (i : Instr) (hart : Hart) → acts_plainly (act op i hart) ≡ is_plain (shape_of op)
plain_op Jal i hart = plain_jump i hart (arithmetic.plus hart.pc (immediate i))
plain_op Jalr i hart = plain_jump i hart (address i hart - address i hart % 2)
plain_op Beq i hart = plain_branch i hart (source_1 i hart == source_2 i hart)
plain_op Bne i hart = plain_branch i hart (not (source_1 i hart == source_2 i hart))
plain_op Blt i hart = plain_branch i hart (arithmetic.less_signed (source_1 i hart) (source_2 i hart))
plain_op Bge i hart = plain_branch i hart (not (arithmetic.less_signed (source_1 i hart) (source_2 i hart)))
plain_op Bltu i hart = plain_branch i hart (nat_lt (source_1 i hart) (source_2 i hart))
plain_op Bgeu i hart = plain_branch i hart (not (nat_lt (source_1 i hart) (source_2 i hart)))
plain_op Ecall i hart = call_at (get hart.registers 17 == 93) (get hart.registers 17 == 1) (get hart.registers 10) (get hart.registers 10 % 256)
plain_op _ i hart = refl

abbrev SameAccess : Bool → Hart → Action → Type 0
SameAccess plain hart action = cond plain (access_of hart action) None ≡ plain_access hart action

same_if : (b c : Bool) (plain : Bool) (hart : Hart) (action : Action) (misaligned fault : Cause) → SameAccess plain hart action → SameAccess plain hart (cond b (cond c action (Trap fault)) (Trap misaligned))
same_if true true plain hart action misaligned fault h = h
same_if true false true hart action misaligned fault h = refl
same_if true false false hart action misaligned fault h = refl
same_if false c true hart action misaligned fault h = refl
same_if false c false hart action misaligned fault h = refl

same_tested : (m : Memory) (address size : ℕ) (n : Need) (misaligned fault : Cause) (plain : Bool) (hart : Hart) (action : Action) → SameAccess plain hart action → SameAccess plain hart (tested m address size n misaligned fault action)
same_tested m address size n misaligned fault plain hart action h =
    same_if (address % size == 0) (permits m address size n) plain hart action misaligned fault h

same_allowed : (m : Memory) (hart : Hart) (action : Action) → SameAccess (acts_plainly action) hart (allowed m action)
same_allowed m hart (Load rd address size signed) = same_tested m address size need.Read LoadMisaligned LoadFault true hart (Load rd address size signed) refl
same_allowed m hart (Store address size value) = same_tested m address size need.Write StoreMisaligned StoreFault true hart (Store address size value) refl
same_allowed m hart (Reserve rd address) = same_tested m address 4 need.Read LoadMisaligned LoadFault false hart (Reserve rd address) refl
same_allowed m hart (Conditional rd address value) = same_tested m address 4 need.Write StoreMisaligned StoreFault false hart (Conditional rd address value) refl
same_allowed m hart (Replace rd address combine value) = same_tested m address 4 need.ReadWrite StoreMisaligned StoreFault false hart (Replace rd address combine value) refl
same_allowed m hart (Trap cause) = refl
same_allowed m hart (Set rd value next) = refl
same_allowed m hart (Print byte) = refl
same_allowed m hart (Exit code) = refl

same_trap : (plain : Bool) (hart : Hart) (cause : Cause) → SameAccess plain hart (Trap cause)
same_trap true hart cause = refl
same_trap false hart cause = refl

same_word : (m : Memory) (hart : Hart) (word : ℕ) (op : Option Op) → SameAccess (is_plain_op op) hart (allowed m (action_at_word (option_map (λ op. with_operands op word) op) hart))
same_word m hart word None = same_trap false hart Illegal
same_word m hart word (Some op) = rw (← plain_op op (with_operands op word) hart) (same_allowed m hart (act op (with_operands op word) hart))

same_fetch : (b : Bool) (m : Memory) (hart : Hart) (plain : Bool) (action : Action) → SameAccess plain hart (allowed m action) → SameAccess plain hart (allowed m (cond b action (Trap FetchFault)))
same_fetch true m hart plain action h = h
same_fetch false m hart plain action h = same_trap plain hart FetchFault

same_action : (m : Memory) (hart : Hart) → SameAccess (at_plain m (Some hart)) hart (action_at m hart)
same_action m hart =
    same_fetch (permits m hart.pc 4 need.Execute) m hart (at_plain m (Some hart)) (action_at_word (decoded (load m hart.pc 4)) hart) (same_word m hart (load m hart.pc 4) (op_at (load m hart.pc 4)))

plain_if_running : (plain running : Bool) (hart : Hart) (action : Action) → SameAccess plain hart action → cond plain (cond running (access_of hart action) None) None ≡ cond running (plain_access hart action) None
plain_if_running plain true hart action h = h
plain_if_running true false hart action h = refl
plain_if_running false false hart action h = refl

pub next_plain_is : (s : State) (h : ℕ) (hart : Hart) → slice_get s.harts h ≡ Some hart → next_plain s h ≡ hart_plain s.memory hart
unfolding next_plain
next_plain_is s h hart e =
    rw (e, next_access_is s h hart e) (plain_if_running (at_plain s.memory (Some hart)) (is_running hart.status) hart (action_at s.memory hart) (same_action s.memory hart))
