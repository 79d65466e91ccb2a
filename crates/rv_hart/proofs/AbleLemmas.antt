use Rattle.std.proofs.Common.{◌≡◌, ℕ, ◌-◌, ◌%◌, Bool, true, false, cond, Option, Some, None, refl, sym, ap, inl, inr}
use Rattle.std.specs.Prelude.{◌==◌, not, nat_lt}
use Rattle.rv_hart.specs.internal.Able.{AreBytes, IsAble, HasSize}
use Rattle.rv_hart.specs.Act.{act, branch, jump, environment_call, following, immediate, address, source_1, source_2}
use Rattle.rv_hart.specs.Registers.{get}
use Rattle.rv_hart.specs.Step.{action_at_word, fetched, tested, allowed, action_at}
use Rattle.rv_hart.specs.Arithmetic as arithmetic
use Rattle.rv_hart.specs.declared.action.Action.{Action}
use Rattle.rv_hart.specs.declared.action.Action.TheVariants.{Trap, Set, Load, Store, Reserve, Conditional, Replace, Print, Exit}
use Rattle.rv_hart.specs.declared.hart.Cause.{Cause}
use Rattle.rv_hart.specs.declared.hart.Cause.TheVariants.{TargetMisaligned, FetchFault, LoadMisaligned, LoadFault, StoreMisaligned, StoreFault, UnknownCall}
use Rattle.rv_hart.specs.declared.hart.Hart.{Hart}
use Rattle.rv_isa.specs.Decoded.{decoded}
use Rattle.rv_isa.specs.declared.instr.Instr.{Instr}
use Rattle.rv_isa.specs.declared.op.Op.{Op}
use Rattle.rv_isa.specs.declared.op.Op.TheVariants.{Jal, Jalr, Beq, Bne, Blt, Bge, Bltu, Bgeu, Lb, Lh, Lw, Lbu, Lhu, Sb, Sh, Sw, Ecall}
use Rattle.rv_memory.specs.Memory.{Memory, IsSize, load, permits}
use Rattle.rv_memory.specs.MemoryLaws.{PermittedIsThere}
use Rattle.rv_memory.specs.declared.store.Need.{Need}
use Rattle.rv_memory.specs.declared.store.Need.TheVariants as need

-- ---- the sizes of what instructions access

sized_jump_at : (aligned : Bool) (rd value next : ℕ) → HasSize (cond aligned (Set rd value next) (Trap TargetMisaligned))
sized_jump_at true rd value next = tt
sized_jump_at false rd value next = tt

sized_jump : (i : Instr) (hart : Hart) (target : ℕ) → HasSize (jump i hart target)
sized_jump i hart target = sized_jump_at (target % 4 == 0) i.rd (following hart) target

sized_branch_at : (taken aligned : Bool) (next after : ℕ) → HasSize (cond taken (cond aligned (Set 0 0 next) (Trap TargetMisaligned)) (Set 0 0 after))
sized_branch_at true true next after = tt
sized_branch_at true false next after = tt
sized_branch_at false aligned next after = tt

sized_branch : (i : Instr) (hart : Hart) (taken : Bool) → HasSize (branch i hart taken)
sized_branch i hart taken =
    sized_branch_at taken (arithmetic.plus hart.pc (immediate i) % 4 == 0) (arithmetic.plus hart.pc (immediate i)) (following hart)

sized_call_at : (exits prints : Bool) (code byte : ℕ) → HasSize (cond exits (Exit code) (cond prints (Print byte) (Trap UnknownCall)))
sized_call_at true prints code byte = tt
sized_call_at false true code byte = tt
sized_call_at false false code byte = tt

sized_call : (hart : Hart) → HasSize (environment_call hart)
sized_call hart =
    sized_call_at (get hart.registers 17 == 93) (get hart.registers 17 == 1) (get hart.registers 10) (get hart.registers 10 % 256)

sized_act : (op : Op) (i : Instr) (hart : Hart) → HasSize (act op i hart)
sized_act Jal i hart = sized_jump i hart (arithmetic.plus hart.pc (immediate i))
sized_act Jalr i hart = sized_jump i hart (address i hart - address i hart % 2)
sized_act Beq i hart = sized_branch i hart (source_1 i hart == source_2 i hart)
sized_act Bne i hart = sized_branch i hart (not (source_1 i hart == source_2 i hart))
sized_act Blt i hart = sized_branch i hart (arithmetic.less_signed (source_1 i hart) (source_2 i hart))
sized_act Bge i hart = sized_branch i hart (not (arithmetic.less_signed (source_1 i hart) (source_2 i hart)))
sized_act Bltu i hart = sized_branch i hart (nat_lt (source_1 i hart) (source_2 i hart))
sized_act Bgeu i hart = sized_branch i hart (not (nat_lt (source_1 i hart) (source_2 i hart)))
sized_act Lb i hart = inl refl
sized_act Lh i hart = inr (inl refl)
sized_act Lw i hart = inr (inr refl)
sized_act Lbu i hart = inl refl
sized_act Lhu i hart = inr (inl refl)
sized_act Sb i hart = inl refl
sized_act Sh i hart = inr (inl refl)
sized_act Sw i hart = inr (inr refl)
sized_act Ecall i hart = sized_call hart
sized_act _ i hart = tt

sized_word : (o : Option Instr) (hart : Hart) → HasSize (action_at_word o hart)
sized_word None hart = tt
sized_word (Some i) hart = sized_act i.op i hart

sized_fetch_at : (b : Bool) (action : Action) → HasSize action → HasSize (cond b action (Trap FetchFault))
sized_fetch_at true action h = h
sized_fetch_at false action h = tt

pub sized_fetched : (m : Memory) (hart : Hart) → HasSize (fetched m hart)
sized_fetched m hart =
    sized_fetch_at (permits m hart.pc 4 need.Execute) (action_at_word (decoded (load m hart.pc 4)) hart) (sized_word (decoded (load m hart.pc 4)) hart)

-- ---- what passed the tests is able

able_if : (m : Memory) (action : Action) (misaligned fault : Cause) (b c : Bool) → (c ≡ true → IsAble m action) → IsAble m (cond b (cond c action (Trap fault)) (Trap misaligned))
able_if m action misaligned fault true true f = f refl
able_if m action misaligned fault true false f = tt
able_if m action misaligned fault false c f = tt

able_tested : (m : Memory) (address size : ℕ) (n : Need) (misaligned fault : Cause) (action : Action) → (permits m address size n ≡ true → IsAble m action) → IsAble m (tested m address size n misaligned fault action)
able_tested m address size n misaligned fault action f =
    able_if m action misaligned fault (address % size == 0) (permits m address size n) f

able_bytes : PermittedIsThere → (m : Memory) (address size : ℕ) (n : Need) → IsSize size → permits m address size n ≡ true → AreBytes m address size
able_bytes there m address size n sized h = record { sized = sized; within = there m address size n h }

able_allowed : PermittedIsThere → (m : Memory) (action : Action) → HasSize action → IsAble m (allowed m action)
able_allowed there m (Load rd address size signed) h =
    able_tested m address size need.Read LoadMisaligned LoadFault (Load rd address size signed) (able_bytes there m address size need.Read h)
able_allowed there m (Store address size value) h =
    able_tested m address size need.Write StoreMisaligned StoreFault (Store address size value) (able_bytes there m address size need.Write h)
able_allowed there m (Reserve rd address) h =
    able_tested m address 4 need.Read LoadMisaligned LoadFault (Reserve rd address) (able_bytes there m address 4 need.Read (inr (inr refl)))
able_allowed there m (Conditional rd address value) h =
    able_tested m address 4 need.Write StoreMisaligned StoreFault (Conditional rd address value) (able_bytes there m address 4 need.Write (inr (inr refl)))
able_allowed there m (Replace rd address combine value) h =
    able_tested m address 4 need.ReadWrite StoreMisaligned StoreFault (Replace rd address combine value) (able_bytes there m address 4 need.ReadWrite (inr (inr refl)))
able_allowed there m (Trap cause) h = tt
able_allowed there m (Set rd value next) h = tt
able_allowed there m (Print byte) h = tt
able_allowed there m (Exit code) h = tt

pub able_action : PermittedIsThere → (m : Memory) (hart : Hart) → IsAble m (action_at m hart)
able_action there m hart = able_allowed there m (fetched m hart) (sized_fetched m hart)

-- ---- the word that is fetched

pub fetched_word : (hart : Hart) (permitted : Bool) (loaded word : ℕ) → cond permitted (Some loaded) None ≡ Some word → action_at_word (decoded word) hart ≡ cond permitted (action_at_word (decoded loaded) hart) (Trap FetchFault)
fetched_word hart true loaded word e = let same : loaded ≡ word = cc in ap (λ w. action_at_word (decoded w) hart) (sym same)
fetched_word hart false loaded word e = cc
