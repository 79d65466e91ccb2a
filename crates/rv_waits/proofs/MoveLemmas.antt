-- A word that may not write is no SC's, and a step whose access writes nothing leaves memory as it was.
use Rattle.std.proofs.Common.{◌≡◌, ℕ, ◌-◌, ◌%◌, Bool, true, false, cond, Option, Some, None, refl, sym, ap, subst, ◌∙◌}
use Rattle.std.specs.Prelude.{slice_get, IfSome, ◌==◌, bit_and, nat_lt, not}
use Rattle.std.proofs.lemmas.Nat.{and_assoc}
use Rattle.rv_hart.specs.Act.{act, address, branch, environment_call, following, immediate, jump, source_1, source_2}
use Rattle.rv_hart.specs.Arithmetic.{less_signed, plus}
use Rattle.rv_hart.specs.Fetched.{IsWordOf}
use Rattle.rv_hart.specs.Locality.{at_conditional, is_conditional}
use Rattle.rv_hart.specs.NextAccess.{accessed}
use Rattle.rv_hart.specs.Registers.{get}
use Rattle.rv_hart.specs.State.{State}
use Rattle.rv_hart.specs.Step.{step_of, access_of, action_at, action_at_word, allowed, fetched, loaded_by, memory_after, reserves, tested, writes, written_by, write}
use Rattle.rv_hart.specs.declared.access.Access.{Access}
use Rattle.rv_hart.specs.declared.access.Event.TheVariants.{Moved}
use Rattle.rv_hart.specs.declared.action.Action.{Action}
use Rattle.rv_hart.specs.declared.action.Action.TheVariants.{Trap, Set, Load, Store, Reserve, Conditional, Replace, Print, Exit}
use Rattle.rv_hart.specs.declared.hart.Cause.{Cause}
use Rattle.rv_hart.specs.declared.hart.Cause.TheVariants.{FetchFault, LoadMisaligned, LoadFault, StoreMisaligned, StoreFault, TargetMisaligned, UnknownCall}
use Rattle.rv_hart.specs.declared.hart.Hart.{Hart}
use Rattle.rv_hart.specs.declared.write.Write.{Write}
use Rattle.rv_isa.specs.Decoded.{decoded}
use Rattle.rv_isa.specs.Instr.{Row}
use Rattle.rv_isa.specs.Table.{Matches, form_of}
use Rattle.rv_isa.specs.Form.{mask_of}
use Rattle.rv_isa.specs.TableLaws.{FunctionsOfTheTable}
use Rattle.rv_isa.specs.declared.instr.Instr.{Instr}
use Rattle.rv_isa.specs.declared.op.Op.{Op}
use Rattle.rv_isa.specs.declared.op.Op.TheVariants.{Jal, Jalr, Beq, Bne, Blt, Bge, Bltu, Bgeu, Ecall, ScW}
use Rattle.rv_memory.specs.Memory.{Memory, load, load_permitted, permits}
use Rattle.rv_memory.specs.declared.store.Need.{Need}
use Rattle.rv_memory.specs.declared.store.Need.TheVariants as need
use Rattle.rv_waits.specs.internal.MayWrite.{may_write}
use Rattle.rv_waits.proofs.StepLemmas.{accessed_is, some_and, step_is}

-- ---- a word that may not write is no SC's

sc_writes : (word : ℕ) → Matches word ScW → may_write word ≡ true
sc_writes word matches =
    let masked : bit_and (bit_and word (mask_of (form_of ScW))) 0x70 ≡ bit_and word 0x70 = and_assoc 0x70 word (mask_of (form_of ScW)) in
    let bits : bit_and word 0x70 ≡ 0x20 = sym masked ∙ ap (λ (k : ℕ). bit_and k 0x70) matches in
    rw bits refl

choice : (b : Bool) (x y : Action) → is_conditional x ≡ false → is_conditional y ≡ false → is_conditional (cond b x y) ≡ false
choice true x y e f = e
choice false x y e f = f

jump_conditional : (i : Instr) (hart : Hart) (target : ℕ) → is_conditional (jump i hart target) ≡ false
jump_conditional i hart target = choice (target % 4 == 0) (Set i.rd (following hart) target) (Trap TargetMisaligned) refl refl

branch_conditional : (i : Instr) (hart : Hart) (taken : Bool) → is_conditional (branch i hart taken) ≡ false
branch_conditional i hart taken =
    let there : ℕ = plus hart.pc (immediate i) in
    choice taken (cond (there % 4 == 0) (Set 0 0 there) (Trap TargetMisaligned)) (Set 0 0 (following hart)) (choice (there % 4 == 0) (Set 0 0 there) (Trap TargetMisaligned) refl refl) refl

call_conditional : (hart : Hart) → is_conditional (environment_call hart) ≡ false
call_conditional hart =
    let byte : Action = Print (get hart.registers 10 % 256) in
    choice (get hart.registers 17 == 93) (Exit (get hart.registers 10)) (cond (get hart.registers 17 == 1) byte (Trap UnknownCall)) refl (choice (get hart.registers 17 == 1) byte (Trap UnknownCall) refl refl)

act_conditional : (op : Op) (i : Instr) (hart : Hart) → (op ≡ ScW → ⊥) → is_conditional (act op i hart) ≡ false
act_conditional ScW i hart other = absurd (other refl)
act_conditional Jal i hart other = jump_conditional i hart (plus hart.pc (immediate i))
act_conditional Jalr i hart other = jump_conditional i hart (address i hart - address i hart % 2)
act_conditional Beq i hart other = branch_conditional i hart (source_1 i hart == source_2 i hart)
act_conditional Bne i hart other = branch_conditional i hart (not (source_1 i hart == source_2 i hart))
act_conditional Blt i hart other = branch_conditional i hart (less_signed (source_1 i hart) (source_2 i hart))
act_conditional Bge i hart other = branch_conditional i hart (not (less_signed (source_1 i hart) (source_2 i hart)))
act_conditional Bltu i hart other = branch_conditional i hart (nat_lt (source_1 i hart) (source_2 i hart))
act_conditional Bgeu i hart other = branch_conditional i hart (not (nat_lt (source_1 i hart) (source_2 i hart)))
act_conditional Ecall i hart other = call_conditional hart
act_conditional _ i hart other = refl

at_word_conditional : (o : Option Instr) (hart : Hart) → ((i : Instr) → o ≡ Some i → i.op ≡ ScW → ⊥) → is_conditional (action_at_word o hart) ≡ false
at_word_conditional None hart other = refl
at_word_conditional (Some i) hart other = act_conditional i.op i hart (other i refl)

tested_conditional : (m : Memory) (first size : ℕ) (n : Need) (misaligned fault : Cause) (action : Action) → is_conditional action ≡ false → is_conditional (tested m first size n misaligned fault action) ≡ false
tested_conditional m first size n misaligned fault action e =
    choice (first % size == 0) (cond (permits m first size n) action (Trap fault)) (Trap misaligned) (choice (permits m first size n) action (Trap fault) e refl) refl

allowed_conditional : (m : Memory) (action : Action) → is_conditional action ≡ false → is_conditional (allowed m action) ≡ false
allowed_conditional m (Load rd first size signed) e = tested_conditional m first size need.Read LoadMisaligned LoadFault (Load rd first size signed) e
allowed_conditional m (Store first size value) e = tested_conditional m first size need.Write StoreMisaligned StoreFault (Store first size value) e
allowed_conditional m (Reserve rd first) e = tested_conditional m first 4 need.Read LoadMisaligned LoadFault (Reserve rd first) e
allowed_conditional m (Conditional rd first value) e = cc
allowed_conditional m (Replace rd first combine value) e = tested_conditional m first 4 need.ReadWrite StoreMisaligned StoreFault (Replace rd first combine value) e
allowed_conditional m (Trap cause) e = refl
allowed_conditional m (Set rd value next) e = refl
allowed_conditional m (Print byte) e = refl
allowed_conditional m (Exit code) e = refl

permitted_word : (b : Bool) (word found : ℕ) → cond b (Some found) None ≡ Some word → found ≡ word
permitted_word true word found e = cc
permitted_word false word found e = cc

pub not_conditional : FunctionsOfTheTable → (s : State) (h word : ℕ) → IsWordOf s h word → may_write word ≡ false → at_conditional s.memory (slice_get s.harts h) ≡ false
not_conditional table s h word is_word e =
    let it = some_and {P = λ hart. load_permitted s.memory hart.pc 4 need.Execute ≡ Some word} (slice_get s.harts h) is_word in
    let hart : Hart = it.0 in
    let m : Memory = s.memory in
    let found : load m hart.pc 4 ≡ word = permitted_word (permits m hart.pc 4 need.Execute) word (load m hart.pc 4) it.2 in
    let other : (i : Instr) → decoded (load m hart.pc 4) ≡ Some i → i.op ≡ ScW → ⊥ = λ i d op.
    let row : Row (load m hart.pc 4) i = (table.1 (load m hart.pc 4) i).0 d in
    let matches : Matches word ScW = subst (λ (k : ℕ). Matches k ScW) found (subst (Matches (load m hart.pc 4)) op row.matches) in
    let yes : may_write word ≡ true = sc_writes word matches in
    cc in
    let none : is_conditional (action_at m hart) ≡ false = allowed_conditional m (fetched m hart) (choice (permits m hart.pc 4 need.Execute) (action_at_word (decoded (load m hart.pc 4)) hart) (Trap FetchFault) (at_word_conditional (decoded (load m hart.pc 4)) hart other) refl) in
    ap (at_conditional m) it.1 ∙ none

-- ---- a step whose access writes nothing changes no byte

-- the access, if there is one, writes nothing
abbrev pub WritesNothing : Option Access → Type 0
WritesNothing access = IfSome access (λ a. a.write ≡ false)

cond_none : (b : Bool) (a : Access) (w : Write) → a.write ≡ true → WritesNothing (cond b (Some a) None) → cond b (Some w) None ≡ None
cond_none true a w e none = cc
cond_none false a w e none = refl

no_write : (loaded : ℕ) (hart : Hart) (action : Action) → WritesNothing (access_of hart action) → written_by loaded hart action ≡ None
no_write loaded hart (Store address size value) none = cc
no_write loaded hart (Replace rd address combine value) none = cc
no_write loaded hart (Conditional rd address value) none = cond_none (reserves hart.reservation address) (writes hart address 4) (write address 4 value) refl none
no_write loaded hart (Load rd address size signed) none = refl
no_write loaded hart (Reserve rd address) none = refl
no_write loaded hart (Trap cause) none = refl
no_write loaded hart (Set rd value next) none = refl
no_write loaded hart (Print byte) none = refl
no_write loaded hart (Exit code) none = refl

pub left_memory : (s t : State) (h : ℕ) (access : Option Access) → step_of s h ≡ Some (Moved access, t) → WritesNothing access → t.memory ≡ s.memory
left_memory s t h access step none =
    let w = step_is s t h (Moved access) step in
    let action : Action = action_at s.memory w.0 in
    let loaded : ℕ = loaded_by s.memory action in
    let made : access ≡ access_of w.0 action = ap accessed w.1.event ∙ accessed_is w.0 action in
    let nothing : written_by loaded w.0 action ≡ None = no_write loaded w.0 action (subst WritesNothing made none) in
    ap (λ (u : State). u.memory) w.1.after ∙ ap (memory_after s.memory) nothing
