-- A load that a loop waits on, as in a lock that polls before it tries again: there is no fence behind the load, but
-- one where the loop ends, or an atomic access that acquires.
use Rattle.std.specs.Prelude.{ℕ, zero, suc, Bool, true, false, not, ◌==◌, ◌&&◌, ◌||◌, if◌then◌else◌, Option, Some, None, option_and_then, List, [], ◌∷◌, take}
use Rattle.std.specs.List.{list_any}
use Rattle.std.specs.Option.{option_map_or}
use Rattle.rv_elf.specs.Contents.{Contents}
use Rattle.rv_hart.specs.Arithmetic.{plus, word}
use Rattle.rv_isa.specs.Shape.{shape_of}
use Rattle.rv_isa.specs.declared.instr.Instr.{Instr}
use Rattle.rv_isa.specs.declared.op.Op.{Op}
use Rattle.rv_isa.specs.declared.op.Op.TheVariants.{Jal, Beq, Bne, Blt, Bge, Bltu, Bgeu}
use Rattle.rv_isa.specs.declared.shape.Shape.{Shape}
use Rattle.rv_isa.specs.declared.shape.Shape.TheVariants.{Lr, Amo, Other}
use Rattle.rv_prune.specs.Code.{instruction_at}
use Rattle.rv_prune.specs.Fences.{is_fence, may_leave, orders_a_load, is_order, words_before, words_after}

-- ---- the loop

abbrev pub is_branch : Op → Bool
is_branch Beq = true
is_branch Bne = true
is_branch Blt = true
is_branch Bge = true
is_branch Bltu = true
is_branch Bgeu = true
is_branch _ = false

abbrev pub is_access : Shape → Bool
is_access Other = false
is_access _ = true

-- it does no more than to compute, and goes on to the next word
abbrev pub computes : Instr → Bool
computes i = not (is_access (shape_of i.op) || is_order i || may_leave i.op)

abbrev pub branch_or : ℕ → Option (ℕ × Instr) → Instr → Option (ℕ × Instr)
branch_or address farther i = if is_branch i.op then Some (address, i) else (if computes i then farther else None)

-- the first branch among words at these addresses, and where it is; words before it do no more than to compute
abbrev pub first_branch : Contents → List ℕ → Option (ℕ × Instr)
first_branch image [] = None
first_branch image (address ∷ farther) = option_and_then (branch_or address (first_branch image farther)) (instruction_at image address)

-- where a branch or a jump at an address goes to
abbrev pub target_of : ℕ → Instr → ℕ
target_of address i = plus address (word i.imm)

-- a branch at an address goes back to the word at pc, or to one of the four in front of it
abbrev pub goes_back : ℕ → ℕ → Instr → Bool
goes_back pc address branch = (target_of address branch == pc) || list_any (λ word. word == target_of address branch) (take 4 (words_before pc))

-- ---- behind the loop

abbrev pub is_jal : Op → Bool
is_jal Jal = true
is_jal _ = false

-- `jal x0`
abbrev pub is_goto : Instr → Bool
is_goto i = is_jal i.op && (i.rd == 0)

-- where the hart goes on for certain, behind an instruction at an address
abbrev pub next_word : ℕ → Instr → Option ℕ
next_word address i = if is_goto i then Some (target_of address i) else (if may_leave i.op then None else Some (plus address 4))

-- a fence or an access, or else what comes onward
abbrev pub order_or : (ℕ → Option Instr) → ℕ → Instr → Option Instr
order_or onward address i = if is_access (shape_of i.op) || is_order i then Some i else option_and_then onward (next_word address i)

-- the first fence or access among so many words that a hart comes by, from an address on
unfoldable pub first_order : Contents → ℕ → ℕ → Option Instr
first_order image zero address = None
first_order image (suc left) address = option_and_then (order_or (first_order image left) address) (instruction_at image address)

abbrev pub has_aq : Instr → Shape → Bool
has_aq i Lr = i.aq
has_aq i Amo = i.aq
has_aq i _ = false

-- it keeps what comes behind it from coming in front of a load that is before it
abbrev pub acquires : Instr → Bool
acquires i = (is_fence i.op && orders_a_load i) || has_aq i (shape_of i.op)

-- an acquire's fence, or an atomic access that acquires, comes first from an address on
abbrev pub leads_to_acquire : Contents → ℕ → Bool
leads_to_acquire image address = option_map_or acquires (first_order image 16 address) false

-- a loop makes the load at pc again until it finds what it waits for, and the hart acquires then
abbrev pub is_wait : Contents → ℕ → Bool
is_wait image pc = option_map_or (λ (address, branch). goes_back pc address branch && leads_to_acquire image (plus address 4)) (first_branch image (take 4 (words_after pc))) false
