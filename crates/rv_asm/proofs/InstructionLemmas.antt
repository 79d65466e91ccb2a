-- Instructions are given by their operation and operands.
use Rattle.std.proofs.Common.{◌≡◌, ℤ, pos, negsuc, Bool, true, false, Option, Some, None, Ok, Err, refl, ap, ◌∙◌, arith}
use Rattle.std.specs.Prelude.{Result, ◌<ℤ◌, ◌+ℤ◌, ◌*ℤ◌, ◌&&◌, ◌↔◌, IsTrue, IsSome}
use Rattle.std.specs.Option.{ok_or}
use Rattle.rv_isa.specs.Operands.{are_operands, is_immediate}
use Rattle.rv_isa.specs.Instr.{operands}
use Rattle.rv_isa.specs.Table.{form_of}
use Rattle.rv_isa.specs.declared.form.Form.{Form}
use Rattle.rv_isa.specs.declared.form.Form.TheVariants.{R, I, S, B, U, J, Shift, Fence, Plain, Lr, Amo}
use Rattle.rv_isa.specs.declared.instr.Instr.{Instr}
use Rattle.rv_isa.specs.declared.op.Op.{Op}
use Rattle.rv_isa.specs.declared.operands.Operands.{Operands}
use Rattle.std.proofs.Math.Bool.{Bool-set}
use Rattle.std.proofs.lemmas.Bool.Decides.{nat_tests}
use Rattle.std.proofs.lemmas.Int.{ints}
use Rattle.rv_asm.specs.Instruction.{fields, instruction, when_in_range}
use Rattle.rv_asm.specs.SourceLine.{one_instr, ordered_instr, within}
use Rattle.rv_asm.specs.declared.statement.AsmKind.{AsmKind}
use Rattle.rv_asm.specs.declared.statement.AsmKind.TheVariants.{Range}

when_not : (op : Op) (o : Operands) (b : Bool) (e : are_operands (form_of op) o ≡ b) → are_operands (form_of op) o ≡ false → when_in_range op o b e ≡ Err Range
when_not op o true e not = cc
when_not op o false e not = refl

pub instruction_not : (op : Op) (o : Operands) → are_operands (form_of op) o ≡ false → instruction op o ≡ Err Range
unfolding instruction
instruction_not op o not = when_not op o (are_operands (form_of op) o) refl not

when_is : (i : Instr) (b : Bool) (e : are_operands (form_of i.op) (operands i) ≡ b) → when_in_range i.op (operands i) b e ≡ Ok i
when_is i true e =
    let made : are_operands (form_of i.op) (operands i) ≡ true → Result Instr AsmKind =
    λ fits. Ok (record { op = i.op; rd = i.rd; rs1 = i.rs1; rs2 = i.rs2; imm = i.imm; aq = i.aq; rl = i.rl; in_range = fits }) in
    ap made (Bool-set _ _ e i.in_range)
when_is i false e = let fits = i.in_range in cc

-- every instruction is that of its operation and operands
pub instruction_is : (i : Instr) → instruction i.op (operands i) ≡ Ok i
unfolding instruction
instruction_is i = when_is i (are_operands (form_of i.op) (operands i)) refl

-- no immediate passes 32 bits
pub low_immediate : (f : Form) (z : ℤ) → z <ℤ negsuc 2147483647 → is_immediate f z ≡ false
low_immediate R z low = grind (arith, ints, nat_tests)
low_immediate I z low = grind (arith, ints, nat_tests)
low_immediate S z low = grind (arith, ints, nat_tests)
low_immediate B z low = grind (arith, ints, nat_tests)
low_immediate U z low = grind (arith, ints, nat_tests)
low_immediate J z low = grind (arith, ints, nat_tests)
low_immediate Shift z low = grind (arith, ints, nat_tests)
low_immediate Fence z low = grind (arith, ints, nat_tests)
low_immediate Plain z low = grind (arith, ints, nat_tests)
low_immediate Lr z low = grind (arith, ints, nat_tests)
low_immediate Amo z low = grind (arith, ints, nat_tests)

pub high_immediate : (f : Form) (z : ℤ) → pos 2147483647 <ℤ z → is_immediate f z ≡ false
high_immediate R z high = grind (arith, ints, nat_tests)
high_immediate I z high = grind (arith, ints, nat_tests)
high_immediate S z high = grind (arith, ints, nat_tests)
high_immediate B z high = grind (arith, ints, nat_tests)
high_immediate U z high = grind (arith, ints, nat_tests)
high_immediate J z high = grind (arith, ints, nat_tests)
high_immediate Shift z high = grind (arith, ints, nat_tests)
high_immediate Fence z high = grind (arith, ints, nat_tests)
high_immediate Plain z high = grind (arith, ints, nat_tests)
high_immediate Lr z high = grind (arith, ints, nat_tests)
high_immediate Amo z high = grind (arith, ints, nat_tests)

and_none : (a b c : Bool) → a && false && b && c ≡ false
and_none true b c = refl
and_none false b c = refl

pub no_instruction : (op : Op) (o : Operands) → is_immediate (form_of op) o.imm ≡ false → instruction op o ≡ Err Range
no_instruction op o none = instruction_not op o (rw none (and_none _ _ _))

none_made : (b : Bool) (made : Option Instr) → IsSome made ↔ IsTrue b → b ≡ false → ok_or made Range ≡ Err Range
none_made b None valid none = refl
none_made b (Some i) valid none = let fits = valid.0 refl in cc

when_made : (op : Op) (o : Operands) (b : Bool) (e : are_operands (form_of op) o ≡ b) (made : Option Instr) → IsSome made ↔ IsTrue (are_operands (form_of op) o) → ((i : Instr) → i.op ≡ op → operands i ≡ o → made ≡ Some i)
    → ok_or made Range ≡ when_in_range op o b e
when_made op o true e made valid only =
    ap (λ m. ok_or m Range) (only (record { op = op; rd = o.rd; rs1 = o.rs1; rs2 = o.rs2; imm = o.imm; aq = o.aq; rl = o.rl; in_range = e }) refl refl)
when_made op o false e made valid only = none_made (are_operands (form_of op) o) made valid e

-- what is made of some operands, or is not, where the immediate is given in another form
pub instruction_made : (op : Op) (o : Operands) (imm : ℤ) (made : Option Instr) → imm ≡ o.imm → IsSome made ↔ IsTrue (are_operands (form_of op) (record o { imm = imm }))
    → ((i : Instr) → i.op ≡ op → operands i ≡ record o { imm = imm } → made ≡ Some i) → ok_or made Range ≡ instruction op o
unfolding instruction
instruction_made op o imm made same valid only =
    when_made op (record o { imm = imm }) (are_operands (form_of op) (record o { imm = imm })) refl made valid only ∙ ap (λ z. instruction op (record o { imm = z })) same

pub ordered : (op : Op) (pred succ p s before after imm : ℤ) → p ≡ pred → s ≡ succ → Ok before ≡ within (pos 0) (pos 15) p → Ok after ≡ within (pos 0) (pos 15) s → imm ≡ before *ℤ pos 16 +ℤ after
    → one_instr op (fields 0 0 0 imm) ≡ ordered_instr op pred succ
ordered op pred succ p s before after imm same_pred same_succ is_before is_after is = rw (← same_pred, ← same_succ, ← is_before, ← is_after, is) refl
