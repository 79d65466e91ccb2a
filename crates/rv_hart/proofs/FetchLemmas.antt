-- What a hart does next, in the terms of the instruction table.
use Rattle.std.proofs.Common.{◌≡◌, ℕ, Option, Some, None, refl, ap}
use Rattle.rv_hart.specs.FetchLaws as laws
use Rattle.rv_hart.specs.NextAccess.{next_plain}
use Rattle.rv_hart.specs.Step.{action_at_word, allowed}
use Rattle.rv_hart.specs.declared.action.Action.TheVariants.{Trap}
use Rattle.rv_hart.specs.declared.hart.Cause.TheVariants.{Illegal}
use Rattle.rv_hart.specs.declared.hart.Hart.{Hart}
use Rattle.rv_isa.specs.Decoded.{decoded}
use Rattle.rv_isa.specs.Instr.{Row}
use Rattle.rv_isa.specs.TableLaws.{FunctionsOfTheTable}
use Rattle.rv_isa.specs.declared.instr.Instr.{Instr}
use Rattle.rv_memory.specs.Memory.{load}

pub instruction_law : FunctionsOfTheTable → laws.InstructionLaw
instruction_law table m hart i permitted row =
    rw permitted (ap (λ o. allowed m (action_at_word o hart)) ((table.1 (load m hart.pc 4) i).1 row))

illegal : FunctionsOfTheTable → (word : ℕ) (hart : Hart) (o : Option Instr) → decoded word ≡ o → ¬ ((i : Instr) × Row word i) → action_at_word o hart ≡ Trap Illegal
illegal table word hart None e none = refl
illegal table word hart (Some i) e none = absurd (none (i, (table.1 word i).0 e))

pub illegal_law : FunctionsOfTheTable → laws.IllegalLaw
illegal_law table m hart permitted none =
    rw permitted (ap (allowed m) (illegal table (load m hart.pc 4) hart (decoded (load m hart.pc 4)) refl none))

pub fetch_fault_law : laws.FetchFaultLaw
fetch_fault_law m hart refused = rw refused refl

pub plain_law : FunctionsOfTheTable → laws.PlainLaw
unfolding next_plain
plain_law table s h hart i there row = rw (there, (table.0 (load s.memory hart.pc 4) i.op).1 row.matches) refl
