-- The words that a hart comes by behind a loop.
use Rattle.std.proofs.Common.{◌≡◌, ℕ, ◌-◌, ◌<◌, suc, refl, arith}
use Rattle.std.specs.Prelude.{option_and_then}
use Rattle.rv_elf.specs.Contents.{Contents}
use Rattle.rv_prune.specs.Code.{instruction_at}
use Rattle.rv_prune.specs.Waits.{first_order, order_or}

first_order_at : (image : Contents) (fewer left address : ℕ) → left ≡ suc fewer → first_order image left address ≡ option_and_then (order_or (first_order image fewer) address) (instruction_at image address)
unfolding first_order
first_order_at image fewer left address e = rw e refl

pub first_order_steps : (image : Contents) (left address : ℕ) → 0 < left → first_order image left address ≡ option_and_then (order_or (first_order image (left - 1)) address) (instruction_at image address)
first_order_steps image left address some =
    let e : left ≡ suc (left - 1) = omega arith in
    first_order_at image (left - 1) left address e
