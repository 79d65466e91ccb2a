-- The stacks lie one behind the other.
use Rattle.std.proofs.Common.{◌≡◌, ℕ, zero, suc, ◌+◌, ◌-◌, ◌*◌, ◌<◌, ◌≤◌, Bool, false, map, refl, ap, ◌∙◌, arith}
use Rattle.std.specs.Prelude.{◌&&◌, ◌||◌, nat_le, nat_lt}
use Rattle.std.specs.List.{list_any, range_with_len}
use Rattle.std.proofs.lemmas.Bool.Decides.{nat_tests}
use Rattle.rv_hart.specs.State.{stack, stack_start}
use Rattle.rv_memory.specs.Memory.{covers}
use Rattle.rv_orders.specs.Trial.{in_stacks}

-- one of so many stacks, from a hart's on, has the address
abbrev in_stacks_from : ℕ → ℕ → ℕ → Bool
in_stacks_from hart count address = list_any (λ extent. covers extent address) (map stack (range_with_len hart count))

abbrev is_between : ℕ → ℕ → ℕ → Bool
is_between first end address = nat_le first address && nat_lt address end

none : (first end address : ℕ) → end ≡ first → is_between first end address ≡ false
none first end address e = grind (arith, nat_tests)

joined : (first middle end address : ℕ) → first ≤ middle → middle ≤ end → is_between first end address ≡ (is_between first middle address || is_between middle end address)
joined first middle end address a b = grind (arith, nat_tests)

between : (count hart end address : ℕ) → end ≡ stack_start hart + count * 0x10000 → is_between (stack_start hart) end address ≡ in_stacks_from hart count address
between zero hart end address e = none (stack_start hart) end address (omega arith)
between (suc count) hart end address e =
    let more : is_between (stack_start (hart + 1)) end address ≡ in_stacks_from (hart + 1) count address = between count (hart + 1) end address (omega arith) in
    let middle : stack_start hart + 0x10000 ≡ stack_start (hart + 1) = omega arith in
    joined (stack_start hart) (stack_start hart + 0x10000) end address (omega arith) (omega arith)
    ∙ ap (λ b. is_between (stack_start hart) (stack_start hart + 0x10000) address || b) (ap (λ m. is_between m end address) middle ∙ more)

inside : (first size address : ℕ) → first ≤ address → nat_lt (address - first) size ≡ is_between first (first + size) address
inside first size address from = grind (arith, nat_tests)

outside : (first end address : ℕ) → address < first → nat_le first address ≡ is_between first end address
outside first end address below = grind (arith, nat_tests)

pub tells : (count address : ℕ) → 0xc000_0000 ≤ address → nat_lt (address - 0xc000_0000) (count * 0x10000) ≡ in_stacks count address
tells count address from = inside 0xc000_0000 (count * 0x10000) address from ∙ between count 0 (0xc000_0000 + count * 0x10000) address refl

pub tells_not : (count address : ℕ) → address < 0xc000_0000 → nat_le 0xc000_0000 address ≡ in_stacks count address
tells_not count address below = outside 0xc000_0000 (0xc000_0000 + count * 0x10000) address below ∙ between count 0 (0xc000_0000 + count * 0x10000) address refl
