-- What a FENCE orders, as letters and as a number.
use Rattle.std.specs.Prelude.{ℕ, ℤ, pos, ◌==◌, ◌/◌, ◌%◌, if◌then◌else◌, Option, option_map, List, [], ◌++◌, codes}
use Rattle.std.specs.List.{find, range_with_len}
use Rattle.std.specs.Str.{bytes_eq}

-- What a FENCE orders: device input 8, device output 4, memory reads 2, memory writes 1.
-- (RISC-V Unprivileged ISA, "Memory Ordering Instructions".)

abbrev pub letter : ℕ → ℕ → List ℕ → List ℕ
letter bit set text = if set / bit % 2 == 1 then text else []

abbrev pub letters : ℕ → List ℕ
letters set = letter 8 set (codes "i") ++ letter 4 set (codes "o") ++ letter 2 set (codes "r") ++ letter 1 set (codes "w")

-- the set of one or more letters, each at most once and in their order
abbrev pub order_set : List ℕ → Option ℤ
order_set text = option_map pos (find (λ set. bytes_eq (letters set) text) (range_with_len 1 15))
