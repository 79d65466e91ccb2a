-- The registers: x0 is read as 0, and a write to it is lost.
use Rattle.std.specs.Prelude.{ℕ, ◌==◌, if◌then◌else◌, List, slice_index, slice_set}

-- Register x0 is read as 0, and a write to it is lost. (RISC-V Unprivileged ISA, "Programmers' Model
-- for Base Integer ISA".)
abbrev pub get : List ℕ → ℕ → ℕ
get registers r = if r == 0 then 0 else slice_index registers r

abbrev pub set : List ℕ → ℕ → ℕ → List ℕ
set registers r value = if r == 0 then registers else slice_set registers r value
