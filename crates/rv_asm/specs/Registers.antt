-- The names of the registers, by number and by the calling convention.
use Rattle.std.specs.Prelude.{ℕ, Bool, ◌==◌, ◌&&◌, ◌||◌, Option, List, [], ◌∷◌, codes, slice_index_or}
use Rattle.std.specs.List.{find, range_with_len}
use Rattle.std.specs.Str.{bytes_eq}

-- The names of the registers: x0 to x31, and those of the calling convention. (RISC-V ABIs Specification,
-- "Integer Register Convention".)
abbrev pub number_names : List (List ℕ)
number_names =
    codes "x0" ∷ codes "x1" ∷ codes "x2" ∷ codes "x3" ∷ codes "x4" ∷ codes "x5" ∷ codes "x6" ∷ codes "x7"
    ∷ codes "x8" ∷ codes "x9" ∷ codes "x10" ∷ codes "x11" ∷ codes "x12" ∷ codes "x13" ∷ codes "x14" ∷ codes "x15"
    ∷ codes "x16" ∷ codes "x17" ∷ codes "x18" ∷ codes "x19" ∷ codes "x20" ∷ codes "x21" ∷ codes "x22" ∷ codes "x23"
    ∷ codes "x24" ∷ codes "x25" ∷ codes "x26" ∷ codes "x27" ∷ codes "x28" ∷ codes "x29" ∷ codes "x30" ∷ codes "x31"
    ∷ []

abbrev pub number_name : ℕ → List ℕ
number_name register = slice_index_or number_names register []

abbrev pub convention_names : List (List ℕ)
convention_names =
    codes "zero" ∷ codes "ra" ∷ codes "sp" ∷ codes "gp" ∷ codes "tp" ∷ codes "t0" ∷ codes "t1" ∷ codes "t2"
    ∷ codes "s0" ∷ codes "s1" ∷ codes "a0" ∷ codes "a1" ∷ codes "a2" ∷ codes "a3" ∷ codes "a4" ∷ codes "a5"
    ∷ codes "a6" ∷ codes "a7" ∷ codes "s2" ∷ codes "s3" ∷ codes "s4" ∷ codes "s5" ∷ codes "s6" ∷ codes "s7"
    ∷ codes "s8" ∷ codes "s9" ∷ codes "s10" ∷ codes "s11" ∷ codes "t3" ∷ codes "t4" ∷ codes "t5" ∷ codes "t6"
    ∷ []

abbrev pub convention_name : ℕ → List ℕ
convention_name register = slice_index_or convention_names register []

-- x8 is also the frame pointer
abbrev pub is_named : ℕ → List ℕ → Bool
is_named register text = bytes_eq (number_name register) text || bytes_eq (convention_name register) text || (register == 8 && bytes_eq text (codes "fp"))

abbrev pub register_named : List ℕ → Option ℕ
register_named text = find (λ register. is_named register text) (range_with_len 0 32)
