-- What the rules of the classes come to.
use Rattle.std.proofs.Common.{◌≡◌, ℕ, ◌+◌, ◌<◌, true, max, min, bit_and, bit_xor, sym, ap, ◌∙◌, arith}
use Rattle.std.specs.Prelude.{IsTrue, nat_lt, ◌==◌}
use Rattle.std.specs.Int.Bits.{xor_self, xor_zero_l}
use lib.Bits.{xor_assoc}
use Rattle.std.proofs.lemmas.Bool.Decides.{nat_tests}
use Rattle.std.proofs.lemmas.Nat.{and_xor_apart}
use Rattle.rv_hart.specs.Conflict.{end_of}
use Rattle.rv_hart.specs.Arithmetic.{word}
use Rattle.rv_hart.specs.declared.access.Access.{Access}
use Rattle.rv_prune.specs.Class.{touches, loaded_by}
use Rattle.rv_prune.specs.ClassLaws.{IsShared, TouchingIsSharing, FlagsLookSame}

to_less : (a b c d : ℕ) → IsTrue (nat_lt (max a b) (min c d)) → max a b < min c d
to_less a b c d h = grind (arith, nat_tests)

from_less : (a b c d : ℕ) → max a b < min c d → IsTrue (nat_lt (max a b) (min c d))
from_less a b c d h = grind (arith, nat_tests)

shares : (access : Access) (range : ℕ × ℕ) → IsTrue (touches access range) → (address : ℕ) × IsShared access range address
shares access range touching =
    let less = to_less access.first range.0 (end_of access) (range.0 + range.1) touching in
    (max access.first range.0, record { of_access = record { from = omega arith; before = omega arith }; from = omega arith; before = omega arith })

touched : (access : Access) (range : ℕ × ℕ) → ((address : ℕ) × IsShared access range address) → IsTrue (touches access range)
touched access range (address, shared) =
    let from = shared.of_access.from in
    let before = shared.of_access.before in
    from_less access.first range.0 (end_of access) (range.0 + range.1) (omega (arith, from, before, shared.from, shared.before))

pub touching_is_sharing : TouchingIsSharing
touching_is_sharing access range = (shares access range, touched access range)

back : (a b : ℕ) → bit_xor a (bit_xor a b) ≡ b
back a b = sym (xor_assoc a a b) ∙ ap (λ n. bit_xor n b) (xor_self a) ∙ xor_zero_l b

same_under : (a b mask : ℕ) → bit_and (bit_xor a b) mask ≡ 0 → bit_and a mask ≡ bit_and b mask
same_under a b mask none = sym (and_xor_apart mask a (bit_xor a b) none) ∙ ap (λ n. bit_and n mask) (back a b)

is_zero : (n : ℕ) → (n == 0) ≡ true → n ≡ 0
is_zero n h = grind (arith, nat_tests)

pub flags_look_same : FlagsLookSame
flags_look_same load mask e same =
    same_under (loaded_by load.op e.old) (loaded_by load.op e.new) (word mask.imm) (is_zero (bit_and (bit_xor (loaded_by load.op e.old) (loaded_by load.op e.new)) (word mask.imm)) same)
