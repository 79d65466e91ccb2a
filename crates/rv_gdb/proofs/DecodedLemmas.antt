-- Bytes that are known, with those that are still to come.
use Rattle.std.proofs.Common.{◌≡◌, ℕ, ◌+◌, ◌-◌, ◌*◌, ◌≤◌, List, [], ◌∷◌, ◌++◌, Option, Some, None, length, take, drop, refl, sym, ap, ◌∙◌, append_assoc, arith, rules}
use Rattle.std.specs.Prelude.{option_map}
use Rattle.std.proofs.lemmas.Grind.{common_steps}
use Rattle.std.proofs.lemmas.List.{take_all}
use Rattle.rv_gdb.specs.Fields.{byte_of, bytes_in}

-- one byte that comes is one more that is known
onto : (known : List ℕ) (byte : ℕ) (rest : Option (List ℕ)) → option_map (λ bytes. known ++ bytes) (option_map (λ bytes. byte ∷ bytes) rest) ≡ option_map (λ bytes. (known ++ byte ∷ []) ++ bytes) rest
onto known byte None = refl
onto known byte (Some rest) = ap (λ bytes. Some bytes) (sym (append_assoc known (byte ∷ []) rest))

-- the first byte is taken off
first : (left : List ℕ) (byte : ℕ) → byte_of left ≡ Some byte → bytes_in left ≡ option_map (λ bytes. byte ∷ bytes) (bytes_in (drop 2 left))
first [] byte is = search rules
first (digit ∷ []) byte is = search rules
first (digit ∷ other ∷ left) byte is = rw is refl

two_digits : (left : List ℕ) (byte : ℕ) → byte_of left ≡ Some byte → 2 ≤ length left
two_digits [] byte is = search rules
two_digits (digit ∷ []) byte is = search rules
two_digits (digit ∷ other ∷ left) byte is = omega arith

-- what stands behind the first two digits, as a slice has it
behind_two : (left : List ℕ) → take (length left - 2) (drop 2 left) ≡ drop 2 left
behind_two left = take_all (length left - 2) (drop 2 left) (grind (arith, common_steps))

-- what holds of a text before its next byte is taken holds after it
pub one_more : (whole : Option (List ℕ)) (left known longer : List ℕ) (byte : ℕ) → byte_of left ≡ Some byte → longer ≡ known ++ byte ∷ [] → whole ≡ option_map (λ bytes. known ++ bytes) (bytes_in left) → whole ≡ option_map (λ bytes. longer ++ bytes) (bytes_in (take (length left - 2) (drop 2 left)))
one_more whole left known longer byte is more all =
    rw (more, behind_two left) (all ∙ ap (λ o. option_map (λ bytes. known ++ bytes) o) (first left byte is) ∙ onto known byte (bytes_in (drop 2 left)))

pub fits_more : (left known longer : List ℕ) (byte : ℕ) → byte_of left ≡ Some byte → longer ≡ known ++ byte ∷ [] → 2 * length known + length left ≤ 512 → 2 * length longer + length (take (length left - 2) (drop 2 left)) ≤ 512
fits_more left known longer byte is more fits =
    let two : 2 ≤ length left = two_digits left byte is in
    rw (more, behind_two left) (grind (arith, common_steps))
