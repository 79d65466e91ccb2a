-- Near pairs by their addresses.
use Rattle.std.proofs.Common.{◌≡◌, ◌↔◌, ℕ, zero, suc, ◌<◌, Bool, true, false, cond, List, [], ◌∷◌, length, get_or, Option, Some, None, inl, inr, refl, sym, ap, subst, ◌∙◌, arith, rules}
use Rattle.std.specs.Prelude.{IsTrue, ◌==◌, ◌&&◌, map, slice_get}
use Rattle.std.specs.Cmp.{IsEquivalence}
use Rattle.std.specs.Cmp.Rules.{comparing}
use Rattle.std.proofs.lemmas.Bool.Decides.{nat_tests}
use Rattle.std.specs.HashMap.{HashMap, IsUnique, PutsEntry, values}
use Rattle.std.specs.List.{Contains, IsDistinct}
use Rattle.std.specs.Map.{keys_of, set_value, values_of}
use Rattle.std.proofs.lemmas.List.Elements.{All-cons, All-head, All-nil, All-tail}
use Rattle.std.proofs.lemmas.List.Sorted.{All-permutation, IsPermutation-map}
use Rattle.std.proofs.lemmas.Bool.{cases_lt}
use Rattle.std.proofs.lemmas.Map.Keys.{IsDistinct-IsPermutation, apart_from_distinct}
use Rattle.std.specs.List.Sorted.{IsPermutation}
use Rattle.rv_walk.specs.Told.{addresses_of}
use Rattle.rv_walk.specs.declared.near_pair.Addresses.{Addresses}
use Rattle.rv_walk.specs.declared.near_pair.NearPair.{NearPair}
use Rattle.rv_walk.specs.internal.Noted.{AreByAddresses}

pub some_pair : (entries : List (Addresses × NearPair)) (empty : Bool) → (IsTrue empty ↔ (length entries ≡ 0)) → empty ≡ false → (pair : NearPair) × Contains (values_of entries) pair
some_pair [] empty iff unset = let e : false ≡ true = sym unset ∙ iff.1 refl in cc
some_pair (entry ∷ entries) empty iff unset = (entry.1, (0, omega arith, refl))

-- what `==` says of two addresses
abbrev pub same_addresses : Addresses → Addresses → Bool
same_addresses a b = a.lesser == b.lesser && a.greater == b.greater

pub same_equiv : IsEquivalence same_addresses
same_equiv = search (comparing, rules)

pub same_exact : (x y : Addresses) → same_addresses x y ≡ true → x ≡ y
same_exact x y same =
    let lesser : x.lesser ≡ y.lesser = grind (arith, nat_tests) in
    let greater : x.greater ≡ y.greater = grind (arith, nat_tests) in
    ap (λ (n : ℕ). record { lesser = n; greater = x.greater }) lesser ∙ ap (λ (n : ℕ). record { lesser = y.lesser; greater = n }) greater

abbrev IsBy : Addresses × NearPair → Type 0
IsBy entry = entry.0 ≡ addresses_of entry.1

set_first : (found : Bool) (at : Addresses) (was : NearPair) (k : Addresses) (v : NearPair) (rest later : List (Addresses × NearPair)) → (found ≡ true → k ≡ at) → k ≡ addresses_of v → at ≡ addresses_of was → AreByAddresses rest → AreByAddresses later → AreByAddresses (cond found ((at, v) ∷ rest) ((at, was) ∷ later))
set_first true at was k v rest later same is first are after = All-cons IsBy (at, v) rest (sym (same refl) ∙ is) are
set_first false at was k v rest later same is first are after = All-cons IsBy (at, was) later first after

set_by : (eq : Addresses → Addresses → Bool) (exact : (x y : Addresses) → eq x y ≡ true → x ≡ y) (k : Addresses) (v : NearPair) (entries : List (Addresses × NearPair)) → AreByAddresses entries → k ≡ addresses_of v → AreByAddresses (set_value (eq k) entries v)
set_by eq exact k v [] are is = All-nil IsBy
set_by eq exact k v (entry ∷ entries) are is =
    set_first (eq k entry.0) entry.0 entry.1 k v entries (set_value (eq k) entries v) (exact k entry.0) is (All-head IsBy entry entries are) (All-tail IsBy entry entries are) (set_by eq exact k v entries (All-tail IsBy entry entries are) is)

pub puts_by : {S : Type 0} (eq : Addresses → Addresses → Bool) (exact : (x y : Addresses) → eq x y ≡ true → x ≡ y) (m n : HashMap Addresses NearPair S) (k : Addresses) (v : NearPair) (old : Option NearPair) → PutsEntry eq m n k v old → AreByAddresses m.entries → k ≡ addresses_of v → AreByAddresses n.entries
puts_by eq exact m n k v None puts are is = All-permutation IsBy ((k, v) ∷ m.entries) n.entries puts (All-cons IsBy (k, v) m.entries is are)
puts_by eq exact m n k v (Some old) puts are is = subst AreByAddresses (sym puts) (set_by eq exact k v m.entries are is)

-- ---- each two addresses once

keys_are : (entries : List (Addresses × NearPair)) → AreByAddresses entries → keys_of entries ≡ map addresses_of (values_of entries)
keys_are [] are = refl
keys_are (entry ∷ entries) are =
    ap (λ (k : Addresses). k ∷ keys_of entries) (All-head IsBy entry entries are) ∙ ap (λ (ks : List Addresses). addresses_of entry.1 ∷ ks) (keys_are entries (All-tail IsBy entry entries are))

at_map : (pairs : List NearPair) (i : ℕ) (pair : NearPair) (d : Addresses) → slice_get pairs i ≡ Some pair → get_or (map addresses_of pairs) i d ≡ addresses_of pair
at_map [] i pair d is = cc
at_map (first ∷ pairs) zero pair d is = let e : first ≡ pair = cc in ap addresses_of e
at_map (first ∷ pairs) (suc i) pair d is = at_map pairs i pair d is

within : (pairs : List NearPair) (i : ℕ) (pair : NearPair) → slice_get pairs i ≡ Some pair → i < length (map addresses_of pairs)
within [] i pair is = cc
within (first ∷ pairs) zero pair is = omega arith
within (first ∷ pairs) (suc i) pair is = let e : i < length (map addresses_of pairs) = within pairs i pair is in omega arith

apart : (eq : Addresses → Addresses → Bool) (itself : (x : Addresses) → eq x x ≡ true) (pairs : List NearPair) (i j : ℕ) (one other : NearPair) → IsDistinct eq (map addresses_of pairs) → slice_get pairs i ≡ Some one → slice_get pairs j ≡ Some other → addresses_of one ≡ addresses_of other → i < j → ⊥
apart eq itself pairs i j one other distinct at also same less =
    let d : Addresses = addresses_of one in
    let e : eq (get_or (map addresses_of pairs) i d) (get_or (map addresses_of pairs) j d) ≡ false = apart_from_distinct eq (map addresses_of pairs) i j d distinct less (within pairs j other also) in
    let f : get_or (map addresses_of pairs) i d ≡ d = at_map pairs i one d at in
    let h : get_or (map addresses_of pairs) j d ≡ d = at_map pairs j other d also ∙ sym same in
    let k : false ≡ true = sym e ∙ ap (λ x. eq x (get_or (map addresses_of pairs) j d)) f ∙ ap (eq d) h ∙ itself d in
    cc

pub once_each : {S : Type 0} (eq : Addresses → Addresses → Bool) (itself : (x : Addresses) → eq x x ≡ true) (flips : (x y : Addresses) → eq x y ≡ eq y x) (m : HashMap Addresses NearPair S) (pairs : List NearPair) → IsUnique eq m → AreByAddresses m.entries → IsPermutation (values m) pairs → (i j : ℕ) (one other : NearPair) → slice_get pairs i ≡ Some one → slice_get pairs j ≡ Some other → addresses_of one ≡ addresses_of other → i ≡ j
once_each eq itself flips m pairs unique are moved i j one other at also same =
    let before : IsDistinct eq (map addresses_of (values m)) = subst (IsDistinct eq) (keys_are m.entries are) unique in
    let distinct : IsDistinct eq (map addresses_of pairs) = IsDistinct-IsPermutation eq flips (map addresses_of (values m)) (map addresses_of pairs) (IsPermutation-map addresses_of (values m) pairs moved) before in
    elim (cases_lt i j) [
      | inl less ↦ absurd (apart eq itself pairs i j one other distinct at also same less)
      | inr le ↦ elim (cases_lt j i) [
        | inl less ↦ absurd (apart eq itself pairs j i other one distinct also at (sym same) less)
        | inr ge ↦ omega arith
      ]
    ]
