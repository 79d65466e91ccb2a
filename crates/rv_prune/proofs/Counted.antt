-- An access touches a range exactly where more ranges begin before its end than have ended at its start.
use Rattle.std.proofs.Common.{◌≡◌, ℕ, zero, suc, ◌+◌, ◌<◌, ◌≤◌, Bool, true, false, ◌&&◌, cond, leb, ltb, min, max, List, [], ◌∷◌, map, length, refl, sym, ap, zero-add, ◌∙◌, arith, inl, inr}
use Rattle.std.specs.List.{count_by, filter, list_any}
use Rattle.std.specs.List.Sorted.{IsPartitionPoint, IsPermutation}
use Rattle.std.proofs.lemmas.Bool.{cases_Bool, cases_lt, lt-ltb, le-leb, lt-leb, le-ltb}
use Rattle.std.proofs.lemmas.Bool.Decides.{nat_tests}
use Rattle.std.proofs.lemmas.List.Sorted.{sum_by-IsPermutation}
use Rattle.std.proofs.lemmas.List.Sums.{sum_by-cons}
use Rattle.rv_hart.specs.declared.access.Access.{Access}
use Rattle.rv_prune.specs.Class.{touches}
use Rattle.rv_prune.specs.Ranges.{has_at}
use Rattle.rv_prune.specs.internal.Bounds.{has_byte, starts, ends}

count-cons : {X : Type 0} (p : X → Bool) (x : X) (xs : List X) → count_by p (x ∷ xs) ≡ cond (p x) 1 0 + count_by p xs
count-cons p x xs = sum_by-cons (λ y. cond (p y) 1 0) x xs

-- a count of what is mapped and filtered is a count of the list
count_mapped : (p : ℕ → Bool) (f : ℕ × ℕ → ℕ) (q : ℕ × ℕ → Bool) (xs : List (ℕ × ℕ)) → count_by p (map f (filter q xs)) ≡ count_by (λ x. q x && p (f x)) xs
count_mapped p f q [] = refl
count_mapped p f q (x ∷ xs) =
    elim (cases_Bool (q x)) [
      | inl t ↦ let rest = count_mapped p f q xs in
          rw (count-cons (λ y. q y && p (f y)) x xs, t) (count-cons p (f x) (map f (filter q xs)) ∙ ap (λ n. cond (p (f x)) 1 0 + n) rest)
      | inr n ↦ let rest = count_mapped p f q xs in rw (count-cons (λ y. q y && p (f y)) x xs, n) (rest ∙ sym (zero-add _))
    ]

-- a range that has a byte has begun before the access ends where it has ended before the access or touches it
one : (first size start len : ℕ) → 0 < size
    → cond (ltb 0 len && ltb start (first + size)) 1 0 ≡ cond (ltb 0 len && leb (start + len) first) 1 0 + cond (ltb (max first start) (min (first + size) (start + len))) 1 0
one first size start len some =
    elim (cases_lt 0 len) [
      | inl has ↦ elim (cases_lt start (first + size)) [
        | inl begun ↦ elim (cases_lt first (start + len)) [
          | inl reaches ↦ let meets : max first start < min (first + size) (start + len) = grind arith in
              rw (lt-ltb 0 len has, lt-ltb start (first + size) begun, lt-leb (start + len) first reaches, lt-ltb (max first start) (min (first + size) (start + len)) meets) refl
          | inr over ↦ let apart : min (first + size) (start + len) ≤ max first start = grind arith in
              rw (lt-ltb 0 len has, lt-ltb start (first + size) begun, le-leb (start + len) first over, le-ltb (max first start) (min (first + size) (start + len)) apart) refl
        ]
        | inr later ↦ let apart : min (first + size) (start + len) ≤ max first start = grind arith in
            let reaches : first < start + len = omega arith in
            rw (lt-ltb 0 len has, le-ltb start (first + size) later, lt-leb (start + len) first reaches, le-ltb (max first start) (min (first + size) (start + len)) apart) refl
      ]
      | inr none ↦ let apart : min (first + size) (start + len) ≤ max first start = grind arith in
          rw (le-ltb 0 len none, le-ltb (max first start) (min (first + size) (start + len)) apart) refl
    ]

abbrev begun : ℕ → ℕ × ℕ → Bool
begun place range = has_byte range && ltb range.0 place

abbrev over : ℕ → ℕ × ℕ → Bool
over place range = has_byte range && leb (range.0 + range.1) place

all_of_them : (access : Access) (listed : List (ℕ × ℕ)) → 0 < access.size
    → count_by (begun (access.first + access.size)) listed ≡ count_by (over access.first) listed + count_by (touches access) listed
all_of_them access [] some = refl
all_of_them access (range ∷ listed) some =
    let first = one access.first access.size range.0 range.1 some in
    let rest = all_of_them access listed some in
    rw (count-cons (begun (access.first + access.size)) range listed, count-cons (over access.first) range listed, count-cons (touches access) range listed) (omega (arith, first, rest))

any_counted : (p : ℕ × ℕ → Bool) (xs : List (ℕ × ℕ)) → list_any p xs ≡ ltb 0 (count_by p xs)
any_counted p [] = refl
any_counted p (x ∷ xs) =
    elim (cases_Bool (p x)) [
      | inl t ↦ rw (count-cons p x xs, t) (sym (lt-ltb 0 (1 + count_by p xs) (omega arith)))
      | inr n ↦ rw (count-cons p x xs, n) (any_counted p xs ∙ ap (ltb 0) (sym (zero-add _)))
    ]

less_added : (m n k : ℕ) → m ≡ n + k → ltb n m ≡ ltb 0 k
less_added m n k e = grind (arith, nat_tests)

-- the starts before the access's end against the ends at its start
pub touched : (access : Access) (listed : List (ℕ × ℕ)) → access.first < access.first + access.size
    → ltb (count_by (λ stop. leb stop access.first) (ends listed)) (count_by (λ start. ltb start (access.first + access.size)) (starts listed)) ≡ list_any (touches access) listed
touched access listed some =
    let left = count_mapped (λ stop. leb stop access.first) (λ range. range.0 + range.1) has_byte listed in
    let right = count_mapped (λ start. ltb start (access.first + access.size)) (λ range. range.0) has_byte listed in
    let total = all_of_them access listed (omega arith) in
    less_added _ _ (count_by (touches access) listed) (right ∙ total ∙ ap (λ n. n + count_by (touches access) listed) (sym left)) ∙ sym (any_counted (touches access) listed)

-- an access of no byte touches nothing
pub untouched : (access : Access) (listed : List (ℕ × ℕ)) → access.first + access.size ≤ access.first → false ≡ list_any (touches access) listed
untouched access [] none = refl
untouched access (range ∷ listed) none =
    let apart : min (access.first + access.size) (range.0 + range.1) ≤ max access.first range.0 = grind arith in
    rw (le-ltb (max access.first range.0) (min (access.first + access.size) (range.0 + range.1)) apart) (untouched access listed none)

-- as many pass a test as stand before the point up to which all do
counted : (p : ℕ → Bool) (xs : List ℕ) (point : ℕ) → point ≤ length xs → IsPartitionPoint (λ y. p y ≡ true) (λ y. p y ≡ false) xs point → point ≡ count_by p xs
counted p [] point within h = omega arith
counted p (x ∷ xs) zero within h =
    rw (count-cons p x xs, h.1 0 x (omega arith) (omega arith)) (counted p xs zero (omega arith) (λ k d low high. absurd (omega arith), λ k d low high. h.1 (suc k) d (omega arith) (omega arith)) ∙ sym (zero-add _))
counted p (x ∷ xs) (suc point) within h =
    let rest = counted p xs point (omega arith) (λ k d low high. h.0 (suc k) d (omega arith) (omega arith), λ k d low high. h.1 (suc k) d (omega arith) (omega arith)) in
    rw (count-cons p x xs, h.0 0 x (omega arith) (omega arith)) (omega (arith, rest))

-- and so in a list of the same numbers
pub counted_in : (p : ℕ → Bool) (xs sorted : List ℕ) (point : ℕ) → IsPermutation xs sorted → point ≤ length sorted → IsPartitionPoint (λ y. p y ≡ true) (λ y. p y ≡ false) sorted point
    → point ≡ count_by p xs
counted_in p xs sorted point same within h = counted p sorted point within h ∙ sum_by-IsPermutation (λ x. cond (p x) 1 0) xs sorted same

-- a range has a byte exactly where an access of that byte touches it
one_byte : (address start len : ℕ) → (leb start address && ltb address (start + len)) ≡ ltb (max address start) (min (address + 1) (start + len))
one_byte address start len = grind (arith, nat_tests)

any_byte : (address : ℕ) (listed : List (ℕ × ℕ)) → list_any (has_at address) listed ≡ list_any (touches (record { pc = 0; first = address; size = 1; read = false; write = false })) listed
any_byte address [] = refl
any_byte address (range ∷ listed) = rw (one_byte address range.0 range.1, any_byte address listed) refl

pub has : (address : ℕ) (listed : List (ℕ × ℕ)) → ltb (count_by (λ stop. leb stop address) (ends listed)) (count_by (λ start. ltb start (address + 1)) (starts listed)) ≡ list_any (has_at address) listed
has address listed = touched (record { pc = 0; first = address; size = 1; read = false; write = false }) listed (omega arith) ∙ sym (any_byte address listed)
