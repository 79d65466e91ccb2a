-- Addresses without a repeat, and how many of them stand in a bucket.
use Rattle.std.proofs.Common.{◌≡◌, ℕ, subst, zero-le, inl, inr, add-zero, add-one, add_assoc, add_comm, zero-add, ◌-◌, ◌+◌, ◌≤◌, ◌<◌, Bool, true, false, cond, List, [], ◌∷◌, ◌++◌, length, refl, sym, ap, ◌∙◌, arith}
use Rattle.std.proofs.Common.{nat_eq, suc, take, Some, Option, is_some}
use Rattle.std.specs.Prelude.{nat_lt, ◌==◌, ◌&&◌, ◌||◌, not, sum_by, position, swap_remove, IsPermutation}
use Rattle.std.specs.List.{list_any, position_from}
use Rattle.std.proofs.lemmas.Iterator.Adapters.{position_from-zero}
use Rattle.std.proofs.lemmas.List.Quantifiers.{position-Some}
use Rattle.std.proofs.lemmas.List.Recursion.{is_sum_by}
use Rattle.std.proofs.lemmas.List.Sorted.{IsPermutation-swap_remove, length_permutation, list_any-IsPermutation, sum_by_popped}
use Rattle.std.specs.Cmp.{nat_cmp_total}
use Rattle.std.specs.FinSet.{FinSet, contains, from_list, len, contains-from_list_nat, len-insert, len-empty}
use Rattle.std.specs.Ordering.{nat_cmp}
use Rattle.std.proofs.lemmas.Bool.Decides.{nat_tests}
use Rattle.std.specs.FinSet.{insert, remove, from_list_push, contains-remove, same_set, nat_cmp-IsAntisymmetric}
use Rattle.std.specs.Cmp.{unsigned_tied}
use Rattle.std.proofs.Common.{get_or, set, get_or-set_same, get_or-set_other, length-append, replicate}
use Rattle.std.proofs.lemmas.List.{get_or_default, length-set, get_or-replicate, length-replicate}
use Rattle.std.proofs.lemmas.Bool.{cases_eq}
use Rattle.rv_break.specs.internal.Buckets.{bucket_of, count_of, count_in, is_among, AreApart, IsFiltered}
use Rattle.rv_break.specs.declared.armed.TheConstants.{BUCKETS}
use Rattle.rv_break.specs.declared.claim.TheConstants.{ARMED_LIMIT}

pub len_apart : (xs : List ℕ) → AreApart xs → len (from_list {R = nat_cmp} xs) ≡ length xs
len_apart [] apart = len-empty nat_cmp
len_apart (x ∷ xs) apart =
    len-insert nat_cmp_total (from_list xs) x
    ∙ ap (λ b. cond b (len (from_list {R = nat_cmp} xs)) (len (from_list {R = nat_cmp} xs) + 1)) (contains-from_list_nat xs x ∙ apart.0)
    ∙ ap (λ n. n + 1) (len_apart xs apart.1) ∙ add-one (length xs)

any_push : (t : ℕ → Bool) (xs : List ℕ) (a : ℕ) → list_any t xs ≡ false → t a ≡ false → list_any t (xs ++ a ∷ []) ≡ false
any_push t [] a none not_a = grind (arith, nat_tests)
any_push t (x ∷ xs) a none not_a = elim (t x) as (λ b. (b || list_any t xs) ≡ false → (b || list_any t (xs ++ a ∷ [])) ≡ false) [ true ↦ λ h. h | false ↦ λ h. any_push t xs a h not_a ] none

eq_sym : (x y : ℕ) → (x == y) ≡ false → (y == x) ≡ false
eq_sym x y h = grind (arith, nat_tests)

eq_itself : (a : ℕ) → (a == a) ≡ true
eq_itself a = grind (arith, nat_tests)

eq_other : (q a : ℕ) → (q ≡ a → ⊥) → (q == a) ≡ false
eq_other q a other = grind (arith, nat_tests)

or_false : (b c : Bool) → (b || c) ≡ false → (b ≡ false) × (c ≡ false)
or_false false c h = (refl, h)
or_false true c h = cc

pub apart_push : (xs : List ℕ) (a : ℕ) → AreApart xs → is_among a xs ≡ false → AreApart (xs ++ a ∷ [])
apart_push [] a apart none = (refl, tt)
apart_push (x ∷ xs) a apart none =
    let h = or_false (x == a) (is_among a xs) none in
    (any_push (λ y. y == x) xs a apart.0 (eq_sym x a h.0), apart_push xs a apart.1 h.1)

-- one number at most for each address
count_le : (p : ℕ → Bool) (xs : List ℕ) → count_of p xs ≤ length xs
count_le p [] = zero-le
count_le p (x ∷ xs) = let rest = count_le p xs in elim (p x) as (λ b. cond b 1 0 + count_of p xs ≤ length (x ∷ xs)) [ true ↦ omega arith | false ↦ omega arith ]

pub count_push : (p : ℕ → Bool) (xs : List ℕ) (a : ℕ) → count_of p (xs ++ a ∷ []) ≡ count_of p xs + cond (p a) 1 0
count_push p [] a = add_comm (cond (p a) 1 0) 0
count_push p (x ∷ xs) a = ap (λ n. cond (p x) 1 0 + n) (count_push p xs a) ∙ sym (add_assoc (cond (p x) 1 0) (count_of p xs) (cond (p a) 1 0))

zero_rest : (m n : ℕ) → m + n ≡ 0 → n ≡ 0
zero_rest m n h = omega arith

one_not_zero : (n : ℕ) → 1 + n ≡ 0 → ⊥
one_not_zero n h = omega arith

same_number : (x a : ℕ) → (x == a) ≡ true → x ≡ a
same_number x a h = grind (arith, nat_tests)

pub count_none : (p : ℕ → Bool) (xs : List ℕ) (a : ℕ) → p a ≡ true → count_of p xs ≡ 0 → is_among a xs ≡ false
count_none p [] a passes none = refl
count_none p (x ∷ xs) a passes none =
    elim (x == a) as (λ b. (x == a) ≡ b → (b || is_among a xs) ≡ false) [
      | true ↦ λ e. absurd (one_not_zero (count_of p xs) (subst (λ (b : Bool). cond b 1 0 + count_of p xs ≡ 0) (ap p (same_number x a e) ∙ passes) none))
      | false ↦ λ e. count_none p xs a passes (zero_rest (cond (p x) 1 0) (count_of p xs) none)
    ] refl

-- ---- an address taken out, wherever the others stand then

count_is : (p : ℕ → Bool) (xs : List ℕ) → count_of p xs ≡ sum_by (λ x. cond (p x) 1 0) xs
count_is p xs = is_sum_by (count_of p) (λ x. cond (p x) 1 0) refl (λ _ _. refl) xs

count_taken : (p : ℕ → Bool) (a : ℕ) (xs ys : List ℕ) → IsPermutation xs (a ∷ ys) → count_of p ys + cond (p a) 1 0 ≡ count_of p xs
count_taken p a xs ys taken =
    ap (λ n. n + cond (p a) 1 0) (count_is p ys) ∙ sum_by_popped (λ x. cond (p x) 1 0) a xs ys taken ∙ sym (count_is p xs)

count_absent : (xs : List ℕ) (a : ℕ) → is_among a xs ≡ false → count_of (λ x. x == a) xs ≡ 0
count_absent [] a none = refl
count_absent (x ∷ xs) a none =
    let h = or_false (x == a) (is_among a xs) none in
    ap (λ b. cond b 1 0 + count_of (λ y. y == a) xs) h.0 ∙ zero-add (count_of (λ y. y == a) xs) ∙ count_absent xs a h.1

no_more : (n : ℕ) → n ≡ 0 → 1 + n ≤ 1
no_more n h = omega arith

no_more_than : (n : ℕ) → n ≤ 1 → 0 + n ≤ 1
no_more_than n h = omega arith

none_left : (n : ℕ) → 1 + n ≤ 1 → n ≡ 0
none_left n h = omega arith

part_of : (m n : ℕ) → m + n ≤ 1 → n ≤ 1
part_of m n h = omega arith

first_part_of : (m n k : ℕ) → m + n ≡ k → k ≤ 1 → m ≤ 1
first_part_of m n k is h = omega arith

-- each address stands once, as its count tells
once : (xs : List ℕ) → AreApart xs → (a : ℕ) → count_of (λ x. x == a) xs ≤ 1
once [] apart a = zero-le
once (x ∷ xs) apart a =
    elim (x == a) as (λ b. (x == a) ≡ b → cond b 1 0 + count_of (λ y. y == a) xs ≤ 1) [
      | true ↦ λ e. no_more (count_of (λ y. y == a) xs) (count_absent xs a (ap (λ k. is_among k xs) (sym (same_number x a e)) ∙ apart.0))
      | false ↦ λ e. no_more_than (count_of (λ y. y == a) xs) (once xs apart.1 a)
    ] refl

apart_if_once : (xs : List ℕ) → ((a : ℕ) → count_of (λ x. x == a) xs ≤ 1) → AreApart xs
apart_if_once [] each = tt
apart_if_once (x ∷ xs) each = (
  count_none (λ y. y == x) xs x (eq_itself x) (none_left (count_of (λ y. y == x) xs) (subst (λ (b : Bool). cond b 1 0 + count_of (λ y. y == x) xs ≤ 1) (eq_itself x) (each x))),
  apart_if_once xs (λ a. part_of (cond (x == a) 1 0) (count_of (λ y. y == a) xs) (each a)),
)

apart_taken : (xs ys : List ℕ) (a : ℕ) → AreApart xs → IsPermutation xs (a ∷ ys) → AreApart ys
apart_taken xs ys a apart taken =
    apart_if_once ys (λ b. first_part_of (count_of (λ x. x == b) ys) (cond (a == b) 1 0) (count_of (λ x. x == b) xs) (count_taken (λ x. x == b) a xs ys taken) (once xs apart b))

one_and : (m n : ℕ) → m + 1 ≡ n → n ≤ 1 → m ≡ 0
one_and m n is h = omega arith

gone_taken : (xs ys : List ℕ) (a : ℕ) → AreApart xs → IsPermutation xs (a ∷ ys) → is_among a ys ≡ false
gone_taken xs ys a apart taken =
    count_none (λ x. x == a) ys a (eq_itself a) (one_and (count_of (λ x. x == a) ys) (count_of (λ x. x == a) xs)
    (ap (λ b. count_of (λ x. x == a) ys + cond b 1 0) (sym (eq_itself a)) ∙ count_taken (λ x. x == a) a xs ys taken) (once xs apart a))

members_taken : (xs ys : List ℕ) (a q : ℕ) → AreApart xs → IsPermutation xs (a ∷ ys) → is_among q ys ≡ (not (q == a) && is_among q xs)
members_taken xs ys a q apart taken =
    elim (cases_eq q a) [
      | inl same ↦ ap (λ k. is_among k ys) same ∙ gone_taken xs ys a apart taken ∙ sym (ap (λ b. not b && is_among q xs) (ap (λ k. k == a) same ∙ eq_itself a))
      | inr other ↦ sym (ap (λ b. not b && is_among q xs) (eq_other q a other) ∙ list_any-IsPermutation (λ x. x == q) xs (a ∷ ys) taken ∙ ap (λ b. b || is_among q ys) (eq_other a q (λ e. other (sym e))))
    ]

any_from : (p : ℕ → Bool) (i : ℕ) (xs : List ℕ) → list_any p xs ≡ is_some (position_from p i xs)
any_from p i [] = refl
any_from p i (x ∷ xs) = elim (p x) as (λ b. (b || list_any p xs) ≡ is_some (cond b (Some i) (position_from p (i + 1) xs))) [ true ↦ refl | false ↦ any_from p (i + 1) xs ]

among_if_placed : (xs : List ℕ) (a : ℕ) → is_among a xs ≡ is_some (position (λ x. x == a) xs)
among_if_placed xs a = any_from (λ x. x == a) 0 xs ∙ ap is_some (sym (position_from-zero (λ x. x == a) xs))

last_within : (i n : ℕ) → i < n → n - 1 < n
last_within i n h = omega arith

-- the last address takes the place of the one at a place
swapped : (xs : List ℕ) (a i : ℕ) → position (λ x. x == a) xs ≡ Some i → IsPermutation xs (a ∷ swap_remove xs i 0)
swapped xs a i placed =
    let found = position-Some (λ x. x == a) xs i 0 placed in
    let within : i < length xs = found.0 in
    let here : a ≡ get_or xs i a = sym (get_or_default xs i a 0 within ∙ same_number (get_or xs i 0) a found.1) in
    subst (λ (ys : List ℕ). IsPermutation xs (a ∷ ys))
    (ap (λ y. take (length xs - 1) (set xs i y)) (get_or_default xs (length xs - 1) a 0 (last_within i (length xs) within)))
    (IsPermutation-swap_remove xs i a within here)

-- ---- the set of the addresses

own_bucket : (a : ℕ) → (bucket_of a == bucket_of a) ≡ true
own_bucket a = grind (arith, nat_tests)

-- what the filter does not know is not among the addresses
pub absent : (addresses counts : List ℕ) → IsFiltered addresses counts → (a n : ℕ) → n ≡ get_or counts (bucket_of a) n → bucket_of a < BUCKETS → n ≡ 0 → contains (from_list {R = nat_cmp} addresses) a ≡ false
absent addresses counts f a n read within none =
    let inside : bucket_of a < length counts = rw (f.buckets) within in
    let zero : get_or counts (bucket_of a) 0 ≡ 0 = get_or_default counts (bucket_of a) 0 n inside ∙ sym read ∙ none in
    contains-from_list_nat addresses a ∙ count_none (λ x. bucket_of x == bucket_of a) addresses a (own_bucket a) (sym (f.counted (bucket_of a) within) ∙ zero)

-- how many stand in a bucket, as it is read
pub count_read : (addresses counts : List ℕ) → IsFiltered addresses counts → (b n : ℕ) → n ≡ get_or counts b n → b < BUCKETS → n ≡ count_in addresses b
count_read addresses counts f b n read within =
    let inside : b < length counts = rw (f.buckets) within in
    read ∙ get_or_default counts b n 0 inside ∙ f.counted b within

pub count_few : (addresses counts : List ℕ) → IsFiltered addresses counts → (b : ℕ) → count_in addresses b ≤ ARMED_LIMIT
count_few addresses counts f b =
    let c = count_le (λ x. bucket_of x == b) addresses in
    let few = f.few in
    omega arith

-- the counts with one of them replaced, where each other one is as it was
set_counts : (counts : List ℕ) (own n : ℕ) (P : ℕ → ℕ) → length counts ≡ BUCKETS → own < BUCKETS → n ≡ P own → ((b : ℕ) → b < BUCKETS → (b ≡ own → ⊥) → get_or counts b 0 ≡ P b) → (b : ℕ) → b < BUCKETS → get_or (set counts own n) b 0 ≡ P b
set_counts counts own n P size within here there b below =
    elim (cases_eq b own) [
      | inl same ↦
          let inside : own < length counts = rw size within in
          ap (λ k. get_or (set counts own n) k 0) same ∙ get_or-set_same counts own n 0 inside ∙ here ∙ ap P (sym same)
      | inr other ↦ get_or-set_other counts own b n 0 other ∙ there b below other
    ]

other_bucket : (a b : ℕ) → (b ≡ bucket_of a → ⊥) → (bucket_of a == b) ≡ false
other_bucket a b other = grind (arith, nat_tests)

pub none_filtered : IsFiltered [] (replicate BUCKETS 0)
none_filtered = record {
  apart = tt;
  few = zero-le;
  buckets = length-replicate {A = ℕ} BUCKETS 0;
  counted = λ b below. get_or-replicate {A = ℕ} BUCKETS b 0 0 below;
}

pub inserted : (addresses counts : List ℕ) → IsFiltered addresses counts → (a n : ℕ) → is_among a addresses ≡ false → length addresses < ARMED_LIMIT → bucket_of a < BUCKETS → n ≡ get_or counts (bucket_of a) n → IsFiltered (addresses ++ a ∷ []) (set counts (bucket_of a) (n + 1))
inserted addresses counts f a n absent room within read = record {
  apart = apart_push addresses a f.apart absent;
  few = rw (length-append addresses (a ∷ [])) (omega arith);
  buckets = length-set counts (bucket_of a) (n + 1) ∙ f.buckets;
  counted = set_counts counts (bucket_of a) (n + 1) (count_in (addresses ++ a ∷ [])) f.buckets within
      (ap (λ k. k + 1) (count_read addresses counts f (bucket_of a) n read within)
      ∙ sym (count_push (λ x. bucket_of x == bucket_of a) addresses a ∙ ap (λ b. count_in addresses (bucket_of a) + cond b 1 0) (own_bucket a)))
      (λ b below other. f.counted b below
      ∙ sym (count_push (λ x. bucket_of x == b) addresses a ∙ ap (λ c. count_in addresses b + cond c 1 0) (other_bucket a b other) ∙ add-zero (count_in addresses b)));
}

one_less : (n m : ℕ) → m + 1 ≡ n → n - 1 ≡ m
one_less n m h = omega arith

fewer_taken : (m n : ℕ) → suc m ≡ n → n ≤ ARMED_LIMIT → m ≤ ARMED_LIMIT
fewer_taken m n is few = omega arith

removed : (addresses counts others : List ℕ) → IsFiltered addresses counts → (a n : ℕ) → IsPermutation addresses (a ∷ others) → bucket_of a < BUCKETS → n ≡ get_or counts (bucket_of a) n → IsFiltered others (set counts (bucket_of a) (n - 1))
removed addresses counts others f a n taken within read = record {
  apart = apart_taken addresses others a f.apart taken;
  few = fewer_taken (length others) (length addresses) (length_permutation addresses (a ∷ others) taken) f.few;
  buckets = length-set counts (bucket_of a) (n - 1) ∙ f.buckets;
  counted = set_counts counts (bucket_of a) (n - 1) (count_in others) f.buckets within
      (one_less n (count_in others (bucket_of a))
      (ap (λ b. count_in others (bucket_of a) + cond b 1 0) (sym (own_bucket a)) ∙ count_taken (λ x. bucket_of x == bucket_of a) a addresses others taken ∙ sym (count_read addresses counts f (bucket_of a) n read within)))
      (λ b below other. f.counted b below
      ∙ sym (count_taken (λ x. bucket_of x == b) a addresses others taken) ∙ ap (λ c. count_in others b + cond c 1 0) (other_bucket a b other) ∙ add-zero (count_in others b));
}

-- a member's bucket is not empty
some_counted : (addresses counts others : List ℕ) → IsFiltered addresses counts → (a n : ℕ) → IsPermutation addresses (a ∷ others) → bucket_of a < BUCKETS → n ≡ get_or counts (bucket_of a) n → 1 ≤ n
some_counted addresses counts others f a n taken within read =
    let more : count_in others (bucket_of a) + 1 ≡ count_in addresses (bucket_of a) = ap (λ b. count_in others (bucket_of a) + cond b 1 0) (sym (own_bucket a)) ∙ count_taken (λ x. bucket_of x == bucket_of a) a addresses others taken in
    let is = count_read addresses counts f (bucket_of a) n read within in
    omega arith

taken_set : (xs ys : List ℕ) (a : ℕ) → AreApart xs → IsPermutation xs (a ∷ ys) → from_list {R = nat_cmp} ys ≡ remove (from_list xs) a
taken_set xs ys a apart taken =
    same_set nat_cmp_total nat_cmp-IsAntisymmetric (from_list ys) (remove (from_list xs) a)
    (λ q. contains-from_list_nat ys q ∙ members_taken xs ys a q apart taken
    ∙ sym (contains-remove nat_cmp_total (from_list xs) a q ∙ rw (unsigned_tied q a, contains-from_list_nat xs q) refl))

-- nothing is taken out where it is not
pub remove_absent : (s : FinSet nat_cmp) (a : ℕ) → contains s a ≡ false → s ≡ remove s a
remove_absent s a absent =
    same_set nat_cmp_total nat_cmp-IsAntisymmetric s (remove s a)
    (λ q. elim (cases_eq q a) [
      | inl same ↦ ap (contains s) same ∙ absent ∙ sym (contains-remove nat_cmp_total s a q ∙ ap (λ b. not b && contains s q) (unsigned_tied q a ∙ ap (λ k. k == a) same ∙ eq_itself a))
      | inr other ↦ sym (contains-remove nat_cmp_total s a q ∙ ap (λ b. not b && contains s q) (unsigned_tied q a ∙ eq_other q a other))
    ])

-- ---- the same of what the code reads

pub absent_at : (addresses counts : List ℕ) → IsFiltered addresses counts → (a b n : ℕ) → b ≡ bucket_of a → n ≡ get_or counts b n → b < BUCKETS → n ≡ 0 → false ≡ contains (from_list {R = nat_cmp} addresses) a
absent_at addresses counts f a b n is read within none =
    sym (absent addresses counts f a n (read ∙ ap (λ k. get_or counts k n) is) (subst (λ k. k < BUCKETS) is within) none)

pub empty_bucket : (n : ℕ) → not (nat_eq n 0) ≡ false → n ≡ 0
empty_bucket n h = grind (arith, nat_tests)

pub none_filtered_at : (addresses counts : List ℕ) → addresses ≡ [] → counts ≡ replicate BUCKETS 0 → IsFiltered addresses counts
none_filtered_at addresses counts none zeros =
    subst (λ (xs : List ℕ). IsFiltered xs counts) (sym none) (subst (λ (ys : List ℕ). IsFiltered [] ys) (sym zeros) none_filtered)

not_among : (addresses : List ℕ) (s : FinSet nat_cmp) (a : ℕ) (b : Bool) → from_list addresses ≡ s → b ≡ contains s a → is_among a addresses ≡ b
not_among addresses s a b is answer = sym (contains-from_list_nat addresses a) ∙ ap (λ t. contains t a) is ∙ sym answer

-- an address that the filter and the list have not
pub insert_at : (addresses counts addresses' : List ℕ) (s : FinSet nat_cmp) → IsFiltered addresses counts → (a b n : ℕ) → from_list addresses ≡ s → false ≡ contains s a → length addresses < ARMED_LIMIT → b ≡ bucket_of a → b < BUCKETS → n ≡ get_or counts b n → addresses' ≡ addresses ++ a ∷ [] → IsFiltered addresses' (set counts b (n + 1))
insert_at addresses counts addresses' s f a b n is none room own within read pushed =
    let f' = inserted addresses counts f a n (not_among addresses s a false is none) room (subst (λ k. k < BUCKETS) own within) (read ∙ ap (λ k. get_or counts k n) own) in
    subst (λ (xs : List ℕ). IsFiltered xs (set counts b (n + 1))) (sym pushed)
    (subst (λ (k : ℕ). IsFiltered (addresses ++ a ∷ []) (set counts k (n + 1))) (sym own) f')

-- the address at a place that the search has found
pub remove_at : (addresses counts addresses' : List ℕ) → IsFiltered addresses counts → (a b n i : ℕ) → position (λ x. x == a) addresses ≡ Some i → b ≡ bucket_of a → b < BUCKETS → n ≡ get_or counts b n → addresses' ≡ swap_remove addresses i 0 → IsFiltered addresses' (set counts b (n - 1))
remove_at addresses counts addresses' f a b n i placed own within read taken =
    let f' = removed addresses counts (swap_remove addresses i 0) f a n (swapped addresses a i placed) (subst (λ k. k < BUCKETS) own within) (read ∙ ap (λ k. get_or counts k n) own) in
    subst (λ (xs : List ℕ). IsFiltered xs (set counts b (n - 1))) (sym taken)
    (subst (λ (k : ℕ). IsFiltered (swap_remove addresses i 0) (set counts k (n - 1))) (sym own) f')

pub some_at : (addresses counts : List ℕ) → IsFiltered addresses counts → (a b n i : ℕ) → position (λ x. x == a) addresses ≡ Some i → b ≡ bucket_of a → b < BUCKETS → n ≡ get_or counts b n → 1 ≤ n
some_at addresses counts f a b n i placed own within read =
    some_counted addresses counts (swap_remove addresses i 0) f a n (swapped addresses a i placed) (subst (λ k. k < BUCKETS) own within) (read ∙ ap (λ k. get_or counts k n) own)

pub placed_within : (addresses : List ℕ) (a i : ℕ) → position (λ x. x == a) addresses ≡ Some i → i < length addresses
placed_within addresses a i placed = let found = position-Some (λ x. x == a) addresses i 0 placed in found.0

-- the search finds what is in the set
pub placed_if_in : (addresses : List ℕ) (s : FinSet nat_cmp) (a : ℕ) (o : Option ℕ) → from_list addresses ≡ s → position (λ x. x == a) addresses ≡ o → is_some o ≡ contains s a
placed_if_in addresses s a o is found =
    sym (ap is_some found) ∙ sym (among_if_placed addresses a) ∙ sym (contains-from_list_nat addresses a) ∙ ap (λ t. contains t a) is

pub few_at : (addresses counts : List ℕ) → IsFiltered addresses counts → (b n : ℕ) → b < BUCKETS → n ≡ get_or counts b n → n ≤ ARMED_LIMIT
few_at addresses counts f b n within read =
    let is = count_read addresses counts f b n read within in
    let few = count_few addresses counts f b in
    omega arith

pub push_set : (addresses addresses' : List ℕ) (s : FinSet nat_cmp) (a : ℕ) → from_list addresses ≡ s → addresses' ≡ addresses ++ a ∷ [] → from_list addresses' ≡ insert s a
push_set addresses addresses' s a is pushed =
    ap (λ xs. from_list {R = nat_cmp} xs) pushed ∙ from_list_push nat_cmp_total nat_cmp-IsAntisymmetric addresses a ∙ ap (λ t. insert t a) is

pub take_set : (addresses addresses' : List ℕ) (s : FinSet nat_cmp) (a i : ℕ) → AreApart addresses → from_list addresses ≡ s → position (λ x. x == a) addresses ≡ Some i → addresses' ≡ swap_remove addresses i 0 → from_list addresses' ≡ remove s a
take_set addresses addresses' s a i apart is placed taken =
    ap (λ xs. from_list {R = nat_cmp} xs) taken ∙ taken_set addresses (swap_remove addresses i 0) a apart (swapped addresses a i placed) ∙ ap (λ t. remove t a) is

pub len_at : (addresses : List ℕ) (s : FinSet nat_cmp) → AreApart addresses → from_list addresses ≡ s → len s ≡ length addresses
len_at addresses s apart is = ap len (sym is) ∙ len_apart addresses apart

full_bucket : (n : ℕ) → not (nat_eq n 0) ≡ true → 1 ≤ n
full_bucket n h = grind (arith, nat_tests)

not_empty : (size n count len : ℕ) → size ≡ len → n ≡ count → count ≤ len → 1 ≤ n → (size == 0) ≡ false
not_empty size n count len is read few some = grind (arith, nat_tests)

-- an address stands in a bucket that is not empty
pub some_in_all : (addresses counts : List ℕ) (s : FinSet nat_cmp) → IsFiltered addresses counts → (b n : ℕ) → from_list addresses ≡ s → b < BUCKETS → n ≡ get_or counts b n → not (nat_eq n 0) ≡ true → (len s == 0) ≡ false
some_in_all addresses counts s f b n is within read full =
    not_empty (len s) n (count_in addresses b) (length addresses) (len_at addresses s f.apart is) (count_read addresses counts f b n read within) (count_le (λ x. bucket_of x == b) addresses) (full_bucket n full)

pub not_added_in : (b : Bool) (n : ℕ) → true ≡ b → false ≡ (not b && nat_lt n ARMED_LIMIT)
not_added_in true n h = refl
not_added_in false n h = cc

pub not_added_full : (b : Bool) (n : ℕ) → ARMED_LIMIT ≤ n → false ≡ (not b && nat_lt n ARMED_LIMIT)
not_added_full true n h = refl
not_added_full false n h = grind (arith, nat_tests)

pub added_room : (b : Bool) (n : ℕ) → false ≡ b → n < ARMED_LIMIT → true ≡ (not b && nat_lt n ARMED_LIMIT)
added_room true n h room = cc
added_room false n h room = grind (arith, nat_tests)
