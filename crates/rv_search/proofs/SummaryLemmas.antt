-- What is counted of a run, entry by entry.
use Rattle.std.proofs.Common.{◌≡◌, ℕ, zero, suc, ◌+◌, ◌<◌, ◌≤◌, ◌^◌, get_or, inl, inr, Bool, true, false, List, [], ◌∷◌, ◌++◌, length, take, map, Option, None, Some, refl, sym, ap, ◌∙◌, arith, length-append}
use Rattle.std.specs.Prelude.{count_by, filter_map, IsSomeAnd, slice_get, ◌||◌}
use Rattle.std.specs.List.{cons_option, list_any, range_with_len}
use Rattle.std.specs.Option.{option_map_or, option_to_list}
use Rattle.std.proofs.lemmas.Bool.{cases_eq}
use Rattle.std.proofs.lemmas.List.{length-take-le, map-append, take_all, take_more}
use Rattle.std.proofs.lemmas.List.Elements.{filter_map-append}
use Rattle.std.proofs.lemmas.List.Sums.{count_by-le-length, count_by_more_no, count_by_more_yes}
use Rattle.std.proofs.lemmas.Option.{get_or_from_slice_get, slice_get_within}
use Rattle.rv_collide.specs.Counts.{saturated}
use Rattle.rv_collide.specs.StateAt.{state_at}
use Rattle.rv_collide.specs.declared.ending.Ending.{Ending}
use Rattle.rv_collide.specs.declared.entry.Entry.{Entry}
use Rattle.rv_hart.specs.State.{State}
use Rattle.rv_hart.specs.declared.hart.Hart.{Hart}
use Rattle.rv_hart.specs.declared.hart.Status.{Status}
use Rattle.rv_search.specs.Summary.{counts_of, end_of, end_with, ends, has_step_within, is_changed, is_hit, is_quiet, is_unwatched}
use Rattle.rv_search.specs.Tally.{one_if}
use Rattle.rv_search.specs.declared.tally.counts.Counts.{Counts}
use Rattle.rv_search.specs.internal.Counting.{with_ending}
use Rattle.rv_search.specs.declared.end.End.{End}

-- ---- one more of a list

take_next : {X : Type 0} (xs : List X) (n : ℕ) (x : X) → slice_get xs n ≡ Some x → take (n + 1) xs ≡ take n xs ++ x ∷ []
take_next xs n x there =
    take_more xs n x (slice_get_within xs n x there) ∙ ap (λ y. take n xs ++ y ∷ []) (get_or_from_slice_get xs n x x there)

pub pushed : {X : Type 0} (xs ys all : List X) (n : ℕ) (x : X) → all ≡ ys ++ x ∷ [] → ys ≡ take n xs → slice_get xs n ≡ Some x → all ≡ take (n + 1) xs
pushed xs ys all n x is so_far there = is ∙ ap (λ zs. zs ++ x ∷ []) so_far ∙ sym (take_next xs n x there)

pub mapped : {X Y : Type 0} (f : X → Y) (xs : List X) (ys all : List Y) (n : ℕ) (x : X) (y : Y) → all ≡ ys ++ y ∷ [] → ys ≡ map f (take n xs) → slice_get xs n ≡ Some x → y ≡ f x → all ≡ map f (take (n + 1) xs)
mapped f xs ys all n x y is so_far there same =
    is ∙ ap (λ zs. zs ++ y ∷ []) so_far ∙ ap (λ z. map f (take n xs) ++ z ∷ []) same
    ∙ sym (map-append f (take n xs) (x ∷ [])) ∙ ap (map f) (sym (take_next xs n x there))

only : {Y : Type 0} (o : Option Y) → cons_option o [] ≡ option_to_list o
only None = refl
only (Some y) = refl

picked : {X Y : Type 0} (f : X → Option Y) (xs : List X) (n : ℕ) (x : X) → slice_get xs n ≡ Some x → filter_map f (take (n + 1) xs) ≡ filter_map f (take n xs) ++ option_to_list (f x)
picked f xs n x there = ap (filter_map f) (take_next xs n x there) ∙ filter_map-append f (take n xs) (x ∷ []) ∙ ap (λ zs. filter_map f (take n xs) ++ zs) (only (f x))

pub picked_more : {X Y : Type 0} (f : X → Option Y) (xs : List X) (ys all : List Y) (n : ℕ) (x : X) → all ≡ ys ++ option_to_list (f x) → ys ≡ filter_map f (take n xs) → slice_get xs n ≡ Some x → all ≡ filter_map f (take (n + 1) xs)
picked_more f xs ys all n x is so_far there = is ∙ ap (λ zs. zs ++ option_to_list (f x)) so_far ∙ sym (picked f xs n x there)

pub counted_more : {X Y : Type 0} (f : X → Option Y) (xs : List X) (before more n : ℕ) (x : X) → more ≡ length (option_to_list (f x)) → before ≡ length (filter_map f (take n xs)) → slice_get xs n ≡ Some x → before + more ≡ length (filter_map f (take (n + 1) xs))
counted_more f xs before more n x is so_far there =
    let long = ap length (picked f xs n x there) ∙ length-append (filter_map f (take n xs)) (option_to_list (f x)) in
    omega (arith, long, is, so_far)

-- ---- how harts ended

end_next : (harts : List Hart) (ys all : List End) (h : ℕ) (status : Status) (pc : ℕ) (y : End) (o : Option Hart) → slice_get harts h ≡ o → IsSomeAnd o (λ hart. status ≡ hart.status) → IsSomeAnd o (λ hart. pc ≡ hart.pc) → all ≡ ys ++ y ∷ [] → ys ≡ map end_of (take h harts) → y ≡ end_with status pc → all ≡ map end_of (take (h + 1) harts)
end_next harts ys all h status pc y None there status_is pc_is is so_far same = absurd status_is
end_next harts ys all h status pc y (Some hart) there status_is pc_is is so_far same =
    mapped end_of harts ys all h hart y is so_far there (same ∙ ap (λ s. end_with s pc) status_is ∙ ap (end_with hart.status) pc_is)

pub ended_next : (harts : List Hart) (ys all : List End) (h : ℕ) (status : Status) (pc : ℕ) (y : End) → IsSomeAnd (slice_get harts h) (λ hart. status ≡ hart.status) → IsSomeAnd (slice_get harts h) (λ hart. pc ≡ hart.pc) → all ≡ ys ++ y ∷ [] → ys ≡ map end_of (take h harts) → y ≡ end_with status pc → all ≡ map end_of (take (h + 1) harts)
ended_next harts ys all h status pc y status_is pc_is is so_far same =
    end_next harts ys all h status pc y (slice_get harts h) refl status_is pc_is is so_far same

pub all_ended : (start s : State) (entries : List Entry) (told : List End) (h : ℕ) → state_at start entries (length entries) ≡ Some s → told ≡ map end_of (take h s.harts) → length s.harts ≤ h → told ≡ ends start entries
unfolding ends
all_ended start s entries told h there is all =
    is ∙ ap (map end_of) (take_all h s.harts all) ∙ sym (ap (λ o. option_map_or (λ (s : State). map end_of s.harts) o []) there)

-- ---- how pauses ended

abbrev numbers_of : ℕ → ℕ → ℕ → ℕ → ℕ → ℕ → Counts
numbers_of steps quiet hit changed unwatched passed = record {
  steps = steps;
  quiet = quiet;
  hit = hit;
  changed = changed;
  unwatched = unwatched;
  passed = passed;
}

same_numbers : {s s' q q' h h' c c' u u' p p' : ℕ} → s ≡ s' → q ≡ q' → h ≡ h' → c ≡ c' → u ≡ u' → p ≡ p' → numbers_of s q h c u p ≡ numbers_of s' q' h' c' u' p'
same_numbers steps quiet hit changed unwatched passed = cc

one_more : {X : Type 0} (p : X → Bool) (xs : List X) (n : ℕ) (x : X) (passes : Bool) → n < length xs → p (get_or xs n x) ≡ passes → count_by p (take (n + 1) xs) ≡ count_by p (take n xs) + one_if passes
one_more p xs n x true within is = count_by_more_yes p xs n x within is
one_more p xs n x false within is = count_by_more_no p xs n x within is ∙ omega arith

one_at_most : (b : Bool) → one_if b ≤ 1
one_at_most true = omega arith
one_at_most false = omega arith

raised_is : {X : Type 0} (p : X → Bool) (xs : List X) (n before : ℕ) (x : X) → before ≡ count_by p (take n xs) → slice_get xs n ≡ Some x → n < 2 ^ 63 → saturated (before + one_if (p x)) ≡ count_by p (take (n + 1) xs)
raised_is p xs n before x so_far there few =
    let within = slice_get_within xs n x there in
    let more = one_more p xs n x (p x) within (ap p (get_or_from_slice_get xs n x x there)) in
    let few_so_far = count_by-le-length p (take n xs) in
    let long = length-take-le n xs (omega (arith, within)) in
    let one = one_at_most (p x) in
    omega (arith, so_far, more, few_so_far, long, one, few)

pub counted_next : (entries : List Entry) (xs : List Ending) (before after : Counts) (n : ℕ) (e : Ending) → after ≡ with_ending entries before e → before ≡ counts_of entries (take n xs) → slice_get xs n ≡ Some e → n < 2 ^ 63 → after ≡ counts_of entries (take (n + 1) xs)
counted_next entries xs before after n e is so_far there few =
    is
    ∙ same_numbers (ap (λ (c : Counts). c.steps) so_far)
    (raised_is (λ (e : Ending). is_quiet e.verdict) xs n before.quiet e (ap (λ (c : Counts). c.quiet) so_far) there few)
    (raised_is (λ (e : Ending). is_hit e.verdict) xs n before.hit e (ap (λ (c : Counts). c.hit) so_far) there few)
    (raised_is (λ (e : Ending). is_changed e.verdict) xs n before.changed e (ap (λ (c : Counts). c.changed) so_far) there few)
    (raised_is (λ (e : Ending). is_unwatched e.slot) xs n before.unwatched e (ap (λ (c : Counts). c.unwatched) so_far) there few)
    (raised_is (has_step_within entries) xs n before.passed e (ap (λ (c : Counts). c.passed) so_far) there few)

-- ---- a step within a pause

either : (a b : Bool) → b ≡ true → (a || b) ≡ true
either true b h = refl
either false b h = h

neither : (a b : Bool) → a ≡ false → b ≡ false → (a || b) ≡ false
neither true b h k = cc
neither false b h k = k

first_no : (a b : Bool) → (a || b) ≡ false → a ≡ false
first_no true b h = h
first_no false b h = refl

second_no : (a b : Bool) → (a || b) ≡ false → b ≡ false
second_no true b h = cc
second_no false b h = h

first_yes : (a b : Bool) → a ≡ true → (a || b) ≡ true
first_yes true b h = refl
first_yes false b h = cc

pub any_there : (p : ℕ → Bool) (a n i : ℕ) → a ≤ i → i < a + n → p i ≡ true → list_any p (range_with_len a n) ≡ true
any_there p a zero i from below passes = absurd (omega (arith, from, below))
any_there p a (suc n) i from below passes =
    elim (cases_eq a i) [
      | inl here ↦ first_yes (p a) _ (ap p here ∙ passes)
      | inr other ↦ either (p a) _ (any_there p (a + 1) n i (omega (arith, from, other)) (omega (arith, below)) passes)
    ]

pub none_more : (p : ℕ → Bool) (a n : ℕ) → list_any p (range_with_len a n) ≡ false → p (a + n) ≡ false → list_any p (range_with_len a (suc n)) ≡ false
none_more p a zero none not_here = neither (p a) false (ap p (omega arith) ∙ not_here) refl
none_more p a (suc n) none not_here =
    neither (p a) _ (first_no (p a) _ none) (none_more p (a + 1) n (second_no (p a) _ none) (ap p (omega arith) ∙ not_here))

pub none_of_fewer : (p : ℕ → Bool) (a n m : ℕ) → list_any p (range_with_len a m) ≡ false → n ≤ m → list_any p (range_with_len a n) ≡ false
none_of_fewer p a zero m none few = refl
none_of_fewer p a (suc n) zero none few = absurd (omega (arith, few))
none_of_fewer p a (suc n) (suc m) none few =
    neither (p a) _ (first_no (p a) _ none) (none_of_fewer p (a + 1) n m (second_no (p a) _ none) (omega (arith, few)))
