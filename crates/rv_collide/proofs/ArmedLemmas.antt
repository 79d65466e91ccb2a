-- The armed addresses after one more entry.
use Rattle.std.proofs.Common.{◌≡◌, ℕ, zero, suc, ◌+◌, ◌≤◌, ◌<◌, Bool, true, false, cond, List, [], ◌∷◌, ◌++◌, length, Option, Some, None, map, refl, sym, ap, ◌∙◌, arith, zero-add}
use Rattle.std.specs.Prelude.{◌||◌, ◌&&◌, ◌==◌, not, slice_get, option_and_then, option_map}
use Rattle.std.specs.Cmp.{nat_cmp_total, unsigned_tied}
use Rattle.std.specs.FinSet.{FinSet, contains, from_list, insert, remove, contains-from_list_nat, contains-insert, contains-remove, same_set, nat_cmp-IsAntisymmetric}
use Rattle.std.specs.List.{list_any, range_with_len}
use Rattle.std.specs.Ordering.{nat_cmp, eq_by_cmp}
use Rattle.std.proofs.lemmas.Bool.Decides.{nat_tests}
use Rattle.std.proofs.lemmas.List.{length-append}
use Rattle.std.proofs.lemmas.List.Folds.{list_any-append}
use Rattle.std.proofs.lemmas.List.FromFn.{map-range_with_len_more}
use Rattle.rv_break.specs.Breakpoints.{Breaks}
use Rattle.rv_collide.specs.Armed.{Mention, mention_by, mention_at, mentions, is_of, last_armed, armed}
use Rattle.rv_collide.specs.Entries.{places}
use Rattle.rv_collide.specs.declared.entry.Entry.{Entry}
use Rattle.rv_collide.specs.declared.entry.Entry.TheVariants.{Stepped, Paused, Resumed, Armed, Disarmed}
use Rattle.rv_hart.specs.State.{State}
use Rattle.rv_collide.proofs.Prefix.{get_front, get_last, next_front}

-- ---- ranges

pub map_range : {X : Type 0} → (f g : ℕ → X) (a n : ℕ) → ((i : ℕ) → a ≤ i → i < a + n → f i ≡ g i) → map f (range_with_len a n) ≡ map g (range_with_len a n)
map_range f g a zero same = refl
map_range f g a (suc n) same =
    let here : f a ≡ g a = same a (omega arith) (omega arith) in
    ap (λ x. x ∷ map f (range_with_len (a + 1) n)) here
    ∙ ap (λ xs. g a ∷ xs) (map_range f g (a + 1) n (λ i lo hi. same i (omega arith) (omega arith)))

pub places_push : {X : Type 0} → (f g : ℕ → X) (xs : List Entry) (e : Entry) → ((i : ℕ) → i < length xs → f i ≡ g i) → map f (places (xs ++ e ∷ [])) ≡ map g (places xs) ++ f (length xs) ∷ []
unfolding places
places_push f g xs e same =
    ap (λ n. map f (range_with_len 0 n)) (length-append xs (e ∷ []))
    ∙ map-range_with_len_more f 0 (length xs) (length xs) (zero-add (length xs))
    ∙ ap (λ ys. ys ++ f (length xs) ∷ []) (map_range f g 0 (length xs) (λ i lo hi. same i (omega (arith, zero-add (length xs)))))

-- ---- mentions

same_mention : (start : State) (xs : List Entry) (e x : Entry) (i : ℕ) → i ≤ length xs → mention_by start (xs ++ e ∷ []) i x ≡ mention_by start xs i x
same_mention start xs e (Armed a) i le = refl
same_mention start xs e (Disarmed a) i le = refl
same_mention start xs e (Paused h slot) i le = ap (option_map (λ access. record { address = access.pc; arms = false })) (next_front start xs (e ∷ []) i h le)
same_mention start xs e (Stepped h) i le = refl
same_mention start xs e (Resumed h) i le = refl

mention_front : (start : State) (xs : List Entry) (e : Entry) (i : ℕ) → i < length xs → mention_at start (xs ++ e ∷ []) i ≡ mention_at start xs i
unfolding mention_at
mention_front start xs e i below =
    ap (option_and_then (mention_by start (xs ++ e ∷ []) i)) (get_front xs (e ∷ []) i below)
    ∙ elim (slice_get xs i) as (λ (o : Option Entry). option_and_then (mention_by start (xs ++ e ∷ []) i) o ≡ option_and_then (mention_by start xs i) o) [
      | None ↦ refl
      | Some x ↦ same_mention start xs e x i (omega arith)
    ]

mention_last : (start : State) (xs : List Entry) (e : Entry) → mention_at start (xs ++ e ∷ []) (length xs) ≡ mention_by start xs (length xs) e
unfolding mention_at
mention_last start xs e =
    ap (option_and_then (mention_by start (xs ++ e ∷ []) (length xs))) (get_last xs e) ∙ same_mention start xs e e (length xs) (omega arith)

pub mentions_push : (start : State) (xs : List Entry) (e : Entry) → mentions start (xs ++ e ∷ []) ≡ mentions start xs ++ mention_by start xs (length xs) e ∷ []
unfolding mentions
mentions_push start xs e =
    places_push (mention_at start (xs ++ e ∷ [])) (mention_at start xs) xs e (mention_front start xs e)
    ∙ ap (λ m. map (mention_at start xs) (places xs) ++ m ∷ []) (mention_last start xs e)

-- ---- what the mentions leave armed

or_none : (b : Bool) → (b || false) ≡ b
or_none true = refl
or_none false = refl

none_more : (ms : List (Option Mention)) → last_armed (ms ++ None ∷ []) ≡ last_armed ms
unfolding last_armed
none_more [] = refl
none_more (None ∷ ms) = none_more ms
none_more (Some m ∷ ms) =
    ap (λ b. cond (m.arms && not b) (m.address ∷ last_armed (ms ++ None ∷ [])) (last_armed (ms ++ None ∷ [])))
    (list_any-append (is_of m.address) ms (None ∷ []) ∙ or_none (list_any (is_of m.address) ms))
    ∙ ap (λ xs. cond (m.arms && not (list_any (is_of m.address) ms)) (m.address ∷ xs) xs) (none_more ms)

any_cond : (test : ℕ → Bool) (b : Bool) (x : ℕ) (xs : List ℕ) → list_any test (cond b (x ∷ xs) xs) ≡ cond b (test x || list_any test xs) (list_any test xs)
any_cond test true x xs = refl
any_cond test false x xs = refl

cond_same : (b x : Bool) → cond b x x ≡ x
cond_same true x = refl
cond_same false x = refl

hidden : (arms later after : Bool) → cond (arms && not (later || true)) true after ≡ after
hidden true true after = refl
hidden true false after = refl
hidden false later after = refl

-- another address's mention (own is false) counts for nothing; one of the address hides the earlier ones
mentioned_again : (arms later hides own is_armed before after : Bool) (this : Bool) → (own ≡ true → hides ≡ this) → after ≡ cond this is_armed before → cond (arms && not (later || (hides || false))) (own || after) after ≡ cond this is_armed (cond (arms && not later) (own || before) before)
mentioned_again arms later hides false is_armed before after this same ih =
    cond_same (arms && not (later || (hides || false))) after ∙ ih ∙ ap (cond this is_armed) (sym (cond_same (arms && not later) before))
mentioned_again arms later hides true is_armed before after true same ih =
    ap (λ h. cond (arms && not (later || (h || false))) true after) (same refl) ∙ hidden arms later after ∙ ih
mentioned_again arms later hides true is_armed before after false same ih =
    ap (λ h. cond (arms && not (later || (h || false))) true after) (same refl) ∙ ap (λ l. cond (arms && not l) true after) (or_none later) ∙ ap (cond (arms && not later) true) ih

same_test : (x a m : ℕ) → (x == a) ≡ true → (m == x) ≡ (m == a)
same_test x a m h = let same : x ≡ a = grind (arith, nat_tests) in ap (λ n. m == n) same

alone : (arms own : Bool) → cond (arms && true) (own || false) false ≡ cond own arms false
alone true true = refl
alone true false = refl
alone false true = refl
alone false false = refl

in_case : (own was : Bool) → (own || was) ≡ cond own true was
in_case true was = refl
in_case false was = refl

out_case : (own was : Bool) → (not own && was) ≡ cond own false was
out_case true was = refl
out_case false was = refl

eq_both : (a b : ℕ) → (a == b) ≡ (b == a)
eq_both a b = grind (arith, nat_tests)

tied : (a q : ℕ) → eq_by_cmp nat_cmp q a ≡ (a == q)
tied a q = unsigned_tied q a ∙ eq_both q a

-- an address is armed after one more mention where that arms it, or is of another and it was armed
one_more : (ms : List (Option Mention)) (m : Mention) (a : ℕ) → list_any (λ y. y == a) (last_armed (ms ++ Some m ∷ [])) ≡ cond (m.address == a) m.arms (list_any (λ y. y == a) (last_armed ms))
unfolding last_armed
one_more [] m a = any_cond (λ y. y == a) (m.arms && true) m.address [] ∙ alone m.arms (m.address == a)
one_more (None ∷ ms) m a = one_more ms m a
one_more (Some x ∷ ms) m a =
    any_cond (λ y. y == a) (x.arms && not (list_any (is_of x.address) (ms ++ Some m ∷ []))) x.address (last_armed (ms ++ Some m ∷ []))
    ∙ ap (λ b. cond (x.arms && not b) ((x.address == a) || list_any (λ y. y == a) (last_armed (ms ++ Some m ∷ []))) (list_any (λ y. y == a) (last_armed (ms ++ Some m ∷ [])))) (list_any-append (is_of x.address) ms (Some m ∷ []))
    ∙ mentioned_again x.arms (list_any (is_of x.address) ms) (m.address == x.address) (x.address == a) m.arms (list_any (λ y. y == a) (last_armed ms)) (list_any (λ y. y == a) (last_armed (ms ++ Some m ∷ []))) (m.address == a) (same_test x.address a m.address) (one_more ms m a)
    ∙ ap (cond (m.address == a) m.arms) (sym (any_cond (λ y. y == a) (x.arms && not (list_any (is_of x.address) ms)) x.address (last_armed ms)))

abbrev set_of : List (Option Mention) → FinSet nat_cmp
set_of ms = from_list (last_armed ms)

abbrev pub set_after : Mention → FinSet nat_cmp → FinSet nat_cmp
set_after m s = cond m.arms (insert s m.address) (remove s m.address)

contains_of : (ms : List (Option Mention)) (q : ℕ) → contains (set_of ms) q ≡ list_any (λ y. y == q) (last_armed ms)
contains_of ms q = contains-from_list_nat (last_armed ms) q

contains_after : (m : Mention) (s : FinSet nat_cmp) (q : ℕ) → contains (set_after m s) q ≡ cond (m.address == q) m.arms (contains s q)
contains_after m s q =
    elim m.arms as (λ b. contains (cond b (insert s m.address) (remove s m.address)) q ≡ cond (m.address == q) b (contains s q)) [
      | true ↦ contains-insert nat_cmp_total s m.address q ∙ ap (λ b. b || contains s q) (tied m.address q) ∙ in_case (m.address == q) (contains s q)
      | false ↦ contains-remove nat_cmp_total s m.address q ∙ ap (λ b. not b && contains s q) (tied m.address q) ∙ out_case (m.address == q) (contains s q)
    ]

pub armed_mention : (ms : List (Option Mention)) (m : Mention) → set_of (ms ++ Some m ∷ []) ≡ set_after m (set_of ms)
armed_mention ms m =
    same_set nat_cmp_total nat_cmp-IsAntisymmetric (set_of (ms ++ Some m ∷ [])) (set_after m (set_of ms))
    (λ q. contains_of (ms ++ Some m ∷ []) q ∙ one_more ms m q ∙ ap (cond (m.address == q) m.arms) (sym (contains_of ms q)) ∙ sym (contains_after m (set_of ms) q))

abbrev pub armed_after : Option Mention → FinSet nat_cmp → FinSet nat_cmp
armed_after None s = s
armed_after (Some m) s = set_after m s

pub armed_push : (start : State) (xs : List Entry) (e : Entry) → armed start (xs ++ e ∷ []) ≡ armed_after (mention_by start xs (length xs) e) (armed start xs)
unfolding armed
armed_push start xs e =
    ap set_of (mentions_push start xs e)
    ∙ elim (mention_by start xs (length xs) e) as (λ (o : Option Mention). set_of (mentions start xs ++ o ∷ []) ≡ armed_after o (set_of (mentions start xs))) [
      | None ↦ ap (λ (ys : List ℕ). from_list {R = nat_cmp} ys) (none_more (mentions start xs))
      | Some m ↦ armed_mention (mentions start xs) m
    ]

-- ---- an address that is not armed

out_of : (held is : Bool) → (is ≡ true → held ≡ false) → held ≡ (not is && held)
out_of held true absent = absent refl
out_of held false absent = refl

same_address : (q a : ℕ) → (q == a) ≡ true → q ≡ a
same_address q a h = grind (arith, nat_tests)

-- nothing is taken where it is not armed
pub nothing_taken : (b after : Breaks) (a : ℕ) → contains b.armed a ≡ false → after ≡ record b { armed = remove b.armed a } → after ≡ b
nothing_taken b after a absent is =
    is
    ∙ ap (λ (s : FinSet nat_cmp). record b { armed = s })
    (sym (same_set nat_cmp_total nat_cmp-IsAntisymmetric b.armed (remove b.armed a)
    (λ q. out_of (contains b.armed q) (eq_by_cmp nat_cmp q a) (λ h. ap (contains b.armed) (same_address q a (sym (unsigned_tied q a) ∙ h)) ∙ absent)
    ∙ sym (contains-remove nat_cmp_total b.armed a q))))
