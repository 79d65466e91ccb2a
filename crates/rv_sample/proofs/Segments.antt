-- What the scan of segments finds.
use Rattle.std.proofs.Common.{◌≡◌, ℕ, suc, ◌+◌, ◌-◌, ◌*◌, ◌^◌, ◌%◌, ◌≤◌, ◌<◌, ◌⊎◌, inl, inr, Bool, true, false, cond, List, [], ◌∷◌, ◌++◌, length, get_or, Option, Some, None, refl, sym, ap, subst, ◌∙◌, arith, zero-add, append_assoc}
use Rattle.std.specs.Prelude.{◌&&◌, ◌||◌, ◌==◌, not, nat_le, nat_lt, unwrap_or, slice_get}
use Rattle.std.specs.List.{list_any, All}
use Rattle.std.proofs.lemmas.Bool.{cases_lt}
use Rattle.std.proofs.lemmas.Bool.Decides.{nat_tests}
use Rattle.std.proofs.lemmas.List.{append-nil}
use Rattle.std.proofs.lemmas.Option.{unwrap_or-slice_get}
use Rattle.rv_elf.specs.Contents.{Contents, IsSegment, IsImage, stacks}
use Rattle.rv_hart.specs.NextAccess.{is_plain_op}
use Rattle.rv_isa.specs.Decoded.{op_at}
use Rattle.rv_memory.specs.Extent.{Extent, end_of}
use Rattle.rv_memory.specs.Memory.{byte, covers, load, meets, overlaps}
use Rattle.rv_sample.specs.Sites.{has_plain, is_site, sites_among}
use Rattle.rv_sample.specs.internal.Code.{ArePast, IsScanned, earlier, next_code}
use Rattle.rv_sample.proofs.Ranges.{passing, next_word, none_passes, same_passes, split, longer, either_length}

-- ---- tests

and_first : (b c : Bool) → (b && c) ≡ true → b ≡ true
and_first true c h = refl
and_first false c h = cc

and_second : (b c : Bool) → (b && c) ≡ true → c ≡ true
and_second true c h = h
and_second false c h = cc

or_first : (b c : Bool) → (b || c) ≡ false → b ≡ false
or_first true c h = cc
or_first false c h = refl

or_second : (b c : Bool) → (b || c) ≡ false → c ≡ false
or_second true c h = cc
or_second false c h = h

or_true : (b c : Bool) → (b || c) ≡ true → (b ≡ true) ⊎ (c ≡ true)
or_true true c h = inl refl
or_true false c h = inr h

true_or : (b c : Bool) → b ≡ true → (b || c) ≡ true
true_or true c h = refl
true_or false c h = cc

or_of_second : (b c : Bool) → c ≡ true → (b || c) ≡ true
or_of_second true c h = refl
or_of_second false c h = h

never_true : (b : Bool) → (b ≡ true → ⊥) → b ≡ false
never_true true h = absurd (h refl)
never_true false h = refl

differ : false ≡ true → ⊥
differ h = cc

alike : (b c : Bool) → (b ≡ true → c ≡ true) → (c ≡ true → b ≡ true) → b ≡ c
alike true c to from = sym (to refl)
alike false c to from = sym (never_true c (λ h. differ (from h)))

le_of : (a b : ℕ) → nat_le a b ≡ true → a ≤ b
le_of a b h = grind (arith, nat_tests)

le_is : (a b : ℕ) → a ≤ b → nat_le a b ≡ true
le_is a b h = grind (arith, nat_tests)

lt_of : (a b : ℕ) → nat_lt a b ≡ true → a < b
lt_of a b h = grind (arith, nat_tests)

ge_of : (a b : ℕ) → nat_lt a b ≡ false → b ≤ a
ge_of a b h = grind (arith, nat_tests)

eq_is : (a b : ℕ) → a ≡ b → (a == b) ≡ true
eq_is a b h = grind (arith, nat_tests)

eq_of : (a b : ℕ) → (a == b) ≡ true → a ≡ b
eq_of a b h = grind (arith, nat_tests)

-- ---- a byte of the file

covered : (s : Extent) (a : ℕ) → s.start ≤ a → a < end_of s → covers s a ≡ true
covered s a lo hi = grind (arith, nat_tests)

pub byte_there : (s : Extent) (a : ℕ) → s.start ≤ a → a < s.start + length s.bytes → length s.bytes ≤ s.len → unwrap_or (byte (s ∷ []) a) 0 ≡ get_or s.bytes (a - s.start) 0
byte_there s a lo hi within =
    ap (λ b. unwrap_or (cond b (slice_get s.bytes (a - s.start)) None) 0) (covered s a lo (omega arith))
    ∙ unwrap_or-slice_get s.bytes (a - s.start) 0

-- ---- one segment

pub record IsThere (s : Extent) (a : ℕ) : Type 0 where
  pub executable : s.x ≡ true
  pub from : s.start ≤ a
  pub whole : a + 4 ≤ s.start + length s.bytes

plain_there : (s : Extent) (a : ℕ) → has_plain s a ≡ true → IsThere s a
unfolding has_plain
plain_there s a h =
    let whole = and_first ((s.x && nat_le s.start a) && nat_le (a + 4) (s.start + length s.bytes)) (is_plain_op (op_at (load (s ∷ []) a 4))) h in
    let starts = and_first (s.x && nat_le s.start a) (nat_le (a + 4) (s.start + length s.bytes)) whole in
    record {
      executable = and_first s.x (nat_le s.start a) starts;
      from = le_of s.start a (and_second s.x (nat_le s.start a) starts);
      whole = le_of (a + 4) (s.start + length s.bytes) (and_second (s.x && nat_le s.start a) (nat_le (a + 4) (s.start + length s.bytes)) whole);
    }

is_aligned : (segments : List Extent) (excluded : List ℕ) (a : ℕ) → is_site segments excluded a ≡ true → a % 4 ≡ 0
unfolding is_site
is_aligned segments excluded a h =
    eq_of (a % 4) 0
    (and_first (a % 4 == 0) (list_any (λ s. has_plain s a) segments)
    (and_first (a % 4 == 0 && list_any (λ s. has_plain s a) segments) (not (list_any (λ other. other == a) excluded)) h))

pub no_site_off : (segments : List Extent) (excluded : List ℕ) (a : ℕ) → (a % 4 ≡ 0 → ⊥) → is_site segments excluded a ≡ false
no_site_off segments excluded a off = never_true (is_site segments excluded a) (λ h. off (is_aligned segments excluded a h))

has_one : (segments : List Extent) (excluded : List ℕ) (a : ℕ) → is_site segments excluded a ≡ true → list_any (λ s. has_plain s a) segments ≡ true
unfolding is_site
has_one segments excluded a h =
    and_second (a % 4 == 0) (list_any (λ s. has_plain s a) segments)
    (and_first (a % 4 == 0 && list_any (λ s. has_plain s a) segments) (not (list_any (λ other. other == a) excluded)) h)

-- where no segment has a plain load or store, there is no site
no_plain_no_site : (segments : List Extent) (excluded : List ℕ) (a : ℕ) → list_any (λ s. has_plain s a) segments ≡ false → is_site segments excluded a ≡ false
no_plain_no_site segments excluded a none = never_true (is_site segments excluded a) (λ h. differ (sym none ∙ has_one segments excluded a h))

pub no_site_past : (s : Extent) (excluded : List ℕ) (a : ℕ) → s.start + length s.bytes < a + 4 → is_site (s ∷ []) excluded a ≡ false
no_site_past s excluded a past =
    no_plain_no_site (s ∷ []) excluded a
    (never_true (has_plain s a || false) (λ h. elim (or_true (has_plain s a) false h) [
      | inl plain ↦ (let there = plain_there s a plain in absurd (omega (arith, there.whole)))
      | inr never ↦ differ never
    ]))

all_hold : (a x l w p e : Bool) → a ≡ true → x ≡ true → l ≡ true → w ≡ true → (a && ((x && l && w && p) || false) && not e) ≡ (p && not e)
all_hold true true true true true e ha hx hl hw = refl
all_hold true true true true false e ha hx hl hw = refl
all_hold false x l w p e ha hx hl hw = cc
all_hold true false l w p e ha hx hl hw = cc
all_hold true true false w p e ha hx hl hw = cc
all_hold true true true false p e ha hx hl hw = cc

pub site_there : (s : Extent) (excluded : List ℕ) (a : ℕ) → s.x ≡ true → a % 4 ≡ 0 → s.start ≤ a → a + 4 ≤ s.start + length s.bytes → is_site (s ∷ []) excluded a ≡ (is_plain_op (op_at (load (s ∷ []) a 4)) && not (list_any (λ other. other == a) excluded))
unfolding is_site has_plain
site_there s excluded a x aligned lo hi =
    all_hold (a % 4 == 0) s.x (nat_le s.start a) (nat_le (a + 4) (s.start + length s.bytes)) (is_plain_op (op_at (load (s ∷ []) a 4))) (list_any (λ other. other == a) excluded)
    (eq_is (a % 4) 0 aligned) x (le_is s.start a lo) (le_is (a + 4) (s.start + length s.bytes) hi)

-- ---- the sites of one segment

between_multiples : (start c b : ℕ) → b % 4 ≡ 0 → c < start + 4 → c % 4 ≡ 0 → start ≤ b → b < start + (c - start) → ⊥
between_multiples start c b e near aligned lo hi = absurd (omega arith)

pub none_before : (s : Extent) (excluded : List ℕ) (c : ℕ) → c < s.start + 4 → c % 4 ≡ 0 → s.start ≤ c → sites_among (s ∷ []) excluded s.start (c - s.start) ≡ []
unfolding sites_among passing
none_before s excluded c near aligned le =
    none_passes (is_site (s ∷ []) excluded) s.start (c - s.start) (λ b lo hi. no_site_off (s ∷ []) excluded b (λ e. between_multiples s.start c b e near aligned lo hi))

pub one_word_more : (s : Extent) (excluded : List ℕ) (a : ℕ) → s.start ≤ a → a % 4 ≡ 0 → sites_among (s ∷ []) excluded s.start (a + 4 - s.start) ≡ cond (is_site (s ∷ []) excluded a) (sites_among (s ∷ []) excluded s.start (a - s.start) ++ a ∷ []) (sites_among (s ∷ []) excluded s.start (a - s.start))
unfolding sites_among passing
one_word_more s excluded a le aligned =
    next_word (is_site (s ∷ []) excluded) s.start a le aligned (λ b off. no_site_off (s ∷ []) excluded b off)

pub all_words : (s : Extent) (excluded : List ℕ) (a : ℕ) → IsSegment s → s.start ≤ a → s.start + length s.bytes < a + 4 → sites_among (s ∷ []) excluded s.start (a - s.start) ≡ sites_among (s ∷ []) excluded s.start s.len
unfolding sites_among passing
all_words s excluded a segment le past =
    either_length (is_site (s ∷ []) excluded) s.start (a - s.start) s.len
    (λ b lo. no_site_past s excluded b (omega arith))
    (λ b lo. no_site_past s excluded b (omega (arith, segment.within)))

-- ---- the next segment

abbrev pub Each : (Extent → Type 0) → List Extent → Type 0
Each P [] = Unit {0}
Each P (e ∷ es) = P e × Each P es

abbrev pub Member : List Extent → Extent → Type 0
Member [] s = ⊥
Member (e ∷ es) s = (e ≡ s) ⊎ Member es s

pub each_segment : (es : List Extent) → All IsSegment es → Each IsSegment es
each_segment [] all = tt
each_segment (e ∷ es) all = (all 0 e (omega arith), each_segment es (λ k d below. all (suc k) d (omega arith)))

some_same : (s t : Extent) → Some s ≡ Some t → s ≡ t
some_same s t h = cc

chosen : (b : Bool) (e s : Extent) (o : Option Extent) → cond b (Some e) o ≡ Some s → ((b ≡ true) × (e ≡ s)) ⊎ (o ≡ Some s)
chosen true e s o h = inl (refl, some_same e s h)
chosen false e s o h = inr h

record Begins (from : ℕ) (e : Extent) : Type 0 where
  executable : e.x ≡ true
  after : from ≤ e.start

begins : (from : ℕ) (e : Extent) → (e.x && nat_le from e.start) ≡ true → Begins from e
begins from e h = record { executable = and_first e.x _ h; after = le_of from e.start (and_second e.x _ h) }

earlier_is : (from : ℕ) (e : Extent) (o : Option Extent) (s : Extent) → earlier from e o ≡ Some s → (Begins from e × (e ≡ s)) ⊎ (o ≡ Some s)
earlier_is from e None s h =
    elim (chosen (e.x && nat_le from e.start) e s None h) [
      | inl here ↦ inl (begins from e here.0, here.1)
      | inr other ↦ inr other
    ]
earlier_is from e (Some t) s h =
    elim (chosen ((e.x && nat_le from e.start) && nat_lt e.start t.start) e s (Some t) h) [
      | inl here ↦ inl (begins from e (and_first (e.x && nat_le from e.start) _ here.0), here.1)
      | inr other ↦ inr other
    ]

pub record IsNext (es : List Extent) (from : ℕ) (s : Extent) : Type 0 where
  pub member : Member es s
  pub executable : s.x ≡ true
  pub after : from ≤ s.start

none_is_some : (s : Extent) → None ≡ Some s → ⊥
none_is_some s h = cc

pub is_next : (es : List Extent) (from : ℕ) (s : Extent) → next_code es from ≡ Some s → IsNext es from s
is_next [] from s h = absurd (none_is_some s h)
is_next (e ∷ es) from s h =
    elim (earlier_is from e (next_code es from) s h) [
      | inl here ↦ record { member = inl here.1; executable = ap (λ (t : Extent). t.x) (sym here.1) ∙ here.0.executable; after = subst (λ (t : Extent). from ≤ t.start) here.1 here.0.after }
      | inr there ↦ (let rest = is_next es from s there in record { member = inr rest.member; executable = rest.executable; after = rest.after })
    ]

-- the segments that may be executed and begin at an address or after it, begin at the bound or after it
abbrev Later : ℕ → ℕ → Extent → Type 0
Later from bound t = t.x ≡ true → from ≤ t.start → bound ≤ t.start

abbrev Bounds : Option Extent → ℕ → Type 0
Bounds None bound = Unit {0}
Bounds (Some s) bound = bound ≤ s.start

bound_one : (b : Bool) (e t : Extent) (bound : ℕ) → (b ≡ true → e.start < t.start) → Bounds (cond b (Some e) (Some t)) bound → bound ≤ t.start
bound_one true e t bound lt h = omega (arith, lt refl)
bound_one false e t bound lt h = h

earlier_bound : (from : ℕ) (e : Extent) (o : Option Extent) (bound : ℕ) → Bounds (earlier from e o) bound → Bounds o bound
earlier_bound from e None bound h = tt
earlier_bound from e (Some t) bound h =
    bound_one ((e.x && nat_le from e.start) && nat_lt e.start t.start) e t bound (λ b. lt_of e.start t.start (and_second (e.x && nat_le from e.start) _ b)) h

both_true : (b c : Bool) → b ≡ true → c ≡ true → (b && c) ≡ true
both_true true c hb hc = hc
both_true false c hb hc = cc

bound_self : (b : Bool) (e t : Extent) (bound : ℕ) → nat_lt e.start t.start ≡ b → Bounds (cond (true && b) (Some e) (Some t)) bound → bound ≤ e.start
bound_self true e t bound is h = h
bound_self false e t bound is h = omega (arith, ge_of e.start t.start is)

earlier_self : (from : ℕ) (e : Extent) (o : Option Extent) (bound : ℕ) → Bounds (earlier from e o) bound → Later from bound e
earlier_self from e None bound h x le =
    subst (λ (b : Bool). Bounds (cond b (Some e) None) bound) (both_true e.x (nat_le from e.start) x (le_is from e.start le)) h
earlier_self from e (Some t) bound h x le =
    bound_self (nat_lt e.start t.start) e t bound refl
    (subst (λ (b : Bool). Bounds (cond (b && nat_lt e.start t.start) (Some e) (Some t)) bound) (both_true e.x (nat_le from e.start) x (le_is from e.start le)) h)

all_later : (es : List Extent) (from bound : ℕ) → Bounds (next_code es from) bound → Each (Later from bound) es
all_later [] from bound h = tt
all_later (e ∷ es) from bound h =
    (earlier_self from e (next_code es from) bound h, all_later es from bound (earlier_bound from e (next_code es from) bound h))

-- ---- between two segments there is no site

not_between : (e : Extent) (from bound a : ℕ) → IsSegment e → (e.x ≡ true → e.start < from → end_of e ≤ from) → Later from bound e → from ≤ a → a < bound → IsThere e a → ⊥
not_between e from bound a segment past later lo hi there =
    elim (cases_lt e.start from) [
      | inl before ↦ (let ends = past there.executable before in absurd (omega (arith, segment.within, there.whole)))
      | inr after ↦ (let at = later there.executable after in absurd (omega (arith, there.from)))
    ]

none_between : (es : List Extent) (from bound a : ℕ) → Each IsSegment es → ArePast es from → Each (Later from bound) es → from ≤ a → a < bound → list_any (λ s. has_plain s a) es ≡ false
none_between [] from bound a each past later lo hi = refl
none_between (e ∷ es) from bound a each past later lo hi =
    let here : has_plain e a ≡ false = never_true (has_plain e a) (λ plain. not_between e from bound a each.0 past.0 later.0 lo hi (plain_there e a plain)) in
    ap (λ b. b || list_any (λ s. has_plain s a) es) here ∙ none_between es from bound a each.1 past.1 later.1 lo hi

-- ---- segments share no address

abbrev Apart : Extent → Extent → Type 0
Apart s t = (t ≡ s) ⊎ (end_of t ≤ s.start) ⊎ (end_of s ≤ t.start)

lt_is : (a b : ℕ) → a < b → nat_lt a b ≡ true
lt_is a b h = grind (arith, nat_tests)

meets_not : (a b : Extent) → meets a b ≡ false → (end_of b ≤ a.start) ⊎ (end_of a ≤ b.start)
meets_not a b h =
    elim (cases_lt a.start (end_of b)) [
      | inl one ↦ elim (cases_lt b.start (end_of a)) [
        | inl other ↦ absurd (differ (sym h ∙ both_true (nat_lt a.start (end_of b)) (nat_lt b.start (end_of a)) (lt_is a.start (end_of b) one) (lt_is b.start (end_of a) other)))
        | inr ends ↦ inr ends
      ]
      | inr ends ↦ inl ends
    ]

apart_from : (s : Extent) (es : List Extent) → list_any (meets s) es ≡ false → Each (Apart s) es
apart_from s [] h = tt
apart_from s (t ∷ es) h = (inr (meets_not s t (or_first (meets s t) _ h)), apart_from s es (or_second (meets s t) _ h))

member_apart : (e s : Extent) (es : List Extent) → list_any (meets e) es ≡ false → Member es s → Apart s e
member_apart e s [] h m = absurd m
member_apart e s (t ∷ es) h (inl same) =
    elim (meets_not e s (subst (λ (x : Extent). meets e x ≡ false) same (or_first (meets e t) _ h))) [
      | inl ends ↦ inr (inr ends)
      | inr ends ↦ inr (inl ends)
    ]
member_apart e s (t ∷ es) h (inr m) = member_apart e s es (or_second (meets e t) _ h) m

all_apart : (s : Extent) (es : List Extent) → overlaps es ≡ false → Member es s → Each (Apart s) es
all_apart s [] h m = tt
all_apart s (e ∷ es) h (inl same) = (inl same, apart_from s es (subst (λ (x : Extent). list_any (meets x) es ≡ false) same (or_first (list_any (meets e) es) _ h)))
all_apart s (e ∷ es) h (inr m) =
    (member_apart e s es (or_first (list_any (meets e) es) _ h) m, all_apart s es (or_second (list_any (meets e) es) _ h) m)

-- ---- within a segment, its own words tell the sites

its_own : (s e : Extent) (a : ℕ) → IsSegment e → Apart s e → s.start ≤ a → a < end_of s → has_plain e a ≡ true → has_plain s a ≡ true
its_own s e a segment (inl same) lo hi plain = ap (λ (t : Extent). has_plain t a) (sym same) ∙ plain
its_own s e a segment (inr (inl ends)) lo hi plain = (let there = plain_there e a plain in absurd (omega (arith, segment.within, there.whole)))
its_own s e a segment (inr (inr ends)) lo hi plain = (let there = plain_there e a plain in absurd (omega (arith, there.from)))

only_its_own : (s : Extent) (es : List Extent) (a : ℕ) → Each IsSegment es → Each (Apart s) es → s.start ≤ a → a < end_of s → list_any (λ t. has_plain t a) es ≡ true → has_plain s a ≡ true
only_its_own s [] a each apart lo hi h = cc
only_its_own s (e ∷ es) a each apart lo hi h =
    elim (or_true (has_plain e a) _ h) [
      | inl plain ↦ its_own s e a each.0 apart.0 lo hi plain
      | inr rest ↦ only_its_own s es a each.1 apart.1 lo hi rest
    ]

member_has : (s : Extent) (es : List Extent) (a : ℕ) → Member es s → has_plain s a ≡ true → list_any (λ t. has_plain t a) es ≡ true
member_has s [] a m h = absurd m
member_has s (e ∷ es) a (inl same) h = true_or (has_plain e a) _ (ap (λ (t : Extent). has_plain t a) same ∙ h)
member_has s (e ∷ es) a (inr m) h = or_of_second (has_plain e a) _ (member_has s es a m h)

or_false : (b : Bool) → (b || false) ≡ b
or_false true = refl
or_false false = refl

same_site : (s : Extent) (es : List Extent) (excluded : List ℕ) (a : ℕ) → Each IsSegment es → Each (Apart s) es → Member es s → s.start ≤ a → a < end_of s → is_site es excluded a ≡ is_site (s ∷ []) excluded a
unfolding is_site
same_site s es excluded a each apart m lo hi =
    let same : list_any (λ t. has_plain t a) es ≡ (has_plain s a || false) =
    alike (list_any (λ t. has_plain t a) es) (has_plain s a) (only_its_own s es a each apart lo hi) (member_has s es a m) ∙ sym (or_false (has_plain s a)) in
    ap (λ b. a % 4 == 0 && b && not (list_any (λ other. other == a) excluded)) same

-- ---- the whole scan

ends_there : (s t : Extent) → Apart s t → t.start < end_of s → end_of t ≤ end_of s
ends_there s t (inl same) before = subst (λ (x : Extent). end_of t ≤ end_of x) same (omega arith)
ends_there s t (inr (inl ends)) before = omega arith
ends_there s t (inr (inr ends)) before = absurd (omega arith)

past_next : (s : Extent) (es : List Extent) → Each (Apart s) es → ArePast es (end_of s)
past_next s [] apart = tt
past_next s (t ∷ es) apart = ((λ x before. ends_there s t apart.0 before), past_next s es apart.1)

pub record AreApart (es : List Extent) : Type 0 where
  pub each : Each IsSegment es
  pub apart : overlaps es ≡ false

pub segments_apart : (image : Contents) → IsImage image → AreApart image.segments
segments_apart image is = record {
  each = each_segment image.segments is.segments.each;
  apart = or_second (list_any (meets stacks) image.segments) _ is.segments.apart;
}

member_segment : (es : List Extent) (s : Extent) → Each IsSegment es → Member es s → IsSegment s
member_segment [] s each m = absurd m
member_segment (e ∷ es) s each (inl same) = subst IsSegment same each.0
member_segment (e ∷ es) s each (inr m) = member_segment es s each.1 m

pub next_segment : (es : List Extent) (from : ℕ) (s : Extent) → AreApart es → next_code es from ≡ Some s → IsSegment s
next_segment es from s facts h = member_segment es s facts.each (is_next es from s h).member

none_past : (es : List Extent) → ArePast es 0
none_past [] = tt
none_past (e ∷ es) = ((λ x before. absurd (omega arith)), none_past es)

pub begun : (es : List Extent) (excluded : List ℕ) → IsScanned es excluded 0 []
unfolding sites_among
begun es excluded = record { past = none_past es; below = omega arith; is = refl }

pub one_segment_more : (es : List Extent) (excluded : List ℕ) (from : ℕ) (found more : List ℕ) (s : Extent) → AreApart es → IsScanned es excluded from found → next_code es from ≡ Some s → more ≡ found ++ sites_among (s ∷ []) excluded s.start s.len → IsScanned es excluded (end_of s) more
unfolding sites_among passing
one_segment_more es excluded from found more s facts scanned h is =
    let n = is_next es from s h in
    let segment = member_segment es s facts.each n.member in
    let apart = all_apart s es facts.apart n.member in
    let later = all_later es from s.start (subst (λ (o : Option Extent). Bounds o s.start) (sym h) (omega arith)) in
    let p : ℕ → Bool = is_site es excluded in
    let gap : passing p (0 + from) (s.start - from) ≡ [] = none_passes p (0 + from) (s.start - from) (λ b lo hi. no_plain_no_site es excluded b (none_between es from s.start b facts.each scanned.past later (omega arith) (omega (arith, n.after)))) in
    let to_start : s.start ≡ from + (s.start - from) = omega (arith, n.after) in
    let until : passing p 0 s.start ≡ found =
    ap (passing p 0) to_start ∙ split p 0 from (s.start - from) ∙ ap (λ xs. passing p 0 from ++ xs) gap ∙ append-nil (passing p 0 from) ∙ sym scanned.is in
    let within : passing p (0 + s.start) s.len ≡ passing (is_site (s ∷ []) excluded) s.start s.len =
    ap (λ (k : ℕ). passing p k s.len) (zero-add s.start) ∙ same_passes p (is_site (s ∷ []) excluded) s.start s.len (λ b lo hi. same_site s es excluded b facts.each apart n.member lo hi) in
    record {
      past = past_next s es apart;
      below = segment.ends;
      is = is ∙ sym (split p 0 s.start s.len ∙ ap (λ xs. xs ++ passing p (0 + s.start) s.len) until ∙ ap (λ xs. found ++ xs) within);
    }

pub all_scanned : (es : List Extent) (excluded : List ℕ) (from : ℕ) (found : List ℕ) → AreApart es → IsScanned es excluded from found → next_code es from ≡ None → found ≡ sites_among es excluded 0 (2 ^ 32)
unfolding sites_among passing
all_scanned es excluded from found facts scanned h =
    scanned.is
    ∙ sym (longer (is_site es excluded) 0 from (2 ^ 32) scanned.below (λ b lo. no_plain_no_site es excluded b (none_between es from (b + 1) b facts.each scanned.past (all_later es from (b + 1) (subst (λ (o : Option Extent). Bounds o (b + 1)) (sym h) tt)) (omega arith) (omega arith))))

-- ---- what the loop over a segment's words adds

nth_byte : (s : Extent) (a k b : ℕ) → s.start ≤ a → a + k < s.start + length s.bytes → length s.bytes ≤ s.len → b ≡ get_or s.bytes (a - s.start + k) 0 → unwrap_or (byte (s ∷ []) (a + k)) 0 ≡ b
nth_byte s a k b lo hi within is =
    let place : a + k - s.start ≡ a - s.start + k = omega arith in
    byte_there s (a + k) (omega arith) hi within ∙ ap (λ (i : ℕ). get_or s.bytes i 0) place ∙ sym is

second : (a : ℕ) → a + 1 + 1 ≡ a + 2
second a = omega arith

third : (a : ℕ) → a + 1 + 1 + 1 ≡ a + 3
third a = omega arith

together : (u v w x one two three four : ℕ) → u ≡ one → v ≡ two → w ≡ three → x ≡ four → one + 256 * (two + 256 * (three + 256 * four)) ≡ u + 256 * (v + 256 * (w + 256 * (x + 0)))
together u v w x one two three four h0 h1 h2 h3 = omega arith

pub word_there : (s : Extent) (a one two three four : ℕ) → s.start ≤ a → a + 4 ≤ s.start + length s.bytes → length s.bytes ≤ s.len → one ≡ get_or s.bytes (a - s.start) 0 → two ≡ get_or s.bytes (a - s.start + 1) 0 → three ≡ get_or s.bytes (a - s.start + 2) 0 → four ≡ get_or s.bytes (a - s.start + 3) 0 → one + 256 * (two + 256 * (three + 256 * four)) ≡ load (s ∷ []) a 4
word_there s a one two three four lo hi within is_one is_two is_three is_four =
    let u : ℕ → ℕ = λ (k : ℕ). unwrap_or (byte (s ∷ []) k) 0 in
    let h0 : u a ≡ one = byte_there s a lo (omega arith) within ∙ sym is_one in
    let h1 : u (a + 1) ≡ two = nth_byte s a 1 two lo (omega arith) within is_two in
    let h2 : u (a + 1 + 1) ≡ three = ap u (second a) ∙ nth_byte s a 2 three lo (omega arith) within is_three in
    let h3 : u (a + 1 + 1 + 1) ≡ four = ap u (third a) ∙ nth_byte s a 3 four lo (omega arith) within is_four in
    together (u a) (u (a + 1)) (u (a + 1 + 1)) (u (a + 1 + 1 + 1)) one two three four h0 h1 h2 h3

under : (b : Bool) (old xs : List ℕ) (a : ℕ) → cond b ((old ++ xs) ++ a ∷ []) (old ++ xs) ≡ old ++ cond b (xs ++ a ∷ []) xs
under true old xs a = append_assoc old xs (a ∷ [])
under false old xs a = refl

pub word_added : (s : Extent) (excluded old before after : List ℕ) (a : ℕ) (b : Bool) → s.start ≤ a → a % 4 ≡ 0 → b ≡ is_site (s ∷ []) excluded a → before ≡ old ++ sites_among (s ∷ []) excluded s.start (a - s.start) → after ≡ cond b (before ++ a ∷ []) before → after ≡ old ++ sites_among (s ∷ []) excluded s.start (a + 4 - s.start)
word_added s excluded old before after a b lo aligned is was gives =
    gives
    ∙ ap (λ xs. cond b (xs ++ a ∷ []) xs) was
    ∙ under b old (sites_among (s ∷ []) excluded s.start (a - s.start)) a
    ∙ ap (λ c. old ++ cond c (sites_among (s ∷ []) excluded s.start (a - s.start) ++ a ∷ []) (sites_among (s ∷ []) excluded s.start (a - s.start))) is
    ∙ ap (λ xs. old ++ xs) (sym (one_word_more s excluded a lo aligned))
