-- Where the values stand that `clap` finds for a command.
use Rattle.std.proofs.Common.{◌≡◌, ◌∙◌, ◌+◌, ◌++◌, ◌||◌, ◌&&◌, ℕ, zero, suc, refl, ap, ap₂, sym, subst, cond, true, false, true≢false, List, Option, Some, None, [], ◌∷◌, inl, inr, arith, length, fold, codes, nat_le, nat_lt, eqb-true}
use Rattle.std.proofs.lemmas.Bool.{and_parts}
use Rattle.std.proofs.lemmas.Bool.Decides.{nat_tests}
use Rattle.std.proofs.lemmas.List.{length-append}
use Rattle.std.proofs.lemmas.Slice.Eq.{bytes_eq-Decides}
use Rattle.std.specs.Prelude.{Bool, ⊤, ◌⊎◌, ◌==◌, ◌≤◌, Contains, IfSome, find, is_some, not, slice_get, option_and_then, drop, take}
use Rattle.std.specs.List.{before_first, after_first, list_all, position_or_len}
use Rattle.std.specs.Option.{option_map_or}
use Rattle.std.specs.Str.{bytes_eq, chars}
use Rattle.clap.specs.Lexer.{long_of, short_of, has_byte}
use Rattle.clap.specs.Walk.{Held, Outcome, Row, Rule, Step, Text, Waiting, Walk, action_of, after_flag, after_step, arg_by_id, arg_by_index, arg_by_long, arg_by_short, at_row, bundle, bundle_met, bundle_step, default_rows, done, flag_met, has_long, has_row, has_short, idle, is_empty, is_multiple, is_pending, long_or_other, more_values, most_values, next, nothing_held, option, option_met, option_word, pending_count, plain, plain_word, positional, positional_held, pushed, reacted, refused, rows_after, settled, settled_rows, short_met, short_or_plain, started, subcommand, subcommand_met, subcommand_or_other, takes_several, takes_values, to_positional, trailing, used, used_as, used_by_id, value, values_or_missing, waits, walk_from, walked, walked_from, long_met, word_met, with_default, with_values, without, reading_by}
use Rattle.clap.specs.declared.builder.action.ArgAction.{ArgAction}
use Rattle.clap.specs.declared.builder.action.ArgAction.TheVariants.{Append, Count, Help, HelpLong, HelpShort, Set, SetFalse, SetTrue, Version}
use Rattle.clap.specs.declared.builder.value_parser.Reading.{Reading}
use Rattle.clap.specs.declared.parser.matches.ValueSource.{ValueSource}
use Rattle.clap.specs.declared.parser.matches.ValueSource.TheVariants.{CommandLine, DefaultValue}
use Rattle.rv_command.specs.Given.{AreGiven, Gives, Stands, apart, is_flag, is_place, joined}

-- ---- lists and tests

abbrev pub Each : {X : Type 0} → (X → Type 0) → List X → Type 0
Each P [] = ⊤
Each P (x ∷ xs) = P x × Each P xs

each_append : {X : Type 0} (P : X → Type 0) (xs ys : List X) → Each P xs → Each P ys → Each P (xs ++ ys)
each_append P [] ys left right = right
each_append P (x ∷ xs) ys left right = (left.0, each_append P xs ys left.1 right)

pub find_has : {X : Type 0} (p : X → Bool) (P : X → Type 0) (xs : List X) → Each P xs → IfSome (find p xs) (λ x. (p x ≡ true) × P x)
find_has p P [] each = tt
find_has p P (x ∷ xs) each = go (p x) refl (find_has p P xs each.1)
  where
    go : (b : Bool) → p x ≡ b → IfSome (find p xs) (λ y. (p y ≡ true) × P y) → IfSome (cond b (Some x) (find p xs)) (λ y. (p y ≡ true) × P y)
    go true is later = (is, each.0)
    go false is later = later

or_none : (b : Bool) → (b || false) ≡ true → b ≡ true
or_none true is = refl
or_none false is = is

and_last : (a b : Bool) → (a && b) ≡ true → b ≡ true
and_last true b is = is
and_last false b is = absurd (true≢false (sym is))

and_none : (a b : Bool) → b ≡ false → (a && b) ≡ false
and_none true b is = is
and_none false b is = refl

same_text : (a b : Text) → bytes_eq a b ≡ true → a ≡ b
same_text a b is = (bytes_eq-Decides a b).0 is

-- ---- options as they are written

-- the place of the first `=`, where the first character is none
place_after : (x : ℕ) (xs : Text) → (x == 61) ≡ false → position_or_len (λ y. y == 61) (x ∷ xs) ≡ suc (position_or_len (λ y. y == 61) xs)
place_after x xs other = rw other (omega arith)

before_more : (x : ℕ) (xs : Text) → (x == 61) ≡ false → x ∷ before_first (λ y. y == 61) xs ≡ before_first (λ y. y == 61) (x ∷ xs)
before_more x xs other = sym (ap (λ (k : ℕ). take k (x ∷ xs)) (place_after x xs other))

after_more : (x : ℕ) (xs : Text) → (x == 61) ≡ false → after_first (λ y. y == 61) xs ≡ after_first (λ y. y == 61) (x ∷ xs)
after_more x xs other =
    let next_place : position_or_len (λ y. y == 61) (x ∷ xs) + 1 ≡ suc (position_or_len (λ y. y == 61) xs + 1) = omega (arith, place_after x xs other) in
    sym (ap (λ (k : ℕ). drop k (x ∷ xs)) next_place)

-- what stands before the first `=` and after it
cut : (xs : Text) → has_byte 61 xs ≡ true → xs ≡ before_first (λ x. x == 61) xs ++ codes "=" ++ after_first (λ x. x == 61) xs
cut [] has = absurd (true≢false (sym has))
cut (x ∷ xs) has = go (x == 61) refl (cut xs)
  where
    go : (b : Bool) → (x == 61) ≡ b → (has_byte 61 xs ≡ true → xs ≡ before_first (λ y. y == 61) xs ++ codes "=" ++ after_first (λ y. y == 61) xs)
        → (x ∷ xs) ≡ before_first (λ y. y == 61) (x ∷ xs) ++ codes "=" ++ after_first (λ y. y == 61) (x ∷ xs)
    go true is later = rw is (ap (λ y. y ∷ xs) (eqb-true x 61 is))
    go false is later = ap (λ ys. x ∷ ys) (later (rw is at has))
        ∙ ap₂ (λ (a b : Text). a ++ codes "=" ++ b) (before_more x xs is) (after_more x xs is)

uncut : (xs : Text) → has_byte 61 xs ≡ false → xs ≡ before_first (λ x. x == 61) xs
uncut [] has = refl
uncut (x ∷ xs) has = go (x == 61) refl (uncut xs)
  where
    go : (b : Bool) → (x == 61) ≡ b → (has_byte 61 xs ≡ false → xs ≡ before_first (λ y. y == 61) xs) → (x ∷ xs) ≡ before_first (λ y. y == 61) (x ∷ xs)
    go true is later = absurd (true≢false (rw is at has))
    go false is later = ap (λ ys. x ∷ ys) (later (rw is at has)) ∙ before_more x xs is

-- the word is an option's name, or its name and its value
abbrev Spells : Text → Text → Option Text → Type 0
Spells word name None = word ≡ codes "--" ++ name
Spells word name (Some v) = word ≡ codes "--" ++ name ++ codes "=" ++ v

spelled : (word : Text) → IfSome (long_of word) (λ p. Spells word p.0 p.1)
spelled [] = tt
spelled (x ∷ []) = go (x == 45) refl
  where
    go : (b : Bool) → (x == 45) ≡ b → IfSome (long_of (x ∷ [])) (λ p. Spells (x ∷ []) p.0 p.1)
    go true t = rw t tt
    go false t = rw t tt
spelled (x ∷ y ∷ rest) = go (x == 45) (y == 45) refl refl rest
  where
    hyphens : (ts : Text) → (x == 45) ≡ true → (y == 45) ≡ true → (x ∷ y ∷ ts) ≡ 45 ∷ 45 ∷ ts
    hyphens ts t u = ap (λ i. i ∷ y ∷ ts) (eqb-true x 45 t) ∙ ap (λ j. 45 ∷ j ∷ ts) (eqb-true y 45 u)

    cutting : (b : Bool) (ts : Text) → has_byte 61 ts ≡ b → (x == 45) ≡ true → (y == 45) ≡ true
        → Spells (x ∷ y ∷ ts) (before_first (λ c. c == 61) ts) (cond b (Some (after_first (λ c. c == 61) ts)) None)
    cutting true ts has t u = hyphens ts t u ∙ ap (λ r. 45 ∷ 45 ∷ r) (cut ts has)
    cutting false ts has t u = hyphens ts t u ∙ ap (λ r. 45 ∷ 45 ∷ r) (uncut ts has)

    go : (a b : Bool) → (x == 45) ≡ a → (y == 45) ≡ b → (ts : Text) → IfSome (long_of (x ∷ y ∷ ts)) (λ p. Spells (x ∷ y ∷ ts) p.0 p.1)
    go false b t u ts = rw t tt
    go true false t u ts = rw (t, u) tt
    go true true t u [] = rw (t, u) tt
    go true true t u (z ∷ zs) = rw (t, u) (cutting (has_byte 61 (z ∷ zs)) (z ∷ zs) refl t u)

-- ---- where a value stands

abbrev pub IsOption : Text → Type 0
IsOption id = (is_place id ≡ false) × (is_flag id ≡ false)

abbrev IsFlag : Text → Type 0
IsFlag id = (is_place id ≡ false) × (is_flag id ≡ true)

-- a flag's value is `false`, or its name stands in the words
abbrev FlagStands : List Text → Text → Text → Type 0
FlagStands words id v = (v ≡ codes "false") ⊎ Contains words (codes "--" ++ id)

-- a value stands after its argument's name, or alone where the argument is a place
abbrev pub Origin : List Text → Text → Text → Type 0
Origin words id v = (IsOption id × Gives words id v) ⊎ (((is_place id ≡ true) × Contains words v) ⊎ (IsFlag id × FlagStands words id v))

abbrev RowStands : List Text → Row → Type 0
RowStands words r = Each (Origin words r.id) r.values

abbrev pub RowsStand : List Text → List Row → Type 0
RowsStand words rows = Each (RowStands words) rows

abbrev PendingStands : List Text → Option (Text × List Text) → Type 0
PendingStands words pending = IfSome pending (λ p. Each (Origin words p.0) p.1 × (is_flag p.0 ≡ false))

abbrev HeldStands : List Text → Held → Type 0
HeldStands words h = RowsStand words h.rows × PendingStands words h.pending

abbrev acts : ArgAction → Bool
acts Set = true
acts Append = true
acts SetTrue = true
acts Help = true
acts _ = false

-- an argument with a long name that is its id, or a place, or a flag
pub record Told (a : Rule) : Type 0 where
  pub missing : IsFlag a.id ⊎ (a.missing ≡ [])
  pub defaults : Each (λ v. IsFlag a.id × (v ≡ codes "false")) a.defaults
  pub aliases : a.aliases ≡ []
  pub short_aliases : a.short_aliases ≡ []
  pub acts : acts (action_of a) ≡ true
  pub long : (a.long ≡ None) ⊎ ((a.long ≡ Some a.id) × (IsOption a.id ⊎ (takes_values a ≡ false)))
  pub short : (a.short ≡ None) ⊎ ((takes_values a ≡ false) × (is_flag a.id ≡ false))
  pub most : (is_place a.id ≡ true) ⊎ (most_values a ≤ 1)
  pub place : (a.index ≡ None) ⊎ ((is_place a.id ≡ true) × (is_flag a.id ≡ false))

-- the test of it, which is computed over the whole table
abbrev is_flag_only : Text → Bool
is_flag_only id = not (is_place id) && is_flag id

abbrev is_long : Rule → Option Text → Bool
is_long a None = true
is_long a (Some name) = bytes_eq name a.id && ((not (is_place a.id) && not (is_flag a.id)) || not (takes_values a))

abbrev pub is_told : Rule → Bool
is_told a = (is_flag_only a.id || is_empty a.missing) && (list_all (λ v. is_flag_only a.id && bytes_eq v (codes "false")) a.defaults
    && (is_empty a.aliases && (is_empty a.short_aliases && (acts (action_of a) && (is_long a a.long
    && ((not (is_some a.short) || (not (takes_values a) && not (is_flag a.id))) && ((is_place a.id || nat_le (most_values a) 1)
    && (not (is_some a.index) || (is_place a.id && not (is_flag a.id))))))))))

or_parts : (a b : Bool) → (a || b) ≡ true → (a ≡ true) ⊎ (b ≡ true)
or_parts true b is = inl refl
or_parts false b is = inr is

not_true : (b : Bool) → not b ≡ true → b ≡ false
not_true true is = absurd (true≢false (sym is))
not_true false is = refl

nil_of : {X : Type 0} (xs : List X) → is_empty xs ≡ true → xs ≡ []
nil_of [] is = refl
nil_of (x ∷ xs) is = absurd (grind (arith, nat_tests))

none_of : {X : Type 0} (o : Option X) → is_some o ≡ false → o ≡ None
none_of None is = refl
none_of (Some x) is = absurd (true≢false is)

both_not : (a b : Bool) → (not a && not b) ≡ true → (a ≡ false) × (b ≡ false)
both_not a b is = let parts = and_parts (not a) (not b) is in (not_true a parts.0, not_true b parts.1)

flag_only : (id : Text) → is_flag_only id ≡ true → IsFlag id
flag_only id is = let parts = and_parts (not (is_place id)) (is_flag id) is in (not_true (is_place id) parts.0, parts.1)

told : (a : Rule) → is_told a ≡ true → Told a
told a is =
    let p = and_parts _ _ is in
    let q = and_parts _ _ p.1 in
    let r = and_parts _ _ q.1 in
    let s = and_parts _ _ r.1 in
    let t = and_parts _ _ s.1 in
    let u = and_parts _ _ t.1 in
    let v = and_parts _ _ u.1 in
    let w = and_parts _ _ v.1 in
    record {
      missing = elim (or_parts _ _ p.0) [ inl flag ↦ inl (flag_only a.id flag) | inr none ↦ inr (nil_of a.missing none) ];
      defaults = all_false a.defaults q.0;
      aliases = nil_of a.aliases r.0;
      short_aliases = nil_of a.short_aliases s.0;
      acts = t.0;
      long = by_long a.long refl u.0;
      short = elim (or_parts _ _ v.0) [
        | inl none ↦ inl (none_of a.short (not_true _ none))
        | inr flag ↦ inr (both_not (takes_values a) (is_flag a.id) flag)
      ];
      most = elim (or_parts _ _ w.0) [ inl place ↦ inl place | inr one ↦ inr (grind (arith, nat_tests)) ];
      place = elim (or_parts _ _ w.1) [
        | inl none ↦ inl (none_of a.index (not_true _ none))
        | inr place ↦ let parts = and_parts _ _ place in inr (parts.0, not_true _ parts.1)
      ];
    }
  where
    all_false : (vs : List Text) → list_all (λ v. is_flag_only a.id && bytes_eq v (codes "false")) vs ≡ true → Each (λ v. IsFlag a.id × (v ≡ codes "false")) vs
    all_false [] is = tt
    all_false (v ∷ vs) is =
        let parts = and_parts (is_flag_only a.id && bytes_eq v (codes "false")) (list_all (λ w. is_flag_only a.id && bytes_eq w (codes "false")) vs) is in
        let here = and_parts (is_flag_only a.id) (bytes_eq v (codes "false")) parts.0 in
        ((flag_only a.id here.0, same_text v (codes "false") here.1), all_false vs parts.1)

    by_long : (o : Option Text) → a.long ≡ o → is_long a o ≡ true → (a.long ≡ None) ⊎ ((a.long ≡ Some a.id) × (IsOption a.id ⊎ (takes_values a ≡ false)))
    by_long None none is = inl none
    by_long (Some name) some is =
        let parts = and_parts (bytes_eq name a.id) _ is in
        inr (
          some ∙ ap (λ (i : Text). Some i) (same_text name a.id parts.0),
          elim (or_parts _ _ parts.1) [
            | inl other ↦ inl (both_not (is_place a.id) (is_flag a.id) other)
            | inr none ↦ inr (not_true (takes_values a) none)
          ],
        )

pub all_told : (c : List Rule) → list_all is_told c ≡ true → Each Told c
all_told [] is = tt
all_told (a ∷ c) is = let parts = and_parts (is_told a) (list_all is_told c) is in (told a parts.0, all_told c parts.1)

-- ---- rows

at_row_stands : (P : Row → Type 0) (id : Text) (change : Row → List Row) (lacking : List Row)
    → ((r : Row) → bytes_eq r.id id ≡ true → P r → Each P (change r)) → Each P lacking → (rows : List Row) → Each P rows → Each P (at_row id change lacking rows)
at_row_stands P id change lacking changes lacks [] stand = lacks
at_row_stands P id change lacking changes lacks (r ∷ rs) stand = go (bytes_eq r.id id) refl (at_row_stands P id change lacking changes lacks rs stand.1)
  where
    go : (b : Bool) → bytes_eq r.id id ≡ b → Each P (at_row id change lacking rs) → Each P (cond b (change r ++ rs) (r ∷ at_row id change lacking rs))
    go true same later = each_append P (change r) rs (changes r same stand.0) stand.1
    go false other later = (stand.0, later)

module _ (words : List Text) where
  with_values_stand : (id : Text) (how : Reading) (s : ValueSource) (values : List Text) (rows : List Row) → Each (Origin words id) values → RowsStand words rows
      → RowsStand words (with_values id how s values rows)
  with_values_stand id how s values rows given stand = at_row_stands (RowStands words) id (more_values s values) _ more (given, tt) rows stand
    where
      more : (r : Row) → bytes_eq r.id id ≡ true → RowStands words r → Each (RowStands words) (more_values s values r)
      more r same row = (each_append _ r.values values row (subst (λ (i : Text). Each (Origin words i) values) (sym (same_text r.id id same)) given), tt)

  without_stands : (id : Text) (rows : List Row) → RowsStand words rows → RowsStand words (without id rows)
  without_stands id rows stand = at_row_stands (RowStands words) id (λ _. []) [] (λ r same row. tt) tt rows stand

  missing_stand : (a : Rule) (values : List Text) → Told a → is_flag a.id ≡ false → Each (Origin words a.id) values → Each (Origin words a.id) (values_or_missing a values)
  missing_stand a [] told no_flag given = elim told.missing [
    | inl flag ↦ absurd (true≢false (sym flag.1 ∙ no_flag))
    | inr unset ↦ subst (λ (vs : List Text). Each (Origin words a.id) vs) (sym unset) tt
  ]
  missing_stand a (v ∷ vs) told no_flag given = given

  -- the value of a flag that stands in the words
  flag_stand : (a : Rule) → Told a → Contains words (codes "--" ++ a.id) → Each (Origin words a.id) (values_or_missing a [])
  flag_stand a told name = elim told.missing [
    | inl flag ↦ all_stand flag a.missing
    | inr unset ↦ subst (λ (vs : List Text). Each (Origin words a.id) vs) (sym unset) tt
  ]
    where
      all_stand : IsFlag a.id → (vs : List Text) → Each (Origin words a.id) vs
      all_stand flag [] = tt
      all_stand flag (v ∷ vs) = (inr (inr (flag, inr name)), all_stand flag vs)

  used_stand : (a : Rule) (values : List Text) (rows : List Row) → Told a → Each (Origin words a.id) (values_or_missing a values) → RowsStand words rows
      → RowsStand words (used a values rows)
  used_stand a values rows told given stand = by_action (action_of a) told.acts
    where
      replaced : RowsStand words (with_values a.id (reading_by a) CommandLine (values_or_missing a values) (without a.id rows))
      replaced = with_values_stand a.id (reading_by a) CommandLine (values_or_missing a values) (without a.id rows) given (without_stands a.id rows stand)

      by_action : (act : ArgAction) → acts act ≡ true → RowsStand words (used_as act a.id (reading_by a) (values_or_missing a values) rows)
      by_action Set is = replaced
      by_action Append is = with_values_stand a.id (reading_by a) CommandLine (values_or_missing a values) rows given stand
      by_action SetTrue is = replaced
      by_action Help is = stand
      by_action SetFalse is = absurd (true≢false (sym is))
      by_action Count is = absurd (true≢false (sym is))
      by_action HelpShort is = absurd (true≢false (sym is))
      by_action HelpLong is = absurd (true≢false (sym is))
      by_action Version is = absurd (true≢false (sym is))

  module _ (c : List Rule) (told : Each Told c) where
    settled_stand : (pending : Option (Text × List Text)) (rows : List Row) → PendingStands words pending → RowsStand words rows → RowsStand words (settled_rows c pending rows)
    settled_stand None rows given stand = stand
    settled_stand (Some p) rows given stand = go (arg_by_id c p.0) (find_has (λ a. bytes_eq a.id p.0) Told c told)
      where
        go : (o : Option Rule) → IfSome o (λ a. (bytes_eq a.id p.0 ≡ true) × Told a) → RowsStand words (used_by_id o p.1 rows)
        go None is = stand
        go (Some a) is =
            let same : p.0 ≡ a.id = sym (same_text a.id p.0 is.0) in
            used_stand a p.1 rows is.1 (missing_stand a p.1 is.1 (subst (λ (i : Text). is_flag i ≡ false) same given.1) (subst (λ (i : Text). Each (Origin words i) p.1) same given.0)) stand

    settles : (h : Held) → HeldStands words h → HeldStands words (settled c h)
    settles h stand = (settled_stand h.pending h.rows stand.1 stand.0, tt)

    reacts : (a : Rule) (values : List Text) (h : Held) → Told a → Each (Origin words a.id) (values_or_missing a values) → HeldStands words h → HeldStands words (reacted c a values h)
    reacts a values h one given stand = (used_stand a values _ one given (settled_stand h.pending h.rows stand.1 stand.0), tt)

    -- ---- flags in one word

    abbrev Ends : Outcome → Type 0
    Ends (waits id) = ⊥
    Ends _ = ⊤

    short_flag : (a : Rule) (x : ℕ) → Told a → has_short a x ≡ true → (takes_values a ≡ false) × (is_flag a.id ≡ false)
    short_flag a x one has = elim one.short [
      | inl none ↦ absurd (true≢false (sym has ∙ no_short none))
      | inr flag ↦ flag
    ]
      where
        no_short : a.short ≡ None → has_short a x ≡ false
        no_short none = rw (none, one.short_aliases) refl

    bundle_keeps : (P : Held → Type 0) → ((a : Rule) (h : Held) → Told a → is_flag a.id ≡ false → P h → P (reacted c a [] h)) → (k : ℕ) (flags : Text) (skip : ℕ) (so_far : Outcome) (h : Held)
        → P h → Ends so_far → P (bundle_met c k flags skip so_far h).0 × Ends (bundle_met c k flags skip so_far h).1
    unfolding bundle_met
    bundle_keeps P keeps zero flags skip so_far h holds ends = (holds, ends)
    bundle_keeps P keeps (suc k) flags skip so_far h holds ends = step (slice_get (chars flags) 0) skip (λ f s o g. bundle_keeps P keeps k f s o g)
      where
        Again : Type 0
        Again = (f : Text) (s : ℕ) (o : Outcome) (g : Held) → P g → Ends o → P (bundle_met c k f s o g).0 × Ends (bundle_met c k f s o g).1

        met : (o : Option Rule) (x : ℕ) (rest : Text) → IfSome o (λ a. ((not (is_some a.index) && has_short a x) ≡ true) × Told a) → Again
            → P (short_met c o rest h (bundle_met c k rest 0 done)).0 × Ends (short_met c o rest h (bundle_met c k rest 0 done)).1
        met None x rest is again = (holds, tt)
        met (Some a) x rest is again =
            let short = short_flag a x is.1 (and_last (not (is_some a.index)) (has_short a x) is.0) in
            let takes_none : takes_values a ≡ false = short.0 in
            rw takes_none (again rest 0 done (reacted c a [] h) (keeps a h is.1 short.1 holds) tt)

        step : (o : Option ℕ) (skip : ℕ) → Again
            → P (bundle_step c o flags skip so_far h (bundle_met c k)).0 × Ends (bundle_step c o flags skip so_far h (bundle_met c k)).1
        step None skip again = (holds, ends)
        step (Some x) zero again = met (arg_by_short c x) x _ (find_has (λ a. not (is_some a.index) && has_short a x) Told c told) again
        step (Some x) (suc skip) again = again _ skip so_far h holds ends

    -- ---- what waits between two words

    -- the word before the place is this one
    abbrev Follows : ℕ → Text → Type 0
    Follows j name = (place : ℕ) × (j ≡ suc place) × (slice_get words place ≡ Some name)

    -- what waits for the word at the place j: an option with no value yet, whose name stands before
    abbrev Waits : ℕ → Waiting → Held → Type 0
    Waits j (option id) h = (arg_by_id c id ≡ None) ⊎ ((IsOption id × Follows j (codes "--" ++ id)) × IfSome h.pending (λ p. p.0 ≡ id))
    Waits j _ h = ⊤

    abbrev IsFree : Waiting → Type 0
    IsFree (option id) = ⊥
    IsFree _ = ⊤

    abbrev StepWaits : ℕ → Waiting → Step → Held → Type 0
    StepWaits j before (next waiting) h = Waits j waiting h
    StepWaits j before (trailing position) h = ⊤
    StepWaits j before (subcommand name) h = ⊥
    StepWaits j before value h = IsFree before

    -- where a walk stands before the word at the place j
    record Walks (j : ℕ) (w : Walk) : Type 0 where
      pub held : HeldStands words w.held
      pub waiting : w.is_trailing ≡ false → Waits j w.waiting w.held
      pub going : w.stopped ≡ None

    -- ---- one word

    module _ (k : ℕ) (word : Text) (at : slice_get words k ≡ Some word) where
      abbrev Good : Waiting → Held × Step → Type 0
      Good before met = HeldStands words met.0 × StepWaits (suc k) before met.1 met.0

      stands_alone : Contains words word
      stands_alone = contained words k at
        where
          contained : (xs : List Text) (j : ℕ) → slice_get xs j ≡ Some word → Contains xs word
          contained [] j is = cc
          contained (x ∷ xs) zero is = (0, omega arith, unwrap is)
            where
              unwrap : Some x ≡ Some word → x ≡ word
              unwrap e = ap (λ (o : Option Text). option_map_or (λ y. y) o x) e
          contained (x ∷ xs) (suc j) is = shift (contained xs j is)
            where
              shift : Contains xs word → Contains (x ∷ xs) word
              shift (i, below, same) = (suc i, omega arith, same)

      after_name : (id : Text) → Follows k (codes "--" ++ id) → Gives words id word
      after_name id (place, here, name) = apart place name (subst (λ (j : ℕ). slice_get words j ≡ Some word) (here ∙ omega arith) at)

      -- a value more for what is pending
      push_stands : (id : Text) (h : Held) → Origin words id word → is_flag id ≡ false → IfSome h.pending (λ p. p.0 ≡ id) → HeldStands words h → HeldStands words (pushed id word h)
      push_stands id h origin no_flag is stand = (stand.0, go h.pending is stand.1)
        where
          go : (o : Option (Text × List Text)) → IfSome o (λ p. p.0 ≡ id) → PendingStands words o
              → Each (Origin words (started id o).0) ((started id o).1 ++ word ∷ []) × (is_flag (started id o).0 ≡ false)
          go None same given = ((origin, tt), no_flag)
          go (Some p) same given = (each_append _ p.1 (word ∷ []) given.0 (subst (λ (i : Text). Origin words i word) (sym same) origin, tt), given.1)

      full : (a : Rule) (id : Text) (h : Held) → Told a → is_place id ≡ false → bytes_eq a.id id ≡ true → IfSome h.pending (λ p. p.0 ≡ id)
          → nat_lt (pending_count a (pushed id word h).pending) (most_values a) ≡ false
      full a id h one no_place same is = go h.pending is
        where
          few : most_values a ≤ 1
          few = elim one.most [
            | inl place ↦ absurd (true≢false (sym place ∙ ap is_place (same_text a.id id same) ∙ no_place))
            | inr less ↦ less
          ]

          counted : (i : Text) (vs : List Text) → i ≡ id → nat_lt (cond (bytes_eq i a.id) (length (vs ++ word ∷ [])) 0) (most_values a) ≡ false
          counted i vs there =
              let equal : bytes_eq i a.id ≡ true = (bytes_eq-Decides i a.id).1 (there ∙ sym (same_text a.id id same)) in
              let long : length (vs ++ word ∷ []) ≡ length vs + 1 = length-append vs (word ∷ []) in
              let most : most_values a ≤ 1 = few in
              rw (equal, long) (grind (arith, nat_tests))

          go : (o : Option (Text × List Text)) → IfSome o (λ p. p.0 ≡ id) → nat_lt (pending_count a (Some ((started id o).0, (started id o).1 ++ word ∷ []))) (most_values a) ≡ false
          go None none = counted id [] refl
          go (Some p) there = counted p.0 p.1 there

      plain_good : (before : Waiting) (h : Held) → Waits k before h → HeldStands words h → Good before (plain_word c before word h)
      plain_good idle h waiting stand = (stand, tt)
      plain_good positional h waiting stand = (stand, tt)
      plain_good (option id) h waiting stand = go (arg_by_id c id) refl (find_has (λ a. bytes_eq a.id id) Told c told)
        where
          go : (o : Option Rule) → arg_by_id c id ≡ o → IfSome o (λ a. (bytes_eq a.id id ≡ true) × Told a)
              → Good (option id) ((option_word o id word h).0, next (option_word o id word h).1)
          go None none is = (stand, inl none)
          go (Some a) some is = elim waiting [
            | inl none ↦ absurd (some_none (sym some ∙ none))
            | inr follows ↦ rw (full a id h is.1 follows.0.0.0 is.0 follows.1) (push_stands id h (inl (follows.0.0, after_name id follows.0.1)) follows.0.0.1 follows.1 stand, tt)
          ]
            where
              some_none : Some a ≡ None → ⊥
              some_none e = cc

      -- what is left of a flag word that nothing took
      after_good : (before : Waiting) (h : Held) (out : Outcome) → Ends out → Waits k before h → HeldStands words h → Good before (after_flag c before word h out)
      after_good before h done ends waiting stand = (stand, tt)
      after_good before h (waits id) ends waiting stand = absurd ends
      after_good before h plain ends waiting stand = plain_good before h waiting stand
      after_good before h refused ends waiting stand = plain_good before h waiting stand

      -- what waits goes on waiting where no more than the pending value was settled
      still_waits : (before : Waiting) (h after : Held) → ((id : Text) → IfSome h.pending (λ p. p.0 ≡ id) → IfSome after.pending (λ p. p.0 ≡ id)) → Waits k before h → Waits k before after
      still_waits idle h after keeps waiting = tt
      still_waits positional h after keeps waiting = tt
      still_waits (option id) h after keeps (inl none) = inl none
      still_waits (option id) h after keeps (inr follows) = inr (follows.0, keeps id follows.1)

      bundle_good : (before : Waiting) (h : Held) (flags : Text) → Waits k before h → HeldStands words h
          → Good before (after_flag c before word (bundle c flags h).0 (bundle c flags h).1)
      bundle_good before h flags waiting stand =
          let stands = bundle_keeps (HeldStands words) (λ a g one no_flag held. reacts a [] g one (missing_stand a [] one no_flag tt) held) (length flags) flags h.skip plain (record h { skip = 0 }) stand tt in
          after_good before (bundle c flags h).0 (bundle c flags h).1 stands.1
          (still_waits before h (bundle c flags h).0 (λ id is.
          (bundle_keeps (λ g. IfSome g.pending (λ p. p.0 ≡ id)) (λ a g one no_flag held. tt) (length flags) flags h.skip plain (record h { skip = 0 }) is tt).0) waiting)
          stands.0

      short_good : (before : Waiting) (h : Held) (o : Option Text) → Waits k before h → HeldStands words h → Good before (short_or_plain c before word o h)
      short_good before h None waiting stand = plain_good before h waiting stand
      short_good before h (Some flags) waiting stand = bundle_good before h flags waiting stand

      named : (a : Rule) (name : Text) → Told a → has_long a name ≡ true → (a.id ≡ name) × (IsOption a.id ⊎ (takes_values a ≡ false))
      named a name one has = elim one.long [
        | inl none ↦ absurd (true≢false (sym has ∙ rw (none, one.aliases) refl))
        | inr some ↦ (same_text a.id name (or_none (bytes_eq a.id name) (rw (some.0, one.aliases) at has)), some.1)
      ]

      long_good : (before : Waiting) (h : Held) (name : Text) (v : Option Text) → Spells word name v → Waits k before h → HeldStands words h
          → Good before (after_flag c before word (long_met c (arg_by_long c name) v h).0 (long_met c (arg_by_long c name) v h).1)
      long_good before h name v spells waiting stand = go (arg_by_long c name) (find_has (λ a. not (is_some a.index) && has_long a name) Told c told)
        where
          valued : (a : Rule) (v : Option Text) → Told a → (a.id ≡ name) × IsOption a.id → Spells word name v → Good before (after_flag c before word (option_met c a v h).0 (option_met c a v h).1)
          valued a (Some text) one id is = (reacts a (text ∷ []) h one (inl (id.1, joined (subst (λ (w : Text). Contains words w) (is ∙ ap (λ (i : Text). codes "--" ++ i ++ codes "=" ++ text) (sym id.0)) stands_alone)), tt) stand, tt)
          valued a None one id is = (
            (settled_stand h.pending h.rows stand.1 stand.0, (tt, id.1.1)),
            inr ((id.1, (k, refl, at ∙ ap (λ (w : Text). Some w) (is ∙ ap (λ (i : Text). codes "--" ++ i) (sym id.0)))), refl),
          )

          flagged : (a : Rule) (v : Option Text) → Told a → a.id ≡ name → Spells word name v → Good before (after_flag c before word (flag_met c a v h).0 (flag_met c a v h).1)
          flagged a (Some text) one id is = plain_good before h waiting stand
          flagged a None one id is =
              let stands : Contains words (codes "--" ++ a.id) = subst (λ (w : Text). Contains words w) (is ∙ ap (λ (i : Text). codes "--" ++ i) (sym id)) stands_alone in
              (reacts a [] h one (flag_stand a one stands) stand, tt)

          by_kind : (b : Bool) (a : Rule) → takes_values a ≡ b → Told a → (a.id ≡ name) × (IsOption a.id ⊎ (takes_values a ≡ false))
              → Good before (after_flag c before word (cond b (option_met c a v h) (flag_met c a v h)).0 (cond b (option_met c a v h) (flag_met c a v h)).1)
          by_kind true a takes one id = elim id.1 [
            | inl named ↦ valued a v one (id.0, named) spells
            | inr none ↦ absurd (true≢false (sym takes ∙ none))
          ]
          by_kind false a takes one id = flagged a v one id.0 spells

          go : (o : Option Rule) → IfSome o (λ a. ((not (is_some a.index) && has_long a name) ≡ true) × Told a)
              → Good before (after_flag c before word (long_met c o v h).0 (long_met c o v h).1)
          go None is = plain_good before h waiting stand
          go (Some a) is = by_kind (takes_values a) a refl is.1 (named a name is.1 (and_last _ _ is.0))

      none_met : (before : Waiting) → subcommand_met [] before word ≡ None
      none_met idle = refl
      none_met positional = refl
      none_met (option id) = refl

      word_good : (before : Waiting) (position : ℕ) (h : Held) → Waits k before h → HeldStands words h
          → Good before (subcommand_or_other c (subcommand_met [] before word) before position word h)
      word_good before position h waiting stand = rw (none_met before) (go (bytes_eq word (45 ∷ 45 ∷ [])))
        where
          by_long : (o : Option (Text × Option Text)) → IfSome o (λ p. Spells word p.0 p.1) → Good before (long_or_other c before word o h)
          by_long None is = short_good before h (short_of word) waiting stand
          by_long (Some p) is = long_good before h p.0 p.1 is waiting stand

          go : (b : Bool) → Good before (cond b (h, trailing position) (long_or_other c before word (long_of word) h))
          go true = (stand, tt)
          go false = by_long (long_of word) (spelled word)

      -- ---- the walk

      free_waits : (before : Waiting) (h : Held) → IsFree before → Waits (suc k) before h
      free_waits idle h free = tt
      free_waits positional h free = tt
      free_waits (option id) h free = absurd free

      after_place : (b : Bool) (h : Held) → Waits (suc k) (cond b positional idle) h
      after_place true h = tt
      after_place false h = tt

      place_good : (w : Walk) (h : Held) → HeldStands words h → (w.is_trailing ≡ false → Waits (suc k) w.waiting h) → w.stopped ≡ None
          → Walks (suc k) (to_positional c (arg_by_index c w.position) word w h)
      place_good w h stand waiting going =
          go (arg_by_index c w.position) (find_has (λ a. option_map_or (λ i. i == w.position) a.index false) Told c told)
        where
          placed : (a : Rule) → is_place a.id ≡ true → is_flag a.id ≡ false → HeldStands words (positional_held c a word h)
          placed a image no_flag = by_pending (is_pending a h.pending) refl (takes_several a)
            where
              pending : (o : Option (Text × List Text)) → is_pending a o ≡ true → IfSome o (λ p. p.0 ≡ a.id)
              pending None is = tt
              pending (Some p) is = same_text p.0 a.id is

              by_pending : (waits : Bool) → is_pending a h.pending ≡ waits → (several : Bool) → HeldStands words (pushed a.id word (cond (waits && several) h (settled c h)))
              by_pending true is true = push_stands a.id h (inr (inl (image, stands_alone))) no_flag (pending h.pending is) stand
              by_pending true is false = push_stands a.id (settled c h) (inr (inl (image, stands_alone))) no_flag tt (settles h stand)
              by_pending false is several = push_stands a.id (settled c h) (inr (inl (image, stands_alone))) no_flag tt (settles h stand)

          go : (o : Option Rule) → IfSome o (λ a. (option_map_or (λ i. i == w.position) a.index false ≡ true) × Told a) → Walks (suc k) (to_positional c o word w h)
          go None is = record { held = stand; waiting = waiting; going = going }
          go (Some a) is = elim is.1.place [
            | inl none ↦ absurd (true≢false (sym is.0 ∙ ap (λ (o : Option ℕ). option_map_or (λ i. i == w.position) o false) none))
            | inr image ↦ record { held = placed a image.0 image.1; waiting = λ _. after_place (is_multiple a) _; going = refl }
          ]

      step_good : (step : Step) (w : Walk) (h : Held) → HeldStands words h → StepWaits (suc k) w.waiting step h → w.stopped ≡ None → Walks (suc k) (after_step c word w h step)
      step_good (next waiting) w h stand later going = record { held = stand; waiting = λ _. later; going = going }
      step_good (trailing position) w h stand later going = record { held = stand; waiting = λ no. absurd (true≢false no); going = going }
      step_good (subcommand name) w h stand later going = absurd later
      step_good value w h stand free going = place_good w h stand (λ _. free_waits w.waiting h free) going

      walked_good : (w : Walk) → Walks k w → Walks (suc k) (walked c [] w word)
      unfolding walked
      walked_good w walks = subst (λ (o : Option (Text × List Text)). Walks (suc k) (walked_from c [] o w word)) (sym walks.going) (go w.is_trailing refl)
        where
          go : (b : Bool) → w.is_trailing ≡ b
              → Walks (suc k) (after_step c word w (word_met c [] b w.waiting w.position word w.held).0 (word_met c [] b w.waiting w.position word w.held).1)
          go true is = place_good w w.held walks.held (λ not. absurd (true≢false (sym is ∙ not))) walks.going
          go false is =
              let good = word_good w.waiting w.position w.held (walks.waiting is) walks.held in
              step_good _ w _ good.0 good.1 walks.going

    walk_stands : (rest : List Text) (k : ℕ) (w : Walk) → ((i : ℕ) → slice_get rest i ≡ slice_get words (k + i)) → Walks k w
        → HeldStands words (fold (walked c []) w rest).held
    walk_stands [] k w at walks = walks.held
    walk_stands (word ∷ rest) k w at walks = walk_stands rest (suc k) (walked c [] w word) (λ i. at (suc i) ∙ ap (slice_get words) (omega arith))
        (walked_good k word (sym (at 0 ∙ ap (slice_get words) (omega arith))) w walks)

  defaults_stand : (c : List Rule) → Each Told c → (rows : List Row) → RowsStand words rows → RowsStand words (fold with_default rows c)
  defaults_stand [] told rows stand = stand
  defaults_stand (a ∷ c) told rows stand = defaults_stand c told.1 (with_default rows a) (go (has_row a.id rows))
    where
      go : (b : Bool) → RowsStand words (cond b rows (default_rows a.id (reading_by a) a.defaults rows))
      go true = stand
      go false = unused a.defaults told.0.defaults
        where
          from_default : (vs : List Text) → Each (λ v. IsFlag a.id × (v ≡ codes "false")) vs → Each (Origin words a.id) vs
          from_default [] are = tt
          from_default (v ∷ vs) are = (inr (inr (are.0.0, inl are.0.1)), from_default vs are.1)

          unused : (vs : List Text) → Each (λ v. IsFlag a.id × (v ≡ codes "false")) vs → RowsStand words (default_rows a.id (reading_by a) vs rows)
          unused [] are = stand
          unused (v ∷ vs) are = with_values_stand a.id (reading_by a) DefaultValue (v ∷ vs) rows (from_default (v ∷ vs) are) stand

-- each value that is found stands in the words
rows_stand : (c : List Rule) → Each Told c → (words : List Text) → RowsStand words (rows_after c [] words)
rows_stand c told words =
    let stand = walk_stands words c told words 0 (walk_from nothing_held) (λ i. ap (slice_get words) (omega arith)) (record { held = (tt, tt); waiting = λ _. tt; going = refl }) in
    defaults_stand words c told (settled c held).rows (settles words c told held stand).0
  where
    held : Held
    held = (fold (walked c []) (walk_from nothing_held) words).held

-- a value stands as its argument does
stands_so : (words : List Text) (id v : Text) → Origin words id v → Stands (is_place id) (is_flag id) words id v
stands_so words id v (inl valued) = rw (valued.0.0, valued.0.1) valued.1
stands_so words id v (inr (inl place)) = rw place.0 place.1
stands_so words id v (inr (inr flag)) = rw (flag.0.0, flag.0.1) flag.1

pub are_given : (c : List Rule) → list_all is_told c ≡ true → (words : List Text) → AreGiven words (rows_after c [] words)
are_given c told words name =
    go (find (λ r. bytes_eq r.id name) rows) (find_has (λ r. bytes_eq r.id name) (RowStands words) rows (rows_stand c (all_told c told) words))
  where
    rows : List Row
    rows = rows_after c [] words

    first : (values : List Text) → Each (Origin words name) values → IfSome (slice_get values 0) (Stands (is_place name) (is_flag name) words name)
    first [] stand = tt
    first (v ∷ vs) stand = stands_so words name v stand.0

    go : (o : Option Row) → IfSome o (λ r. (bytes_eq r.id name ≡ true) × RowStands words r)
        → IfSome (option_and_then (λ r. slice_get r.values 0) o) (Stands (is_place name) (is_flag name) words name)
    go None is = tt
    go (Some r) is = first r.values (subst (λ (i : Text). Each (Origin words i) r.values) (same_text r.id name is.0) is.1)
