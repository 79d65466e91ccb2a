-- Rows that are added to a table, one by one or as a table of their own.
use Rattle.std.proofs.Common.{◌≡◌, ℕ, ◌+◌, Bool, true, false, List, [], ◌∷◌, ◌++◌, refl, sym, ap, ◌∙◌, rules, arith}
use Rattle.std.specs.Prelude.{◌||◌, map, nat_eq, nat_lt}
use Rattle.std.specs.List.{fold, flat_map}
use Rattle.std.specs.Cmp.{IsEquivalence}
use Rattle.std.specs.Cmp.Rules.{comparing}
use Rattle.std.proofs.lemmas.Bool.{or_parts}
use Rattle.std.proofs.lemmas.Bool.Decides.{nat_tests}
use Rattle.std.proofs.lemmas.List.{map-append}
use Rattle.std.proofs.lemmas.List.Sums.{fold-append}
use Rattle.rv_races.specs.Classes.{rank}
use Rattle.rv_tables.specs.HuntLaws.{AreApart, OriginsAreJoined, PiecesAreMerged, RacesAreApart, TableIsKept, TwoAreMerged}
use Rattle.rv_tables.specs.Origin.{joined_stretches, with_stretch}
use Rattle.rv_tables.specs.Rows.{added, has_race, joined, merged, table_of}
use Rattle.rv_tables.specs.declared.row.RaceRow.{RaceRow}
use Rattle.rv_collide.specs.Counts.{saturated}
use Rattle.rv_report.specs.Races.{same_key}
use Rattle.rv_report.specs.declared.key.Key.{Key}

abbrev Row : Type 0
Row = Key × RaceRow

same_key_equiv : IsEquivalence same_key
same_key_equiv = search (comparing, rules)

-- ---- three rows of a race

-- a row with another count
counted : RaceRow → ℕ → RaceRow
counted row n = record row { count = n }

saturated-twice : (a b c : ℕ) → saturated (saturated (a + b) + c) ≡ saturated (a + saturated (b + c))
saturated-twice a b c = omega arith

-- whether a row's class is stronger than another's
abbrev stronger : RaceRow → RaceRow → Bool
stronger later first = nat_lt (rank later.class) (rank first.class)

lt-trans : (a b c : ℕ) → nat_lt b a ≡ true → nat_lt c b ≡ true → nat_lt c a ≡ true
lt-trans a b c one other = grind (arith, nat_tests)

lt-false : (a b c : ℕ) → nat_lt b a ≡ false → nat_lt c b ≡ false → nat_lt c a ≡ false
lt-false a b c one other = grind (arith, nat_tests)

same_row : (x : RaceRow) (n m : ℕ) → n ≡ m → counted x n ≡ counted x m
same_row x n m is = ap (counted x) is

assoc-case : (x y z : RaceRow) (b c d : Bool) → stronger y x ≡ b → stronger z y ≡ c → stronger z x ≡ d → joined (joined x y) z ≡ joined x (joined y z)
unfolding counted
assoc-case x y z true true d is other third =
    let also : stronger z x ≡ true = lt-trans (rank x.class) (rank y.class) (rank z.class) is other in
    rw (is, other, also) (same_row z _ _ (saturated-twice x.count y.count z.count))
assoc-case x y z true false d is other third =
    rw (is, other, is) (same_row y _ _ (saturated-twice x.count y.count z.count))
assoc-case x y z false true true is other third =
    rw (is, other, third) (same_row z _ _ (saturated-twice x.count y.count z.count))
assoc-case x y z false true false is other third =
    rw (is, other, third) (same_row x _ _ (saturated-twice x.count y.count z.count))
assoc-case x y z false false d is other third =
    let also : stronger z x ≡ false = lt-false (rank x.class) (rank y.class) (rank z.class) is other in
    rw (is, other, also, is) (same_row x _ _ (saturated-twice x.count y.count z.count))

joined-assoc : (x y z : RaceRow) → joined (joined x y) z ≡ joined x (joined y z)
joined-assoc x y z = assoc-case x y z (stronger y x) (stronger z y) (stronger z x) refl refl refl

-- ---- two more rows

-- two rows of a race are added as one
twice-step : (e s : Row) (key : Key) (r : RaceRow) (es : List Row) (b : Bool) → same_key s.0 e.0 ≡ b → same_key key e.0 ≡ b → added (added es s) (key, r) ≡ added es (s.0, joined s.1 r) → added (added (e ∷ es) s) (key, r) ≡ added (e ∷ es) (s.0, joined s.1 r)
twice-step e s key r es true is also rest = rw (is, also) (ap (λ (row : RaceRow). (e.0, row) ∷ es) (joined-assoc e.1 s.1 r))
twice-step e s key r es false is also rest = rw (is, also) (ap (λ (rows : List Row). e ∷ rows) rest)

added-twice : (es : List Row) (s : Row) (key : Key) (r : RaceRow) → same_key key s.0 ≡ true → added (added es s) (key, r) ≡ added es (s.0, joined s.1 r)
added-twice [] s key r same = rw same refl
added-twice (e ∷ es) s key r same =
    let also : same_key key e.0 ≡ same_key s.0 e.0 = same_key_equiv.congr key s.0 e.0 same in
    twice-step e s key r es (same_key s.0 e.0) refl also (added-twice es s key r same)

-- rows of two races may be added in either order where the race of one has its row
swap-step : (e s r : Row) (es : List Row) (b c : Bool) → same_key s.0 e.0 ≡ b → same_key r.0 e.0 ≡ c → same_key s.0 r.0 ≡ false → (has_race r.0 es ≡ true → added (added es s) r ≡ added (added es r) s) → has_race r.0 (e ∷ es) ≡ true → added (added (e ∷ es) s) r ≡ added (added (e ∷ es) r) s
swap-step e s r es true true is also differ rest has = absurd (both_same (sym differ ∙ s_r))
  where
    both_same : false ≡ true → ⊥
    both_same h = cc

    s_r : same_key s.0 r.0 ≡ true
    s_r = same_key_equiv.congr s.0 e.0 r.0 is ∙ same_key_equiv.symm e.0 r.0 ∙ also
swap-step e s r es true false is also differ rest has = rw (is, also, is) refl
swap-step e s r es false true is also differ rest has = rw (is, also, is) refl
swap-step e s r es false false is also differ rest has =
    rw (is, also, is) (ap (λ (rows : List Row). e ∷ rows) (rest (rw also at has)))

no_rows : false ≡ true → ⊥
no_rows h = cc

added-swap : (es : List Row) (s r : Row) → same_key s.0 r.0 ≡ false → has_race r.0 es ≡ true → added (added es s) r ≡ added (added es r) s
added-swap [] s r differ has = absurd (no_rows has)
added-swap (e ∷ es) s r differ has =
    swap-step e s r es (same_key s.0 e.0) (same_key r.0 e.0) refl refl differ (added-swap es s r differ) has

-- ---- which races have a row

has-added-step : (e s : Row) (key : Key) (es : List Row) (b : Bool) → same_key s.0 e.0 ≡ b → has_race key (added es s) ≡ (has_race key es || same_key key s.0) → has_race key (added (e ∷ es) s) ≡ (has_race key (e ∷ es) || same_key key s.0)
has-added-step e s key es true is rest = rw is (by_key (same_key key e.0) (has_race key es) (same_key key s.0) key_same)
  where
    key_same : same_key key s.0 ≡ same_key key e.0
    key_same = same_key_equiv.symm key s.0 ∙ same_key_equiv.congr s.0 e.0 key is ∙ same_key_equiv.symm e.0 key

    by_key : (a b c : Bool) → c ≡ a → (a || b) ≡ ((a || b) || c)
    by_key true b c same = refl
    by_key false true c same = refl
    by_key false false c same = sym same
has-added-step e s key es false is rest =
    rw (is, rest) (or_again (same_key key e.0) (has_race key es) (same_key key s.0))
  where
    or_again : (a b c : Bool) → (a || (b || c)) ≡ ((a || b) || c)
    or_again true b c = refl
    or_again false b c = refl

has-added : (es : List Row) (s : Row) (key : Key) → has_race key (added es s) ≡ (has_race key es || same_key key s.0)
has-added [] s key = or_none (same_key key s.0)
  where
    or_none : (a : Bool) → (a || false) ≡ (false || a)
    or_none true = refl
    or_none false = refl
has-added (e ∷ es) s key = has-added-step e s key es (same_key s.0 e.0) refl (has-added es s key)

has_still : (es : List Row) (s : Row) (key : Key) → has_race key es ≡ true → has_race key (added es s) ≡ true
has_still es s key has = has-added es s key ∙ ap (λ b. b || same_key key s.0) has

or_true : (a b : Bool) → b ≡ true → (a || b) ≡ true
or_true true b is = refl
or_true false b is = is

has_now : (es : List Row) (s : Row) (key : Key) → same_key key s.0 ≡ true → has_race key (added es s) ≡ true
has_now es s key same = has-added es s key ∙ or_true (has_race key es) (same_key key s.0) same

-- ---- the races of a table are different

apart-step : (e s : Row) (es : List Row) (b : Bool) → same_key s.0 e.0 ≡ b → AreApart (e ∷ es) → AreApart (added es s) → AreApart (added (e ∷ es) s)
apart-step e s es true is apart rest = rw is apart
apart-step e s es false is apart rest =
    let differ : same_key e.0 s.0 ≡ false = same_key_equiv.symm e.0 s.0 ∙ is in
    let none : has_race e.0 (added es s) ≡ false = has-added es s e.0 ∙ rw (apart.0, differ) refl in
    rw is (none, rest)

apart-added : (es : List Row) (s : Row) → AreApart es → AreApart (added es s)
apart-added [] s apart = (refl, tt)
apart-added (e ∷ es) s apart = apart-step e s es (same_key s.0 e.0) refl apart (apart-added es s apart.1)

apart_from : (more es : List Row) → AreApart es → AreApart (fold added es more)
apart_from [] es apart = apart
apart_from (row ∷ more) es apart = apart_from more (added es row) (apart-added es row apart)

pub races_apart : RacesAreApart
unfolding table_of
races_apart rows = apart_from rows [] tt

-- ---- a row more, before or after the rows of a table

-- a row whose race is none of these, and has a row, may go before them
past : (es table : List Row) (r : Row) → has_race r.0 table ≡ true → has_race r.0 es ≡ false → added (fold added table es) r ≡ fold added (added table r) es
past [] table r has none = refl
past (e ∷ es) table r has none =
    let both = or_parts (same_key r.0 e.0) (has_race r.0 es) none in
    let differ : same_key e.0 r.0 ≡ false = same_key_equiv.symm e.0 r.0 ∙ both.0 in
    past es (added table e) r (has_still table e r.0 has) both.1
    ∙ ap (λ (rows : List Row). fold added rows es) (added-swap table e r differ has)

none_alike : (key other : Key) (es : List Row) → same_key key other ≡ true → has_race other es ≡ false → has_race key es ≡ false
none_alike key other [] same none = refl
none_alike key other (e ∷ es) same none =
    let both = or_parts (same_key other e.0) (has_race other es) none in
    let differ : same_key key e.0 ≡ false = same_key_equiv.congr key other e.0 same ∙ both.0 in
    rw differ (none_alike key other es same both.1)

push-step : (table es : List Row) (s r : Row) (b : Bool) → same_key r.0 s.0 ≡ b → AreApart (s ∷ es) → fold added (added table s) (added es r) ≡ added (fold added (added table s) es) r → fold added table (added (s ∷ es) r) ≡ added (fold added table (s ∷ es)) r
push-step table es s r true is apart rest =
    rw is
    (ap (λ (rows : List Row). fold added rows es) (sym (added-twice table s r.0 r.1 is))
    ∙ sym (past es (added table s) r (has_now table s r.0 is) (none_alike r.0 s.0 es is apart.0)))
push-step table es s r false is apart rest = rw is rest

push : (es table : List Row) (r : Row) → AreApart es → fold added table (added es r) ≡ added (fold added table es) r
push [] table r apart = refl
push (s ∷ es) table r apart = push-step table es s r (same_key r.0 s.0) refl apart (push es (added table s) r apart.1)

-- rows that were made a table before are added as they are
fold_table : (rows es table : List Row) → AreApart es → fold added table (fold added es rows) ≡ fold added (fold added table es) rows
fold_table [] es table apart = refl
fold_table (r ∷ rows) es table apart =
    fold_table rows (added es r) table (apart-added es r apart)
    ∙ ap (λ (more : List Row). fold added more rows) (push es table r apart)

pub merged-table : (table rows : List Row) → merged table (table_of rows) ≡ fold added table rows
unfolding merged table_of
merged-table table rows = fold_table rows [] table tt

pub two_merged : TwoAreMerged
unfolding merged table_of
two_merged earlier later = merged-table (fold added [] earlier) later ∙ sym (fold-append added [] earlier later)

pub table_kept : TableIsKept
unfolding merged table_of
table_kept rows = merged-table [] rows

pieces_from : (pieces : List (List Row)) (table : List Row) → fold merged table (map table_of pieces) ≡ fold added table (flat_map (λ piece. piece) pieces)
pieces_from [] table = refl
pieces_from (piece ∷ pieces) table =
    ap (λ (rows : List Row). fold merged rows (map table_of pieces)) (merged-table table piece)
    ∙ pieces_from pieces (fold added table piece)
    ∙ sym (fold-append added table piece (flat_map (λ p. p) pieces))

pub pieces_merged : PiecesAreMerged
unfolding table_of
pieces_merged pieces = pieces_from pieces []

-- the rows of a list that are added when one more of them is
pub added_next : {A : Type 0} (g : A → Row) (table rows : List Row) (xs : List A) (x : A) → rows ≡ fold added table (map g xs) → added rows (g x) ≡ fold added table (map g (xs ++ x ∷ []))
added_next g table rows xs x before =
    ap (λ (es : List Row). added es (g x)) before
    ∙ sym (ap (fold added table) (map-append g xs (x ∷ [])) ∙ fold-append added table (map g xs) (g x ∷ []))

-- ---- what tables are of

nat_same : (n : ℕ) → nat_eq n n ≡ true
nat_same n = grind (arith, nat_tests)

pub origins_joined : OriginsAreJoined
unfolding joined_stretches with_stretch
origins_joined origin first middle end = rw (nat_same middle) refl
