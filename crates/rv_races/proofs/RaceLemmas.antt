-- The races of reports, report by report; each race is told by an ending of the run.
use Rattle.std.proofs.Common.{◌≡◌, ℕ, map, get_or, zero, suc, ◌+◌, ◌<◌, Bool, true, false, List, [], ◌∷◌, ◌++◌, Option, Some, None, refl, ap, sym, subst, ◌∙◌, arith, take}
use Rattle.std.specs.Prelude.{filter_map, length, nat_lt, option_map, position, slice_get, slice_set}
use Rattle.std.specs.List.{fold, position_or_len, range_with_len}
use Rattle.std.specs.Option.{option_to_list}
use Rattle.std.proofs.lemmas.Bool.Decides.{nat_tests}
use Rattle.std.proofs.lemmas.List.{take_more}
use Rattle.std.proofs.lemmas.List.Elements.{filter_map-append}
use Rattle.std.proofs.lemmas.List.FromFn.{map-range_with_len_more}
use Rattle.std.proofs.lemmas.List.Sums.{fold-append}
use Rattle.std.proofs.lemmas.Option.{slice_get-map}
use Rattle.rv_collide.specs.Verdict.{endings}
use Rattle.rv_collide.specs.declared.ending.Ending.{Ending}
use Rattle.rv_elf.specs.Contents.{Contents}
use Rattle.rv_races.specs.Classes.{rank}
use Rattle.rv_races.specs.Races.{AreTold, Run, is_of, judged_endings, races, races_of, raised, report_at, report_of, reports, reports_of, told_by, with_report}
use Rattle.rv_races.specs.Judged.{judged}
use Rattle.rv_races.specs.declared.judged.Judged.{Judged}
use Rattle.rv_races.specs.declared.races.Race.{Race}
use Rattle.rv_races.specs.declared.races.Report.{Report}
use Rattle.rv_report.specs.Races.{key_of}
use Rattle.rv_report.specs.declared.key.Key.{Key}

-- ---- reports, one ending more

mapped_same : (xs : List ℕ) → map (λ (k : ℕ). k) xs ≡ xs
mapped_same [] = refl
mapped_same (x ∷ xs) = ap (λ (ys : List ℕ). x ∷ ys) (mapped_same xs)

range_from_0 : (n : ℕ) → range_with_len 0 (n + 1) ≡ range_with_len 0 n ++ n ∷ []
range_from_0 n =
    sym (mapped_same (range_with_len 0 (n + 1))) ∙ map-range_with_len_more (λ (k : ℕ). k) 0 n n (omega arith)
    ∙ ap (λ (xs : List ℕ). xs ++ n ∷ []) (mapped_same (range_with_len 0 n))

one_report : (image : Contents) (ranges : List (ℕ × ℕ)) (ended : List Judged) (n : ℕ) (o : Option Report) → report_at image ranges ended n ≡ o → filter_map (report_at image ranges ended) (n ∷ []) ≡ option_to_list o
one_report image ranges ended n None is = rw is refl
one_report image ranges ended n (Some r) is = rw is refl

report_of_ending : (image : Contents) (ranges : List (ℕ × ℕ)) (ended : List Judged) (n : ℕ) (told : Judged) → slice_get ended n ≡ Some told → report_at image ranges ended n ≡ report_of image ranges n told
report_of_ending image ranges ended n told there = rw there refl

pub reports_more : (image : Contents) (ranges : List (ℕ × ℕ)) (ended : List Judged) (n : ℕ) (o : Option Report) → o ≡ report_at image ranges ended n → reports_of image ranges ended (n + 1) ≡ reports_of image ranges ended n ++ option_to_list o
unfolding reports_of
reports_more image ranges ended n o is =
    ap (filter_map (report_at image ranges ended)) (range_from_0 n)
    ∙ filter_map-append (report_at image ranges ended) (range_with_len 0 n) (n ∷ [])
    ∙ ap (λ (rs : List Report). filter_map (report_at image ranges ended) (range_with_len 0 n) ++ rs) (one_report image ranges ended n o (sym is))

-- ---- races, one report more

races_more : (reports : List Report) (report : Report) → races_of (reports ++ report ∷ []) ≡ with_report (races_of reports) report
unfolding races_of
races_more reports report = fold-append with_report [] reports (report ∷ [])

-- the races of the reports so far when one more is passed
pub races_passed : (races : List Race) (reports : List Report) (i : ℕ) (d : Report) → i < length reports → races ≡ races_of (take i reports) → with_report races (get_or reports i d) ≡ races_of (take (i + 1) reports)
races_passed races reports i d below before =
    ap (λ (rs : List Race). with_report rs (get_or reports i d)) before
    ∙ sym (ap races_of (take_more reports i d below) ∙ races_more (take i reports) (get_or reports i d))

abbrev pub new_race : Report → Race
new_race report = record { reports = 1; told = report }

-- ---- a report of a race that there is

abbrev place_of : Report → List Race → ℕ
place_of report races = position_or_len (is_of report) races

false_true : false ≡ true → ⊥
false_true h = cc

none_below : (n : ℕ) → nat_lt 0 (suc n) ≡ false → ⊥
none_below n is = grind (arith, nat_tests)

suc_is : (p : ℕ) → 1 + p ≡ suc p
suc_is p = omega arith

less_case : (p n : ℕ) (b c : Bool) → nat_lt p n ≡ b → nat_lt (1 + p) (suc n) ≡ c → b ≡ c
less_case p n true true is other = refl
less_case p n false false is other = refl
less_case p n true false is other = let bad : ⊥ = grind (arith, nat_tests) in absurd bad
less_case p n false true is other = let bad : ⊥ = grind (arith, nat_tests) in absurd bad

less : (p n : ℕ) (c : Bool) → nat_lt (1 + p) (suc n) ≡ c → nat_lt p n ≡ c
less p n c is = less_case p n (nat_lt p n) c refl is

found_step : (report : Report) (race : Race) (others : List Race) (d : Race) (b : Bool) → is_of report race ≡ b → (nat_lt (place_of report others) (length others) ≡ true → with_report others report ≡ slice_set others (place_of report others) (raised (get_or others (place_of report others) d) report))
    → nat_lt (place_of report (race ∷ others)) (length (race ∷ others)) ≡ true → with_report (race ∷ others) report ≡ slice_set (race ∷ others) (place_of report (race ∷ others)) (raised (get_or (race ∷ others) (place_of report (race ∷ others)) d) report)
found_step report race others d true same rest is = rw same refl
found_step report race others d false same rest is =
    rw same (subst (λ (p : ℕ). race ∷ with_report others report ≡ slice_set (race ∷ others) p (raised (get_or (race ∷ others) p d) report))
    (sym (suc_is (place_of report others))) (ap (λ (rs : List Race). race ∷ rs) (rest (less (place_of report others) (length others) true (rw same at is)))))

found_at : (report : Report) (races : List Race) (d : Race) → nat_lt (place_of report races) (length races) ≡ true → with_report races report ≡ slice_set races (place_of report races) (raised (get_or races (place_of report races) d) report)
found_at report [] d is = absurd (false_true is)
found_at report (race ∷ others) d is = found_step report race others d (is_of report race) refl (found_at report others d) is

lost_step : (report : Report) (race : Race) (others : List Race) (b : Bool) → is_of report race ≡ b → (nat_lt (place_of report others) (length others) ≡ false → with_report others report ≡ others ++ new_race report ∷ [])
    → nat_lt (place_of report (race ∷ others)) (length (race ∷ others)) ≡ false → with_report (race ∷ others) report ≡ race ∷ others ++ new_race report ∷ []
lost_step report race others true same rest is = absurd (none_below (length others) (rw same at is))
lost_step report race others false same rest is =
    rw same (ap (λ (rs : List Race). race ∷ rs) (rest (less (place_of report others) (length others) false (rw same at is))))

lost_at : (report : Report) (races : List Race) → nat_lt (place_of report races) (length races) ≡ false → with_report races report ≡ races ++ new_race report ∷ []
lost_at report [] is = refl
lost_at report (race ∷ others) is = lost_step report race others (is_of report race) refl (lost_at report others) is

-- a report of a race that there is
pub raised_there : (report : Report) (races : List Race) (place : ℕ) (d : Race) → position (is_of report) races ≡ Some place → with_report races report ≡ slice_set races place (raised (get_or races place d) report)
raised_there report races place d is = by_test (nat_lt (position_or_len (is_of report) races) (length races)) refl
  where
    none_some : None ≡ Some place → ⊥
    none_some h = cc

    some_same : (x y : ℕ) → Some x ≡ Some y → x ≡ y
    some_same x y h = cc

    by_test : (b : Bool) → nat_lt (position_or_len (is_of report) races) (length races) ≡ b → with_report races report ≡ slice_set races place (raised (get_or races place d) report)
    by_test true below =
        subst (λ (p : ℕ). with_report races report ≡ slice_set races p (raised (get_or races p d) report))
        (some_same (position_or_len (is_of report) races) place (rw below at is)) (found_at report races d below)
    by_test false below = absurd (none_some (rw below at is))

-- and of one that there is not
pub raised_last : (report : Report) (races : List Race) → position (is_of report) races ≡ None → with_report races report ≡ races ++ new_race report ∷ []
raised_last report races is = by_test (nat_lt (position_or_len (is_of report) races) (length races)) refl
  where
    some_none : Some (position_or_len (is_of report) races) ≡ None → ⊥
    some_none h = cc

    by_test : (b : Bool) → nat_lt (position_or_len (is_of report) races) (length races) ≡ b → with_report races report ≡ races ++ new_race report ∷ []
    by_test true below = absurd (some_none (rw below at is))
    by_test false below = lost_at report races below

-- ---- each race is told by an ending

abbrev IsTold : List Ending → Report → Type 0
IsTold ended r = slice_get ended r.number ≡ Some r.ending

abbrev AllTold : List Ending → List Report → Type 0
AllTold ended [] = Unit {0}
AllTold ended (r ∷ rs) = IsTold ended r × AllTold ended rs

abbrev AllRaces : List Ending → List Race → Type 0
AllRaces ended [] = Unit {0}
AllRaces ended (r ∷ rs) = IsTold ended r.told × AllRaces ended rs

-- the endings of what is judged
abbrev endings_of : List Judged → List Ending
endings_of ended = map (λ (one : Judged). one.ending) ended

ending_there : (ended : List Judged) (n : ℕ) (one : Judged) → slice_get ended n ≡ Some one → slice_get (endings_of ended) n ≡ Some one.ending
ending_there ended n one there = slice_get-map (λ (one : Judged). one.ending) ended n ∙ ap (option_map (λ (one : Judged). one.ending)) there

told_report : (image : Contents) (ranges : List (ℕ × ℕ)) (ended : List Judged) (n : ℕ) (told : Judged) (k : Option Key) → key_of told.ending.access told.ending.verdict ≡ k → slice_get ended n ≡ Some told → (rs : List Report) → AllTold (endings_of ended) rs → AllTold (endings_of ended) (option_to_list (report_of image ranges n told) ++ rs)
told_report image ranges ended n told None is there rs all = rw is all
told_report image ranges ended n told (Some key) is there rs all = rw is (ending_there ended n told there, all)

told_at : (image : Contents) (ranges : List (ℕ × ℕ)) (ended : List Judged) (n : ℕ) (o : Option Judged) → slice_get ended n ≡ o → (rs : List Report) → AllTold (endings_of ended) rs → AllTold (endings_of ended) (option_to_list (report_at image ranges ended n) ++ rs)
told_at image ranges ended n None is rs all = rw is all
told_at image ranges ended n (Some told) is rs all =
    rw (report_of_ending image ranges ended n told is) (told_report image ranges ended n told (key_of told.ending.access told.ending.verdict) refl is rs all)

cons_found : (image : Contents) (ranges : List (ℕ × ℕ)) (ended : List Judged) (n : ℕ) (ns : List ℕ) (o : Option Report) → report_at image ranges ended n ≡ o → filter_map (report_at image ranges ended) (n ∷ ns) ≡ option_to_list o ++ filter_map (report_at image ranges ended) ns
cons_found image ranges ended n ns None is = rw is refl
cons_found image ranges ended n ns (Some r) is = rw is refl

told_reports : (image : Contents) (ranges : List (ℕ × ℕ)) (ended : List Judged) (ns : List ℕ) → AllTold (endings_of ended) (filter_map (report_at image ranges ended) ns)
told_reports image ranges ended [] = tt
told_reports image ranges ended (n ∷ ns) =
    subst (AllTold (endings_of ended)) (sym (cons_found image ranges ended n ns (report_at image ranges ended n) refl))
    (told_at image ranges ended n (slice_get ended n) refl (filter_map (report_at image ranges ended) ns) (told_reports image ranges ended ns))

told_later : (ended : List Ending) (one later : Report) (b : Bool) → nat_lt (rank later.class) (rank one.class) ≡ b → IsTold ended one → IsTold ended later → IsTold ended (told_by one later)
told_later ended one later true is a b = rw is b
told_later ended one later false is a b = rw is a

told_more_step : (ended : List Ending) (report : Report) (race : Race) (others : List Race) (b : Bool) → is_of report race ≡ b → IsTold ended report → AllRaces ended (race ∷ others) → AllRaces ended (with_report others report) → AllRaces ended (with_report (race ∷ others) report)
told_more_step ended report race others true is told all rest =
    rw is (told_later ended race.told report (nat_lt (rank report.class) (rank race.told.class)) refl all.0 told, all.1)
told_more_step ended report race others false is told all rest = rw is (all.0, rest)

told_more : (ended : List Ending) (report : Report) (races : List Race) → IsTold ended report → AllRaces ended races → AllRaces ended (with_report races report)
told_more ended report [] told all = (told, tt)
told_more ended report (race ∷ others) told all =
    told_more_step ended report race others (is_of report race) refl told all (told_more ended report others told all.1)

told_fold : (ended : List Ending) (reports : List Report) (races : List Race) → AllTold ended reports → AllRaces ended races → AllRaces ended (fold with_report races reports)
told_fold ended [] races told all = all
told_fold ended (r ∷ rs) races told all = told_fold ended rs (with_report races r) told.1 (told_more ended r races told.0 all)

told_there : (ended : List Ending) (races : List Race) → AllRaces ended races → (place : ℕ) (race : Race) → slice_get races place ≡ Some race → slice_get ended race.told.number ≡ Some race.told.ending
told_there ended [] all place race there = absurd (none_some there)
  where
    none_some : None ≡ Some race → ⊥
    none_some h = cc
told_there ended (r ∷ rs) all zero race there = subst (λ (x : Race). IsTold ended x.told) (some_same r race there) all.0
  where
    some_same : (x y : Race) → Some x ≡ Some y → x ≡ y
    some_same x y h = cc
told_there ended (r ∷ rs) all (suc place) race there = told_there ended rs all.1 place race there

judged_ending : (run : Run) (told : Ending) → (judged run told).ending ≡ told
unfolding judged
judged_ending run told = refl

all_endings : (run : Run) (told : List Ending) → endings_of (map (judged run) told) ≡ told
all_endings run [] = refl
all_endings run (e ∷ es) = rw (judged_ending run e) (ap (λ (xs : List Ending). e ∷ xs) (all_endings run es))

told_endings : (run : Run) (told : List Ending) → told ≡ endings run.start run.entries → endings_of (judged_endings run) ≡ told
unfolding judged_endings
told_endings run told is = ap (λ (es : List Ending). endings_of (map (judged run) es)) (sym is) ∙ all_endings run told

pub told_races : (run : Run) (ranges : List (ℕ × ℕ)) → AreTold run (races run ranges)
unfolding races races_of reports reports_of
told_races run ranges =
    let ended = judged_endings run in
    let reports = filter_map (report_at run.image ranges ended) (range_with_len 0 (length ended)) in
    subst (λ (told : List Ending). (place : ℕ) (race : Race) → slice_get (fold with_report [] reports) place ≡ Some race → slice_get told race.told.number ≡ Some race.told.ending)
    (told_endings run (endings run.start run.entries) refl)
    (told_there (endings_of ended) (fold with_report [] reports) (told_fold (endings_of ended) reports [] (told_reports run.image ranges ended (range_with_len 0 (length ended))) tt))
