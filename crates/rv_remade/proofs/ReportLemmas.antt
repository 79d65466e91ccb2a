-- A report among the endings of a run is the ending of its number.
use Rattle.std.proofs.Common.{◌≡◌, ℕ, Bool, true, false, List, [], ◌∷◌, Option, Some, None, map, refl, ap, subst, ◌∙◌}
use Rattle.std.specs.Prelude.{All, Contains, filter_map, find, length, option_map, slice_get}
use Rattle.std.proofs.lemmas.List.Elements.{All-cons, All-get_or, All-nil}
use Rattle.std.specs.List.{range_with_len}
use Rattle.std.proofs.lemmas.Option.{slice_get-map}
use Rattle.rv_collide.specs.Verdict.{endings}
use Rattle.rv_collide.specs.declared.ending.Ending.{Ending}
use Rattle.rv_elf.specs.Contents.{Contents}
use Rattle.rv_explain.specs.Judged.{judged}
use Rattle.rv_explain.specs.Races.{Run, judged_endings, report_at, report_of, reports, reports_of}
use Rattle.rv_races.specs.declared.judged.Judged.{Judged}
use Rattle.rv_races.specs.declared.races.Report.{Report}
use Rattle.rv_report.specs.Races.{key_of}
use Rattle.rv_report.specs.declared.key.Key.{Key}

-- the endings of what is judged
abbrev endings_of : List Judged → List Ending
endings_of ended = map (λ (one : Judged). one.ending) ended

abbrev IsEnding : List Judged → Report → Type 0
IsEnding ended r = slice_get (endings_of ended) r.number ≡ Some r.ending

ending_there : (ended : List Judged) (n : ℕ) (one : Judged) → slice_get ended n ≡ Some one → slice_get (endings_of ended) n ≡ Some one.ending
ending_there ended n one there = slice_get-map (λ (one : Judged). one.ending) ended n ∙ ap (option_map (λ (one : Judged). one.ending)) there

same : {X : Type 0} (x y : X) → Some x ≡ Some y → x ≡ y
same x y h = cc

of_key : (image : Contents) (ranges : List (ℕ × ℕ)) (ended : List Judged) (n : ℕ) (told : Judged) (k : Option Key) (r : Report) → key_of told.ending.access told.ending.verdict ≡ k → slice_get ended n ≡ Some told → report_of image ranges n told ≡ Some r → IsEnding ended r
of_key image ranges ended n told None r is there made = (let no : None ≡ Some r = rw is at made in cc)
of_key image ranges ended n told (Some key) r is there made = subst (IsEnding ended) (same _ r (rw is at made)) (ending_there ended n told there)

of_ending : (image : Contents) (ranges : List (ℕ × ℕ)) (ended : List Judged) (n : ℕ) (o : Option Judged) (r : Report) → slice_get ended n ≡ o → report_at image ranges ended n ≡ Some r → IsEnding ended r
of_ending image ranges ended n None r is made = (let no : None ≡ Some r = rw is at made in cc)
of_ending image ranges ended n (Some told) r is made =
    of_key image ranges ended n told (key_of told.ending.access told.ending.verdict) r refl is (rw is at made)

passed_on : (p : Report → Bool) (image : Contents) (ranges : List (ℕ × ℕ)) (ended : List Judged) (n : ℕ) (ns : List ℕ) (o : Option Report) (r : Report) → report_at image ranges ended n ≡ o
    → (find p (filter_map (report_at image ranges ended) ns) ≡ Some r → IsEnding ended r) → find p (filter_map (report_at image ranges ended) (n ∷ ns)) ≡ Some r → IsEnding ended r
passed_on p image ranges ended n ns None r is rest found = rest (rw is at found)
passed_on p image ranges ended n ns (Some first) r is rest found = by_test (p first) refl
  where
    by_test : (b : Bool) → p first ≡ b → IsEnding ended r
    by_test true passes =
        of_ending image ranges ended n (slice_get ended n) r refl (is ∙ (rw (is, passes) at found))
    by_test false passes = rest (rw (is, passes) at found)

found_among : (p : Report → Bool) (image : Contents) (ranges : List (ℕ × ℕ)) (ended : List Judged) (ns : List ℕ) (r : Report) → find p (filter_map (report_at image ranges ended) ns) ≡ Some r → IsEnding ended r
found_among p image ranges ended [] r found = (let no : None ≡ Some r = found in cc)
found_among p image ranges ended (n ∷ ns) r found =
    passed_on p image ranges ended n ns (report_at image ranges ended n) r refl (found_among p image ranges ended ns r) found

kept_all : (image : Contents) (ranges : List (ℕ × ℕ)) (ended : List Judged) (n : ℕ) (ns : List ℕ) (o : Option Report) → report_at image ranges ended n ≡ o → All (IsEnding ended) (filter_map (report_at image ranges ended) ns)
    → All (IsEnding ended) (filter_map (report_at image ranges ended) (n ∷ ns))
kept_all image ranges ended n ns None is rest = rw is rest
kept_all image ranges ended n ns (Some r) is rest = rw is (All-cons (IsEnding ended) r (filter_map (report_at image ranges ended) ns) (of_ending image ranges ended n (slice_get ended n) r refl is) rest)

all_reports : (image : Contents) (ranges : List (ℕ × ℕ)) (ended : List Judged) (ns : List ℕ) → All (IsEnding ended) (filter_map (report_at image ranges ended) ns)
all_reports image ranges ended [] = All-nil (IsEnding ended)
all_reports image ranges ended (n ∷ ns) = kept_all image ranges ended n ns (report_at image ranges ended n) refl (all_reports image ranges ended ns)

judged_ending : (run : Run) (told : Ending) → (judged run told).ending ≡ told
unfolding judged
judged_ending run told = refl

all_endings : (run : Run) (told : List Ending) → endings_of (map (judged run) told) ≡ told
all_endings run [] = refl
all_endings run (e ∷ es) = rw (judged_ending run e) (ap (λ (xs : List Ending). e ∷ xs) (all_endings run es))

of_run : (run : Run) (r : Report) → IsEnding (judged_endings run) r → slice_get (endings run.start run.entries) r.number ≡ Some r.ending
unfolding judged_endings
of_run run r is = subst (λ (told : List Ending). slice_get told r.number ≡ Some r.ending) (all_endings run (endings run.start run.entries)) is

pub found_is_ending : (p : Report → Bool) (run : Run) (ranges : List (ℕ × ℕ)) (r : Report) → find p (reports run ranges) ≡ Some r → slice_get (endings run.start run.entries) r.number ≡ Some r.ending
unfolding reports reports_of
found_is_ending p run ranges r found =
    of_run run r (found_among p run.image ranges (judged_endings run) (range_with_len 0 (length (judged_endings run))) r found)

pub report_is_ending : (run : Run) (ranges : List (ℕ × ℕ)) (r : Report) → Contains (reports run ranges) r → slice_get (endings run.start run.entries) r.number ≡ Some r.ending
unfolding reports reports_of
report_is_ending run ranges r (k, below, same) =
    of_run run r (subst (IsEnding (judged_endings run)) same (All-get_or (IsEnding (judged_endings run)) (reports_of run.image ranges (judged_endings run) (length (judged_endings run))) k r below
    (all_reports run.image ranges (judged_endings run) (range_with_len 0 (length (judged_endings run))))))
