-- A hunt has one result, and those of its pieces make it.
use Rattle.std.proofs.Common.{◌≡◌, ℕ, zero, suc, ◌+◌, ◌-◌, ◌<◌, ◌≤◌, ◌^◌, ◌⊎◌, inl, inr, true, false, List, [], ◌∷◌, ◌++◌, length, length-append, filter_map, map, take, Bool, Option, Some, refl, sym, ap, subst, ◌∙◌, arith, append_assoc}
use Rattle.std.specs.Prelude.{is_some, slice_get, nat_le, nat_lt, ◌==◌}
use Rattle.std.specs.List.{fold}
use Rattle.std.proofs.lemmas.Bool.{cases_lt}
use Rattle.std.proofs.lemmas.Bool.Decides.{nat_tests}
use Rattle.std.proofs.lemmas.List.{length-take-le, take_all, take_more}
use Rattle.std.proofs.lemmas.Option.{get_or_from_slice_get}
use Rattle.rv_collide.specs.Counts.{saturated}
use Rattle.rv_collide.specs.Numbers.{numbers}
use Rattle.rv_collide.specs.Plan.{Numbers}
use Rattle.rv_collide.specs.Stored.{setting_of, stored}
use Rattle.rv_collide.specs.Verdict.{endings}
use Rattle.rv_collide.specs.declared.collider.Finished.{Finished}
use Rattle.rv_collide.specs.declared.entry.Entry.{Entry}
use Rattle.rv_drive.specs.DriverLaws.{OneRunAtMost}
use Rattle.rv_drive.specs.Sampling.{sampling_of}
use Rattle.rv_hart.specs.State.{State}
use Rattle.rv_search.proofs.HuntLemmas.{how_many, same_hunted, seen_next, there_is}
use Rattle.rv_tables.specs.HuntLaws.{TwoAreMerged}
use Rattle.rv_tables.specs.Changed as changed
use Rattle.rv_search.specs.Hunt.{Hunt, IsSampledRun}
use Rattle.rv_search.specs.Hunted.{AreRuns, IsHunted, is_due, rows_from, rows_of, seen_in, summed}
use Rattle.rv_search.specs.HuntedLaws.{OneResult, PiecesAreWhole, piece}
use Rattle.rv_search.specs.KeptRun.{Gone, IsOfRun, begin, gone_of, reports_of_part, reports_of_parts, reports_of_sampled}
use Rattle.rv_tables.specs.Near as near
use Rattle.rv_tables.specs.Orders as orders
use Rattle.rv_tables.specs.Rows as rows
use Rattle.rv_search.specs.declared.hunted.Hunted.{Hunted}
use Rattle.rv_search.specs.declared.kept_run.KeptRun.{KeptRun}
use Rattle.rv_tables.specs.declared.row.RaceRow.{RaceRow}
use Rattle.rv_search.specs.internal.Lots.{with_run}
use Rattle.rv_report.specs.declared.key.Key.{Key}
use Rattle.rv_plans.specs.Plans.{is_sampled, plan_of}
use Rattle.rv_tables.specs.declared.row.PartReport.{PartReport}
use Rattle.rv_plans.specs.declared.limit.Limit.{Limit}
use Rattle.rv_plans.specs.declared.limit.Limit.TheVariants.{Runs}
use Rattle.rv_walk.specs.declared.probes.Part.{Part}
use Rattle.rv_plans.specs.declared.plans.Mix.{Mix}
use Rattle.rv_plans.specs.declared.plans.Mix.TheVariants.{Sampled}
use Rattle.rv_search.specs.Summary.{IsSampledSummary, armed_in, counts_of, ends, paused_at}
use Rattle.rv_search.specs.Tally.{Tally, added, all_ended, exits, longest_with, one_if, pauses_in, run_end, sum, traps, widest_after, with_addresses}
use Rattle.rv_search.specs.declared.tally.counts.Counts.{Counts}
use Rattle.rv_search.specs.declared.end.End.{End}
use Rattle.rv_search.specs.declared.summary.Summary.{Summary}

-- ---- what is kept of a sampled run, but for how its lists lie in memory

-- a run added by what is told of it
added_by : Tally → ℕ → List End → List ℕ → List ℕ → Counts → Counts → ℕ → Option Bool → ℕ → Tally
added_by t most ends armed paused counts sampled probes walk tried = record {
  runs = saturated (t.runs + 1);
  walks = saturated (t.walks + one_if (is_some walk));
  probes = saturated (t.probes + probes);
  ended = all_ended t.ended ends;
  armed = with_addresses t.armed armed;
  paused = with_addresses t.paused paused;
  counts = sum t.counts counts;
  sampled = sum t.sampled sampled;
  each_stopped = saturated (t.each_stopped + one_if (traps ends == length ends));
  longest = longest_with t.longest most (run_end (exits ends) (traps ends) (length ends) (saturated (pauses_in counts)));
  widest = widest_after t.widest (length ends) walk;
  tried = saturated (t.tried + tried);
}

added_is : (t : Tally) (s : Summary) → added t s ≡ added_by t s.most_steps s.ends.items s.armed.items s.paused.items s.counts s.sampled s.probes s.walk s.tried
unfolding added added_by
added_is t s = refl

same_parts : (t : Tally) {m m' : ℕ} {e e' : List End} {a a' p p' : List ℕ} {c c' d d' : Counts} {n n' : ℕ} {w w' : Option Bool} {o o' : ℕ} → m ≡ m' → e ≡ e' → a ≡ a' → p ≡ p' → c ≡ c' → d ≡ d' → n ≡ n' → w ≡ w' → o ≡ o' → added_by t m e a p c d n w o ≡ added_by t m' e' a' p' c' d' n' w' o'
same_parts t most ends armed paused counts sampled probes walk tried = cc

-- two runs that leave the same
record Alike (one other : Finished) : Type 0 where
  plan : numbers one.plan ≡ numbers other.plan
  entries : one.entries.items ≡ other.entries.items
  endings : one.endings.items ≡ other.endings.items

alike_runs : OneRunAtMost → (hunt : Hunt) (run : ℕ) (one other : Finished) → IsSampledRun hunt run one → IsSampledRun hunt run other → Alike one other
alike_runs once hunt run one other a b =
    let setting = setting_of (stored hunt.source.image (plan_of hunt.given run) []) in
    let entries = once setting (sampling_of hunt.source.sites hunt.source.seed run) one.entries.items other.entries.items a.drawn b.drawn in
    record {
      plan = a.plan_is ∙ sym b.plan_is;
      entries = entries;
      endings = a.endings_are ∙ ap (endings setting.start) entries ∙ sym b.endings_are;
    }

same_counts : (one other : Finished) → Alike one other → counts_of one.entries.items one.endings.items ≡ counts_of other.entries.items other.endings.items
same_counts one other same =
    ap (λ (es : List Entry). counts_of es one.endings.items) same.entries ∙ ap (counts_of other.entries.items) same.endings

same_added : (t : Tally) (start : State) (left right : Finished) (one other : Summary) → Alike left right → IsSampledSummary start left one → IsSampledSummary start right other → added t one ≡ added t other
same_added t start left right one other same a b =
    let counts = a.counts_are ∙ same_counts left right same ∙ sym b.counts_are in
    added_is t one
    ∙ same_parts t (a.most_steps ∙ ap (λ (n : Numbers). n.steps) same.plan ∙ sym b.most_steps)
    (a.ends_are ∙ ap (ends start) same.entries ∙ sym b.ends_are)
    (a.armed_are ∙ ap armed_in same.entries ∙ sym b.armed_are)
    (a.paused_are ∙ ap (map paused_at) same.endings ∙ sym b.paused_are)
    counts (a.sampled_are ∙ counts ∙ sym b.sampled_are) (a.probes_are ∙ sym b.probes_are) (a.walk_is ∙ sym b.walk_is) (a.tried_is ∙ sym b.tried_is)
    ∙ sym (added_is t other)

same_run : OneRunAtMost → (hunt : Hunt) (hunted : Hunted) (run : ℕ) (one other : KeptRun) → hunt.given.mix ≡ Sampled → IsOfRun hunt run one → IsOfRun hunt run other → with_run hunted run one ≡ with_run hunted run other
unfolding with_run
same_run once hunt hunted run one other sampled a b =
    let is = ap (λ (mix : Mix). is_sampled mix run) sampled in
    let x = a.sampled is in
    let y = b.sampled is in
    let same = alike_runs once hunt run x.left y.left x.is_run y.is_run in
    let reported = x.reports_are ∙ ap (λ (es : List Entry). reports_of_sampled hunt (begin hunt run) es x.left.endings.items) same.entries ∙ ap (reports_of_sampled hunt (begin hunt run) y.left.entries.items) same.endings ∙ sym y.reports_are in
    same_hunted (same_added hunted.tally _ x.left y.left one.summary other.summary same x.summary y.summary)
    (ap (λ reports. fold rows.added hunted.table (map (rows.row_of run) reports)) reported)
    (ap (λ reports. fold changed.added hunted.changed (filter_map (changed.row_if run) reports)) reported)
    (ap (fold near.added hunted.near) (x.near_are ∙ sym y.near_are))
    (ap (λ tried. fold orders.added hunted.orders (map (orders.row_of run) tried)) (x.tried_are ∙ sym y.tried_are))

-- ---- two lists of runs of a hunt

take_next : {X : Type 0} (xs : List X) (n : ℕ) (x : X) → n < length xs → slice_get xs n ≡ Some x → take (n + 1) xs ≡ take n xs ++ x ∷ []
take_next xs n x within there =
    take_more xs n x within ∙ ap (λ y. take n xs ++ y ∷ []) (get_or_from_slice_get xs n x x there)

seen_after : (first : ℕ) (runs : List KeptRun) (n : ℕ) (kept : KeptRun) → n < length runs → slice_get runs n ≡ Some kept → seen_in first (take (n + 1) runs) ≡ with_run (seen_in first (take n runs)) (first + n) kept
seen_after first runs n kept within there =
    ap (seen_in first) (take_next runs n kept within there) ∙ seen_next first (take n runs) kept
    ∙ ap (λ (k : ℕ). with_run (seen_in first (take n runs)) (first + k) kept) (length-take-le n runs (omega (arith, within)))

alike : OneRunAtMost → (hunt : Hunt) (xs ys : List KeptRun) → hunt.given.mix ≡ Sampled → AreRuns hunt xs → AreRuns hunt ys → (n : ℕ) → n ≤ length xs → n ≤ length ys → seen_in hunt.first (take n xs) ≡ seen_in hunt.first (take n ys)
alike once hunt xs ys sampled a b zero in_xs in_ys = refl
alike once hunt xs ys sampled a b (suc n) in_xs in_ys =
    let below_x : n < length xs = omega (arith, in_xs) in
    let below_y : n < length ys = omega (arith, in_ys) in
    let x = there_is xs n below_x in
    let y = there_is ys n below_y in
    let more : suc n ≡ n + 1 = omega arith in
    let before = alike once hunt xs ys sampled a b n (omega (arith, in_xs)) (omega (arith, in_ys)) in
    ap (λ (k : ℕ). seen_in hunt.first (take k xs)) more
    ∙ seen_after hunt.first xs n x.0 below_x x.1
    ∙ ap (λ (h : Hunted). with_run h (hunt.first + n) x.0) before
    ∙ same_run once hunt (seen_in hunt.first (take n ys)) (hunt.first + n) x.0 y.0 sampled (a.each n x.0 x.1) (b.each n y.0 y.1)
    ∙ sym (seen_after hunt.first ys n y.0 below_y y.1)
    ∙ ap (λ (k : ℕ). seen_in hunt.first (take k ys)) (sym more)

tally_seen : (first : ℕ) (runs : List KeptRun) → (seen_in first runs).tally ≡ summed runs
unfolding seen_in
tally_seen first runs = refl

no_longer : OneRunAtMost → (hunt : Hunt) (xs ys : List KeptRun) → hunt.given.mix ≡ Sampled → AreRuns hunt xs → AreRuns hunt ys → is_due hunt (summed xs) ≡ false → length xs < length ys → ⊥
no_longer once hunt xs ys sampled a b over longer =
    let n = length xs in
    let same = alike once hunt xs ys sampled a b n (omega arith) (omega (arith, longer)) in
    let all = take_all n xs (omega arith) in
    let tallies : summed xs ≡ summed (take n ys) =
    sym (tally_seen hunt.first xs) ∙ ap (λ (rs : List KeptRun). (seen_in hunt.first rs).tally) (sym all)
    ∙ ap (λ (h : Hunted). h.tally) same ∙ tally_seen hunt.first (take n ys) in
    let goes = ap (is_due hunt) tallies ∙ b.due n longer in
    differ (sym goes ∙ over)
  where
    differ : true ≡ false → ⊥
    differ h = cc

over_of : (hunt : Hunt) (hunted : Hunted) (h : IsHunted hunt hunted) → is_due hunt (summed h.so_far.runs) ≡ false
over_of hunt hunted h =
    ap (is_due hunt) (sym (ap (λ (x : Hunted). x.tally) h.so_far.seen ∙ tally_seen hunt.first h.so_far.runs)) ∙ h.is_over

pub one_result : OneRunAtMost → OneResult
one_result once hunt one other sampled a b =
    elim (cases_lt (length xs) (length ys)) [
      | inl longer ↦ absurd (no_longer once hunt xs ys sampled a.so_far.are_runs b.so_far.are_runs (over_of hunt one a) longer)
      | inr no_less ↦
          elim (cases_lt (length ys) (length xs)) [
            | inl longer ↦ absurd (no_longer once hunt ys xs sampled b.so_far.are_runs a.so_far.are_runs (over_of hunt other b) longer)
            | inr no_more ↦ same (omega (arith, no_less, no_more))
          ]
    ]
  where
    xs : List KeptRun
    xs = a.so_far.runs

    ys : List KeptRun
    ys = b.so_far.runs

    same : length xs ≡ length ys → one ≡ other
    same lengths =
        a.so_far.seen ∙ ap (seen_in hunt.first) (sym (take_all (length xs) xs (omega arith)))
        ∙ alike once hunt xs ys sampled a.so_far.are_runs b.so_far.are_runs (length xs) (omega arith) (omega (arith, lengths))
        ∙ ap (seen_in hunt.first) (take_all (length xs) ys (omega (arith, lengths)))
        ∙ sym b.so_far.seen

-- ---- pieces

-- where an element of two lists stands
pub split : {X : Type 0} (xs ys : List X) (place : ℕ) (one : X) → slice_get (xs ++ ys) place ≡ Some one → (slice_get xs place ≡ Some one) ⊎ ((length xs ≤ place) × (slice_get ys (place - length xs) ≡ Some one))
split [] ys place one there = inr (omega arith, ap (λ n. slice_get ys n) (omega arith) ∙ there)
split (x ∷ xs) ys zero one there = inl there
split (x ∷ xs) ys (suc place) one there =
    elim (split xs ys place one there) [
      | inl before ↦ inl before
      | inr both ↦ inr (
        (let le = both.0 in omega (arith, le)),
        ap (λ n. slice_get ys n) (omega arith) ∙ both.1,
      )
    ]

-- of just so many runs that many are made
all_made : (hunt : Hunt) (first count : ℕ) (xs : List KeptRun) → count ≤ 2 ^ 32 → AreRuns (piece hunt first count) xs → nat_lt (summed xs).runs count ≡ false → length xs ≡ count
all_made hunt first count xs few are over =
    elim (cases_lt count (length xs)) [
      | inl longer ↦
          (let due = are.due count longer in
          let made = how_many (take count xs) in
          let long = length-take-le count xs (omega (arith, longer)) in
          grind (arith, nat_tests))
      | inr no_more ↦
          (let made = how_many xs in
          grind (arith, nat_tests))
    ]

rows_of_both : (first : ℕ) (xs ys : List KeptRun) → rows_from first (xs ++ ys) ≡ rows_from first xs ++ rows_from (first + length xs) ys
unfolding rows_from
rows_of_both first [] ys = ap (λ n. rows_from n ys) (omega arith)
rows_of_both first (x ∷ xs) ys =
    ap (λ (rs : List (Key × RaceRow)). rows_of first x ++ rs) (rows_of_both (first + 1) xs ys)
    ∙ ap (λ (n : ℕ). rows_of first x ++ (rows_from (first + 1) xs ++ rows_from n ys)) place
    ∙ sym (append_assoc (rows_of first x) (rows_from (first + 1) xs) (rows_from (first + suc (length xs)) ys))
  where
    place : first + 1 + length xs ≡ first + suc (length xs)
    place = omega arith

due_in : (runs : List KeptRun) (place count : ℕ) → place < count → place ≤ length runs → nat_lt (summed (take place runs)).runs count ≡ true
due_in runs place count below within =
    let made = how_many (take place runs) in
    let long = length-take-le place runs within in
    grind (arith, nat_tests)

over_in : (runs : List KeptRun) (count : ℕ) → length runs ≡ count → count ≤ 2 ^ 32 → nat_lt (summed runs).runs count ≡ false
over_in runs count long few =
    let made = how_many runs in
    grind (arith, nat_tests)

-- what is kept of a run doesn't depend on where the hunt begins and how far it goes
same_reports : (hunt : Hunt) (gone : Gone) (first : ℕ) (limit : Limit) (number : ℕ) (parts : List Part) → reports_of_parts (record hunt { first = first; limit = limit }) gone number parts ≡ reports_of_parts hunt gone number parts
same_reports hunt gone first limit number [] = refl
same_reports hunt gone first limit number (part ∷ parts) =
    ap (λ (rs : List PartReport). reports_of_part hunt gone number part ++ rs) (same_reports hunt gone first limit (number + 1) parts)

moved : (hunt : Hunt) (first : ℕ) (limit : Limit) (run : ℕ) (kept : KeptRun) → IsOfRun hunt run kept → IsOfRun (record hunt { first = first; limit = limit }) run kept
moved hunt first limit run kept is = record {
  sampled = λ yes.
      let s = is.sampled yes in
      record { left = s.left; is_run = s.is_run; summary = s.summary; reports_are = s.reports_are; near_are = s.near_are; tried_are = s.tried_are };
  walked = λ no.
      let w = is.walked no in
      record {
        walk = w.walk;
        is_walk = record { start_is = w.is_walk.start_is; sites_are = w.is_walk.sites_are };
        pairs = w.pairs;
        are_told = w.are_told;
        parts = w.parts;
        are_parts = w.are_parts;
        summary = w.summary;
        reports_are = w.reports_are ∙ sym (same_reports hunt (gone_of w.walk) first limit 1 w.parts);
        near_are = w.near_are;
        tried_are = w.tried_are;
      };
}

each_of : (hunt : Hunt) (first some more : ℕ) (xs ys : List KeptRun) → length xs ≡ some → AreRuns (piece hunt first some) xs → AreRuns (piece hunt (first + some) more) ys → (place : ℕ) (kept : KeptRun) → slice_get (xs ++ ys) place ≡ Some kept → IsOfRun (piece hunt first (some + more)) (first + place) kept
each_of hunt first some more xs ys long a b place kept there =
    elim (split xs ys place kept there) [
      | inl before ↦ moved (piece hunt first some) first (Runs (some + more)) (first + place) kept (a.each place kept before)
      | inr both ↦
          (let le = both.0 in
          let number : first + some + (place - length xs) ≡ first + place = omega (arith, long, le) in
          subst (λ (n : ℕ). IsOfRun (piece hunt first (some + more)) n kept) number (moved (piece hunt (first + some) more) first (Runs (some + more)) (first + some + (place - length xs)) kept (b.each (place - length xs) kept both.1)))
    ]

pub table_seen : (first : ℕ) (runs : List KeptRun) → (seen_in first runs).table ≡ rows.table_of (rows_from first runs)
unfolding seen_in
table_seen first runs = refl

whole_of : (hunt : Hunt) (first some more : ℕ) (xs ys : List KeptRun) → first + some + more ≤ 2 ^ 32 → length xs ≡ some → length ys ≡ more → AreRuns (piece hunt first some) xs → AreRuns (piece hunt (first + some) more) ys → IsHunted (piece hunt first (some + more)) (seen_in first (xs ++ ys))
whole_of hunt first some more xs ys few long_x long_y a b =
    let long = length-append xs ys in
    let count : length (xs ++ ys) ≡ some + more = omega (arith, long, long_x, long_y) in
    record {
      so_far = record {
        runs = xs ++ ys;
        are_runs = record {
          each = each_of hunt first some more xs ys long_x a b;
          due = λ place within. due_in (xs ++ ys) place (some + more) (omega (arith, within, count)) (omega (arith, within));
        };
        seen = refl;
      };
      is_over = ap (λ (t : Tally). nat_lt t.runs (some + more)) (tally_seen first (xs ++ ys)) ∙ over_in (xs ++ ys) (some + more) count (omega (arith, few));
    }

pub pieces_are_whole : TwoAreMerged → PiecesAreWhole
pieces_are_whole two_merged hunt first some more earlier later few a b = (
  seen_in first (xs ++ ys),
  whole_of hunt first some more xs ys few long_x long_y a.so_far.are_runs b.so_far.are_runs,
  table_seen first (xs ++ ys)
      ∙ ap rows.table_of (rows_of_both first xs ys)
      ∙ ap (λ (n : ℕ). rows.table_of (rows_from first xs ++ rows_from (first + n) ys)) long_x
      ∙ sym (two_merged (rows_from first xs) (rows_from (first + some) ys))
      ∙ ap (λ (rs : List (Key × RaceRow)). rows.merged rs (rows.table_of (rows_from (first + some) ys))) (sym (table_of_piece first xs earlier a.so_far.seen))
      ∙ ap (rows.merged earlier.table) (sym (table_of_piece (first + some) ys later b.so_far.seen)),
)
  where
    xs : List KeptRun
    xs = a.so_far.runs

    ys : List KeptRun
    ys = b.so_far.runs

    long_x : length xs ≡ some
    long_x = all_made hunt first some xs (omega (arith, few)) a.so_far.are_runs (over_of (piece hunt first some) earlier a)

    long_y : length ys ≡ more
    long_y = all_made hunt (first + some) more ys (omega (arith, few)) b.so_far.are_runs (over_of (piece hunt (first + some) more) later b)

    table_of_piece : (from : ℕ) (runs : List KeptRun) (hunted : Hunted) → hunted ≡ seen_in from runs → hunted.table ≡ rows.table_of (rows_from from runs)
    table_of_piece from runs hunted is = ap (λ (h : Hunted). h.table) is ∙ table_seen from runs
