-- The runs of a hunt, one more.
use Rattle.std.proofs.Common.{◌≡◌, ℕ, zero, suc, ◌+◌, ◌<◌, ◌≤◌, ◌^◌, ◌⊎◌, inl, inr, Bool, true, false, List, [], ◌∷◌, ◌++◌, length, length-append, map, take, None, Some, refl, sym, ap, subst, ◌∙◌, arith, append-nil, append_assoc}
use Rattle.std.specs.Prelude.{slice_get, nat_lt, nat_le, not, ◌&&◌, ◌||◌}
use Rattle.std.specs.List.{fold}
use Rattle.std.proofs.lemmas.Bool.{and_parts, cases_eq}
use Rattle.std.proofs.lemmas.Bool.Decides.{nat_tests}
use Rattle.std.proofs.lemmas.List.{map-append, take-append-le, take_all, length-map}
use Rattle.std.proofs.lemmas.List.Concat.{flat_map-append}
use Rattle.std.proofs.lemmas.List.Elements.{filter_map-append}
use Rattle.std.proofs.Math.Bool.{or-false}
use Rattle.std.proofs.lemmas.List.Folds.{list_any-append}
use Rattle.std.proofs.lemmas.List.Sums.{fold-append}
use Rattle.rv_tables.specs.Changed as changed
use Rattle.rv_search.specs.Hunt.{AreNumbers, Hunt, IsHunt}
use Rattle.rv_search.specs.RightEnds.{EndsSeen, ends_wrong, has_wrong_end}
use Rattle.rv_search.specs.Hunted.{AreRuns, IsNoted, IsNotedSoFar, IsSoFar, changed_from, changed_rows, is_due, near_in, rows_from, rows_of, seen_in, summed, tried_from, tried_of}
use Rattle.rv_search.specs.KeptRun.{IsOfRun}
use Rattle.rv_tables.specs.Near as near
use Rattle.rv_tables.specs.Orders as orders
use Rattle.rv_tables.specs.Rows as rows
use Rattle.rv_tables.specs.declared.changed.ChangedKey.{ChangedKey}
use Rattle.rv_search.specs.declared.hunted.Hunted.{Hunted}
use Rattle.rv_search.specs.declared.kept_run.KeptRun.{KeptRun}
use Rattle.rv_tables.specs.declared.near.NearRow.{NearRow}
use Rattle.rv_tables.specs.declared.orders.OrderRow.{OrderRow}
use Rattle.rv_tables.specs.declared.row.RaceRow.{RaceRow}
use Rattle.rv_search.specs.internal.Lots.{with_run}
use Rattle.rv_report.specs.declared.key.Key.{Key}
use Rattle.rv_plans.specs.GoesOn.{goes_on}
use Rattle.rv_collide.specs.Counts.{saturated}
use Rattle.rv_search.specs.Tally.{Tally, added, cost, is_hopeless, nothing, reached, tally_of}
use Rattle.rv_plans.specs.declared.limit.Limit.{Limit}
use Rattle.rv_plans.specs.declared.limit.Limit.TheVariants.{Runs, Budget}
use Rattle.rv_search.specs.declared.summary.Summary.{Summary}
use Rattle.rv_walk.specs.declared.near_pair.Addresses.{Addresses}

-- ---- how many runs there were

runs_added : (t : Tally) (s : Summary) → (added t s).runs ≡ saturated (t.runs + 1)
unfolding added
runs_added t s = refl

saturated_more : (a b n : ℕ) → b ≡ saturated (a + 1) → saturated (b + n) ≡ saturated (a + suc n)
saturated_more a b n is = omega (arith, is)

runs_folded : (t : Tally) (xs : List Summary) → t.runs ≡ saturated t.runs → (fold added t xs).runs ≡ saturated (t.runs + length xs)
runs_folded t [] small = omega (arith, small)
runs_folded t (x ∷ xs) small =
    let next = runs_added t x in
    runs_folded (added t x) xs (omega (arith, next)) ∙ saturated_more t.runs (added t x).runs (length xs) next

pub how_many : (runs : List KeptRun) → (summed runs).runs ≡ saturated (length runs)
unfolding tally_of
how_many runs =
    let same = length-map runs (λ (kept : KeptRun). kept.summary) in
    let from_0 : 0 + length (map (λ (kept : KeptRun). kept.summary) runs) ≡ length runs = omega (arith, same) in
    runs_folded nothing (map (λ (kept : KeptRun). kept.summary) runs) refl ∙ ap saturated from_0

-- ---- one run more

summed_next : (runs : List KeptRun) (kept : KeptRun) → summed (runs ++ kept ∷ []) ≡ added (summed runs) kept.summary
unfolding tally_of
summed_next runs kept =
    ap (fold added nothing) (map-append (λ (k : KeptRun). k.summary) runs (kept ∷ []))
    ∙ fold-append added nothing (map (λ (k : KeptRun). k.summary) runs) (kept.summary ∷ [])

rows_next : (first : ℕ) (runs : List KeptRun) (kept : KeptRun) → rows_from first (runs ++ kept ∷ []) ≡ rows_from first runs ++ rows_of (first + length runs) kept
unfolding rows_from
rows_next first [] kept = append-nil (rows_of first kept) ∙ ap (λ (n : ℕ). rows_of n kept) (omega arith)
rows_next first (one ∷ runs) kept =
    ap (λ (rs : List (Key × RaceRow)). rows_of first one ++ rs) (rows_next (first + 1) runs kept)
    ∙ ap (λ (n : ℕ). rows_of first one ++ (rows_from (first + 1) runs ++ rows_of n kept)) place
    ∙ sym (append_assoc (rows_of first one) (rows_from (first + 1) runs) (rows_of (first + suc (length runs)) kept))
  where
    place : first + 1 + length runs ≡ first + suc (length runs)
    place = omega arith

table_next : (first : ℕ) (runs : List KeptRun) (kept : KeptRun) → rows.table_of (rows_from first (runs ++ kept ∷ [])) ≡ fold rows.added (rows.table_of (rows_from first runs)) (rows_of (first + length runs) kept)
unfolding rows.table_of
table_next first runs kept =
    ap (fold rows.added []) (rows_next first runs kept)
    ∙ fold-append rows.added [] (rows_from first runs) (rows_of (first + length runs) kept)

changed_rows_next : (first : ℕ) (runs : List KeptRun) (kept : KeptRun) → changed_from first (runs ++ kept ∷ []) ≡ changed_from first runs ++ changed_rows (first + length runs) kept
unfolding changed_from
changed_rows_next first [] kept = append-nil (changed_rows first kept) ∙ ap (λ (n : ℕ). changed_rows n kept) (omega arith)
changed_rows_next first (one ∷ runs) kept =
    ap (λ (rs : List (ChangedKey × RaceRow)). changed_rows first one ++ rs) (changed_rows_next (first + 1) runs kept)
    ∙ ap (λ (n : ℕ). changed_rows first one ++ (changed_from (first + 1) runs ++ changed_rows n kept)) place
    ∙ sym (append_assoc (changed_rows first one) (changed_from (first + 1) runs) (changed_rows (first + suc (length runs)) kept))
  where
    place : first + 1 + length runs ≡ first + suc (length runs)
    place = omega arith

changed_next : (first : ℕ) (runs : List KeptRun) (kept : KeptRun) → changed.changed_of (changed_from first (runs ++ kept ∷ [])) ≡ fold changed.added (changed.changed_of (changed_from first runs)) (changed_rows (first + length runs) kept)
unfolding changed.changed_of
changed_next first runs kept =
    ap (fold changed.added []) (changed_rows_next first runs kept)
    ∙ fold-append changed.added [] (changed_from first runs) (changed_rows (first + length runs) kept)

near_next : (runs : List KeptRun) (kept : KeptRun) → near.near_of (near_in (runs ++ kept ∷ [])) ≡ fold near.added (near.near_of (near_in runs)) kept.near.items
unfolding near.near_of
near_next runs kept =
    ap (fold near.added []) (flat_map-append (λ (k : KeptRun). k.near.items) runs (kept ∷ []))
    ∙ fold-append near.added [] (near_in runs) (kept.near.items ++ [])
    ∙ ap (fold near.added (fold near.added [] (near_in runs))) (append-nil kept.near.items)

tried_next : (first : ℕ) (runs : List KeptRun) (kept : KeptRun) → tried_from first (runs ++ kept ∷ []) ≡ tried_from first runs ++ tried_of (first + length runs) kept
unfolding tried_from
tried_next first [] kept = append-nil (tried_of first kept) ∙ ap (λ (n : ℕ). tried_of n kept) (omega arith)
tried_next first (one ∷ runs) kept =
    ap (λ (rs : List (Key × OrderRow)). tried_of first one ++ rs) (tried_next (first + 1) runs kept)
    ∙ ap (λ (n : ℕ). tried_of first one ++ (tried_from (first + 1) runs ++ tried_of n kept)) place
    ∙ sym (append_assoc (tried_of first one) (tried_from (first + 1) runs) (tried_of (first + suc (length runs)) kept))
  where
    place : first + 1 + length runs ≡ first + suc (length runs)
    place = omega arith

orders_next : (first : ℕ) (runs : List KeptRun) (kept : KeptRun) → orders.orders_of (tried_from first (runs ++ kept ∷ [])) ≡ fold orders.added (orders.orders_of (tried_from first runs)) (tried_of (first + length runs) kept)
unfolding orders.orders_of
orders_next first runs kept =
    ap (fold orders.added []) (tried_next first runs kept)
    ∙ fold-append orders.added [] (tried_from first runs) (tried_of (first + length runs) kept)

abbrev pub hunted_of : Tally → List (Key × RaceRow) → List (ChangedKey × RaceRow) → List (Addresses × NearRow) → List (Key × OrderRow) → Hunted
hunted_of tally rs cs pairs tried = record { tally = tally; table = rs; changed = cs; near = pairs; orders = tried }

pub same_hunted : {t t' : Tally} {rs rs' : List (Key × RaceRow)} {cs cs' : List (ChangedKey × RaceRow)} {ps ps' : List (Addresses × NearRow)} {os os' : List (Key × OrderRow)} → t ≡ t' → rs ≡ rs' → cs ≡ cs' → ps ≡ ps' → os ≡ os' → hunted_of t rs cs ps os ≡ hunted_of t' rs' cs' ps' os'
same_hunted tallies tables changes pairs tried = cc

pub seen_next : (first : ℕ) (runs : List KeptRun) (kept : KeptRun) → seen_in first (runs ++ kept ∷ []) ≡ with_run (seen_in first runs) (first + length runs) kept
unfolding seen_in with_run
seen_next first runs kept = same_hunted (summed_next runs kept) (table_next first runs kept) (changed_next first runs kept) (near_next runs kept) (orders_next first runs kept)

-- ---- which runs are made

-- the next run's number has 32 bits
pub next_fits : (limit : Limit) (first : ℕ) (t : Tally) → AreNumbers first limit → goes_on limit first (reached t) ≡ true → first + t.runs < 2 ^ 32
next_fits (Runs runs) first t legal goes = grind (arith, nat_tests)
next_fits (Budget steps) first t legal goes =
    let front = and_parts (nat_le (first + t.runs) 4_294_967_295 && nat_lt (cost t) steps) (not (is_hopeless t)) goes in
    let fits = (and_parts (nat_le (first + t.runs) 4_294_967_295) (nat_lt (cost t) steps) front.0).0 in
    grind (arith, nat_tests)

pub count_of : (hunt : Hunt) (hunted : Hunted) (runs : List KeptRun) → hunted ≡ seen_in hunt.first runs → hunted.tally.runs < 2 ^ 32 → length runs ≡ hunted.tally.runs
unfolding seen_in
count_of hunt hunted runs seen few =
    let same = ap (λ (h : Hunted). h.tally.runs) seen ∙ how_many runs in
    omega (arith, same, few)

-- an element of a list with one more
more : {X : Type 0} (xs : List X) (x : X) (place : ℕ) (one : X) → slice_get (xs ++ x ∷ []) place ≡ Some one → (slice_get xs place ≡ Some one) ⊎ ((place ≡ length xs) × (x ≡ one))
more [] x zero one there = inr (refl, (let same : Some x ≡ Some one = there in cc))
more [] x (suc place) one there = (let no : None ≡ Some one = there in cc)
more (y ∷ xs) x zero one there = inl there
more (y ∷ xs) x (suc place) one there =
    elim (more xs x place one there) [
      | inl before ↦ inl before
      | inr both ↦ inr (ap (λ n. suc n) both.0, both.1)
    ]

each_next : (hunt : Hunt) (runs : List KeptRun) (kept : KeptRun) → AreRuns hunt runs → IsOfRun hunt (hunt.first + length runs) kept → (place : ℕ) (one : KeptRun) → slice_get (runs ++ kept ∷ []) place ≡ Some one → IsOfRun hunt (hunt.first + place) one
each_next hunt runs kept before here place one there =
    elim (more runs kept place one there) [
      | inl earlier ↦ before.each place one earlier
      | inr both ↦
          subst (λ (n : ℕ). IsOfRun hunt (hunt.first + n) one) (sym both.0)
          (subst (λ (k : KeptRun). IsOfRun hunt (hunt.first + length runs) k) both.1 here)
    ]

due_next : (hunt : Hunt) (runs : List KeptRun) (kept : KeptRun) → AreRuns hunt runs → is_due hunt (summed runs) ≡ true → (place : ℕ) → place < length (runs ++ kept ∷ []) → is_due hunt (summed (take place (runs ++ kept ∷ []))) ≡ true
due_next hunt runs kept before goes place within =
    let long = length-append runs (kept ∷ []) in
    let few : place ≤ length runs = omega (arith, long, within) in
    ap (λ (rs : List KeptRun). is_due hunt (summed rs)) (take-append-le place runs (kept ∷ []) few)
    ∙ elim (cases_eq place (length runs)) [
      | inl last ↦
          ap (λ (rs : List KeptRun). is_due hunt (summed rs)) (take_all place runs (omega (arith, last))) ∙ goes
      | inr other ↦ before.due place (omega (arith, few, other))
    ]

pub one_more : (hunt : Hunt) (hunted after : Hunted) (run : ℕ) (kept : KeptRun) → IsHunt hunt → IsSoFar hunt hunted → is_due hunt hunted.tally ≡ true → run ≡ hunt.first + hunted.tally.runs → IsOfRun hunt run kept → after ≡ with_run hunted run kept → IsSoFar hunt after
unfolding seen_in
one_more hunt hunted after run kept legal so_far goes is here with =
    let few : hunted.tally.runs < 2 ^ 32 = (let fits = next_fits hunt.limit hunt.first hunted.tally legal.numbers goes in omega (arith, fits)) in
    let count = count_of hunt hunted so_far.runs so_far.seen few in
    let number : run ≡ hunt.first + length so_far.runs = omega (arith, is, count) in
    let going = ap (λ (h : Hunted). is_due hunt h.tally) (sym so_far.seen) ∙ goes in
    record {
      runs = so_far.runs ++ kept ∷ [];
      are_runs = record {
        each = each_next hunt so_far.runs kept so_far.are_runs (subst (λ (n : ℕ). IsOfRun hunt n kept) number here);
        due = due_next hunt so_far.runs kept so_far.are_runs going;
      };
      seen =
          with ∙ ap (λ (h : Hunted). with_run h run kept) so_far.seen
          ∙ ap (λ (n : ℕ). with_run (seen_in hunt.first so_far.runs) n kept) number
          ∙ sym (seen_next hunt.first so_far.runs kept);
    }

-- ---- how harts ended

any_next : (right : List ℕ) (runs : List KeptRun) (kept : KeptRun) → has_wrong_end right (runs ++ kept ∷ []) ≡ (has_wrong_end right runs || ends_wrong right kept)
unfolding has_wrong_end
any_next right runs kept = list_any-append (ends_wrong right) runs (kept ∷ []) ∙ ap (λ (b : Bool). has_wrong_end right runs || b) (or-false (ends_wrong right kept))

pub one_more_noted : (hunt : Hunt) (hunted after : Hunted) (ends next : EndsSeen) (run : ℕ) (kept : KeptRun) → IsHunt hunt → IsNotedSoFar hunt hunted ends → is_due hunt hunted.tally ≡ true → run ≡ hunt.first + hunted.tally.runs → IsOfRun hunt run kept → after ≡ with_run hunted run kept
    → next ≡ record ends { is_wrong = ends.is_wrong || ends_wrong ends.right kept } → IsNotedSoFar hunt after next
unfolding one_more
one_more_noted hunt hunted after ends next run kept legal noted goes is here with adds = record {
  so_far = one_more hunt hunted after run kept legal noted.so_far goes is here with;
  wrong =
      ap (λ (e : EndsSeen). e.is_wrong) adds
      ∙ ap (λ (b : Bool). b || ends_wrong ends.right kept) noted.wrong
      ∙ sym (any_next ends.right noted.so_far.runs kept)
      ∙ ap (λ (e : EndsSeen). has_wrong_end e.right (noted.so_far.runs ++ kept ∷ [])) (sym adds);
}

-- no more is to be made
pub all_noted : (hunt : Hunt) (hunted : Hunted) (ends : EndsSeen) → IsNotedSoFar hunt hunted ends → is_due hunt hunted.tally ≡ false → IsNoted hunt hunted ends
all_noted hunt hunted ends noted over = record { hunted_is = record { so_far = noted.so_far; is_over = over }; wrong = noted.wrong }

pub one_more_counted : (hunt : Hunt) (hunted after : Hunted) (run : ℕ) (kept : KeptRun) → IsHunt hunt → is_due hunt hunted.tally ≡ true → after ≡ with_run hunted run kept → after.tally.runs ≡ hunted.tally.runs + 1
unfolding with_run
one_more_counted hunt hunted after run kept legal goes with =
    let fits = next_fits hunt.limit hunt.first hunted.tally legal.numbers goes in
    let next = ap (λ (h : Hunted). h.tally.runs) with ∙ runs_added hunted.tally kept.summary in
    omega (arith, fits, next)

-- ---- the runs that are made together

pub there_is : {X : Type 0} (xs : List X) (n : ℕ) → n < length xs → (x : X) × (slice_get xs n ≡ Some x)
there_is [] n within = absurd (omega (arith, within))
there_is (x ∷ xs) zero within = (x, refl)
there_is (x ∷ xs) (suc n) within = there_is xs n (omega (arith, within))

none_yet : (hunt : Hunt) (hunted : Hunted) → hunted ≡ record { tally = summed []; table = []; changed = changed.changed_of []; near = near.near_of []; orders = orders.orders_of [] } → IsSoFar hunt hunted
unfolding seen_in rows_from tried_from changed_from rows.table_of changed.changed_of near.near_of orders.orders_of
none_yet hunt hunted is = record {
  runs = [];
  are_runs = record {
    each = λ place kept there. (let no : None ≡ Some kept = there in cc);
    due = λ place within. absurd (omega (arith, within));
  };
  seen = is;
}

pub none_noted : (hunt : Hunt) (hunted : Hunted) (ends : EndsSeen) → hunted ≡ record { tally = summed []; table = []; changed = changed.changed_of []; near = near.near_of []; orders = orders.orders_of [] } → ends.is_wrong ≡ false → IsNotedSoFar hunt hunted ends
unfolding has_wrong_end none_yet
none_noted hunt hunted ends is none = record { so_far = none_yet hunt hunted is; wrong = none }
