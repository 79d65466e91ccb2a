-- Walks of runs, and their parts.
use Rattle.std.proofs.Common.{◌≡◌, ℕ, zero, suc, ◌+◌, None, Some, get_or, List, [], ◌∷◌, ◌++◌, All, length, map, refl, sym, ap, subst, ◌∙◌, arith, append-nil, append_assoc}
use Rattle.std.specs.List.{fold}
use Rattle.std.specs.Prelude.{slice_get}
use Rattle.std.proofs.lemmas.List.{map-append}
use Rattle.std.proofs.lemmas.List.Elements.{All-push}
use Rattle.std.proofs.lemmas.List.Sums.{fold-append}
use Rattle.rv_campaign.specs.Kept.{IsCoreOf, Source}
use Rattle.rv_collide.specs.Plan.{Numbers}
use Rattle.rv_collide.specs.Stored.{Stored, setting_of}
use Rattle.rv_collide.specs.declared.entry.Entry.{Entry}
use Rattle.rv_elf.specs.Contents.{Contents}
use Rattle.rv_hart.specs.State.{State, start as first_state}
use Rattle.rv_search.specs.Hunt.{Hunt}
use Rattle.rv_search.specs.KeptRun.{Gone, IsOfSome, reports_of_part, reports_of_parts}
use Rattle.rv_tables.specs.Near.{probed_pair, seen_pair}
use Rattle.rv_search.specs.Sums.{no_counts, sum}
use Rattle.rv_search.specs.Summary.{counts_of_part, counts_of_walk, ends}
use Rattle.rv_search.specs.declared.gathered.Gathered.{Gathered}
use Rattle.rv_tables.specs.declared.row.PartReport.{PartReport}
use Rattle.rv_tables.specs.declared.orders.TriedOrder.{TriedOrder}
use Rattle.rv_search.specs.internal.Gathered.{IsGathered}
use Rattle.rv_tables.specs.declared.near.NearRow.{NearRow}
use Rattle.rv_search.specs.declared.tally.counts.Counts.{Counts}
use Rattle.rv_walk.specs.Part.{IsPart}
use Rattle.rv_walk.specs.Walked.{Walked}
use Rattle.rv_walk.specs.declared.near_pair.Addresses.{Addresses}
use Rattle.rv_walk.specs.declared.near_pair.NearPair.{NearPair}
use Rattle.rv_walk.specs.declared.probes.Part.{Part}

-- the harts of a core at a run's end ended as the run's schedule says
pub same_ends : (source : Source) (plan : Numbers) (run : ℕ) (core : Stored) (entries : List Entry) → IsCoreOf source plan run core → entries ≡ core.entries → ends (setting_of core).start core.entries ≡ ends (first_state source.image.segments source.image.entry plan.harts) entries
same_ends source plan run core entries is same =
    ap (λ (i : Contents). ends (first_state i.segments i.entry core.plan.harts) core.entries) is.image_is
    ∙ ap (λ (p : Numbers). ends (first_state source.image.segments source.image.entry p.harts) core.entries) is.plan_is
    ∙ ap (ends (first_state source.image.segments source.image.entry plan.harts)) (sym same)

abbrev walk_with : State → List ℕ → List ℕ → ℕ → Walked
walk_with start harts sites most = record { start = start; harts = harts; most = most; sites = sites }

-- a part depends on its walk's begin, steps and sites alone
pub part_of : (start : State) (harts : List ℕ) (sites : List ℕ) (most other : ℕ) (part : Part) → IsPart (record { start = start; harts = harts; most = most; sites = sites }) part → IsPart (record { start = start; harts = harts; most = other; sites = sites }) part
part_of start harts sites most other part is = record {
  within = is.within;
  start = is.start;
  at = is.at;
  room = is.room;
  arms = is.arms;
  harts = is.harts;
  in_range = is.in_range;
  few = is.few;
  legal = is.legal;
  endings_are = is.endings_are;
  probe = is.probe;
}

same_walk : {s s' : State} {h h' i i' : List ℕ} {m m' : ℕ} → s ≡ s' → h ≡ h' → i ≡ i' → m ≡ m' → walk_with s h i m ≡ walk_with s' h' i' m'
same_walk start harts sites most = cc

abbrev pub gone_by : State → List ℕ → Gone
gone_by start harts = record { start = start; harts = harts }

pub same_gone : {s s' : State} {h h' : List ℕ} → s ≡ s' → h ≡ h' → gone_by s h ≡ gone_by s' h'
same_gone start harts = cc

-- the reports of one part more
pub reports_next : (hunt : Hunt) (gone : Gone) (number : ℕ) (parts : List Part) (part : Part) → reports_of_parts hunt gone number (parts ++ part ∷ []) ≡ reports_of_parts hunt gone number parts ++ reports_of_part hunt gone (number + length parts) part
reports_next hunt gone number [] part =
    append-nil (reports_of_part hunt gone number part) ∙ ap (λ (n : ℕ). reports_of_part hunt gone n part) (omega arith)
reports_next hunt gone number (one ∷ parts) part =
    ap (λ (rs : List PartReport). reports_of_part hunt gone number one ++ rs) (reports_next hunt gone (number + 1) parts part)
    ∙ ap (λ (n : ℕ). reports_of_part hunt gone number one ++ (reports_of_parts hunt gone (number + 1) parts ++ reports_of_part hunt gone n part)) place
    ∙ sym (append_assoc (reports_of_part hunt gone number one) (reports_of_parts hunt gone (number + 1) parts) (reports_of_part hunt gone (number + suc (length parts)) part))
  where
    place : number + 1 + length parts ≡ number + suc (length parts)
    place = omega arith

-- the numbers of one part more
pub counts_next : (steps : ℕ) (parts : List Part) (part : Part) → counts_of_walk steps (parts ++ part ∷ []) ≡ sum (counts_of_walk steps parts) (counts_of_part part)
counts_next steps parts part =
    ap (fold sum (record no_counts { steps = steps })) (map-append counts_of_part parts (part ∷ []))
    ∙ fold-append sum (record no_counts { steps = steps }) (map counts_of_part parts) (counts_of_part part ∷ [])

pub counted_so : (steps : ℕ) (parts : List Part) (part : Part) (before more after : Counts) → before ≡ counts_of_walk steps parts → more ≡ counts_of_part part → after ≡ sum before more → after ≡ counts_of_walk steps (parts ++ part ∷ [])
counted_so steps parts part before more after so_far one is =
    is ∙ ap (λ (c : Counts). sum c more) so_far ∙ ap (sum (counts_of_walk steps parts)) one ∙ sym (counts_next steps parts part)

pub reports_so : (hunt : Hunt) (gone : Gone) (parts : List Part) (part : Part) (number : ℕ) (before more after : List PartReport) → before ≡ reports_of_parts hunt gone 1 parts → more ≡ reports_of_part hunt gone number part → number ≡ length parts + 1 → after ≡ before ++ more → after ≡ reports_of_parts hunt gone 1 (parts ++ part ∷ [])
reports_so hunt gone parts part number before more after so_far one count is =
    is ∙ ap (λ (rs : List PartReport). rs ++ more) so_far
    ∙ ap (λ (rs : List PartReport). reports_of_parts hunt gone 1 parts ++ rs) (one ∙ ap (λ (n : ℕ). reports_of_part hunt gone n part) (omega (arith, count)))
    ∙ sym (reports_next hunt gone 1 parts part)

pub near_so : (pairs : List NearPair) (parts : List Part) (part : Part) (row : Addresses × NearRow) (before after : List (Addresses × NearRow)) → before ≡ map seen_pair pairs ++ map probed_pair parts → row ≡ probed_pair part → after ≡ before ++ row ∷ [] → after ≡ map seen_pair pairs ++ map probed_pair (parts ++ part ∷ [])
near_so pairs parts part row before after so_far one is =
    is ∙ ap (λ (rs : List (Addresses × NearRow)). rs ++ row ∷ []) so_far
    ∙ ap (λ (r : Addresses × NearRow). (map seen_pair pairs ++ map probed_pair parts) ++ r ∷ []) one
    ∙ append_assoc (map seen_pair pairs) (map probed_pair parts) (probed_pair part ∷ [])
    ∙ ap (λ (rs : List (Addresses × NearRow)). map seen_pair pairs ++ rs) (sym (map-append probed_pair parts (part ∷ [])))

-- a part of the probes' walk is one of any walk with the same begin, steps and sites
pub of_walk : (probes walk : Walked) (part : Part) → walk.start ≡ probes.start → walk.harts ≡ probes.harts → walk.sites ≡ probes.sites → IsPart probes part → IsPart walk part
of_walk probes walk part start harts sites is =
    part_of walk.start walk.harts walk.sites probes.most walk.most part
    (subst (λ (w : Walked). IsPart w part) (sym (same_walk start harts sites refl)) is)

pub all_more : {X : Type 0} (P : X → Type 0) (xs : List X) (x : X) → All P xs → P x → All P (xs ++ x ∷ [])
all_more P xs x before here = All-push P xs x before here

-- ---- trials of reports

get_front : {X : Type 0} → (xs ys : List X) (k : ℕ) (x : X) → slice_get xs k ≡ Some x → slice_get (xs ++ ys) k ≡ Some x
get_front [] ys k x there = let no : None ≡ Some x = there in cc
get_front (y ∷ xs) ys zero x there = there
get_front (y ∷ xs) ys (suc k) x there = get_front xs ys k x there

-- what is of some report is of one of more reports
pub of_some_more : (before more after : List PartReport) → after ≡ before ++ more → (tried : TriedOrder) → IsOfSome before tried → IsOfSome after tried
of_some_more before more after is tried some = record {
  place = some.place;
  report = some.report;
  there = ap (λ (rs : List PartReport). slice_get rs some.place) is ∙ get_front before more some.place some.report some.there;
  key_is = some.key_is;
  part_is = some.part_is;
  entry_is = some.entry_is;
}

pub all_of_some : (before more after : List PartReport) (tried : List TriedOrder) → after ≡ before ++ more → All (IsOfSome before) tried → All (IsOfSome after) tried
all_of_some before more after tried is all = λ k d below. of_some_more before more after is (get_or tried k d) (all k d below)

-- trials were added alone
pub tried_so : (hunt : Hunt) (gone : Gone) (pairs : List NearPair) (parts : List Part) (old new : Gathered) → new ≡ record old { trials = new.trials } → (All (IsOfSome old.reports.items) old.trials.tried.items → All (IsOfSome old.reports.items) new.trials.tried.items) → IsGathered hunt gone pairs parts old → IsGathered hunt gone pairs parts new
tried_so hunt gone pairs parts old new same keeps is = record {
  counts_are = ap (λ (g : Gathered). g.counts) same ∙ is.counts_are;
  parts_are = ap (λ (g : Gathered). g.parts) same ∙ is.parts_are;
  reports_are = ap (λ (g : Gathered). g.reports.items) same ∙ is.reports_are;
  near_are = ap (λ (g : Gathered). g.near.items) same ∙ is.near_are;
  tried_are = subst (λ (rs : List PartReport). All (IsOfSome rs) new.trials.tried.items) (sym (ap (λ (g : Gathered). g.reports.items) same)) (keeps is.tried_are);
}
