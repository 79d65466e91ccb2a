-- The runs of a campaign, of which their endings are kept.
use Rattle.std.proofs.Common.{◌≡◌, ℕ, zero, suc, ◌+◌, ◌<◌, ◌^◌, List, [], ◌∷◌, length, map, take, None, Some, refl, sym, ap, subst, ◌∙◌, arith}
use Rattle.std.specs.Prelude.{slice_get, Vec, ◌++◌}
use Rattle.std.specs.declared.alloc.Global.{Global}
use Rattle.std.proofs.lemmas.List.{length-map, take_more}
use Rattle.std.proofs.lemmas.Option.{get_or_from_slice_get, slice_get_within}
use Rattle.rv_campaign.specs.Campaign.{AreKeptOf}
use Rattle.rv_campaign.specs.Kept.{IsCoreOf, IsKept, Source}
use Rattle.rv_campaign.specs.Run.{Hunt, IsRun, IsRunOver, sampling_of}
use Rattle.rv_collide.specs.Answers.{IsOutput}
use Rattle.rv_collide.specs.Numbers.{numbers}
use Rattle.rv_collide.specs.Plan.{Numbers}
use Rattle.rv_collide.specs.Stored.{Stored, setting_of, stored}
use Rattle.rv_collide.specs.Verdict.{endings}
use Rattle.rv_collide.specs.declared.collider.Finished.{Finished}
use Rattle.rv_collide.specs.declared.ending.Ending.{Ending}
use Rattle.rv_collide.specs.declared.plan.Plan.{Plan}
use Rattle.rv_drive.specs.DriverLaws.{OneRunAtMost}
use Rattle.rv_elf.specs.Contents.{Contents}
use Rattle.rv_sample.specs.Sites.{sites}
use Rattle.rv_report.specs.Races.{races}
use Rattle.rv_engines.specs.Campaigns.{told_from}
use Rattle.rv_engines.specs.Request.{Request}
use Rattle.rv_engines.specs.declared.run.hunting.Hunted.{Hunted}
use Rattle.rv_engines.specs.internal.Hunted.{IsReady, hunt_of}
use Rattle.rv_engines.specs.internal.KeptRuns.{AreOfRuns, IsKeptRun, IsSmall}

abbrev Endings : Type 0
Endings = Vec Ending Global

-- ---- a list of endings, one by one

pub pushed : (all some more : List Ending) (n : ℕ) (x : Ending) → more ≡ some ++ x ∷ [] → some ≡ take n all → slice_get all n ≡ Some x → more ≡ take (n + 1) all
pushed all some more n x is so_far there =
    is ∙ ap (λ xs. xs ++ x ∷ []) so_far
    ∙ ap (λ y. take n all ++ y ∷ []) (sym (get_or_from_slice_get all n x x there))
    ∙ sym (take_more all n x (slice_get_within all n x there))

-- ---- a run of which its endings are kept

-- a list in memory of these items
abbrev list_of : {X : Type 0} → Endings → (items : List X) → length items < 2 ^ 63 → Vec X Global
list_of like items few = record {
  ptr = like.ptr;
  len = length items;
  cap = length items;
  alloc = like.alloc;
  items = items;
  ok = (refl, omega arith);
  small = few;
}

abbrev finished : Plan → (core : Stored) → Endings → IsSmall core → Finished
finished plan core kept small = record {
  plan = plan;
  entries = list_of kept core.entries small.few_entries;
  endings = kept;
  output = list_of kept small.printed small.few_bytes;
}

finished_is_run : (source : Source) (plan : Plan) (run : ℕ) (core : Stored) (kept : Endings) → IsCoreOf source (numbers plan) run core → (is : IsKeptRun core kept) → IsRunOver source.image (numbers plan) source.sites source.seed run (finished plan core kept is.small)
finished_is_run source plan run core kept of is = record {
  plan_is = refl;
  drawn = of.drawn;
  endings_are = is.endings_are
      ∙ ap (λ (i : Contents). endings (setting_of (stored i core.plan [])).start core.entries) of.image_is
      ∙ ap (λ (p : Numbers). endings (setting_of (stored source.image p [])).start core.entries) of.plan_is;
  output_is = subst (λ (p : Numbers). IsOutput (stored source.image p core.entries) is.small.printed) of.plan_is
      (subst (λ (i : Contents). IsOutput (stored i core.plan core.entries) is.small.printed) of.image_is is.small.is_output);
}

-- ---- the runs

record Runs (source : Source) (plan : Plan) (first : ℕ) (kept : List Endings) : Type 0 where
  told : List Finished
  endings_are : map (λ (one : Finished). one.endings) told ≡ kept
  each : (place : ℕ) (one : Finished) → slice_get told place ≡ Some one → IsRunOver source.image (numbers plan) source.sites source.seed (first + place) one

some_same : {X : Type 0} (x y : X) → Some x ≡ Some y → x ≡ y
some_same x y h = cc

nothing : {P : Type 0} (place : ℕ) (one : Finished) → slice_get [] place ≡ Some one → P
nothing place one there = (let no : None ≡ Some one = there in cc)

at_each : (P : ℕ → Finished → Type 0) (x : Finished) (xs : List Finished) → P 0 x → ((place : ℕ) (one : Finished) → slice_get xs place ≡ Some one → P (suc place) one) → (place : ℕ) (one : Finished) → slice_get (x ∷ xs) place ≡ Some one → P place one
at_each P x xs now later zero one there = subst (P 0) (some_same x one there) now
at_each P x xs now later (suc place) one there = later place one there

next_place : (first place : ℕ) → first + 1 + place ≡ first + suc place
next_place first place = omega arith

runs_of : (source : Source) (plan : Plan) (first : ℕ) (kept : List Endings) → ((place : ℕ) (one : Endings) → slice_get kept place ≡ Some one → IsKept IsKeptRun source (numbers plan) (first + place) one) → Runs source plan first kept
runs_of source plan first [] each = record { told = []; endings_are = refl; each = λ place one there. nothing place one there }
runs_of source plan first (k ∷ ks) each =
    let now = each 0 k refl in
    let rest = runs_of source plan (first + 1) ks (λ place one there. subst (λ (n : ℕ). IsKept IsKeptRun source (numbers plan) n one) (sym (next_place first place)) (each (suc place) one there)) in
    let one = finished plan now.core k now.is_kept.small in
    record {
      told = one ∷ rest.told;
      endings_are = ap (λ (more : List Endings). k ∷ more) rest.endings_are;
      each = at_each (λ n x. IsRunOver source.image (numbers plan) source.sites source.seed (first + n) x) one rest.told
          (finished_is_run source plan (first + 0) now.core k now.is_core now.is_kept)
          (λ place x there. subst (λ (n : ℕ). IsRunOver source.image (numbers plan) source.sites source.seed n x) (next_place first place) (rest.each place x there));
    }

pub are_of_runs : (image : Contents) (plan : Plan) (seed : ℕ) (excluded : List ℕ) (runs : ℕ) (kept : List Endings) → AreKeptOf IsKeptRun (record { image = image; plan = numbers plan; seed = seed; excluded = excluded }) runs kept
    → AreOfRuns (record { image = image; plan = numbers plan; seed = seed; excluded = excluded }) runs kept
are_of_runs image plan seed excluded runs kept are = record {
  told = all.told;
  are_runs = record {
    count = sym (length-map all.told (λ (one : Finished). one.endings)) ∙ ap length all.endings_are ∙ are.count;
    each = λ run one there. subst (λ (n : ℕ). IsRunOver image (numbers plan) (sites image excluded) seed n one) (from_zero run) (all.each run one there);
  };
  endings_are = all.endings_are;
}
  where
    from_zero : (place : ℕ) → 0 + place ≡ place
    from_zero place = omega arith

    source : Source
    source = record { image = image; sites = sites image excluded; seed = seed }

    all : Runs source plan 0 kept
    all = runs_of source plan 0 kept (λ place one there. subst (λ (n : ℕ). IsKept IsKeptRun source (numbers plan) n one) (sym (from_zero place)) (are.each place one there))

pub how_many : (hunt : Hunt) (runs : ℕ) (kept : List Endings) → AreOfRuns hunt runs kept → length kept ≡ runs
how_many hunt runs kept are = sym (ap length are.endings_are) ∙ length-map are.told (λ (one : Finished). one.endings) ∙ are.are_runs.count

-- the slices are those that functions are given of the lists
pub ready : (r : Request) (hunted : Hunted) (listed : List (ℕ × ℕ)) (excluded : List ℕ) (ranges : List (ℕ × ℕ)) (kept slice : List Endings) → excluded ≡ hunted.excluded.items → ranges ≡ listed → slice ≡ kept → AreOfRuns (record { image = hunted.image; plan = numbers hunted.plan; seed = hunted.seed; excluded = excluded }) r.runs kept
    → ((runs : List Finished) → map (λ (one : Finished). one.endings) runs ≡ slice → hunted.table ≡ races (told_from hunted.image ranges 0 runs)) → IsReady r hunted (record { hunt = hunt_of hunted; listed = listed })
ready r hunted listed excluded ranges kept slice of_excluded of_ranges of_kept are table = record {
  hunt_is = refl;
  runs = all.told;
  are_runs = all.are_runs;
  table_is = table all.told (all.endings_are ∙ sym of_kept) ∙ ap (λ (bytes : List (ℕ × ℕ)). races (told_from hunted.image bytes 0 all.told)) of_ranges;
}
  where
    all : AreOfRuns (hunt_of hunted) r.runs kept
    all = subst (λ (es : List ℕ). AreOfRuns (record { image = hunted.image; plan = numbers hunted.plan; seed = hunted.seed; excluded = es }) r.runs kept) of_excluded are

-- ---- a run that is made again

pub same_schedule : OneRunAtMost → (hunt : Hunt) (run : ℕ) (told one : Finished) → IsRun hunt run told → IsRun hunt run one → (numbers told.plan ≡ numbers one.plan) × (told.entries.items ≡ one.entries.items)
same_schedule once hunt run told one a b = (
  a.plan_is ∙ sym b.plan_is,
  once (setting_of (stored hunt.image hunt.plan [])) (sampling_of (sites hunt.image hunt.excluded) hunt.seed run) told.entries.items one.entries.items a.drawn b.drawn,
)
