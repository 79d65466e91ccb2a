-- What a hunt keeps of a run: what is counted of it, its reports, and the near pairs of its walk.
use Rattle.std.specs.Prelude.{◌≡◌, ℕ, ◌+◌, true, false, All, Some, None, List, [], ◌∷◌, ◌++◌, length, map, slice_get, take}
use Rattle.rv_collide.specs.declared.collider.Finished.{Finished}
use Rattle.rv_collide.specs.declared.ending.Ending.{Ending}
use Rattle.rv_collide.specs.declared.entry.Entry.{Entry}
use Rattle.rv_explain.specs.Judged.{judged, run_behind}
use Rattle.rv_explain.specs.Races.{reports_of}
use Rattle.rv_races.specs.Run.{Run}
use Rattle.rv_races.specs.declared.judged.Judged.{Judged}
use Rattle.rv_races.specs.declared.races.Report.{Report}
use Rattle.rv_hart.specs.State.{State, start as first_state}
use Rattle.rv_search.specs.Hunt.{Hunt, IsSampledRun, IsWalkOf}
use Rattle.rv_search.specs.Summary.{IsSampledSummary, IsWalkSummary}
use Rattle.rv_search.specs.declared.kept_run.KeptRun.{KeptRun}
use Rattle.rv_tables.specs.declared.row.PartReport.{PartReport}
use Rattle.rv_tables.specs.declared.near.NearRow.{NearRow}
use Rattle.rv_tables.specs.declared.orders.TriedOrder.{TriedOrder}
use Rattle.rv_tables.specs.Near.{probed_pair, seen_pair}
use Rattle.rv_tables.specs.Rows.{saturated_word}
use Rattle.rv_plans.specs.Plans.{is_sampled, plan_of}
use Rattle.rv_walk.specs.Part.{IsPart}
use Rattle.rv_walk.specs.Told.{AreTold}
use Rattle.rv_walk.specs.Walked.{Walked}
use Rattle.rv_walk.specs.declared.near_pair.Addresses.{Addresses}
use Rattle.rv_walk.specs.declared.near_pair.NearPair.{NearPair}
use Rattle.rv_walk.specs.declared.probes.Part.{Part}

-- the state at which the run of that number begins
abbrev pub begin : Hunt → ℕ → State
begin hunt number = first_state hunt.source.image.segments hunt.source.image.entry (plan_of hunt.given number).harts

-- the reports among endings, each of which comes with what it is judged by
abbrev pub reports_by : Hunt → List Judged → List Report
reports_by hunt ended = reports_of hunt.source.image hunt.ranges ended (length ended)

-- the reports of a run's endings
abbrev pub reports_among : Hunt → Run → List Ending → List Report
reports_among hunt run ended = reports_by hunt (map (judged run) ended)

-- a report of a part of a run, before whose own entries there are so many of its walk
abbrev pub in_part : ℕ → ℕ → Report → PartReport
in_part part before report = record { part = part; before = before; report = report }

-- part 0 is a sampled run
abbrev pub reports_of_sampled : Hunt → State → List Entry → List Ending → List PartReport
reports_of_sampled hunt start entries ended = map (in_part 0 0) (reports_among hunt (run_behind hunt.source.image start [] entries) ended)

-- A walk as its parts see it: the state that it began at, and the harts of its steps.
pub record Gone : Type 0 where
  pub start : State
  pub harts : List ℕ

-- a part as a run: it begins behind the walk's steps up to its place
abbrev pub run_of_part : Hunt → Gone → Part → Run
run_of_part hunt gone part = run_behind hunt.source.image gone.start (take part.place gone.harts) part.probed.finished.entries.items

-- the reports of the part of that number
abbrev pub reports_of_part : Hunt → Gone → ℕ → Part → List PartReport
reports_of_part hunt gone number part =
    map (in_part number part.place) (reports_among hunt (run_of_part hunt gone part) part.probed.finished.endings.items)

-- those of parts, the first of which has that number
abbrev pub reports_of_parts : Hunt → Gone → ℕ → List Part → List PartReport
reports_of_parts hunt gone number [] = []
reports_of_parts hunt gone number (part ∷ later) = reports_of_part hunt gone number part ++ reports_of_parts hunt gone (number + 1) later

abbrev pub gone_of : Walked → Gone
gone_of walk = record { start = walk.start; harts = walk.harts }

-- a trial is of one of these reports: of its race, and of its pause
pub record IsOfSome (reports : List PartReport) (tried : TriedOrder) : Type 0 where
  pub place : ℕ
  pub report : PartReport
  pub there : slice_get reports place ≡ Some report
  pub key_is : tried.key ≡ report.report.key
  pub part_is : tried.part ≡ report.part
  pub entry_is : tried.entry ≡ saturated_word (report.before + report.report.ending.paused_at)

-- What is kept of the sampled run of that number.
pub record IsOfSampled (hunt : Hunt) (run : ℕ) (kept : KeptRun) : Type 0 where
  pub left : Finished
  pub is_run : IsSampledRun hunt run left
  pub summary : IsSampledSummary (begin hunt run) left kept.summary
  pub reports_are : kept.reports.items ≡ reports_of_sampled hunt (begin hunt run) left.entries.items left.endings.items
  pub near_are : kept.near.items ≡ []
  pub tried_are : kept.tried.items ≡ []

-- What is kept of a walk of that number, and of its probes: the parts from 1 on.
pub record IsOfWalk (hunt : Hunt) (run : ℕ) (kept : KeptRun) : Type 0 where
  pub walk : Walked
  pub is_walk : IsWalkOf hunt run walk
  pub pairs : List NearPair
  pub are_told : AreTold walk pairs
  pub parts : List Part
  pub are_parts : All (IsPart walk) parts
  pub summary : IsWalkSummary walk parts kept.summary
  pub reports_are : kept.reports.items ≡ reports_of_parts hunt (gone_of walk) 1 parts
  pub near_are : kept.near.items ≡ map seen_pair pairs ++ map probed_pair parts
  pub tried_are : All (IsOfSome kept.reports.items) kept.tried.items

-- what is kept of the run of that number
pub record IsOfRun (hunt : Hunt) (run : ℕ) (kept : KeptRun) : Type 0 where
  pub sampled : is_sampled hunt.given.mix run ≡ true → IsOfSampled hunt run kept
  pub walked : is_sampled hunt.given.mix run ≡ false → IsOfWalk hunt run kept
