-- The races that are shown in full, each of the run that its row names, made again.
use Rattle.std.specs.Prelude.{◌≡◌, ℕ, ◌+◌, true, false, Some, List, length, slice_get}
use Rattle.rv_collide.specs.Grammar.{schedule_text}
use Rattle.rv_collide.specs.Numbers.{numbers}
use Rattle.rv_collide.specs.declared.collider.Finished.{Finished}
use Rattle.rv_debug.specs.Placed.{placed}
use Rattle.rv_elf.specs.Contents.{Contents}
use Rattle.rv_explain.specs.BlockOf.{race_shown}
use Rattle.rv_explain.specs.Blocks.{shown_of}
use Rattle.rv_explain.specs.Races.{Run, run_of}
use Rattle.rv_races.specs.declared.races.Race.{Race}
use Rattle.rv_search.specs.Hunt.{Hunt, IsSampledRun, IsWalkOf}
use Rattle.rv_remade.specs.Remade.{race_in}
use Rattle.rv_tables.specs.declared.row.RaceRow.{RaceRow}
use Rattle.rv_shown.specs.declared.shown.ShownRace.{ShownRace}
use Rattle.rv_remade.specs.declared.shown.TheConstants.{AROUND}
use Rattle.rv_report.specs.declared.key.Key.{Key}
use Rattle.rv_plans.specs.Plans.{is_sampled}
use Rattle.rv_walk.specs.Part.{IsPart, IsWhole}
use Rattle.rv_walk.specs.Walked.{Walked}
use Rattle.rv_walk.specs.declared.probes.Part.{Part}

-- A part of the walk of that number: the walk's steps up to the fork, and then the part's own entries.
pub record IsPartOf (hunt : Hunt) (number : ℕ) (run : Finished) : Type 0 where
  pub walk : Walked
  pub is_walk : IsWalkOf hunt number walk
  pub part : Part
  pub is_part : IsPart walk part
  pub is_whole : IsWhole walk part run

-- The sampled run of that number of a hunt, or a part of its walk.
pub record IsRunOf (hunt : Hunt) (number : ℕ) (run : Finished) : Type 0 where
  pub sampled : is_sampled hunt.given.mix number ≡ true → IsSampledRun hunt number run
  pub walked : is_sampled hunt.given.mix number ≡ false → IsPartOf hunt number run

-- a run that is over, as its races are told
abbrev pub run_told : Contents → Finished → Run
run_told image run = run_of (placed image (numbers run.plan) run.entries.items 0)

-- This is shown of a row's race in a run of so many harts: its block, as values.
pub record IsRaceShown (ranges : List (ℕ × ℕ)) (harts : ℕ) (row : Key × RaceRow) (run : Run) (shown : ShownRace) : Type 0 where
  pub race : Race
  pub is_race : race_in run ranges row ≡ Some race
  pub block_is : shown_of shown.block ≡ race_shown run AROUND race
  pub harts_are : shown.harts ≡ harts

-- the same in the run that the row names, whose schedule is saved
pub record IsShown (hunt : Hunt) (Saves : List ℕ → Type 0) (row : Key × RaceRow) (shown : ShownRace) : Type 0 where
  pub run : Finished
  pub is_run : IsRunOf hunt row.1.run run
  pub is_shown : IsRaceShown hunt.ranges run.plan.harts row (run_told hunt.source.image run) shown
  pub saved : Saves (schedule_text (numbers run.plan) run.entries.items)

-- each of the rows is shown, and its run is saved under a number by its place, from 1 on
pub record AreShown (hunt : Hunt) (Saves : ℕ → List ℕ → Type 0) (rows : List (Key × RaceRow)) (shown : List ShownRace) : Type 0 where
  pub count : length shown ≡ length rows
  pub each : (place : ℕ) (row : Key × RaceRow) (one : ShownRace) → slice_get rows place ≡ Some row → slice_get shown place ≡ Some one → IsShown hunt (Saves (place + 1)) row one
