-- A part of a run that walks: the probe of a near pair, from a place of the walk on.
use Rattle.std.specs.Prelude.{◌≡◌, ◌+◌, ◌++◌, ◌≤◌, Some, length, take}
use Rattle.rv_collide.specs.Begun.{begun}
use Rattle.rv_collide.specs.Legal.{IsLegal}
use Rattle.rv_collide.specs.Numbers.{numbers}
use Rattle.rv_collide.specs.Plan.{IsPlan, most_entries}
use Rattle.rv_collide.specs.Verdict.{endings}
use Rattle.rv_collide.specs.declared.collider.Finished.{Finished}
use Rattle.rv_collide.specs.declared.plan.TheConstants.{MOST_ARMS, MOST_STEPS}
use Rattle.rv_hart.specs.Run.{run}
use Rattle.rv_hart.specs.State.{State}
use Rattle.rv_walk.specs.Probe.{IsProbe}
use Rattle.rv_walk.specs.Told.{addresses_of}
use Rattle.rv_walk.specs.Walked.{Walked, entries_of}
use Rattle.rv_walk.specs.declared.probes.Part.{Part}

-- From the state at the part's place of the walk on its list is legal and is its pair's probe, and its endings are that list's.
pub record IsPart (walk : Walked) (part : Part) : Type 0 where
  pub within : part.place ≤ length walk.harts
  pub start : State
  pub at : run walk.start (take part.place walk.harts) ≡ Some start
  pub room : part.place + (numbers part.probed.finished.plan).steps ≤ MOST_STEPS
  pub arms : (numbers part.probed.finished.plan).arms ≤ MOST_ARMS
  pub harts : (numbers part.probed.finished.plan).harts ≡ length walk.start.harts
  pub in_range : IsPlan (numbers part.probed.finished.plan)
  pub few : length part.probed.finished.entries.items ≤ most_entries (numbers part.probed.finished.plan)
  pub legal : IsLegal (record { start = start; plan = numbers part.probed.finished.plan }) part.probed.finished.entries.items
  pub endings_are : part.probed.finished.endings.items ≡ endings start part.probed.finished.entries.items
  pub probe : IsProbe (record { addresses = addresses_of part.pair; sites = walk.sites }) (begun start (numbers part.probed.finished.plan) part.probed.finished.entries.items)

-- From the walk's begin on the part is a legal list: the walk's steps before its place, and then its own entries. Its endings are those of
-- that list.
pub record IsWhole (walk : Walked) (part : Part) (whole : Finished) : Type 0 where
  pub entries_are : whole.entries.items ≡ entries_of (take part.place walk.harts) ++ part.probed.finished.entries.items
  pub legal : IsLegal (record { start = walk.start; plan = numbers whole.plan }) whole.entries.items
  pub endings_are : whole.endings.items ≡ endings walk.start whole.entries.items
