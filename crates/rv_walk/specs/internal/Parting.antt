-- What the probes of a walk keep, so that each may fork.
use Rattle.std.specs.Prelude.{◌≡◌, ℕ, ◌≤◌, [], length}
use Rattle.rv_break.specs.declared.claim.TheConstants.{MOST_SLOTS}
use Rattle.rv_hart.specs.declared.machine.TheConstants.{MOST_HARTS}
use Rattle.rv_walk.specs.Again.{Gone}
use Rattle.rv_walk.specs.declared.course.TheConstants.{MOST_WALKED}

pub record AreReady (gone : Gone) (harts slots : ℕ) : Type 0 where
  pub count : length gone.start.harts ≡ harts
  pub some_hart : 1 ≤ harts
  pub few_harts : harts ≤ MOST_HARTS
  pub some_slot : 1 ≤ slots
  pub few_slots : slots ≤ MOST_SLOTS
  pub printed : gone.start.output ≡ []
  pub few : length gone.harts ≤ MOST_WALKED
