-- The lines of a block that are there so far.
use Rattle.std.specs.Prelude.{◌≡◌, ◌≤◌, ℕ, map}
use Rattle.rv_collide.specs.Answers.{pause_of}
use Rattle.rv_collide.specs.Pause.{within}
use Rattle.rv_explain.specs.BlockOf.{Lines, meets_at}
use Rattle.rv_explain.specs.declared.lines.About.{About}
use Rattle.rv_explain.specs.declared.lines.Gathered.{Gathered}
use Rattle.rv_races.specs.Races.{Run}

abbrev pub gathered_of : Gathered → Lines
gathered_of g = record { lines = g.lines.items; hidden = g.hidden; meeting = g.meeting }

-- it is told which entries within the pause meet the bytes
abbrev pub KnowsMeetings : Run → About → Type 0
KnowsMeetings run about = about.meets.items ≡ map (meets_at run about.told) (within (pause_of about.told))

-- no more are counted than have been passed, and no more meet the bytes than are counted
pub record IsCounted (g : Gathered) (passed : ℕ) : Type 0 where
  pub hidden : g.hidden ≤ passed
  pub meeting : g.meeting ≤ g.hidden
