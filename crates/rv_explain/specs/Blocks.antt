-- What is shown of a race, as values.
use Rattle.std.specs.Prelude.{ℕ, List}
use Rattle.rv_collide.specs.declared.ending.Ending.{Ending}
use Rattle.rv_explain.specs.declared.block.Block.{Block}
use Rattle.rv_explain.specs.declared.block.Side.{Side}
use Rattle.rv_explain.specs.declared.row.Shown.{Shown}
use Rattle.rv_races.specs.declared.classes.RaceClass.{RaceClass}

-- What is shown of a race: a block, with its lines as a list.
pub record RaceShown : Type 0 where
  pub reports : ℕ
  pub class : RaceClass
  pub number : ℕ
  pub ending : Ending
  pub paused : Side
  pub other : Side
  pub second : ℕ
  pub lines : List Shown

abbrev pub shown_of : Block → RaceShown
shown_of block = record {
  reports = block.reports;
  class = block.class;
  number = block.number;
  ending = block.ending;
  paused = block.paused;
  other = block.other;
  second = block.second;
  lines = block.lines.items;
}
