-- The options of `show`: what each value means.
use Rattle.std.specs.Prelude.{ℕ, Bool, List, Option, option_and_then, option_map, codes}
use Rattle.clap.specs.Words.{Row, Text, first_of}
use Rattle.rv_campaign.specs.declared.runs.TheConstants.{MOST_WORKERS}
use Rattle.rv_command.specs.HuntLine.{progress_at}
use Rattle.rv_command.specs.Values.{flag_at, number_if, number_or}
use Rattle.rv_command.specs.declared.command.hunt.TheConstants.{DEFAULT_BLOCKS, MOST_BLOCKS}
use Rattle.rv_command.specs.declared.command.show.ShowLine.{ShowLine}

-- What a line of `show` asks for, beside its image and its table.
pub record Showing : Type 0 where
  pub workers : Option ℕ
  pub lines : Option Text
  pub ignore : Option Text
  pub save_to : Option Text
  pub page : Option Text
  pub list : Option Text
  pub json : Option Text
  pub blocks : ℕ
  pub checks : Bool
  pub checks_all : Bool
  pub expect : Option Text
  pub is_quiet : Bool
  pub progress : Bool

-- the same of the options, their paths as texts
abbrev pub showing : ShowLine → Showing
showing line = record {
  workers = line.workers;
  lines = option_map (λ path. path.0.now) line.lines;
  ignore = option_map (λ path. path.0.now) line.ignore;
  save_to = option_map (λ path. path.0.now) line.save_to;
  page = option_map (λ path. path.0.now) line.page;
  list = option_map (λ path. path.0.now) line.list;
  json = option_map (λ path. path.0.now) line.json;
  blocks = line.blocks;
  checks = line.checks;
  checks_all = line.checks_all;
  expect = option_map (λ path. path.0.now) line.expect;
  is_quiet = line.is_quiet;
  progress = line.progress;
}

abbrev pub showing_at : List Row → Option Showing
showing_at rows =
    option_and_then (λ workers. option_and_then (λ blocks. option_map (λ progress.
    record {
      workers = workers;
      lines = first_of (codes "lines") rows;
      ignore = first_of (codes "ignore") rows;
      save_to = first_of (codes "save-to") rows;
      page = first_of (codes "page") rows;
      list = first_of (codes "list") rows;
      json = first_of (codes "json") rows;
      blocks = blocks;
      checks = flag_at (codes "check") rows;
      checks_all = flag_at (codes "check-all") rows;
      expect = first_of (codes "expect") rows;
      is_quiet = flag_at (codes "quiet") rows;
      progress = progress;
    })
    (progress_at rows))
    (number_or DEFAULT_BLOCKS (codes "blocks") 0 MOST_BLOCKS rows))
    (number_if (codes "workers") 1 MOST_WORKERS rows)
