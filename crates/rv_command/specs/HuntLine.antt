-- The options of `hunt`: what each value means.
use Rattle.std.specs.Prelude.{ℕ, ◌+◌, ◌-◌, ◌&&◌, ◌||◌, Bool, List, [], ◌∷◌, Option, Some, None, option_and_then, option_map, codes, is_some, if◌then◌else◌}
use Rattle.std.specs.List.{list_all}
use Rattle.clap.specs.Walk.{is_empty}
use Rattle.clap.specs.Words.{Row, Text, first_of}
use Rattle.rv_text.specs.Pieces.{pieces_of}
use Rattle.rv_plans.specs.declared.limit.Limit.{Limit}
use Rattle.rv_plans.specs.declared.limit.Limit.TheVariants.{Runs, Budget}
use Rattle.rv_plans.specs.declared.limit.TheConstants.{MOST_BUDGET}
use Rattle.rv_plans.specs.declared.plans.Lengths.{Lengths}
use Rattle.rv_campaign.specs.declared.runs.TheConstants.{MOST_WORKERS}
use Rattle.rv_collide.specs.declared.plan.TheConstants.{MOST_ARMS, MOST_PAUSE, MOST_STEPS}
use Rattle.rv_break.specs.declared.claim.TheConstants.{MOST_SLOTS}
use Rattle.rv_hart.specs.declared.machine.TheConstants.{MOST_HARTS}
use Rattle.rv_command.specs.Values.{flag_at, if_given, number_in, number_if, number_or}
use Rattle.rv_command.specs.declared.arguments.Aim.{Aim}
use Rattle.rv_command.specs.declared.command.hunt.HuntLine.{HuntLine}
use Rattle.rv_command.specs.declared.command.hunt.TheConstants.{DEFAULT_BLOCKS, DEFAULT_BUDGET, DEFAULT_SEED, LAST_RUN, MOST_BLOCKS, MOST_CODE}
use Rattle.rv_command.specs.declared.command.run.TheConstants.{MOST_SEED}

-- What a line of `hunt` asks for, beside its image.
pub record Hunting : Type 0 where
  pub harts : Option ℕ
  pub seed : ℕ
  pub first : ℕ
  pub limit : Limit
  pub workers : Option ℕ
  pub lengths : Option Lengths
  pub slots : Option ℕ
  pub sampled : Bool
  pub aim : Option (Text × Text)
  pub named : Option Text
  pub skip : Option Text
  pub idle : Option Text
  pub lines : Option Text
  pub ignore : Option Text
  pub save_to : Option Text
  pub page : Option Text
  pub list : Option Text
  pub table_to : Option Text
  pub json : Option Text
  pub blocks : ℕ
  pub shows_table : Bool
  pub checks : Bool
  pub checks_all : Bool
  pub check_ends : Bool
  pub right : Option Text
  pub expect : Option Text
  pub is_quiet : Bool
  pub progress : Bool
  pub no_orders : Bool

-- the sides as texts
abbrev pub sides : Aim → Text × Text
sides aim = (aim.one.now, aim.other.now)

-- the same of the options, their lists and paths as texts
abbrev pub hunting : HuntLine → Hunting
hunting line = record {
  harts = line.harts;
  seed = line.seed;
  first = line.first;
  limit = line.limit;
  workers = line.workers;
  lengths = line.lengths;
  slots = line.slots;
  sampled = line.sampled;
  aim = option_map sides line.aim;
  named = option_map (λ text. text.now) line.named;
  skip = option_map (λ text. text.now) line.skip;
  idle = option_map (λ text. text.now) line.idle;
  lines = option_map (λ path. path.0.now) line.lines;
  ignore = option_map (λ path. path.0.now) line.ignore;
  save_to = option_map (λ path. path.0.now) line.save_to;
  page = option_map (λ path. path.0.now) line.page;
  list = option_map (λ path. path.0.now) line.list;
  table_to = option_map (λ path. path.0.now) line.table_to;
  json = option_map (λ path. path.0.now) line.json;
  blocks = line.blocks;
  shows_table = line.shows_table;
  checks = line.checks;
  checks_all = line.checks_all;
  check_ends = line.check_ends;
  right = option_map (λ text. text.now) line.right;
  expect = option_map (λ path. path.0.now) line.expect;
  is_quiet = line.is_quiet;
  progress = line.progress;
  no_orders = line.no_orders;
}

-- ---- what the values mean

-- how many runs there are from this one on
abbrev pub runs_from : ℕ → ℕ
runs_from first = LAST_RUN + 1 - first

-- so many runs, where their number is given, and else as many as the budget allows
abbrev pub limit_by : ℕ → Option ℕ → Limit
limit_by budget None = Budget budget
limit_by budget (Some runs) = Runs runs

abbrev pub limit_at : ℕ → List Row → Option Limit
limit_at first rows = option_and_then (λ budget. option_map (λ runs. limit_by budget runs)
    (number_if (codes "runs") 1 (runs_from first) rows))
    (number_or DEFAULT_BUDGET (codes "budget") 1 MOST_BUDGET rows)

abbrev pub three_lengths : Text → Text → Text → Option Lengths
three_lengths steps arms pause =
    option_and_then (λ s. option_and_then (λ a. option_map (λ p. record { steps = s; arms = a; pause = p })
    (number_in 1 MOST_PAUSE pause))
    (number_in 0 MOST_ARMS arms))
    (number_in 1 MOST_STEPS steps)

abbrev pub lengths_by : List Text → Option Lengths
lengths_by (steps ∷ arms ∷ pause ∷ []) = three_lengths steps arms pause
lengths_by _ = None

-- STEPS,ARMS,PAUSE: three numbers with commas (44) between them
abbrev pub lengths_in : Text → Option Lengths
lengths_in text = lengths_by (pieces_of 44 text)

abbrev pub lengths_at : List Row → Option (Option Lengths)
lengths_at rows = if_given lengths_in (first_of (codes "plan") rows)

-- neither side is empty
abbrev pub sides_by : List Text → Option (Text × Text)
sides_by (one ∷ other ∷ []) = if is_empty one || is_empty other then None else Some (one, other)
sides_by _ = None

-- A,B: two sides with a comma (44) between them
abbrev pub sides_in : Text → Option (Text × Text)
sides_in text = sides_by (pieces_of 44 text)

-- sampled runs make no probes that could be aimed
abbrev pub aim_by : Bool → Text → Option (Text × Text)
aim_by sampled text = if sampled then None else sides_in text

abbrev pub aim_at : List Row → Option (Option (Text × Text))
aim_at rows = if_given (aim_by (flag_at (codes "sampled") rows)) (first_of (codes "aim") rows)

-- an exit code in decimal digits
abbrev pub is_code : Text → Bool
is_code text = is_some (number_in 0 MOST_CODE text)

-- CODES: exit codes with commas (44) between them
abbrev pub are_codes : Text → Bool
are_codes text = list_all is_code (pieces_of 44 text)

-- such a list stays as it stands
abbrev pub right_by : Text → Option Text
right_by text = if are_codes text then Some text else None

abbrev pub right_at : List Row → Option (Option Text)
right_at rows = if_given right_by (first_of (codes "right") rows)

-- progress can't be asked for where none is
abbrev pub progress_at : List Row → Option Bool
progress_at rows = if flag_at (codes "progress") rows && flag_at (codes "quiet") rows then None else Some (flag_at (codes "progress") rows)

abbrev pub hunting_at : List Row → Option Hunting
hunting_at rows =
    option_and_then (λ harts. option_and_then (λ seed. option_and_then (λ first. option_and_then (λ limit. option_and_then (λ workers. option_and_then (λ lengths. option_and_then (λ slots. option_and_then (λ aim. option_and_then (λ blocks. option_and_then (λ right. option_map (λ progress.
    record {
      harts = harts;
      seed = seed;
      first = first;
      limit = limit;
      workers = workers;
      lengths = lengths;
      slots = slots;
      sampled = flag_at (codes "sampled") rows;
      aim = aim;
      named = first_of (codes "named") rows;
      skip = first_of (codes "skip") rows;
      idle = first_of (codes "idle") rows;
      lines = first_of (codes "lines") rows;
      ignore = first_of (codes "ignore") rows;
      save_to = first_of (codes "save-to") rows;
      page = first_of (codes "page") rows;
      list = first_of (codes "list") rows;
      table_to = first_of (codes "table-to") rows;
      json = first_of (codes "json") rows;
      blocks = blocks;
      shows_table = flag_at (codes "table") rows;
      checks = flag_at (codes "check") rows;
      checks_all = flag_at (codes "check-all") rows;
      check_ends = flag_at (codes "check-ends") rows;
      right = right;
      expect = first_of (codes "expect") rows;
      is_quiet = flag_at (codes "quiet") rows;
      progress = progress;
      no_orders = flag_at (codes "no-orders") rows;
    })
    (progress_at rows))
    (right_at rows))
    (number_or DEFAULT_BLOCKS (codes "blocks") 0 MOST_BLOCKS rows))
    (aim_at rows))
    (number_if (codes "slots") 1 MOST_SLOTS rows))
    (lengths_at rows))
    (number_if (codes "workers") 1 MOST_WORKERS rows))
    (limit_at first rows))
    (number_or 0 (codes "first") 0 LAST_RUN rows))
    (number_or DEFAULT_SEED (codes "seed") 0 MOST_SEED rows))
    (number_if (codes "harts") 1 MOST_HARTS rows)
