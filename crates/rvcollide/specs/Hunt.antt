-- What a line of `hunt` asks the engine for.
use Rattle.std.specs.Prelude.{ℕ, ◌≡◌, not, option_map, unwrap_or, is_some, if◌then◌else◌}
use Rattle.rv_collide.specs.declared.plan.TheConstants.{DEFAULT_SLOTS}
use Rattle.rv_command.specs.HuntLine.{sides}
use Rattle.rv_command.specs.declared.command.hunt.HuntLine.{HuntLine}
use Rattle.rv_shown.specs.Asked as engine
use Rattle.rv_shown.specs.declared.options.HuntOptions.{HuntOptions}
use Rattle.rv_shown.specs.declared.options.LineParts.{LineParts}
use Rattle.rv_shown.specs.declared.options.Shows.{Shows}
use Rattle.rv_shown.specs.declared.options.Shows.TheVariants.{Table, Text}
use Rattle.rv_plans.specs.declared.plans.Mix.{Mix}
use Rattle.rv_plans.specs.declared.plans.Mix.TheVariants.{Mixed, Sampled, Walks}
use Rattle.rv_hunt.specs.declared.given.TheConstants.{SLOTS}

-- what is shown
abbrev pub shown_by : HuntLine → Shows
shown_by line = if line.shows_table then Table else Text

-- what the runs are: walks alone where the line aims at a pair, as sampled runs make no probes
abbrev pub mix_of : HuntLine → Mix
mix_of line = if line.sampled then Sampled else (if is_some line.aim then Walks else Mixed)

-- how many slots each run has, where the line doesn't say
abbrev pub slots_of : HuntLine → ℕ
slots_of line = if line.sampled then DEFAULT_SLOTS else SLOTS

-- what is asked of the runs and their reports
abbrev pub asked : HuntLine → engine.Asked
asked line = record {
  given = record { mix = mix_of line; harts = line.harts; slots = unwrap_or line.slots (slots_of line); lengths = line.lengths };
  seed = line.seed;
  first = line.first;
  limit = line.limit;
  named = option_map (λ text. text.now) line.named;
  skip = option_map (λ text. text.now) line.skip;
  idle = option_map (λ text. text.now) line.idle;
  aim = option_map sides line.aim;
  right = option_map (λ text. text.now) line.right;
}

-- The options are those of a line, with so many workers and these parts of the line to be shown.
pub record AreOptionsOf (line : HuntLine) (workers : ℕ) (parts : LineParts) (options : HuntOptions) : Type 0 where
  pub is_legal : engine.AreLegal options
  pub asked_is : engine.asked options ≡ asked line
  pub workers_are : options.workers ≡ workers
  pub shows_is : options.shows ≡ shown_by line
  pub blocks_are : options.blocks ≡ line.blocks
  pub parts_are : options.line ≡ parts
  pub orders_are : options.orders ≡ not line.no_orders
