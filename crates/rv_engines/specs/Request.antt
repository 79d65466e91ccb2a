-- What the options of `run` ask for.
use Rattle.std.specs.Prelude.{ℕ, Option, option_map, List}
use Rattle.rv_collide.specs.Numbers.{numbers}
use Rattle.rv_collide.specs.Plan.{Numbers}
use Rattle.rv_engines.specs.declared.run.options.Options.{Options}

-- The numbers of a campaign, the names and the addresses that are listed, and the run whose schedule is kept.
pub record Request : Type 0 where
  pub plan : Numbers
  pub seed : ℕ
  pub runs : ℕ
  pub workers : ℕ
  pub named : Option (List ℕ)
  pub skip : Option (List ℕ)
  pub keep : ℕ

-- the request of some options, its lists as texts
abbrev pub request : Options → Request
request options = record {
  plan = numbers options.plan;
  seed = options.seed;
  runs = options.runs;
  workers = options.workers;
  named = option_map (λ text. text.now) options.named;
  skip = option_map (λ text. text.now) options.skip;
  keep = options.keep;
}
