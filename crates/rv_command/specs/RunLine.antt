-- The options of `run` and `threads`: the number that each value means, and its range.
use Rattle.std.specs.Prelude.{ℕ, nat_lt, List, Option, Some, None, option_and_then, option_map, codes, if◌then◌else◌}
use Rattle.clap.specs.Words.{Row, first_of}
use Rattle.rv_collide.specs.Plan.{Numbers}
use Rattle.rv_engines.specs.Request.{Request}
use Rattle.rv_campaign.specs.declared.runs.TheConstants.{MOST_RUNS, MOST_WORKERS}
use Rattle.rv_collide.specs.declared.plan.TheConstants.{DEFAULT_SLOTS, MOST_ARMS, MOST_PAUSE, MOST_STEPS}
use Rattle.rv_break.specs.declared.claim.TheConstants.{MOST_SLOTS}
use Rattle.rv_hart.specs.declared.machine.TheConstants.{MOST_HARTS}
use Rattle.rv_command.specs.Values.{number_at, number_or}
use Rattle.rv_command.specs.declared.command.run.TheConstants.{MOST_KEEP, MOST_SEED}

abbrev pub plan_at : List Row → Option Numbers
plan_at rows =
    option_and_then (λ harts. option_and_then (λ steps. option_and_then (λ arms. option_and_then (λ pause. option_map (λ slots.
    record { harts = harts; steps = steps; arms = arms; pause = pause; slots = slots })
    (number_or DEFAULT_SLOTS (codes "slots") 1 MOST_SLOTS rows))
    (number_at (codes "pause") 1 MOST_PAUSE rows))
    (number_at (codes "arms") 0 MOST_ARMS rows))
    (number_at (codes "steps") 1 MOST_STEPS rows))
    (number_at (codes "harts") 1 MOST_HARTS rows)

-- the run whose schedule is saved: one of those that there are
abbrev pub keep_at : ℕ → List Row → Option ℕ
keep_at runs rows = option_and_then (λ keep. if nat_lt keep runs then Some keep else None) (number_or 0 (codes "keep") 0 MOST_KEEP rows)

abbrev pub request_at : List Row → Option Request
request_at rows =
    option_and_then (λ plan. option_and_then (λ seed. option_and_then (λ runs. option_and_then (λ workers. option_map (λ keep.
    record { plan = plan; seed = seed; runs = runs; workers = workers; named = first_of (codes "named") rows; skip = first_of (codes "skip") rows; keep = keep })
    (keep_at runs rows))
    (number_at (codes "workers") 1 MOST_WORKERS rows))
    (number_at (codes "runs") 1 MOST_RUNS rows))
    (number_at (codes "seed") 0 MOST_SEED rows))
    (plan_at rows)
