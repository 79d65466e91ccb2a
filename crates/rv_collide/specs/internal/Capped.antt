use Rattle.std.specs.Prelude.{ℕ, min}
use Rattle.rv_collide.specs.Plan.{Numbers}
use Rattle.rv_collide.specs.declared.schedule.plan_line.Given.{Given}

-- each number is at most this
abbrev pub at_most : ℕ → ℕ
at_most n = min 4_294_967_295 n

-- the numbers, none of them above those of 32 bits
abbrev pub capped : Numbers → Numbers
capped n = record { harts = at_most n.harts; steps = at_most n.steps; arms = at_most n.arms; pause = at_most n.pause; slots = at_most n.slots }

abbrev pub given_numbers : Given → Numbers
given_numbers g = record { harts = g.harts; steps = g.steps; arms = g.arms; pause = g.pause; slots = g.slots }
