-- The numbers that a plan in the code has.
use Rattle.rv_collide.specs.Plan.{Numbers}
use Rattle.rv_collide.specs.declared.plan.Plan.{Plan}

-- the numbers of a plan
abbrev pub numbers : Plan → Numbers
numbers plan = record { harts = plan.harts; steps = plan.steps; arms = plan.arms; pause = plan.pause; slots = plan.slots }
