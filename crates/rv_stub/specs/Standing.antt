-- How a talk stands between two packets.
use Rattle.std.specs.Prelude.{ℕ, ◌&&◌, Bool, true, nat_lt, Option, None, List, []}
use Rattle.std.specs.Option.{option_map_or}
use Rattle.rv_debug.specs.Placed.{Placed}
use Rattle.rv_gdb.specs.Chosen as chosen
use Rattle.rv_gdb.specs.declared.chosen.Chosen.{Chosen}
use Rattle.rv_gdb.specs.declared.point.Point.{Point}
use Rattle.rv_stub.specs.declared.resume.Passed.{Passed}

-- The run at its place, the threads that are chosen, the points that are set, and what is remembered of steps that were
-- passed.
pub record Standing : Type 0 where
  pub run : Placed
  pub chosen : Chosen
  pub points : List Point
  pub passed : Option Passed

-- before the first packet
abbrev pub at_first : Placed → Standing
at_first run = record { run = run; chosen = chosen.at_first; points = []; passed = None }

abbrev pub is_there : ℕ → Option ℕ → Bool
is_there harts hart = option_map_or (λ hart. nat_lt hart harts) hart true

-- each hart that is chosen is one of so many
abbrev pub are_there : ℕ → Chosen → Bool
are_there harts chosen = nat_lt chosen.focus harts && (is_there harts chosen.shown && is_there harts chosen.going)
