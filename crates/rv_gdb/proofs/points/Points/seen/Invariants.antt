-- what is seen from the next byte on is what is seen of all
use Rattle.std.proofs.Common.{◌≡◌, ◌+◌, ◌-◌}
use Rattle.rv_gdb.specs.Points.{byte_count, seen_at}
use Rattle.rv_gdb.specs.Search.{first_in}
use Rattle.rv_gdb.proofs.points.Points.seen.Given as goal

abbrev pub invariant-loop-i : goal.invariant-loop-i
invariant-loop-i l =
    first_in (seen_at l.self l.access) l.access.first (byte_count l.access) ≡ first_in (seen_at l.self l.access) (l.access.first + l.i) (byte_count l.access - l.i)
