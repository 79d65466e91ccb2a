-- the rows so far
use Rattle.std.proofs.Common.{◌≡◌, map, take}
use Rattle.rv_hunt.specs.engine.TableShown.{without_place}
use Rattle.rv_hunt.proofs.engine.remaking.placed_rows.Given as goal

abbrev pub invariant-loop-row : goal.invariant-loop-row
invariant-loop-row l = map without_place l.found.items ≡ map without_place (take l.row-index l.rows)
