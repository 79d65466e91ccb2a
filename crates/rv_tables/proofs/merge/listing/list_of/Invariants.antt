-- the lines of the races so far
use Rattle.std.proofs.Common.{◌≡◌, map, take}
use Rattle.rv_text.specs.Lines.{text_of_lines}
use Rattle.rv_tables.specs.merge.Listing as spec
use Rattle.rv_tables.proofs.merge.listing.list_of.Given as goal

abbrev pub invariant-loop-race : goal.invariant-loop-race
invariant-loop-race l = l.text.items ≡ text_of_lines (map (spec.list_line l.symbols) (take l.race-index l.races))
