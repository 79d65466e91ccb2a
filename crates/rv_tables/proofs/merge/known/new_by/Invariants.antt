-- the races so far that are new
use Rattle.std.proofs.Common.{◌≡◌, filter, take}
use Rattle.rv_tables.specs.declared.merge.known.Known.TheVariants as known
use Rattle.rv_tables.specs.merge.Known as spec
use Rattle.rv_tables.proofs.merge.known.new_by.Given as goal

abbrev pub invariant-loop-race : goal.invariant-loop-race
invariant-loop-race l = l.found.items ≡ filter (spec.is_new l.symbols (known.Lines l.lines)) (take l.race-index l.races)
