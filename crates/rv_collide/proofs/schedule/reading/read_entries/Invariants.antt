use Rattle.std.proofs.Common.{length}
use Rattle.rv_collide.proofs.EntriesSoFar.{EntriesSoFar}
use Rattle.rv_collide.proofs.schedule.reading.read_entries.Given as goal

abbrev pub invariant-lines : goal.invariant-lines
invariant-lines l = EntriesSoFar l.format l.text l.rest l.room l.entries.items

abbrev pub decreases-lines : goal.decreases-lines
decreases-lines l = length l.rest
