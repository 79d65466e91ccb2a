use Rattle.rv_words.proofs.Fits.{regions_are_extents}
use Rattle.rv_words.proofs.guest.machine_of.Goals as goal

pub new-requires-clause-regions : goal.new-requires-clause-regions
new-requires-clause-regions c = rw (c.deref-2.ensures.value, c.in_ok-regions.ensures) (regions_are_extents _)
