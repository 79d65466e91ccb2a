use Rattle.std.proofs.KnownBytes.{Appends-kept}
use Rattle.rv_engines.proofs.exhibit.engine.show_exhibit.Goals as goal

pub returns-clause-text : goal.returns-clause-text
returns-clause-text g c = Appends-kept _ _ _ _ c.in_ok-write_exhibit.ensures.ok c.in_ok-finish.ensures.sent
