use Rattle.std.proofs.Common.{rules}
use Rattle.rv_tables.proofs.strongest.first_strongest.Goals as goal

pub returns-then-later-first : goal.returns-then-later-first
returns-then-later-first g c = search rules
