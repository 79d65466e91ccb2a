-- the rows so far
use Rattle.std.proofs.Common.{◌≡◌, take}
use Rattle.rv_page.specs.PageFacts.{race_rows_facts}
use Rattle.rv_page.proofs.races.race_rows.Given as goal

abbrev pub invariant-loop-n : goal.invariant-loop-n
invariant-loop-n l = l.page ≡ record l.fn.page { facts = race_rows_facts l.full (take l.n l.told) l.fn.page.facts }
