-- the rows so far
use Rattle.std.proofs.Common.{◌≡◌, take}
use Rattle.rv_page.specs.PageFacts.{ended_row_facts}
use Rattle.rv_page.proofs.runs.ended_rows_of.Given as goal

abbrev pub invariant-loop-row : goal.invariant-loop-row
invariant-loop-row l = l.page ≡ record l.fn.page { facts = ended_row_facts (take l.row-index l.rows) l.fn.page.facts }
