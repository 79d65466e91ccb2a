-- the rows so far
use Rattle.std.proofs.Common.{◌≡◌, take}
use Rattle.rv_page.specs.PageFacts.{number_row_facts}
use Rattle.rv_page.proofs.runs.number_rows.Given as goal

abbrev pub invariant-loop-seen : goal.invariant-loop-seen
invariant-loop-seen l = l.page ≡ record l.fn.page { facts = number_row_facts (take l.seen-index l.numbers) l.fn.page.facts }
