-- the rows so far
use Rattle.std.proofs.Common.{◌≡◌, take}
use Rattle.rv_page.specs.PageFacts.{pair_rows_facts}
use Rattle.rv_page.proofs.near.pair_rows.Given as goal

abbrev pub invariant-loop-pair : goal.invariant-loop-pair
invariant-loop-pair l = l.page ≡ record l.fn.page { facts = pair_rows_facts (take l.pair-index l.pairs) l.fn.page.facts }
