-- the races so far
use Rattle.std.proofs.Common.{◌≡◌}
use Rattle.rv_page.specs.PageFacts.{all_shown_facts}
use Rattle.rv_page.proofs.races.races_shown.Given as goal

abbrev pub invariant-loop-n : goal.invariant-loop-n
invariant-loop-n l = l.page ≡ record l.fn.page { facts = all_shown_facts l.n l.fn.page.facts }
