use Rattle.rv_page.proofs.PageLemmas.{numbers_of_rows}
use Rattle.rv_page.proofs.runs.walk_rows.Goals as goal

pub returns : goal.returns
returns c = rw (numbers_of_rows c.walk_numbers.result c.args.page.facts, c.walk_numbers.ensures) at c.number_rows.ensures
