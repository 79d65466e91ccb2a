use Rattle.rv_page.proofs.PageLemmas.{numbers_of_rows}
use Rattle.rv_page.proofs.runs.sampled_rows.Goals as goal

pub returns : goal.returns
returns c = rw (numbers_of_rows c.sampled_numbers.result c.args.page.facts, c.sampled_numbers.ensures) at c.number_rows.ensures
