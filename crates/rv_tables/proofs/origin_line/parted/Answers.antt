use Rattle.std.proofs.Common.{◌∷◌, None, Some}
use Rattle.std.specs.Prelude.{codes}
use Rattle.memchr.proofs.lemmas.ValueLemmas.{FindsNeedle-value}
use Rattle.rv_tables.proofs.OriginLemmas.{last_behind, none_of, rows_before}
use Rattle.rv_tables.proofs.origin_line.parted.Goals as goal

pub returns-in-None-clause-rows : goal.returns-in-None-clause-rows
returns-in-None-clause-rows c = (none_of c.args.text.now (FindsNeedle-value c.args.text.now (10 ∷ codes "of ") None c.in-None.ensures)).0

pub returns-in-None-clause-last : goal.returns-in-None-clause-last
returns-in-None-clause-last c = (none_of c.args.text.now (FindsNeedle-value c.args.text.now (10 ∷ codes "of ") None c.in-None.ensures)).1

pub returns-in-Some-clause-rows : goal.returns-in-Some-clause-rows
returns-in-Some-clause-rows c = rows_before c.args.text.now c.in-Some.place (FindsNeedle-value c.args.text.now (10 ∷ codes "of ") (Some c.in-Some.place) c.in-Some.ensures)

pub returns-in-Some-clause-last : goal.returns-in-Some-clause-last
returns-in-Some-clause-last c = last_behind c.args.text.now c.in-Some.place (FindsNeedle-value c.args.text.now (10 ∷ codes "of ") (Some c.in-Some.place) c.in-Some.ensures)
