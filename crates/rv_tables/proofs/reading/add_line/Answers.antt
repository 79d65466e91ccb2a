use Rattle.std.proofs.Common.{◌≡◌, Ok, false}
use Rattle.rv_tables.specs.HuntRead.{row_of_line}
use Rattle.rv_tables.specs.Rows.{has_race}
use Rattle.rv_tables.proofs.ReadLemmas.{with_line_is}
use Rattle.rv_tables.proofs.reading.add_line.Goals as goal

pub returns-clause-ok : goal.returns-clause-ok
returns-clause-ok c =
    let is : row_of_line c.args.format c.args.line.now ≡ Ok c.in-Ok.row = cc in
    let none : has_race c.in-Ok.row.0 c.args.rows.now ≡ false = cc in
    with_line_is c.args.format c.args.rows.now c.add.new.self c.args.line.now c.in-Ok.row is none c.in_ok-add.ensures.ok
