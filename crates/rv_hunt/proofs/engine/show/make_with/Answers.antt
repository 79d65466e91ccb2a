use Rattle.rv_hunt.proofs.TableLemmas.{given_is, made_as_asked}
use Rattle.rv_hunt.specs.GivenRuns.{given}
use Rattle.rv_shown.specs.Asked.{asked}
use Rattle.rv_hunt.specs.engine.Late.{IfListed, IfPaged, IfWritten}
use Rattle.rv_remade.specs.Saved.{IfSaved}
use Rattle.rv_tables.specs.merge.Merge.{bytes_if}
use Rattle.rv_hunt.proofs.engine.show.make_with.Goals as goal

pub returns-in-Ok-clause-made : goal.returns-in-Ok-clause-made
returns-in-Ok-clause-made g c =
    made_as_asked (bytes_if g.R.Read.remaining c.args.inputs.now.lines) (bytes_if g.R.Read.remaining c.args.inputs.now.ignored) (bytes_if g.R.Read.remaining c.args.inputs.now.expected) c.args.file.now.image c.args.table.now (given c.in-Some.given) (asked c.in-Some-hunt_options.asked) c.seed.result c.in_ok-listed.listed c.in_ok-lists.lists
    _ c.args.options.now.blocks (IfSaved g.D.Folder.has_failed g.D.Folder.Holds c.make_rows.new.outputs.folder) (IfPaged g.F.NewFile.has_failed g.F.NewFile.Holds c.make_rows.new.outputs.page) (IfListed g.F.NewFile.has_failed g.F.NewFile.Holds c.make_rows.new.outputs.list) (IfWritten g.F.NewFile.has_failed g.F.NewFile.Holds c.make_rows.new.outputs.json) c.in-Ok.made.found
    (given_is c.deref.result.now c.in_ok-words.words.items _ c.in-Some.given c.deref.ensures.value c.in_ok-words.ensures c.in-Some.ensures)
    c.seed.ensures c.in-Some-hunt_options.ensures.asked c.in-Some-hunt_options.ensures.shown.1 c.in_ok-listed.ensures.ok c.in_ok-lists.ensures.source c.in_ok-lists.ensures.ignored c.in_ok-lists.ensures.expected c.in-Ok.ensures.made
