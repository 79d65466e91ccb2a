use Rattle.std.proofs.Common.{◌∙◌, ap, sym}
use Rattle.std.specs.Prelude.{◌||◌, is_some}
use Rattle.rv_faults.specs.CommandFault as command
use Rattle.rv_hunt.proofs.EngineLemmas.{make_told, made_known, write_same}
use Rattle.rv_shown.specs.Asked.{asked}
use Rattle.rv_hunt.specs.engine.Hunting.{files_of, showing_of}
use Rattle.rv_hunt.specs.engine.Late.{IfListed, IfPaged, IfWritten}
use Rattle.rv_remade.specs.Saved.{IfSaved}
use Rattle.rv_search.specs.RightEnds.{right_codes}
use Rattle.rv_hunt.specs.internal.Opened.{hunt_in, hunting_with, texts_in}
use Rattle.rv_hunt.proofs.engine.make.Goals as goal

pub returns-in-Err-made-clause-refused : goal.returns-in-Err-made-clause-refused
returns-in-Err-made-clause-refused g c =
    make_told (files_of g.R.Read.remaining c.args.inputs.now) (asked c.args.options.now) (hunting_with (hunt_in (asked c.args.options.now) c.in-Ok.read.0) c.in-Ok.read.0.digits.items (right_codes (asked c.args.options.now).right) c.in-Ok.read.1) c.in-Err-made.fault c.as_command.result c.as_command.ensures c.in-Ok.ensures.ok

pub returns-in-Err-made-clause-files : goal.returns-in-Err-made-clause-files
returns-in-Err-made-clause-files g c =
    λ write. c.in-Err-made.ensures.failed (sym (ap (λ t. command.is_write (command.refusal t)) c.as_command.ensures ∙ write_same c.in-Err-made.fault) ∙ write)

pub returns-in-Ok-made-clause-made : goal.returns-in-Ok-made-clause-made
returns-in-Ok-made-clause-made g c =
    made_known (files_of g.R.Read.remaining c.args.inputs.now) (asked c.args.options.now) (showing_of c.args.options.now (is_some c.args.outputs.now.folder) (is_some c.args.outputs.now.page || is_some c.args.outputs.now.json)) (hunting_with (hunt_in (asked c.args.options.now) c.in-Ok.read.0) c.in-Ok.read.0.digits.items (right_codes (asked c.args.options.now).right) c.in-Ok.read.1)
    (IfSaved g.D.Folder.has_failed g.D.Folder.Holds c.make_hunt-made.new.outputs.folder) (IfPaged g.F.NewFile.has_failed g.F.NewFile.Holds c.make_hunt-made.new.outputs.page) (IfListed g.F.NewFile.has_failed g.F.NewFile.Holds c.make_hunt-made.new.outputs.list) (IfWritten g.F.NewFile.has_failed g.F.NewFile.Holds c.make_hunt-made.new.outputs.json)
    c.in-Ok-made.made.found (texts_in c.in-Ok-made.made) c.in-Ok.ensures.ok c.in-Ok-made.ensures.made
