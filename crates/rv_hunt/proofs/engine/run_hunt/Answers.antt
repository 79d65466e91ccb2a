use Rattle.std.proofs.Common.{refl}
use Rattle.std.specs.Prelude.{◌||◌, is_some}
use Rattle.rv_hunt.proofs.EngineLemmas.{told_known}
use Rattle.rv_shown.specs.Asked.{asked}
use Rattle.rv_hunt.specs.engine.Hunting.{files_of, showing_of}
use Rattle.rv_hunt.specs.engine.Late.{IfListed, IfPaged, IfWritten}
use Rattle.rv_remade.specs.Saved.{IfSaved}
use Rattle.rv_hunt.specs.internal.Opened.{texts_in}
use Rattle.rv_hunt.proofs.engine.run_hunt.Goals as goal

pub returns-in-Ok-publish-clause-told : goal.returns-in-Ok-publish-clause-told
returns-in-Ok-publish-clause-told g c =
    told_known (files_of g.R.Read.remaining c.args.inputs.now) (asked c.args.options.now) (showing_of c.args.options.now (is_some c.args.outputs.now.folder) (is_some c.args.outputs.now.page || is_some c.args.outputs.now.json)) _ _
    (IfSaved g.D.Folder.has_failed g.D.Folder.Holds c.make.new.outputs.folder) (IfPaged g.F.NewFile.has_failed g.F.NewFile.Holds c.make.new.outputs.page) (IfListed g.F.NewFile.has_failed g.F.NewFile.Holds c.make.new.outputs.list) (IfWritten g.F.NewFile.has_failed g.F.NewFile.Holds c.make.new.outputs.json)
    c.in-Ok.made.found (texts_in c.in-Ok.made) c.in-Ok.ensures.made c.in-Ok-publish.ensures.text c.in-Ok-publish.ensures.notes

pub returns-in-Err-clause-writers : goal.returns-in-Err-clause-writers
returns-in-Err-clause-writers g c = λ write. rw (c.in-Err.ensures.files write) refl
