use Rattle.std.proofs.Common.{◌≡◌, List, ℕ, Ok}
use Rattle.rv_memory.specs.Flagged.{device}
use Rattle.rv_hunt.proofs.TableLemmas.{late_told, read_as, show_known, table_told}
use Rattle.rv_hunt.specs.engine.Late.{IfListed, IfPaged, IfWritten}
use Rattle.rv_remade.specs.Saved.{IfSaved}
use Rattle.rv_hunt.specs.engine.TableShown.{table_in}
use Rattle.rv_tables.specs.merge.FileFault as file
use Rattle.rv_tables.specs.merge.Merge.{bytes_if}
use Rattle.rv_hunt.proofs.engine.show.make.Goals as goal

pub returns-in-Err-read_shown-clause-refused : goal.returns-in-Err-read_shown-clause-refused
returns-in-Err-read_shown-clause-refused g c =
    table_told (g.R.Read.remaining (device c.args.inputs.now.image)) (bytes_if g.R.Read.remaining c.args.inputs.now.lines) (bytes_if g.R.Read.remaining c.args.inputs.now.ignored) (bytes_if g.R.Read.remaining c.args.inputs.now.expected) (g.R.Read.remaining (device c.args.table.now)) c.in-Ok.file.digits.items c.args.options.now.line.version.now c.in-Err-read_shown.fault c.in-Ok.ensures.digits
    (read_as (g.R.Read.remaining (device c.args.table.now)) c.deref.result.now c.in-Ok.file.digits.items c.as_bytes-version.result.now c.args.options.now.line.version.now (λ (ds v bytes : List ℕ). file.IsTold (table_in ds v bytes) c.in-Err-read_shown.fault) c.deref.ensures.value c.as_bytes-version.ensures.value c.in-Err-read_shown.ensures.err)

pub returns-in-Ok-make_with-clause-made : goal.returns-in-Ok-make_with-clause-made
returns-in-Ok-make_with-clause-made g c =
    show_known (g.R.Read.remaining (device c.args.inputs.now.image)) (bytes_if g.R.Read.remaining c.args.inputs.now.lines) (bytes_if g.R.Read.remaining c.args.inputs.now.ignored) (bytes_if g.R.Read.remaining c.args.inputs.now.expected) (g.R.Read.remaining (device c.args.table.now)) c.in-Ok.file.digits.items c.args.options.now.line.version.now c.in-Ok.file.image c.in-Ok-read_shown.table c.args.options.now.blocks
    (IfSaved g.D.Folder.has_failed g.D.Folder.Holds c.make_with.new.outputs.folder) (IfPaged g.F.NewFile.has_failed g.F.NewFile.Holds c.make_with.new.outputs.page) (IfListed g.F.NewFile.has_failed g.F.NewFile.Holds c.make_with.new.outputs.list) (IfWritten g.F.NewFile.has_failed g.F.NewFile.Holds c.make_with.new.outputs.json)
    c.in-Ok-make_with.made.found c.in-Ok.ensures.image c.in-Ok.ensures.digits
    (read_as (g.R.Read.remaining (device c.args.table.now)) c.deref.result.now c.in-Ok.file.digits.items c.as_bytes-version.result.now c.args.options.now.line.version.now (λ (ds v bytes : List ℕ). table_in ds v bytes ≡ Ok c.in-Ok-read_shown.table) c.deref.ensures.value c.as_bytes-version.ensures.value c.in-Ok-read_shown.ensures.ok)
    c.in-Ok-make_with.ensures.made

pub returns-clause-refused : goal.returns-clause-refused
returns-clause-refused g c =
    late_told (g.R.Read.remaining (device c.args.inputs.now.image)) (bytes_if g.R.Read.remaining c.args.inputs.now.lines) (bytes_if g.R.Read.remaining c.args.inputs.now.ignored) (bytes_if g.R.Read.remaining c.args.inputs.now.expected) (g.R.Read.remaining (device c.args.table.now)) c.in-Ok.file.digits.items c.args.options.now.line.version.now c.in-Ok.file.image c.in-Ok-read_shown.table c.in-Err-make_with.fault c.in-Ok.ensures.image c.in-Ok.ensures.digits
    (read_as (g.R.Read.remaining (device c.args.table.now)) c.deref.result.now c.in-Ok.file.digits.items c.as_bytes-version.result.now c.args.options.now.line.version.now (λ (ds v bytes : List ℕ). table_in ds v bytes ≡ Ok c.in-Ok-read_shown.table) c.deref.ensures.value c.as_bytes-version.ensures.value c.in-Ok-read_shown.ensures.ok)
    c.in-Err-make_with.ensures.err
