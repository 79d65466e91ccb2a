use Rattle.std.proofs.Common.{◌∙◌, ap, false, refl, sym}
use Rattle.std.proofs.lemmas.Result.{err_from_is_err_and}
use Rattle.std.specs.Option.{option_map_or}
use Rattle.std.specs.Prelude.{is_some}
use Rattle.rv_memory.specs.Buffered as buffer
use Rattle.rv_memory.specs.Flagged as flag
use Rattle.rv_engines.specs.Asking.{asking}
use Rattle.rv_engines.specs.Campaigns.{passes}
use Rattle.rv_faults.specs.CommandFault.{refusal}
use Rattle.rv_engines.specs.Explains.{is_read, is_write, of_fault}
use Rattle.rv_faults.specs.SourceFile.{bytes_if}
use Rattle.rv_engines.proofs.ExplainLemmas.{all_read, drawn_there, files_read, lines_read, missed, no_writer, object_there, races_refused, races_shown, refused_by, shown_by, told_command, told_lines, write_told}
use Rattle.rv_engines.proofs.explain.engine.run_explain.Goals as goal

pub returns-in_err-opened-clause-refused : goal.returns-in_err-opened-clause-refused
returns-in_err-opened-clause-refused g c =
    let p = err_from_is_err_and c.from_residual.result c.from_residual.ensures.1 in
    rw (p.1, p.2) (told_command (g.R.Read.remaining (flag.device c.args.image.now)) (g.Q.Read.remaining (flag.device c.args.schedule.now)) (bytes_if g.R.Read.remaining c.args.lines.now) (is_some c.args.picture.now) (asking c.args.options.now) c.in_err-opened.field-0.0
    (refused_by (g.R.Read.remaining (flag.device c.args.image.now)) (g.Q.Read.remaining (flag.device c.args.schedule.now)) c.is_some-draws.result (is_some c.args.picture.now) (asking c.args.options.now) (refusal c.in_err-opened.field-0.0) c.is_some-draws.ensures c.in_err-opened.ensures.err))

pub returns-in_err-opened-clause-readers : goal.returns-in_err-opened-clause-readers
returns-in_err-opened-clause-readers g c =
    let p = err_from_is_err_and c.from_residual.result c.from_residual.ensures.1 in
    rw (p.1, p.2) (files_read (flag.has_failed c.open_run.new.image) (flag.has_failed c.open_run.new.schedule) (flag.has_failed c.args.image.now) (flag.has_failed c.args.schedule.now) _ (option_map_or flag.has_failed c.args.lines.now false) c.in_err-opened.ensures.readers)

pub returns-in_err-opened-clause-writers : goal.returns-in_err-opened-clause-writers
returns-in_err-opened-clause-writers g c =
    let p = err_from_is_err_and c.from_residual.result c.from_residual.ensures.1 in
    rw (p.1, p.2) (no_writer (passes g.F.NewFile.has_failed c.args.picture.now) (passes g.F.NewFile.has_failed c.args.json.now) (buffer.has_failed c.args.writer.now) _ c.in_err-opened.ensures.writer)

pub returns-in_err-source-clause-refused : goal.returns-in_err-source-clause-refused
returns-in_err-source-clause-refused g c =
    let p = err_from_is_err_and c.from_residual-in_err-source.result c.from_residual-in_err-source.ensures.1 in
    rw (p.1, p.2) (told_lines (g.R.Read.remaining (flag.device c.args.image.now)) (g.Q.Read.remaining (flag.device c.args.schedule.now)) (bytes_if g.R.Read.remaining c.args.lines.now) (is_some c.args.picture.now) (asking c.args.options.now) _ c.in_err-source.field-0.0 c.in_ok-opened.ensures.run c.in_ok-opened.ensures.legal c.in_err-source.ensures.err)

pub returns-in_err-source-clause-readers : goal.returns-in_err-source-clause-readers
returns-in_err-source-clause-readers g c =
    let p = err_from_is_err_and c.from_residual-in_err-source.result c.from_residual-in_err-source.ensures.1 in
    rw (p.1, p.2) (lines_read (flag.has_failed c.open_run.new.image) (flag.has_failed c.open_run.new.schedule) (option_map_or flag.has_failed c.read_source_if.new.file false) (flag.has_failed c.args.image.now) (flag.has_failed c.args.schedule.now) (option_map_or flag.has_failed c.args.lines.now false) _ c.in_ok-opened.ensures.readers c.in_err-source.ensures.reader)

pub returns-in_err-source-clause-writers : goal.returns-in_err-source-clause-writers
returns-in_err-source-clause-writers g c =
    let p = err_from_is_err_and c.from_residual-in_err-source.result c.from_residual-in_err-source.ensures.1 in
    rw (p.1, p.2) (no_writer (passes g.F.NewFile.has_failed c.args.picture.now) (passes g.F.NewFile.has_failed c.args.json.now) (buffer.has_failed c.args.writer.now) _ c.in_err-source.ensures.writer)

pub returns-in_err-texts-clause-refused : goal.returns-in_err-texts-clause-refused
returns-in_err-texts-clause-refused g c =
    let p = err_from_is_err_and c.from_residual-in_err-texts.result c.from_residual-in_err-texts.ensures.1 in
    rw (p.1, p.2) (told_command (g.R.Read.remaining (flag.device c.args.image.now)) (g.Q.Read.remaining (flag.device c.args.schedule.now)) (bytes_if g.R.Read.remaining c.args.lines.now) (is_some c.args.picture.now) (asking c.args.options.now) c.in_err-texts.field-0.0
    (refused_by (g.R.Read.remaining (flag.device c.args.image.now)) (g.Q.Read.remaining (flag.device c.args.schedule.now)) c.is_some-draws.result (is_some c.args.picture.now) (asking c.args.options.now) (refusal c.in_err-texts.field-0.0) c.is_some-draws.ensures
    (races_refused (g.R.Read.remaining (flag.device c.args.image.now)) (g.Q.Read.remaining (flag.device c.args.schedule.now)) c.is_some-draws.result (asking c.args.options.now) c.in_ok-opened.opened (refusal c.in_err-texts.field-0.0)
    c.in_ok-opened.ensures.run c.in_ok-opened.ensures.image c.in_ok-opened.ensures.legal c.in_ok-opened.ensures.found c.in_err-texts.ensures.thread c.in_err-texts.ensures.err)))

pub returns-in_err-texts-clause-readers : goal.returns-in_err-texts-clause-readers
returns-in_err-texts-clause-readers g c =
    let p = err_from_is_err_and c.from_residual-in_err-texts.result c.from_residual-in_err-texts.ensures.1 in
    rw (p.1, p.2) (all_read (flag.has_failed c.open_run.new.image) (flag.has_failed c.open_run.new.schedule) (option_map_or flag.has_failed c.read_source_if.new.file false) (flag.has_failed c.args.image.now) (flag.has_failed c.args.schedule.now) (option_map_or flag.has_failed c.args.lines.now false) _ c.in_ok-opened.ensures.readers c.in_ok-source.ensures.reader c.in_err-texts.ensures.reader)

pub returns-in_err-texts-clause-writers : goal.returns-in_err-texts-clause-writers
returns-in_err-texts-clause-writers g c =
    let p = err_from_is_err_and c.from_residual-in_err-texts.result c.from_residual-in_err-texts.ensures.1 in
    rw (p.1, p.2) (no_writer (passes g.F.NewFile.has_failed c.args.picture.now) (passes g.F.NewFile.has_failed c.args.json.now) (buffer.has_failed c.args.writer.now) _ c.in_err-texts.ensures.writer)

pub returns-in-Ok-clause-told : goal.returns-in-Ok-clause-told
returns-in-Ok-clause-told g c =
    shown_by (g.R.Read.remaining (flag.device c.args.image.now)) (g.Q.Read.remaining (flag.device c.args.schedule.now)) c.is_some-draws.result (is_some c.args.picture.now) (asking c.args.options.now) c.is_some-draws.ensures
    (races_shown (g.R.Read.remaining (flag.device c.args.image.now)) (g.Q.Read.remaining (flag.device c.args.schedule.now)) c.is_some-draws.result (asking c.args.options.now) c.in_ok-opened.opened
    c.in_ok-opened.ensures.run c.in_ok-opened.ensures.image c.in_ok-opened.ensures.legal c.in_ok-opened.ensures.found c.in_ok-texts.ensures.ok)

pub returns-in-Ok-clause-drawn : goal.returns-in-Ok-clause-drawn
returns-in-Ok-clause-drawn g c =
    drawn_there (λ text. text.items) g.F.NewFile.Holds c.in_ok-texts.texts.picture c.publish.new.picture
    (c.in_ok-texts.ensures.drawn ∙ c.is_some-draws.ensures ∙ sym c.in-Ok.ensures.wanted.0) c.in-Ok.ensures.drawn c.in_ok-texts.ensures.markup

pub returns-in-Ok-clause-object : goal.returns-in-Ok-clause-object
returns-in-Ok-clause-object g c =
    object_there (λ text. text.items) g.F.NewFile.Holds c.in_ok-texts.texts.object c.publish.new.json
    (c.in_ok-texts.ensures.wanted ∙ c.is_some-wants.ensures ∙ sym c.in-Ok.ensures.wanted.1) c.in-Ok.ensures.object c.in_ok-texts.ensures.object

pub returns-in-Ok-clause-lines : goal.returns-in-Ok-clause-lines
returns-in-Ok-clause-lines g c =
    missed (g.R.Read.remaining (flag.device c.args.image.now)) (g.Q.Read.remaining (flag.device c.args.schedule.now)) (bytes_if g.R.Read.remaining c.args.lines.now) c.in_ok-opened.opened _ _ c.in_ok-opened.ensures.run c.in_ok-opened.ensures.image c.in_ok-source.ensures.ok c.lines_miss-misses.ensures

pub returns-in-Ok-clause-readers : goal.returns-in-Ok-clause-readers
returns-in-Ok-clause-readers g c =
    all_read (flag.has_failed c.open_run.new.image) (flag.has_failed c.open_run.new.schedule) (option_map_or flag.has_failed c.read_source_if.new.file false) (flag.has_failed c.args.image.now) (flag.has_failed c.args.schedule.now) (option_map_or flag.has_failed c.args.lines.now false) _ c.in_ok-opened.ensures.readers c.in_ok-source.ensures.reader refl

pub returns-clause-refused : goal.returns-clause-refused
returns-clause-refused g c =
    write_told (g.R.Read.remaining (flag.device c.args.image.now)) (g.Q.Read.remaining (flag.device c.args.schedule.now)) (bytes_if g.R.Read.remaining c.args.lines.now) (is_some c.args.picture.now) (asking c.args.options.now) _ (c.from.ensures ∙ ap of_fault c.in-Err.ensures.refused)

pub returns-clause-readers : goal.returns-clause-readers
returns-clause-readers g c =
    all_read (flag.has_failed c.open_run.new.image) (flag.has_failed c.open_run.new.schedule) (option_map_or flag.has_failed c.read_source_if.new.file false) (flag.has_failed c.args.image.now) (flag.has_failed c.args.schedule.now) (option_map_or flag.has_failed c.args.lines.now false) _ c.in_ok-opened.ensures.readers c.in_ok-source.ensures.reader (ap is_read (c.from.ensures ∙ ap of_fault c.in-Err.ensures.refused))
