use Rattle.rv_tables.specs.merge.Merge.{bytes_if}
use Rattle.rv_hunt.proofs.TableLemmas.{late_ignored}
use Rattle.rv_hunt.proofs.engine.show.read_files.Goals as goal

pub returns-in-Err-read_ignored-clause-err : goal.returns-in-Err-read_ignored-clause-err
returns-in-Err-read_ignored-clause-err g c =
    late_ignored (bytes_if g.R.Read.remaining c.args.inputs.now.lines) (bytes_if g.R.Read.remaining c.args.inputs.now.ignored) (bytes_if g.R.Read.remaining c.args.inputs.now.expected) c.args.table.now c.args.file.now.image
    c.in-Ok-read_source_if.source c.in-Err-read_ignored.fault c.in-Ok-read_source_if.ensures.ok c.in-Err-read_ignored.ensures.err
