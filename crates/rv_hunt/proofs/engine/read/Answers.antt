use Rattle.std.proofs.Common.{refl}
use Rattle.rv_memory.specs.Flagged as flag
use Rattle.rv_tables.specs.merge.Merge as merge
use Rattle.rv_hunt.proofs.BoolLemmas.{image_failed, expected_failed, ignored_failed, lines_failed}
use Rattle.rv_hunt.proofs.FileLemmas.{expected_told, hunting_known, ignored_told, lines_told, open_told}
use Rattle.rv_shown.specs.Asked.{asked}
use Rattle.rv_hunt.specs.internal.Opened.{hunt_in}
use Rattle.rv_hunt.proofs.engine.read.Goals as goal

pub returns-in-Err-clause-err : goal.returns-in-Err-clause-err
returns-in-Err-clause-err g c =
    open_told (g.R.Read.remaining (flag.device c.args.inputs.now.image)) (merge.bytes_if g.R.Read.remaining c.args.inputs.now.lines) (merge.bytes_if g.R.Read.remaining c.args.inputs.now.ignored) (merge.bytes_if g.R.Read.remaining c.args.inputs.now.expected) (asked c.args.options.now) c.in-Err.fault c.in-Err.ensures.err

pub returns-in-Err-clause-readers : goal.returns-in-Err-clause-readers
returns-in-Err-clause-readers g c =
    image_failed _ _ _ _ _ _ c.in-Err.ensures.reader

pub returns-in-Err-read_source_if-clause-err : goal.returns-in-Err-read_source_if-clause-err
returns-in-Err-read_source_if-clause-err g c =
    lines_told (g.R.Read.remaining (flag.device c.args.inputs.now.image)) (merge.bytes_if g.R.Read.remaining c.args.inputs.now.lines) (merge.bytes_if g.R.Read.remaining c.args.inputs.now.ignored) (merge.bytes_if g.R.Read.remaining c.args.inputs.now.expected) (asked c.args.options.now)
    (hunt_in (asked c.args.options.now) c.in-Ok.read.0) c.in-Ok.read.1 c.in-Err-read_source_if.fault c.in-Ok.ensures.ok c.in-Ok.ensures.aim c.in-Err-read_source_if.ensures.err

pub returns-in-Err-read_source_if-clause-readers : goal.returns-in-Err-read_source_if-clause-readers
returns-in-Err-read_source_if-clause-readers g c =
    lines_failed _ _ _ _ _ _ _ c.in-Ok.ensures.reader c.in-Err-read_source_if.ensures.reader

pub returns-in-Err-read_ignored-clause-err : goal.returns-in-Err-read_ignored-clause-err
returns-in-Err-read_ignored-clause-err g c =
    ignored_told (g.R.Read.remaining (flag.device c.args.inputs.now.image)) (merge.bytes_if g.R.Read.remaining c.args.inputs.now.lines) (merge.bytes_if g.R.Read.remaining c.args.inputs.now.ignored) (merge.bytes_if g.R.Read.remaining c.args.inputs.now.expected) (asked c.args.options.now)
    (hunt_in (asked c.args.options.now) c.in-Ok.read.0) c.in-Ok.read.1 c.in-Ok-read_source_if.source c.in-Err-read_ignored.fault c.in-Ok.ensures.ok c.in-Ok.ensures.aim c.in-Ok-read_source_if.ensures.ok c.in-Err-read_ignored.ensures.err

pub returns-in-Err-read_ignored-clause-readers : goal.returns-in-Err-read_ignored-clause-readers
returns-in-Err-read_ignored-clause-readers g c =
    ignored_failed _ _ _ _ _ _ _ _ c.in-Ok.ensures.reader c.in-Ok-read_source_if.ensures.reader c.in-Err-read_ignored.ensures.reader

pub returns-in-Err-read_known-clause-err : goal.returns-in-Err-read_known-clause-err
returns-in-Err-read_known-clause-err g c =
    expected_told (g.R.Read.remaining (flag.device c.args.inputs.now.image)) (merge.bytes_if g.R.Read.remaining c.args.inputs.now.lines) (merge.bytes_if g.R.Read.remaining c.args.inputs.now.ignored) (merge.bytes_if g.R.Read.remaining c.args.inputs.now.expected) (asked c.args.options.now)
    (hunt_in (asked c.args.options.now) c.in-Ok.read.0) c.in-Ok.read.1 c.in-Ok-read_source_if.source c.in-Ok-read_ignored.ignored c.in-Err-read_known.fault c.in-Ok.ensures.ok c.in-Ok.ensures.aim c.in-Ok-read_source_if.ensures.ok c.in-Ok-read_ignored.ensures.ok c.in-Err-read_known.ensures.err

pub returns-in-Err-read_known-clause-readers : goal.returns-in-Err-read_known-clause-readers
returns-in-Err-read_known-clause-readers g c =
    expected_failed _ _ _ _ _ _ _ _ _ c.in-Ok.ensures.reader c.in-Ok-read_source_if.ensures.reader c.in-Ok-read_ignored.ensures.reader c.in-Err-read_known.ensures.reader

pub returns-clause-ok : goal.returns-clause-ok
returns-clause-ok g c =
    hunting_known (g.R.Read.remaining (flag.device c.args.inputs.now.image)) (merge.bytes_if g.R.Read.remaining c.args.inputs.now.lines) (merge.bytes_if g.R.Read.remaining c.args.inputs.now.ignored) (merge.bytes_if g.R.Read.remaining c.args.inputs.now.expected) (asked c.args.options.now)
    _ c.in-Ok.ensures.ok c.in-Ok.ensures.digits c.in-Ok-read_source_if.ensures.ok c.in-Ok-read_ignored.ensures.ok c.in-Ok-read_known.ensures.ok c.in-Ok.ensures.aim refl c.in-Ok.ensures.built

pub returns-clause-readers : goal.returns-clause-readers
returns-clause-readers g c =
    expected_failed _ _ _ _ _ _ _ _ _ c.in-Ok.ensures.reader c.in-Ok-read_source_if.ensures.reader c.in-Ok-read_ignored.ensures.reader c.in-Ok-read_known.ensures.reader
