use Rattle.std.proofs.Common.{refl}
use Rattle.rv_memory.specs.Flagged as flag
use Rattle.rv_shown.specs.Asked.{asked}
use Rattle.rv_hunt.proofs.OpenLemmas.{file_refused, hunt_known, line_refused}
use Rattle.rv_hunt.proofs.engine.opening.open.Goals as goal

pub returns-in-Err-clause-err : goal.returns-in-Err-clause-err
returns-in-Err-clause-err g c = file_refused (g.R.Read.remaining (flag.device c.args.image.now)) (asked c.args.options.now) c.in-Err.fault refl c.in-Err.ensures.err

pub returns-in-Ok-read_line-clause-ok : goal.returns-in-Ok-read_line-clause-ok
returns-in-Ok-read_line-clause-ok g c =
    hunt_known (g.R.Read.remaining (flag.device c.args.image.now)) (asked c.args.options.now) c.in-Ok.read.image _ c.in-Ok.ensures.image c.in-Ok-read_line.ensures.ok

pub returns-clause-err : goal.returns-clause-err
returns-clause-err g c =
    line_refused (g.R.Read.remaining (flag.device c.args.image.now)) (asked c.args.options.now) c.in-Ok.read.image c.in-Err-read_line.fault c.in-Ok.ensures.image c.in-Err-read_line.ensures.err
