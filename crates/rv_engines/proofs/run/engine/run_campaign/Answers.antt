use Rattle.rv_memory.specs.Flagged as flag
use Rattle.rv_engines.specs.Request.{request}
use Rattle.rv_engines.proofs.RunHunts.{all_hunted, device_refused}
use Rattle.rv_engines.proofs.run.engine.run_campaign.Goals as goal

pub returns-clause-refused : goal.returns-clause-refused
returns-clause-refused g c =
    device_refused (g.R.Read.remaining (flag.device c.args.image.now)) (request c.args.options.now) c.in-Err.fault _ c.from.ensures c.in-Err.ensures.refused

pub returns-in-Ok-clause-table : goal.returns-in-Ok-clause-table
returns-in-Ok-clause-table g c =
    all_hunted (g.R.Read.remaining (flag.device c.args.image.now)) (request c.args.options.now) c.in_ok-hunted.hunted _ _ c.args.options.now.keep_is_run c.in_ok-hunted.ensures.ok c.in-Ok.ensures.table c.in-Ok.ensures.saved
