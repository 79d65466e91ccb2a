use Rattle.rv_memory.specs.Flagged as flag
use Rattle.rv_engines.proofs.ExhibitLemmas.{exhibit_written}
use Rattle.rv_engines.proofs.exhibit.engine.run_exhibit.Goals as goal

pub returns-clause-text : goal.returns-clause-text
returns-clause-text g c =
    exhibit_written (g.R.Read.remaining (flag.device c.args.image.now)) (g.Q.Read.remaining (flag.device c.args.schedule.now)) c.args.number c.in_ok-shown.shown _ c.show_exhibit.result c.in_ok-shown.ensures.ok c.show_exhibit.ensures.text
