use Rattle.std.proofs.lemmas.Result.{IfOk-weaker}
use Rattle.rv_engines.specs.internal.Hunted.{hunt_of}
use Rattle.rv_engines.proofs.RunHunts.{run_is_writable}
use Rattle.rv_engines.proofs.RunKept.{same_schedule}
use Rattle.rv_engines.proofs.run.hunting.Hunted.run.Goals as goal

pub returns-clause-schedule : goal.returns-clause-schedule
returns-clause-schedule c =
    IfOk-weaker c.run_one.result _ _ (λ told is one other. same_schedule c.seeded_runs.ensures.one (hunt_of c.args.self.now) c.args.run told one (rw (c.from-seed.ensures, c.deref.ensures.value) at is) other) c.run_one.ensures

pub returns-clause-writable : goal.returns-clause-writable
returns-clause-writable c =
    IfOk-weaker c.run_one.result _ _ (λ told is. run_is_writable c.seeded_runs.ensures.legal c.legal_is_writable.ensures (hunt_of c.args.self.now) c.args.run told (rw (c.from-seed.ensures, c.deref.ensures.value) at is)) c.run_one.ensures
