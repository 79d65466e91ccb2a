use Rattle.std.proofs.Common.{length, arith}
use Rattle.rv_collide.specs.Stored.{setting_of}
use Rattle.rv_drive.proofs.RunsLemmas.{no_hart, by_status}
use Rattle.rv_drive.proofs.ahead.Ahead.runs.Goals as goal

pub returns-then-h-harts : goal.returns-then-h-harts
returns-then-h-harts c =
    no_hart (setting_of c.args.self.now.collider).start c.machine-machine.result.now.state c.args.self.now.collider.entries (length c.args.self.now.collider.entries) c.args.h c.machine-machine.ensures (let is = c.harts.ensures.value in let past = c.if-h-harts.true in omega arith)

pub returns : goal.returns
returns c =
    by_status (setting_of c.args.self.now.collider).start c.machine-machine.result.now.state c.args.self.now.collider.entries (length c.args.self.now.collider.entries) c.args.h c.status.result c.is_running.result c.machine-machine.ensures c.status.ensures c.is_running.ensures
