use Rattle.rv_collide.proofs.QuickTurns.{may_pause_now}
use Rattle.rv_collide.proofs.detector.Detector.pause_kept.Goals as goal

pub returns : goal.returns
returns g c =
    may_pause_now c.args.self.now c.pause-paused.new.self c.args.h c.pause-paused.result c.requires.accepted c.pause-paused.ensures.slot c.pause-paused.ensures.forced c.pause-paused.ensures.after c.pause-paused.ensures.same
