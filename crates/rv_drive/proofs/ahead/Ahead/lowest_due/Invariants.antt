use Rattle.std.proofs.Common.{◌≡◌, ℕ, ◌<◌, false}
use Rattle.rv_drive.specs.Able.{is_due}
use Rattle.rv_collide.specs.Stored.{setting_of}
use Rattle.rv_drive.proofs.ahead.Ahead.lowest_due.Given as goal

abbrev pub invariant-loop-h : goal.invariant-loop-h
invariant-loop-h l = (k : ℕ) → k < l.h → is_due (setting_of l.self.collider) l.self.collider.entries k ≡ false
