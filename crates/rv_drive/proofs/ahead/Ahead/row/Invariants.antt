use Rattle.std.proofs.Common.{◌≡◌, false, length}
use Rattle.rv_collide.specs.Answers.{IsFree}
use Rattle.rv_drive.specs.internal.Kept.{IsInRow}
use Rattle.rv_drive.proofs.ahead.Ahead.row.Given as goal

abbrev pub invariant-loop-next : goal.invariant-loop-next
invariant-loop-next g l = IsInRow l.fn.self.collider l.fn.words l.self l.words l.h l.left × (l.fn.picker ≡ length l.self.able.items) × (l.fn.is_watched ≡ false → IsFree l.self.collider)

abbrev pub decreases-loop-next : goal.decreases-loop-next
decreases-loop-next g l = l.left
