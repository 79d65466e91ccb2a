use Rattle.std.proofs.Common.{◌≡◌}
use Rattle.std.specs.Prelude.{filter, vec_capacity}
use Rattle.std.specs.List.{range_with_len}
use Rattle.rv_collide.specs.Stored.{setting_of}
use Rattle.rv_drive.specs.Able.{is_able}
use Rattle.rv_drive.proofs.ahead.note_running.Given as goal

abbrev pub invariant-loop-h : goal.invariant-loop-h
invariant-loop-h l = record {
  found : l.able.items ≡ filter (is_able (setting_of l.collider) l.collider.entries) (range_with_len 0 l.h);
  room : vec_capacity l.able ≡ vec_capacity l.initial.able;
}
