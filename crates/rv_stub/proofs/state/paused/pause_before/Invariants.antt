-- the pause by the entries so far
use Rattle.std.proofs.Common.{◌≡◌, ◌<◌}
use Rattle.std.specs.Prelude.{IfSome}
use Rattle.rv_stub.specs.Paused.{pause_before}
use Rattle.rv_stub.proofs.state.paused.pause_before.Given as goal

abbrev pub invariant-loop-at : goal.invariant-loop-at
invariant-loop-at l =
    record {
      value : l.began ≡ pause_before l.entries l.hart l.at;
      before : IfSome l.began (λ began. began.place < l.at);
    }
