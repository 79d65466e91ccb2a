use Rattle.std.proofs.Common.{◌≡◌}
use Rattle.std.specs.Prelude.{option_map}
use Rattle.rv_break.specs.Slots.{claim_after}
use Rattle.rv_break.proofs.Shown.{mapped}
use Rattle.rv_break.proofs.slots.show.Given as goal

abbrev pub invariant-loop-held : goal.invariant-loop-held
invariant-loop-held l = l.claims ≡ mapped (option_map (claim_after l.seen)) l.initial.claims l.held-index
