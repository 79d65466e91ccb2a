use Rattle.std.proofs.Common.{take}
use Rattle.rv_break.specs.internal.Span.{AreIn}
use Rattle.rv_break.proofs.span.span_of.Given as goal

-- what the claims so far watch lies in the span
abbrev pub invariant-loop-held : goal.invariant-loop-held
invariant-loop-held l = AreIn l.span (take l.held-index l.claims)
