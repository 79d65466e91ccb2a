-- The span of addresses beside the claims: what lies outside of it concerns none of them. A claim that has seen an access
-- waits for no other.
use Rattle.std.specs.Prelude.{◌≡◌, ◌≤◌, Bool, ◌||◌, nat_le, None, ⊤, IfSome, [], ◌∷◌}
use Rattle.rv_break.specs.Slots.{Slots}
use Rattle.rv_break.specs.declared.claim.Claim.{Claim}
use Rattle.rv_break.specs.declared.span.Span.{Span}
use Rattle.rv_hart.specs.Conflict.{end_of}
use Rattle.rv_hart.specs.declared.access.Access.{Access}

-- the access's bytes lie in the span
abbrev pub LiesIn : Span → Access → Type 0
LiesIn s a = (s.first ≤ a.first) × (end_of a ≤ s.end)

-- what a claim watches lies in the span, where it has seen nothing yet
abbrev pub WaitsIn : Span → Claim → Type 0
WaitsIn s claim = claim.seen ≡ None → LiesIn s claim.access

-- what each claim waits for lies in the span
abbrev pub AreIn : Span → Slots → Type 0
AreIn s [] = ⊤
AreIn s (held ∷ slots) = IfSome held (WaitsIn s) × AreIn s slots

-- the access has ended where the span begins, or begins where it has ended
abbrev pub is_outside : Span → Access → Bool
is_outside s a = nat_le (end_of a) s.first || nat_le s.end a.first
