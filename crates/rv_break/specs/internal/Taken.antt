-- Which claims an access changes.
use Rattle.std.specs.Prelude.{Bool, false, is_none, ◌&&◌, Option, Some, None}
use Rattle.rv_break.specs.Slots.{is_for}
use Rattle.rv_break.specs.declared.claim.Claim.{Claim}
use Rattle.rv_break.specs.declared.claim.Seen.{Seen}

-- the access is the first that the claim is for
abbrev pub is_waiting_for : Claim → Seen → Bool
is_waiting_for claim seen = is_none claim.seen && is_for claim seen

-- a claimed data breakpoint holds the access from now on
abbrev pub takes : Seen → Option Claim → Bool
takes seen None = false
takes seen (Some claim) = is_waiting_for claim seen
