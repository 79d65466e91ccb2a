-- Where no pause is open, no data breakpoint is claimed.
use Rattle.std.proofs.Common.{◌≡◌, ℕ, zero, suc, ◌+◌, List, [], ◌∷◌, map, Option, Some, None, refl, ap, ap₂, ◌∙◌, sym, subst}
use Rattle.std.specs.Prelude.{find, option_and_then, option_map}
use Rattle.std.specs.List.{range_with_len}
use Rattle.rv_break.specs.Slots.{Slots, claim_after, slots_after}
use Rattle.rv_break.specs.declared.claim.Claim.{Claim}
use Rattle.rv_break.specs.declared.claim.Seen.{Seen}
use Rattle.rv_collide.specs.Pause.{Opening, openings}
use Rattle.rv_collide.specs.declared.entry.Entry.{Entry}
use Rattle.rv_collide.specs.internal.Core.{claim_of, is_at, slot_at, slots_of, slots_seen}
use Rattle.rv_hart.specs.State.{State}

pub nothing_seen : (o : Option Seen) (slots : Slots) → ((seen : Seen) → slots_after seen slots ≡ slots) → slots ≡ slots_seen o slots
nothing_seen None slots stay = refl
nothing_seen (Some seen) slots stay = sym (stay seen)

-- where no slot has a claim, none is changed
free_stay : (seen : Seen) (claim_at : ℕ → Option Claim) (first count : ℕ) → ((slot : ℕ) → claim_at slot ≡ None) → map (option_map (claim_after seen)) (map claim_at (range_with_len first count)) ≡ map claim_at (range_with_len first count)
free_stay seen claim_at first zero none = refl
free_stay seen claim_at first (suc count) none =
    ap₂ (λ (claim : Option Claim) (claims : Slots). claim ∷ claims) (ap (option_map (claim_after seen)) (none first) ∙ sym (none first)) (free_stay seen claim_at (first + 1) count none)

pub unwatched : (slot_count : ℕ) (start : State) (xs : List Entry) (slots : Slots) → slots ≡ slots_of slot_count start xs → openings xs ≡ [] → (seen : Seen) → slots_after seen slots ≡ slots
unfolding slots_of slot_at
unwatched slot_count start xs slots is none seen =
    let free = free_stay seen (slot_at start xs) 0 slot_count (λ slot. ap (λ (os : List Opening). option_and_then (claim_of start xs) (find (is_at slot) os)) none) in
    subst (λ (s : Slots). slots_after seen s ≡ s) (sym is) free
