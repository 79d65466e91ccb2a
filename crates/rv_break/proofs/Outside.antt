-- What lies outside of the claims' span is shown to none of them, and what none takes changes none.
use Rattle.std.proofs.Common.{◌≡◌, ℕ, zero, suc, ◌+◌, ◌≤◌, ◌<◌, Bool, true, false, cond, [], ◌∷◌, length, get_or, set, take, drop, ◌++◌, Option, Some, None, refl, ap, ap₂, ◌∙◌, sym, subst, arith}
use Rattle.std.specs.Prelude.{◌==◌, ◌&&◌, ◌||◌, not, is_none, IfSome, option_map}
use Rattle.std.proofs.Math.Seq.{take-append_seam}
use Rattle.std.proofs.lemmas.Bool.{or_parts}
use Rattle.std.proofs.lemmas.Bool.Decides.{nat_tests}
use Rattle.std.proofs.lemmas.List.{length-map, length-set, take_more}
use Rattle.std.specs.List.{list_any}
use Rattle.rv_break.specs.Slots.{Slots, claim_after, is_for, slots_after}
use Rattle.rv_break.specs.declared.claim.Claim.{Claim}
use Rattle.rv_break.specs.declared.claim.Seen.{Seen}
use Rattle.rv_break.specs.declared.claim.TheConstants.{MOST_SLOTS}
use Rattle.rv_break.specs.declared.span.Span.{Span}
use Rattle.rv_break.specs.internal.Span.{AreIn, LiesIn, WaitsIn, is_outside}
use Rattle.rv_break.specs.internal.Taken.{is_waiting_for, takes}
use Rattle.rv_hart.specs.Conflict.{meets, end_of}
use Rattle.rv_hart.specs.declared.access.Access.{Access}

lies_in_wider : (s wider : Span) (a : Access) → wider.first ≤ s.first → s.end ≤ wider.end → LiesIn s a → LiesIn wider a
lies_in_wider s wider a from to inside =
    let begins : s.first ≤ a.first = inside.0 in
    let ends : end_of a ≤ s.end = inside.1 in
    (omega arith, omega arith)

pub are_in_wider : (s wider : Span) (slots : Slots) → wider.first ≤ s.first → s.end ≤ wider.end → AreIn s slots → AreIn wider slots
are_in_wider s wider [] from to inside = tt
are_in_wider s wider (None ∷ slots) from to inside = (tt, are_in_wider s wider slots from to inside.1)
are_in_wider s wider (Some claim ∷ slots) from to inside = (λ waits. lies_in_wider s wider claim.access from to (inside.0 waits), are_in_wider s wider slots from to inside.1)

are_in_push : (s wider : Span) (slots : Slots) (held : Option Claim) → wider.first ≤ s.first → s.end ≤ wider.end → IfSome held (WaitsIn wider) → AreIn s slots → AreIn wider (slots ++ held ∷ [])
are_in_push s wider [] held from to own inside = (own, tt)
are_in_push s wider (None ∷ slots) held from to own inside = (tt, are_in_push s wider slots held from to own inside.1)
are_in_push s wider (Some claim ∷ slots) held from to own inside = (λ waits. lies_in_wider s wider claim.access from to (inside.0 waits), are_in_push s wider slots held from to own inside.1)

-- the claims up to the next one
pub are_in_more : (s wider : Span) (slots : Slots) (i : ℕ) (d : Option Claim) → i < length slots → wider.first ≤ s.first → s.end ≤ wider.end → IfSome (get_or slots i d) (WaitsIn wider) → AreIn s (take i slots) → AreIn wider (take (i + 1) slots)
are_in_more s wider slots i d below from to own inside =
    subst (AreIn wider) (sym (take_more slots i d below)) (are_in_push s wider (take i slots) (get_or slots i d) from to own inside)

are_in_set : (s wider : Span) (slots : Slots) (slot : ℕ) (claim : Claim) → wider.first ≤ s.first → s.end ≤ wider.end → LiesIn wider claim.access → AreIn s slots → AreIn wider (set slots slot (Some claim))
are_in_set s wider [] slot claim from to own inside = tt
are_in_set s wider (held ∷ slots) zero claim from to own inside = (λ _. own, are_in_wider s wider slots from to inside.1)
are_in_set s wider (None ∷ slots) (suc slot) claim from to own inside = (tt, are_in_set s wider slots slot claim from to own inside.1)
are_in_set s wider (Some other ∷ slots) (suc slot) claim from to own inside = (λ waits. lies_in_wider s wider other.access from to (inside.0 waits), are_in_set s wider slots slot claim from to own inside.1)

-- claims, one of which is made, stay as many, and within a span with it
pub claimed_within : (s wider : Span) (slots : Slots) (slot : ℕ) (claim : Claim) → wider.first ≤ s.first → s.end ≤ wider.end → LiesIn wider claim.access → (length slots ≤ MOST_SLOTS) × AreIn s slots → (length (set slots slot (Some claim)) ≤ MOST_SLOTS) × AreIn wider (set slots slot (Some claim))
claimed_within s wider slots slot claim from to own inside =
    (subst (λ (n : ℕ). n ≤ MOST_SLOTS) (sym (length-set slots slot (Some claim))) inside.0, are_in_set s wider slots slot claim from to own inside.1)

-- claims that are shown an access stay as many
pub shown_within : (s : Span) (seen : Seen) (slots slots' : Slots) (len : ℕ) → len ≡ length slots → slots' ≡ slots_after seen slots → length slots ≤ MOST_SLOTS
    → (let after : Slots = take len (slots' ++ drop (length slots') slots) in AreIn s after → (length after ≤ MOST_SLOTS) × AreIn s after)
shown_within s seen slots slots' len size is few =
    let same : length (slots_after seen slots) ≡ length slots = length-map slots (option_map (claim_after seen)) in
    let count : len ≡ length slots' = size ∙ sym same ∙ sym (ap length is) in
    let whole : take len (slots' ++ drop (length slots') slots) ≡ slots_after seen slots =
    ap (λ n. take n (slots' ++ drop (length slots') slots)) count ∙ take-append_seam slots' (drop (length slots') slots) ∙ is in
    let as_many : length (take len (slots' ++ drop (length slots') slots)) ≤ MOST_SLOTS = subst (λ (after : Slots). length after ≤ MOST_SLOTS) (sym whole) (omega (arith, same, few)) in
    λ inside. (as_many, inside)

outside_meets_none : (s : Span) (watched other : Access) → LiesIn s watched → is_outside s other ≡ true → meets watched other ≡ false
outside_meets_none s watched other inside outside = let from = inside.0 in let to = inside.1 in grind (arith, nat_tests, from, to, outside)

none_passes : (b m w : Bool) → m ≡ false → (b && (m && w)) ≡ false
none_passes true m w none = rw (none) refl
none_passes false m w none = refl

is_not_for : (claim : Claim) (seen : Seen) → meets claim.access seen.access ≡ false → is_for claim seen ≡ false
is_not_for claim seen = none_passes (not (claim.hart == seen.hart)) (meets claim.access seen.access) (claim.access.write || seen.access.write)

shows_nothing : (b f : Bool) → f ≡ false → (b && f) ≡ false
shows_nothing true f none = none
shows_nothing false f none = refl

claim_same : (claim : Claim) (seen : Seen) → meets claim.access seen.access ≡ false → claim_after seen claim ≡ claim
claim_same claim seen none =
    ap (λ (b : Bool). record claim { seen = cond b (Some seen) claim.seen }) (shows_nothing (is_none claim.seen) (is_for claim seen) (is_not_for claim seen none))

same_by : (s : Span) (claim : Claim) (seen : Seen) (earlier : Option Seen) → claim.seen ≡ earlier → WaitsIn s claim → is_outside s seen.access ≡ true → claim_after seen claim ≡ claim
same_by s claim seen None is waits outside = claim_same claim seen (outside_meets_none s claim.access seen.access (waits is) outside)
same_by s claim seen (Some earlier) is waits outside =
    ap (λ (b : Bool). record claim { seen = cond b (Some seen) claim.seen }) (ap (λ (o : Option Seen). is_none o && is_for claim seen) is)

pub outside_shows_none : (s : Span) (seen : Seen) (slots : Slots) → AreIn s slots → is_outside s seen.access ≡ true → slots_after seen slots ≡ slots
outside_shows_none s seen [] inside outside = refl
outside_shows_none s seen (None ∷ slots) inside outside = ap (λ (rest : Slots). None ∷ rest) (outside_shows_none s seen slots inside.1 outside)
outside_shows_none s seen (Some claim ∷ slots) inside outside =
    ap₂ (λ (c : Claim) (rest : Slots). Some c ∷ rest) (same_by s claim seen claim.seen refl inside.0 outside) (outside_shows_none s seen slots inside.1 outside)

not_taken : (claim : Claim) (seen : Seen) → is_waiting_for claim seen ≡ false → claim_after seen claim ≡ claim
not_taken claim seen none = ap (λ (b : Bool). record claim { seen = cond b (Some seen) claim.seen }) none

-- an access that no claim takes changes none
pub none_takes : (seen : Seen) (slots : Slots) → list_any (takes seen) slots ≡ false → slots_after seen slots ≡ slots
none_takes seen [] none = refl
none_takes seen (None ∷ slots) none = ap (λ (rest : Slots). None ∷ rest) (none_takes seen slots none)
none_takes seen (Some claim ∷ slots) none =
    let parts = or_parts (is_waiting_for claim seen) (list_any (takes seen) slots) none in
    ap₂ (λ (c : Claim) (rest : Slots). Some c ∷ rest) (not_taken claim seen parts.0) (none_takes seen slots parts.1)
