-- Whether a pause is due, as a driver counts.
use Rattle.std.proofs.Common.{◌≡◌, ℕ, ◌+◌, ◌-◌, ◌≤◌, ◌<◌, inl, inr, Bool, true, false, cond, List, [], ◌∷◌, Option, Some, None, refl, sym, ap, ◌∙◌, arith}
use Rattle.std.specs.Prelude.{◌==◌, ◌||◌, find, nat_le, not, is_some, slice_index}
use Rattle.std.specs.Option.{option_map_or}
use Rattle.std.proofs.lemmas.Bool.{cases_eq}
use Rattle.std.proofs.lemmas.Bool.Decides.{nat_tests}
use Rattle.rv_drive.specs.internal.Kept.{IsKept}
use Rattle.rv_drive.specs.Able.{another_is_able, due, is_due, others_steps}
use Rattle.rv_collide.specs.Forced.{Setting}
use Rattle.rv_collide.specs.Pause.{Opening, only_hart, opening_of, openings}
use Rattle.rv_collide.specs.declared.entry.Entry.{Entry}
use Rattle.rv_drive.proofs.RowLemmas.{find_here, find_none}

by_opening : (f : Opening → Bool) (o : Option Opening) → is_some o ≡ false → false ≡ option_map_or f o false
by_opening f None h = refl
by_opening f (Some x) h = cc

pub not_due : (setting : Setting) (entries : List Entry) (hart : ℕ) → is_some (opening_of entries hart) ≡ false → false ≡ is_due setting entries hart
unfolding is_due
not_due setting entries hart h = by_opening (λ opening. nat_le setting.plan.pause (others_steps entries opening) || not (another_is_able setting entries hart)) (opening_of entries hart) h

counted : (setting : Setting) (entries : List Entry) (hart made since : ℕ) (o : Option Opening) (rest : Bool) → is_some o ≡ true → ((p : Opening) → o ≡ Some p → others_steps entries p ≡ since) → option_map_or (λ opening. nat_le setting.plan.pause (others_steps entries opening) || rest) o false ≡ (nat_le setting.plan.pause since || rest)
counted setting entries hart made since None rest some each = cc
counted setting entries hart made since (Some p) rest some each = ap (λ n. nat_le setting.plan.pause n || rest) (each p refl)

minus : (a b c : ℕ) → a + b ≡ c → a ≡ c - b
minus a b c h = omega arith

pub by_count : (setting : Setting) (entries : List Entry) (made : ℕ) (made_at : List ℕ) (hart : ℕ) → IsKept entries made made_at → is_some (opening_of entries hart) ≡ true → is_due setting entries hart ≡ (nat_le setting.plan.pause (made - slice_index made_at hart) || not (another_is_able setting entries hart))
unfolding is_due
by_count setting entries made made_at hart k some =
    counted setting entries hart made (made - slice_index made_at hart) (opening_of entries hart) (not (another_is_able setting entries hart)) some
    (λ p is. minus (others_steps entries p) (slice_index made_at hart) made (k.since hart p is))

pub le_is : (a b : ℕ) → a ≤ b → nat_le a b ≡ true
le_is a b h = grind (arith, nat_tests)

pub le_not : (a b : ℕ) → b < a → nat_le a b ≡ false
le_not a b h = grind (arith, nat_tests)

apart : (a b : ℕ) → (a ≡ b → ⊥) → (a == b) ≡ false
apart a b other = grind (arith, nat_tests)

equal : (a b : ℕ) → a ≡ b → (a == b) ≡ true
equal a b same = grind (arith, nat_tests)

same_hart : (a h : ℕ) → Some a ≡ Some h → a ≡ h
same_hart a h e = cc

-- ---- where one pause is open and no other

unpaused : (os : List Opening) (h k : ℕ) → only_hart os ≡ Some h → (k ≡ h → ⊥) → is_some (find (λ (o : Opening). o.hart == k) os) ≡ false
unpaused [] h k only other = cc
unpaused (o ∷ []) h k only other = ap (λ b. is_some (cond b (Some o) None)) (apart o.hart k (λ same. other (sym same ∙ same_hart o.hart h only)))
unpaused (o ∷ p ∷ os) h k only other = cc

one_open : (os : List Opening) (h : ℕ) → only_hart os ≡ Some h → is_some (find (λ (o : Opening). o.hart == h) os) ≡ true
one_open [] h only = cc
one_open (o ∷ []) h only = ap (λ b. is_some (cond b (Some o) None)) (equal o.hart h (same_hart o.hart h only))
one_open (o ∷ p ∷ os) h only = cc

pub only_open : (entries : List Entry) (h : ℕ) → only_hart (openings entries) ≡ Some h → is_some (opening_of entries h) ≡ true
unfolding opening_of
only_open entries h only = one_open (openings entries) h only

not_others : (setting : Setting) (entries : List Entry) (h k : ℕ) → only_hart (openings entries) ≡ Some h → (k ≡ h → ⊥) → is_due setting entries k ≡ false
unfolding opening_of
not_others setting entries h k only other = sym (not_due setting entries k (unpaused (openings entries) h k only other))

pub only_due : (setting : Setting) (entries : List Entry) (h : ℕ) → only_hart (openings entries) ≡ Some h → h < setting.plan.harts → is_due setting entries h ≡ true → Some h ≡ due setting entries
unfolding due
only_due setting entries h only within is =
    sym (find_here (is_due setting entries) 0 setting.plan.harts h (omega arith) (omega (arith, within)) is
    (λ k lo below. not_others setting entries h k only (λ same. absurd (omega (arith, same, below)))))

either : (setting : Setting) (entries : List Entry) (h k : ℕ) → only_hart (openings entries) ≡ Some h → is_due setting entries h ≡ false → is_due setting entries k ≡ false
either setting entries h k only is_not =
    elim (cases_eq k h) [
      | inl same ↦ ap (is_due setting entries) same ∙ is_not
      | inr other ↦ not_others setting entries h k only other
    ]

pub only_undue : (setting : Setting) (entries : List Entry) (h : ℕ) → only_hart (openings entries) ≡ Some h → is_due setting entries h ≡ false → None ≡ due setting entries
unfolding due
only_undue setting entries h only is_not =
    sym (find_none (is_due setting entries) 0 setting.plan.harts (λ k lo hi. either setting entries h k only is_not))
