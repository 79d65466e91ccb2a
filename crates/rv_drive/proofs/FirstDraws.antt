-- The draws before the first turn: each arms an address, and once they are made nothing is owed.
use Rattle.std.proofs.Common.{◌≡◌, ℕ, suc, ◌+◌, ◌-◌, Bool, false, cond, List, [], ◌∷◌, length, take, Option, Some, None, refl, ap, ◌∙◌, arith}
use Rattle.std.specs.Prelude.{slice_get, option_and_then, count_by}
use Rattle.std.specs.Option.{option_or}
use Rattle.std.proofs.lemmas.List.{length-take-le}
use Rattle.std.proofs.lemmas.List.Sums.{sum_by-append}
use Rattle.std.proofs.lemmas.Option.{slice_get_past}
use Rattle.rv_collide.specs.Forced.{Setting}
use Rattle.rv_collide.specs.declared.entry.Entry.{Entry}
use Rattle.rv_collide.specs.declared.entry.Entry.TheVariants.{Armed}
use Rattle.rv_drive.specs.DriverLaws.{DrawsArm, FirstDrawsAreOwed, FirstDrawsArePaid}
use Rattle.rv_drive.specs.Draws.{Sampling, draw, draw_after, draws, first_draws, is_resumed, next_index, owed}
use Rattle.rv_drive.proofs.DrivenLemmas.{draw_arms, in_draws}
use Rattle.rv_drive.proofs.Fronts.{some_there}

pub draws_arm : DrawsArm
draws_arm setting sampling entries index entry adds =
    let arms = draw_arms setting sampling entries index entry adds in
    (arms.address, arms.is)

abbrev AreArmings : List Entry → Type 0
AreArmings xs = (place : ℕ) (e : Entry) → slice_get xs place ≡ Some e → (address : ℕ) × (e ≡ Armed address)

all_arm : (setting : Setting) (sampling : Sampling) → AreArmings (draws setting sampling first_draws)
all_arm setting sampling place e there =
    let first = in_draws setting sampling first_draws place e there in
    draws_arm setting sampling (draws setting sampling first.number) first.number e first.adds

first_or : (a b : Option Entry) (x : Entry) → a ≡ Some x → option_or a b ≡ Some x
first_or None b x h = cc
first_or (Some y) b x h = h

pub are_owed : FirstDrawsAreOwed
unfolding owed
are_owed setting sampling takes place below =
    let all = draws setting sampling first_draws in
    let there = some_there all place below in
    let arms = all_arm setting sampling place there.0 there.1 in
    let is : slice_get all place ≡ Some (Armed arms.0) = there.1 ∙ ap Some arms.1 in
    let long : length (take place all) ≡ place = length-take-le place all (omega arith) in
    (arms.0, is, first_or (slice_get all (length (take place all))) (draw_after setting sampling takes (take place all)) (Armed arms.0) (ap (slice_get all) long ∙ is))

-- ---- once they are made

no_word : (takes : Entry → Bool) → ((address : ℕ) → takes (Armed address) ≡ false) → (xs : List Entry) → AreArmings xs → count_by takes xs ≡ 0
no_word takes free [] arm = refl
no_word takes free (x ∷ xs) arm =
    let first = arm 0 x refl in
    let none : 0 + cond (takes x) 1 0 ≡ 0 = ap (λ b. 0 + cond b 1 0) (ap takes first.1 ∙ free first.0) in
    let rest = no_word takes free xs (λ place e there. arm (suc place) e there) in
    let both = sum_by-append (λ y. cond (takes y) 1 0) (x ∷ []) xs in
    omega (arith, none, rest, both)

nothing_after : (setting : Setting) (sampling : Sampling) (takes : Entry → Bool) (xs : List Entry) (last : Option Entry) → slice_get xs (length xs - 1) ≡ last → ((e : Entry) → last ≡ Some e → (address : ℕ) × (e ≡ Armed address)) → draw_after setting sampling takes xs ≡ None
unfolding draw_after
nothing_after setting sampling takes xs None at arms =
    ap (option_and_then (λ last. cond (is_resumed last) (draw setting sampling xs (next_index takes (take (length xs - 1) xs))) None)) at
nothing_after setting sampling takes xs (Some e) at arms =
    let arming = arms e refl in
    ap (option_and_then (λ last. cond (is_resumed last) (draw setting sampling xs (next_index takes (take (length xs - 1) xs))) None)) at
    ∙ ap (λ b. cond b (draw setting sampling xs (next_index takes (take (length xs - 1) xs))) None) (ap is_resumed arming.1)

pub are_paid : FirstDrawsArePaid
unfolding owed
are_paid setting sampling takes free =
    let all = draws setting sampling first_draws in
    let none = no_word takes free all (all_arm setting sampling) in (
      ap (λ o. option_or o (draw_after setting sampling takes all)) (slice_get_past all (length all) (omega arith))
          ∙ nothing_after setting sampling takes all (slice_get all (length all - 1)) refl (all_arm setting sampling (length all - 1)),
      omega (arith, none),
    )
