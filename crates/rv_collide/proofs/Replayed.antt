-- One more entry of a list that is told again.
use Rattle.std.proofs.Common.{◌≡◌, ℕ, ◌+◌, ◌<◌, List, [], ◌∷◌, ◌++◌, length, take, Some, Ok, inl, inr, sym, ap, subst, ◌∙◌, arith}
use Rattle.std.specs.Prelude.{slice_get, ◌≢◌, ◌⊎◌}
use Rattle.std.proofs.lemmas.Option.{slice_get_within}
use Rattle.std.proofs.lemmas.List.{length-take}
use Rattle.rv_collide.specs.Answers.{Adds}
use Rattle.rv_collide.specs.Forced.{forced}
use Rattle.rv_collide.specs.Legal.{IsLegal, call_of}
use Rattle.rv_collide.specs.Plan.{Numbers}
use Rattle.rv_collide.specs.Replays.{IsFirstFault, IsReplayFault, IsWhy}
use Rattle.rv_collide.specs.Stored.{Stored, added, setting_of, stored}
use Rattle.rv_collide.specs.declared.entry.Entry.{Entry}
use Rattle.rv_collide.specs.declared.refused.Refused.TheVariants as refused
use Rattle.rv_collide.specs.declared.replay.ReplayFault.{ReplayFault}
use Rattle.rv_collide.specs.declared.replay.ReplayFault.TheVariants as fault
use Rattle.rv_collide.specs.declared.replay.Why.{Why}
use Rattle.rv_collide.specs.declared.replay.Why.TheVariants as why
use Rattle.rv_elf.specs.Contents.{Contents}
use Rattle.rv_collide.proofs.Growth.{legal_push}
use Rattle.rv_collide.proofs.LawLemmas.{some_same, take_next}

pub take_one : (xs : List Entry) (i : ℕ) (e : Entry) → slice_get xs i ≡ Some e → take (i + 1) xs ≡ take i xs ++ e ∷ []
take_one xs i e there =
    let n = take_next xs i (slice_get_within xs i e there) in
    n.2 ∙ ap (λ (x : Entry). take i xs ++ x ∷ []) (some_same n.0 e (sym n.1 ∙ there))

module _ (image : Contents) (plan : Numbers) (xs : List Entry) (i : ℕ) (e : Entry) (old : Stored) (is : old ≡ stored image plan (take i xs)) (there : slice_get xs i ≡ Some e) where
  pub one_more : (new : Stored) → Adds old new (call_of e) e → new ≡ stored image plan (take (i + 1) xs)
  one_more new adds =
      adds.is_added
      ∙ ap (λ (s : Stored). added s e) is
      ∙ ap (stored image plan) (sym (take_one xs i e there))

  pub legal_more : (new : Stored) → IsLegal (setting_of (stored image plan [])) (take i xs) → Adds old new (call_of e) e → IsLegal (setting_of (stored image plan [])) (take (i + 1) xs)
  legal_more new legal adds =
      subst (λ (ys : List Entry). IsLegal (setting_of (stored image plan [])) ys) (sym (take_one xs i e there))
      (legal_push (setting_of (stored image plan [])) (take i xs) e legal
      (subst (λ (s : Stored). forced (setting_of s) s.entries (call_of e) ≡ Ok e) is adds.is_forced))

  size : i < length xs → (place : ℕ) → place ≡ length old.entries → place ≡ i
  size lt place at = let n = at ∙ ap (λ (s : Stored). length s.entries) is in let l = length-take i xs in omega arith

  first_fault : (place : ℕ) (reason : Why) → place ≡ i → IsLegal (setting_of (stored image plan [])) (take i xs) → IsWhy (forced (setting_of (stored image plan [])) (take i xs) (call_of e)) e reason → IsFirstFault (setting_of (stored image plan [])) xs place reason
  first_fault place reason at legal told =
      let lt = slice_get_within xs i e there in
      subst (λ (n : ℕ). IsFirstFault (setting_of (stored image plan [])) xs n reason) (sym at)
      (record { before = lt; legal = legal; entry = e; there = there; told = told })

  pub fault_told : (place : ℕ) (reason : Why) (told : ReplayFault) → place ≡ length old.entries → IsLegal (setting_of (stored image plan [])) (take i xs) → (reason ≡ why.Refused refused.NoMemory) ⊎ IsWhy (forced (setting_of old) old.entries (call_of e)) e reason → (told ≡ fault.NoMemory) ⊎ ((told ≡ fault.Entry place reason) × (reason ≢ why.Refused refused.NoMemory)) → IsReplayFault (setting_of (stored image plan [])) xs told
  fault_told place reason told at legal wants is_told =
      elim is_told [
        | inl none ↦ subst (IsReplayFault (setting_of (stored image plan [])) xs) (sym none) tt
        | inr some ↦ elim wants [
          | inl memory ↦ absurd (some.1 memory)
          | inr reasoned ↦ subst (IsReplayFault (setting_of (stored image plan [])) xs) (sym some.0)
              (first_fault place reason (size (slice_get_within xs i e there) place at) legal
              (subst (λ (s : Stored). IsWhy (forced (setting_of s) s.entries (call_of e)) e reason) is reasoned))
        ]
      ]
