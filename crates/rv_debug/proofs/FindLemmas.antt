-- Which entries touch a byte.
use Rattle.std.proofs.Common.{◌≡◌, ℕ, ◌+◌, ◌≤◌, ◌<◌, ◌↔◌, Bool, true, false, IsTrue, List, length, Option, None, inl, inr, refl, sym, ap, subst, arith}
use Rattle.std.specs.Prelude.{◌⊎◌, nat_lt, option_and_then, IsSomeAnd}
use Rattle.std.proofs.lemmas.Bool.Decides.{nat_tests}
use Rattle.std.proofs.lemmas.Option.{slice_get_past}
use Rattle.rv_collide.specs.Entries.{stepped_at, stepped_hart}
use Rattle.rv_collide.specs.Made.{made}
use Rattle.rv_collide.specs.Next.{next}
use Rattle.rv_collide.specs.declared.entry.Entry.{Entry}
use Rattle.rv_debug.specs.Answers.{HasNoTouch, IsFirstTouch, TouchesAt}
use Rattle.rv_debug.specs.Placed.{Placed, setting}
use Rattle.rv_hart.specs.Conflict.{Touches}
use Rattle.rv_hart.specs.State.{State}
use Rattle.rv_hart.specs.declared.access.Access.{Access}

made_past : (start : State) (xs : List Entry) (place : ℕ) → length xs ≤ place → made start xs place ≡ None
unfolding made stepped_at
made_past start xs place past = ap (λ (o : Option Entry). option_and_then (λ hart. next start xs place hart) (option_and_then stepped_hart o)) (slice_get_past xs place past)

true_is_not_false : (b : Bool) → b ≡ false → IsTrue b → ⊥
true_is_not_false true is holds = cc
true_is_not_false false is holds = cc

split : (k n : ℕ) → k < n + 1 → (k < n) ⊎ (k ≡ n)
split k n lt = by_test (nat_lt k n) refl
  where
    by_test : (b : Bool) → nat_lt k n ≡ b → (k < n) ⊎ (k ≡ n)
    by_test true is = let below : k < n = grind (arith, nat_tests) in inl below
    by_test false is = let same : k ≡ n = grind (arith, nat_tests) in inr same

within : (k n : ℕ) → (k < n) ⊎ (n ≤ k)
within k n = by_test (nat_lt k n) refl
  where
    by_test : (b : Bool) → nat_lt k n ≡ b → (k < n) ⊎ (n ≤ k)
    by_test true is = let below : k < n = grind (arith, nat_tests) in inl below
    by_test false is = let past : n ≤ k = grind (arith, nat_tests) in inr past

module _ (p : Placed) (address place : ℕ) (access : Option Access) (touches : Bool) (is : access ≡ made (setting p).start p.entries place) (told : IsTrue touches ↔ IsSomeAnd access (λ a. Touches a address)) (before : (k : ℕ) → p.place ≤ k → k < place → TouchesAt p address k → ⊥) where
  pub first_touch : p.place ≤ place → IsTrue touches → IsFirstTouch p address place
  first_touch from holds = record {
    from = from;
    touches = subst (λ (o : Option Access). IsSomeAnd o (λ a. Touches a address)) is (told.0 holds);
    least = before;
  }

  pub none_more : touches ≡ false → (k : ℕ) → p.place ≤ k → k < place + 1 → TouchesAt p address k → ⊥
  none_more fails k from lt at =
      elim (split k place lt) [
        | inl below ↦ before k from below at
        | inr same ↦ true_is_not_false touches fails (told.1 (subst (λ (o : Option Access). IsSomeAnd o (λ a. Touches a address)) (sym is) (subst (TouchesAt p address) same at)))
      ]

pub none_at_all : (p : Placed) (address count : ℕ) → count ≡ length p.entries → ((k : ℕ) → p.place ≤ k → k < count → TouchesAt p address k → ⊥) → HasNoTouch p address
none_at_all p address count counted before k from at =
    elim (within k count) [
      | inl below ↦ before k from below at
      | inr past ↦ subst (λ (o : Option Access). IsSomeAnd o (λ a. Touches a address)) (made_past (setting p).start p.entries k (omega arith)) at
    ]
