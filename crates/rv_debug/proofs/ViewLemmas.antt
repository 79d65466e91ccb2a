-- A hart's view, part by part.
use Rattle.std.proofs.Common.{◌≡◌, ℕ, zero, suc, ◌+◌, ◌<◌, List, [], ◌∷◌, length, Option, Some, None, refl, ap, ◌∙◌, arith, below_more}
use Rattle.std.specs.Prelude.{slice_get, slice_set, IsSomeAnd}
use Rattle.rv_debug.specs.Answers.{IsView}
use Rattle.rv_debug.specs.declared.hart_view.HartView.{HartView}
use Rattle.rv_hart.specs.Registers.{get}
use Rattle.rv_hart.specs.declared.hart.Hart.{Hart}

pub view_is : (o : Option Hart) (view : HartView) → IsSomeAnd o (λ hart. view.status ≡ hart.status) → IsSomeAnd o (λ hart. view.pc ≡ hart.pc) → IsSomeAnd o (λ hart. view.reservation ≡ hart.reservation) → ((r : ℕ) → r < 32 → IsSomeAnd o (λ hart. slice_get view.registers r ≡ Some (get hart.registers r))) → IsSomeAnd o (λ hart. IsView hart view)
view_is None view status pc reservation registers = absurd status
view_is (Some hart) view status pc reservation registers = record { status = status; pc = pc; registers = registers; reservation = reservation }

get_other : (xs : List ℕ) (i j v : ℕ) → (j ≡ i → ⊥) → slice_get (slice_set xs i v) j ≡ slice_get xs j
get_other [] i j v other = refl
get_other (x ∷ xs) zero zero v other = absurd (other refl)
get_other (x ∷ xs) zero (suc j) v other = refl
get_other (x ∷ xs) (suc i) zero v other = refl
get_other (x ∷ xs) (suc i) (suc j) v other = get_other xs i j v (λ same. other (ap suc same))

get_same : (xs : List ℕ) (i v : ℕ) → i < length xs → slice_get (slice_set xs i v) i ≡ Some v
get_same [] i v below = absurd (omega arith)
get_same (x ∷ xs) zero v below = refl
get_same (x ∷ xs) (suc i) v below = get_same xs i v (omega arith)

-- one more register is shown
pub one_more : (o : Option Hart) (xs : List ℕ) (r v : ℕ) → r < length xs → IsSomeAnd o (λ hart. v ≡ get hart.registers r) → ((k : ℕ) → k < r → IsSomeAnd o (λ hart. slice_get xs k ≡ Some (get hart.registers k))) → (k : ℕ) → k < r + 1 → IsSomeAnd o (λ hart. slice_get (slice_set xs r v) k ≡ Some (get hart.registers k))
one_more None xs r v below is before = λ k lt. absurd is
one_more (Some hart) xs r v below is before =
    below_more _ _
    (λ k lt. let other : k ≡ r → ⊥ = λ same. absurd (omega arith) in get_other xs r k v other ∙ before k lt)
    (get_same xs r v below ∙ ap Some is)
