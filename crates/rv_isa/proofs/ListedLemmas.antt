-- The list of the operations: what is found in it, and that each is there.
use Rattle.std.proofs.Common.{◌≡◌, ℕ, zero, suc, ◌<◌, Bool, true, false, cond, List, [], ◌∷◌, Option, Some, length, refl, ap, subst, arith, lit<}
use Rattle.std.specs.List.{find, slice_index_or}
use Rattle.std.specs.Prelude.{◌==◌}
use Rattle.rv_isa.specs.Table.{match_of, operations}
use Rattle.rv_isa.specs.TableLaws.{EachOperationIsListed}
use Rattle.rv_isa.specs.declared.op.Op.{Op}
use Rattle.rv_isa.specs.declared.op.Op.TheVariants.{Lui}

found_at : (p : Op → Bool) (b : Bool) (first op : Op) (later : Option Op) → p first ≡ b → (later ≡ Some op → p op ≡ true) → cond b (Some first) later ≡ Some op → p op ≡ true
found_at p true first op later passes rest found = let same : first ≡ op = cc in subst (λ (o : Op). p o ≡ true) same passes
found_at p false first op later fails rest found = rest found

-- what is found passes the test
pub found_passes : (p : Op → Bool) (ops : List Op) (op : Op) → find p ops ≡ Some op → p op ≡ true
found_passes p [] op found = cc
found_passes p (first ∷ ops) op found = found_at p (p first) first op (find p ops) refl (found_passes p ops op) found

only_at : (p : Op → Bool) (b : Bool) (first op : Op) (later : Option Op) → p first ≡ b → ((other : Op) → p other ≡ true → other ≡ op) → later ≡ Some op → cond b (Some first) later ≡ Some op
only_at p true first op later passes only rest = ap Some (only first passes)
only_at p false first op later fails only rest = rest

-- the one that passes the test is found
pub only_is_found : (p : Op → Bool) (ops : List Op) (k : ℕ) (op : Op) → k < length ops → slice_index_or ops k op ≡ op → p op ≡ true → ((other : Op) → p other ≡ true → other ≡ op) → find p ops ≡ Some op
only_is_found p [] k op inside is passes only = absurd (omega arith)
only_is_found p (first ∷ ops) zero op inside is passes only = rw (is, passes) refl
only_is_found p (first ∷ ops) (suc k) op inside is passes only = only_at p (p first) first op (find p ops) refl only (only_is_found p ops k op (omega arith) is passes only)

-- the place of the first of these operations whose fixed bits are the same
place : ℕ → List Op → ℕ
place bits [] = 0
place bits (first ∷ ops) = cond (bits == match_of first) 0 (suc (place bits ops))

pub each_listed : EachOperationIsListed
unfolding place
each_listed Lui = (0, lit< tt, refl)
each_listed op = (place (match_of op) operations, lit< tt, refl)
