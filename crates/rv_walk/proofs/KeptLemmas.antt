-- What a walk keeps of its accesses, through each change.
use Rattle.std.proofs.Common.{◌≡◌, ℕ, zero, suc, ◌<◌, List, ◌∷◌, [], length, Some, ap, sym, subst, arith}
use Rattle.std.specs.Prelude.{slice_get}
use Rattle.std.specs.List.{All}
use Rattle.std.proofs.lemmas.List.Elements.{All-get_or}
use Rattle.std.proofs.lemmas.Option.{get_or_from_slice_get}
use Rattle.rv_walk.specs.NearPair.{IsNearPair, WasMade}
use Rattle.rv_walk.specs.Walked.{Walked}
use Rattle.rv_walk.specs.declared.accesses.Accesses.{Accesses}
use Rattle.rv_walk.specs.declared.accesses.Kept.{Kept}
use Rattle.rv_walk.specs.internal.Inside.{AreMade, AreOf}

within : (kept : List Kept) (i : ℕ) (one : Kept) → slice_get kept i ≡ Some one → i < length kept
within [] i one is = cc
within (first ∷ kept) zero one is = omega arith
within (first ∷ kept) (suc i) one is = let e : i < length kept = within kept i one is in omega arith

pub made_at : (walk : Walked) (kept : List Kept) (i : ℕ) (one : Kept) → AreMade walk kept → slice_get kept i ≡ Some one → WasMade walk one.seen
made_at walk kept i one are is =
    subst (λ (k : Kept). WasMade walk k.seen) (get_or_from_slice_get kept i one one is) (All-get_or (λ (k : Kept). WasMade walk k.seen) kept i one (within kept i one is) are)

-- only the near pairs have changed
pub noted : (walk : Walked) (old new : Accesses) → new.kept ≡ old.kept → All (IsNearPair walk) new.closest → AreOf walk old → AreOf walk new
noted walk old new same near are = record {
  made = subst (λ (kept : List Kept). AreMade walk kept) (sym (ap (λ v. v.items) same)) are.made;
  near = near;
}

-- neither have
pub unchanged : (walk : Walked) (old new : Accesses) → new.kept ≡ old.kept → new.closest ≡ old.closest → AreOf walk old → AreOf walk new
unchanged walk old new same also are = noted walk old new same (subst (All (IsNearPair walk)) (sym also) are.near) are
