use Rattle.std.proofs.Common.{List, ℕ, sym, subst}
use Rattle.std.specs.List.{All}
use Rattle.rv_walk.specs.NearPair.{AreNear, IsNearPair}
use Rattle.rv_walk.specs.declared.accesses.Accesses.{Accesses}
use Rattle.rv_walk.proofs.accesses.Accesses.pair_anew.Goals as goal
use Rattle.rv_walk.proofs.accesses.Accesses.pair_anew.Goals.{then-are_near+in_ok-note, else-are_near}

pub returns-in_err-note-clause-closest : goal.returns-in_err-note-clause-closest
returns-in_err-note-clause-closest c =
    λ walk sites made also are. c.note.ensures walk are (record {
      first = made;
      second = also;
      near = subst (λ (xs : List ℕ). AreNear xs c.args.pair.first c.args.pair.second) (sym sites) (c.are_near.ensures.0 c.if-are_near.true);
    })

pub returns-clause-closest : goal.returns-clause-closest
returns-clause-closest c =
    λ walk sites made also are. elim c.if-are_near.branch [
      | then-are_near+in_ok-note w ↦ subst (λ (a : Accesses). All (IsNearPair walk) a.closest) (sym w.self-is) (w.note.ensures walk are (record {
        first = made;
        second = also;
        near = subst (λ (xs : List ℕ). AreNear xs c.args.pair.first c.args.pair.second) (sym sites) (c.are_near.ensures.0 w.if-are_near.true);
      }))
      | else-are_near w ↦ subst (λ (a : Accesses). All (IsNearPair walk) a.closest) (sym w.self-is) are
    ]
