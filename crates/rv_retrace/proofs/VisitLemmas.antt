-- A visit that has gone on to the next place.
use Rattle.std.proofs.Common.{◌≡◌, ◌∙◌, ℕ, ◌+◌, sym, ap, subst}
use Rattle.rv_debug.specs.Placed.{Placed}
use Rattle.rv_debug.specs.Visited.{IsVisit, Visited}

pub next_there : (p : Placed) (old place : ℕ) (visit : Visited) → old ≡ place → IsVisit p (old + 1) visit → visit.place ≡ place + 1
next_there p old place visit is at = at.there ∙ ap (λ k. k + 1) is

pub next_here : (p : Placed) (old : ℕ) (visit : Visited) → IsVisit p (old + 1) visit → IsVisit p visit.place visit
next_here p old visit at = subst (λ k. IsVisit p k visit) (sym at.there) at
