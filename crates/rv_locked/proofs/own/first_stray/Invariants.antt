use Rattle.std.proofs.Common.{◌≡◌, ◌<◌, ℕ, List, map, Some}
use Rattle.std.specs.Prelude.{slice_get}
use Rattle.rv_locked.specs.Own.{IsOwn}
use Rattle.rv_locked.proofs.own.first_stray.Given as goal

abbrev pub invariant-loop-h : goal.invariant-loop-h
invariant-loop-h l = (hart : ℕ) (list : List ℕ) → hart < l.h → slice_get (map (λ p. p.items) l.places) hart ≡ Some list → IsOwn l.driver hart list
