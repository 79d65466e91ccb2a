use Rattle.std.specs.Prelude.{◌≡◌}
use Rattle.rv_walk.specs.NearPair.{WasMade}
use Rattle.rv_walk.specs.Walked.{Walked}
use Rattle.rv_walk.specs.internal.Inside.{AreOf}
use Rattle.rv_walk.proofs.accesses.Accesses.look.Given as goal

abbrev pub invariant-loop : goal.invariant-loop
invariant-loop l = (walk : Walked) → walk.sites ≡ l.sites → WasMade walk l.seen → AreOf walk l.initial.self → AreOf walk l.self
