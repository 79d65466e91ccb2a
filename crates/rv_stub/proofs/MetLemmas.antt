-- Endings of a legal record are of its pauses.
use Rattle.std.proofs.Common.{◌≡◌, ℕ, Option, Some, None, sym}
use Rattle.std.specs.Prelude.{IfSome, slice_get}
use Rattle.rv_collide.specs.Legal.{IsLegal}
use Rattle.rv_collide.specs.declared.ending.Ending.{Ending}
use Rattle.rv_debug.specs.Placed.{Placed, setting}
use Rattle.rv_report.specs.OfPause.{EndingsAreOfPauses, IsOfPause}
use Rattle.rv_stub.specs.Met.{endings_of}

pub of_pause : EndingsAreOfPauses → (p : Placed) (n : ℕ) (told : Option Ending) → IsLegal (setting p) p.entries → told ≡ slice_get (endings_of p) n → IfSome told (IsOfPause (setting p).start p.entries)
of_pause law p n None legal is = tt
of_pause law p n (Some told) legal is = law (setting p) p.entries n told legal (sym is)
