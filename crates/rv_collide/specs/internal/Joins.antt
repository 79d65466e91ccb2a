-- Places that stay within 32 bits when they are told from further back.
use Rattle.std.specs.Prelude.{◌≡◌, ℕ, ◌+◌, ◌<◌, ◌^◌, ⊤}
use Rattle.rv_collide.specs.Joined.{verdict_later}
use Rattle.rv_collide.specs.declared.ending.Ending.{Ending}
use Rattle.rv_collide.specs.declared.ending.Verdict.{Verdict}
use Rattle.rv_collide.specs.declared.ending.Verdict.TheVariants.{Hit, Changed, Quiet}

abbrev pub IsHitPlaced : ℕ → Verdict → Type 0
IsHitPlaced by (Hit seen) = by + seen.place < 2 ^ 32
IsHitPlaced by Changed = ⊤
IsHitPlaced by Quiet = ⊤

pub record IsPlaced (by : ℕ) (told : Ending) : Type 0 where
  pub begun : by + told.paused_at < 2 ^ 32
  pub over : by + told.resumed_at < 2 ^ 32
  pub hit : IsHitPlaced by told.verdict

abbrev pub IsMovedBy : ℕ → Verdict → Verdict → Type 0
IsMovedBy by verdict moved = IsHitPlaced by verdict → moved ≡ verdict_later by verdict
