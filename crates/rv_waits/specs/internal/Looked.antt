use Rattle.std.specs.Prelude.{◌≡◌, ◌==◌, ◌≤◌, ◌<◌, ℕ, Some, List, length, slice_get}
use Rattle.rv_hart.specs.declared.hart.Hart.{Hart}
use Rattle.rv_waits.specs.declared.watch.Anchor.{Anchor}
use Rattle.rv_waits.specs.internal.Anchored.{IsLooked, IsNew}

-- the first k anchors have been looked at, and the rest not yet
pub record AreLooked (k h first size : ℕ) (old new : List Anchor) : Type 0 where
  pub count : length new ≡ length old
  pub rest : (j : ℕ) → k ≤ j → slice_get new j ≡ slice_get old j
  pub done : (j : ℕ) (anchor : Anchor) → j < k → slice_get new j ≡ Some anchor → (was : Anchor) × (slice_get old j ≡ Some was) × IsLooked was (j == h) first size anchor

-- an anchor of each of the first k harts as it is
pub record AreNew (k : ℕ) (harts : List Hart) (anchors : List Anchor) : Type 0 where
  pub count : length anchors ≡ k
  pub each : (j : ℕ) (anchor : Anchor) → slice_get anchors j ≡ Some anchor → (hart : Hart) × (slice_get harts j ≡ Some hart) × IsNew hart anchor
