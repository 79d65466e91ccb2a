-- A probe: a run from the middle of a walk on, in which a hart is held at one of two instructions while others go on.
use Rattle.std.specs.Prelude.{◌≡◌, ◌≢◌, ◌⊎◌, ℕ, Some, List, length, slice_get, take}
use Rattle.std.specs.List.{Contains}
use Rattle.rv_collide.specs.Begun.{Begun}
use Rattle.rv_collide.specs.Entries.{steps}
use Rattle.rv_collide.specs.Pause.{Opening, opening_of}
use Rattle.rv_collide.specs.StateAt.{state_at}
use Rattle.rv_collide.specs.declared.entry.Entry.TheVariants.{Armed, Resumed}
use Rattle.rv_drive.specs.Able.{others_steps}
use Rattle.rv_hart.specs.State.{State}
use Rattle.rv_walk.specs.Burst.{MayRest}
use Rattle.rv_walk.specs.declared.near_pair.Addresses.{Addresses}

-- What a probe aims at: two instructions, and the sites at which harts may be paused.
pub record Aim : Type 0 where
  pub addresses : Addresses
  pub sites : List ℕ

-- the address is that of one of the two instructions, and a site
pub record IsAimedAt (aim : Aim) (address : ℕ) : Type 0 where
  pub is_one : (address ≡ aim.addresses.lesser) ⊎ (address ≡ aim.addresses.greater)
  pub is_site : Contains aim.sites address

-- at the place the hart's pause has lasted for as many steps of others as the plan wants
abbrev pub IsDue : Begun → ℕ → ℕ → Type 0
IsDue core place hart =
    (opening : Opening) × (opening_of (take place core.entries) hart ≡ Some opening) × (others_steps (take place core.entries) opening ≡ core.plan.pause)

-- all steps of the plan were made before the place
abbrev pub AreSpent : Begun → ℕ → Type 0
AreSpent core place = length (steps (take place core.entries)) ≡ core.plan.steps

-- at the place each other hart may rest: it doesn't run, or it waits
abbrev pub OthersMayRest : Begun → ℕ → ℕ → Type 0
OthersMayRest core place hart =
    (s : State) → state_at core.start core.entries place ≡ Some s → (other : ℕ) → other ≢ hart → MayRest s other

-- a pause of the hart may end at the place
abbrev pub MayEnd : Begun → ℕ → ℕ → Type 0
MayEnd core place hart = IsDue core place hart ⊎ AreSpent core place ⊎ OthersMayRest core place hart

-- Only what is aimed at is armed, and each pause ends when it is due, where no other hart may go, or when all steps are made.
pub record IsProbe (aim : Aim) (core : Begun) : Type 0 where
  pub armed : (place address : ℕ) → slice_get core.entries place ≡ Some (Armed address) → IsAimedAt aim address
  pub ended : (place hart : ℕ) → slice_get core.entries place ≡ Some (Resumed hart) → MayEnd core place hart
