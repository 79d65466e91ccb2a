-- What a runner keeps, and how it goes on.
use Rattle.std.specs.Prelude.{◌≡◌, ◌≢◌, ℕ, ◌+◌, ◌*◌, ◌≤◌, Bool, true, false, Some, List, [], ◌∷◌, ◌++◌, length, replicate}
use Rattle.rv_hart.specs.Run.{run}
use Rattle.rv_hart.specs.State.{Guest, State}
use Rattle.rv_waits.specs.Stuck.{Runs}
use Rattle.rv_waits.specs.Watch.{IsWatchOf}
use Rattle.rv_waits.specs.declared.watch.Anchor.{Anchor}
use Rattle.rv_waits.specs.Turn.{AllMayRest}
use Rattle.rv_orders.specs.Driven.{AreDriven}
use Rattle.rv_orders.specs.Trial.{words_of}

-- A run: the state that it began at, the harts that stepped since, in their order, the state that they led to, and how many steps it
-- may have.
pub record Gone : Type 0 where
  pub start : State
  pub harts : List ℕ
  pub state : State
  pub most : ℕ

pub record IsGone (gone : Gone) (guest : Guest) (anchors : List Anchor) : Type 0 where
  pub reached : run gone.start gone.harts ≡ Some gone.state
  pub watched : IsWatchOf anchors gone.state
  pub few : length gone.harts ≤ gone.most
  pub prints : length gone.state.output + gone.most ≤ guest.limit + length gone.harts

-- by one more step of hart h, which ended no other hart
pub record IsOneMore (old new : Gone) (h : ℕ) : Type 0 where
  pub start : new.start ≡ old.start
  pub harts : new.harts ≡ old.harts ++ h ∷ []
  pub most : new.most ≡ old.most
  pub moved : run old.state (h ∷ []) ≡ Some new.state
  pub others : (other : ℕ) → other ≢ h → Runs old.state other → Runs new.state other

-- by so many turns of hart h
pub record IsTurns (old new : Gone) (h turns : ℕ) : Type 0 where
  pub start : new.start ≡ old.start
  pub most : new.most ≡ old.most
  pub harts : new.harts ≡ old.harts ++ replicate turns h
  pub reached : run old.state (replicate turns h) ≡ Some new.state

-- by some turns of it, no more than so many
pub record IsBurst (old new : Gone) (h most : ℕ) : Type 0 where
  pub turns : ℕ
  pub some : 1 ≤ turns
  pub few : turns ≤ most
  pub is : IsTurns old new h turns

-- by steps that the words of that number drive
pub record IsDriven (old new : Gone) (number : ℕ) : Type 0 where
  pub start : new.start ≡ old.start
  pub most : new.most ≡ old.most
  pub tail : List ℕ
  pub harts : new.harts ≡ old.harts ++ tail
  pub reached : run old.state tail ≡ Some new.state
  pub driven : AreDriven (words_of number) old.state tail

-- so, by so many words
pub record IsDrivenOn (old new : Gone) (number taken : ℕ) : Type 0 where
  pub so : IsDriven old new number
  pub count_is : taken ≡ 2 * length so.driven.bursts

-- each hart may rest, or all its steps are made
abbrev pub IsFar : Gone → Bool → Type 0
IsFar gone true = AllMayRest gone.state
IsFar gone false = length gone.harts ≡ gone.most
