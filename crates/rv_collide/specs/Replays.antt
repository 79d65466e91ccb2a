-- What is told of a list of entries that no calls make.
use Rattle.std.specs.Prelude.{◌≡◌, ◌≢◌, ℕ, ◌<◌, ⊤, Some, Result, Err, IsOkAnd, List, length, slice_get, take}
use Rattle.rv_collide.specs.Forced.{Setting, forced}
use Rattle.rv_collide.specs.Legal.{IsLegal, call_of}
use Rattle.rv_collide.specs.declared.collider.Turned.{Turned}
use Rattle.rv_collide.specs.declared.collider.Turned.TheVariants as turned
use Rattle.rv_collide.specs.declared.entry.Entry.{Entry}
use Rattle.rv_collide.specs.declared.entry.Entry.TheVariants.{Stepped, Paused}
use Rattle.rv_collide.specs.declared.refused.Refused.{Refused}
use Rattle.rv_collide.specs.declared.replay.ReplayFault.{ReplayFault}
use Rattle.rv_collide.specs.declared.replay.ReplayFault.TheVariants as fault
use Rattle.rv_collide.specs.declared.replay.Why.{Why}
use Rattle.rv_collide.specs.declared.replay.Why.TheVariants as why

-- the entry that an accepted turn adds
abbrev pub turned_entry : ℕ → Turned → Entry
turned_entry hart (turned.Stepped event) = Stepped hart
turned_entry hart (turned.Paused slot) = Paused hart slot

-- why an entry is not what its call is forced to add: the call is refused, or adds another
abbrev pub IsWhy : Result Entry Refused → Entry → Why → Type 0
IsWhy answer entry (why.Refused refused) = answer ≡ Err refused
IsWhy answer entry why.Differs = IsOkAnd answer (λ other. other ≢ entry)

-- the first place of the list where it is not legal, and why
pub record IsFirstFault (setting : Setting) (entries : List Entry) (place : ℕ) (reason : Why) : Type 0 where
  pub before : place < length entries
  pub legal : IsLegal setting (take place entries)
  pub entry : Entry
  pub there : slice_get entries place ≡ Some entry
  pub told : IsWhy (forced setting (take place entries) (call_of entry)) entry reason

abbrev pub IsReplayFault : Setting → List Entry → ReplayFault → Type 0
IsReplayFault setting entries fault.NoMemory = ⊤
IsReplayFault setting entries (fault.Entry place reason) = IsFirstFault setting entries place reason
