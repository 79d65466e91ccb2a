-- Which threads a user has chosen.
use Rattle.std.specs.Prelude.{ℕ, ◌-◌, ◌<◌, ◌==◌, Bool, true, false, nat_le, if◌then◌else◌, Option, Some, None, IfSome, option_and_then, option_map, unwrap_or}
use Rattle.rv_gdb.specs.declared.chosen.Chosen.{Chosen}
use Rattle.rv_gdb.specs.declared.fields.Id.{Id}
use Rattle.rv_gdb.specs.declared.fields.Id.TheVariants.{Any, Thread}
use Rattle.rv_gdb.specs.declared.packet.Request.{Request}
use Rattle.rv_gdb.specs.declared.packet.Request.TheVariants as asks

-- thread 1 is the focus, and no other is chosen
abbrev pub at_first : Chosen
at_first = record { focus = 0; shown = None; going = None }

-- the hart whose state is shown
abbrev pub standing : Chosen → ℕ
standing chosen = unwrap_or chosen.shown chosen.focus

-- a stop of a hart chooses it: GDB takes it as chosen, and does not say so
abbrev pub stopped : Chosen → ℕ → Chosen
stopped chosen hart = record chosen { focus = hart; shown = Some hart }

-- each hart that is chosen is there
pub record IsAmong (harts : ℕ) (chosen : Chosen) : Type 0 where
  pub focus : chosen.focus < harts
  pub shown : IfSome chosen.shown (λ hart. hart < harts)
  pub going : IfSome chosen.going (λ hart. hart < harts)

-- thread t is hart t - 1, of so many
abbrev pub hart_of : ℕ → ℕ → Option ℕ
hart_of harts thread = if thread == 0 then None else if nat_le thread harts then Some (thread - 1) else None

-- the hart that a packet names, or any; none where there is no such thread
abbrev pub aim_of : ℕ → Id → Option (Option ℕ)
aim_of harts Any = Some None
aim_of harts (Thread thread) = option_map Some (hart_of harts thread)

abbrev pub focused : Chosen → ℕ → Chosen
focused chosen hart = record chosen { focus = hart }

abbrev pub shows : Chosen → Option ℕ → Chosen
shows chosen hart = record chosen { shown = hart }

abbrev pub goes : Chosen → Option ℕ → Chosen
goes chosen hart = record chosen { going = hart }

-- whether a request chooses a thread
abbrev pub chooses : Request → Bool
chooses (asks.IsAlive id) = true
chooses (asks.Show id) = true
chooses (asks.Choose id) = true
chooses _ = false

-- What is chosen after it; none where there is no such thread. `T` asks for one thread.
abbrev pub choice : ℕ → Chosen → Request → Option Chosen
choice harts chosen (asks.IsAlive id) = option_map (focused chosen) (option_and_then (λ hart. hart) (aim_of harts id))
choice harts chosen (asks.Show id) = option_map (shows chosen) (aim_of harts id)
choice harts chosen (asks.Choose id) = option_map (goes chosen) (aim_of harts id)
choice harts chosen _ = None
