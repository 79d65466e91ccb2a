use Rattle.std.proofs.Common.{◌≡◌, ℕ, false, List, length, Option, Some, None, sym, ap, ◌∙◌}
use Rattle.std.specs.Prelude.{slice_get, IsSomeAnd}
use Rattle.std.specs.Option.{option_map_or}
use Rattle.rv_collide.specs.Next.{runs_at}
use Rattle.rv_collide.specs.StateAt.{state_at}
use Rattle.rv_collide.specs.Begun.{Begun, setting_of, begun}
use Rattle.rv_collide.specs.Numbers.{numbers}
use Rattle.rv_collide.specs.declared.entry.Entry.{Entry}
use Rattle.rv_hart.specs.Refusals.{is_running_hart}
use Rattle.rv_hart.specs.State.{State, is_running}
use Rattle.rv_hart.specs.declared.hart.Hart.{Hart}
use Rattle.rv_hart.specs.declared.hart.Status.{Status}
use Rattle.rv_collide.proofs.detector.Detector.runs.Goals as goal

status_of : (o : Option Hart) (status : Status) → IsSomeAnd o (λ hart. status ≡ hart.status) → is_running status ≡ is_running_hart o
status_of None status h = absurd h
status_of (Some hart) status h = ap is_running h

runs_by : (start s : State) (xs : List Entry) (h : ℕ) (status : Status) → state_at start xs (length xs) ≡ Some s → IsSomeAnd (slice_get s.harts h) (λ hart. status ≡ hart.status) → is_running status ≡ runs_at start xs (length xs) h
unfolding runs_at
runs_by start s xs h status at is =
    status_of (slice_get s.harts h) status is ∙ sym (ap (λ (o : Option State). option_map_or (λ (s : State). is_running_hart (slice_get s.harts h)) o false) at)

pub returns : goal.returns
returns g c =
    let v = begun c.self.inside.begin.value.state (numbers c.self.inside.plan) c.self.inside.entries.items in
    c.is_running.ensures
    ∙ runs_by (setting_of v).start c.self.inside.machine.state c.self.inside.entries.items c.args.h c.status.result c.self.invariant.0.now c.status.ensures
    ∙ ap (λ (u : Begun). runs_at (setting_of u).start u.entries (length u.entries) c.args.h) c.self.view_is
