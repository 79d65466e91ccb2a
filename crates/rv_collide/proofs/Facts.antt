-- What holds of each detector, from its invariant and the laws of schedules.
use Rattle.std.proofs.Common.{◌≡◌, ℕ, ◌+◌, ◌≤◌, List, length, Option, Some, None, refl, sym, subst, ◌∙◌, arith}
use Rattle.std.specs.Prelude.{IsSome, option_and_then, option_map}
use Rattle.rv_break.specs.declared.claim.Seen.{Seen}
use Rattle.rv_collide.specs.Answers.{pause_of}
use Rattle.rv_collide.specs.Detected.{AreFacts}
use Rattle.rv_collide.specs.Entries.{steps}
use Rattle.rv_collide.specs.First.{paused_access}
use Rattle.rv_collide.specs.Laws.{Reported, ReportsAreRaces}
use Rattle.rv_collide.specs.Legal.{IsLegal}
use Rattle.rv_collide.specs.Pause.{Pause, pause_ended}
use Rattle.rv_collide.specs.StateAt.{state_at}
use Rattle.rv_collide.specs.Begun.{Begun, setting_of}
use Rattle.rv_collide.specs.Verdict.{ending, ending_at}
use Rattle.rv_collide.specs.declared.ending.Ending.{Ending}
use Rattle.rv_collide.specs.declared.ending.Verdict.TheVariants.{Hit}
use Rattle.rv_collide.specs.declared.entry.Entry.{Entry}
use Rattle.rv_collide.specs.internal.Core.{HasRoom}
use Rattle.rv_hart.specs.State.{State}
use Rattle.rv_hart.specs.declared.access.Access.{Access}
use Rattle.rv_collide.proofs.LawLemmas.{some_same}

-- an ending is that of a pause whose hart would have made the access
record Told (start : State) (entries : List Entry) (told : Ending) : Type 0 where
  pub pause : Pause
  pub access : Access
  pub would : paused_access start entries pause ≡ Some access
  pub is : ending start entries pause access ≡ told

told_access : (start : State) (entries : List Entry) (pause : Pause) (o : Option Access) (told : Ending) → paused_access start entries pause ≡ o → option_map (ending start entries pause) o ≡ Some told → Told start entries told
told_access start entries pause None told would h = cc
told_access start entries pause (Some access) told would h =
    record { pause = pause; access = access; would = would; is = some_same (ending start entries pause access) told h }

told_pause : (start : State) (entries : List Entry) (o : Option Pause) (told : Ending) → option_and_then (λ pause. option_map (ending start entries pause) (paused_access start entries pause)) o ≡ Some told → Told start entries told
told_pause start entries None told h = cc
told_pause start entries (Some pause) told h = told_access start entries pause (paused_access start entries pause) told refl h

told_at : (start : State) (entries : List Entry) (place : ℕ) (told : Ending) → ending_at start entries place ≡ Some told → Told start entries told
unfolding ending_at
told_at start entries place told h = told_pause start entries (pause_ended entries place) told h

reported : ReportsAreRaces → (start : State) (entries : List Entry) (pause : Pause) (access : Access) (seen : Seen) → paused_access start entries pause ≡ Some access → (ending start entries pause access).verdict ≡ Hit seen → Reported start entries (pause_of (ending start entries pause access)) (ending start entries pause access).access seen
unfolding ending
reported races start entries pause access seen would hit = races start entries pause access seen would hit

pub facts_of : ReportsAreRaces → (c : Begun) (s : State) → IsLegal (setting_of c) c.entries → state_at c.start c.entries (length c.entries) ≡ Some s → length s.harts ≡ c.plan.harts → length s.output ≤ length c.start.output + length (steps c.entries) → (told : ℕ) → HasRoom (setting_of c) c.entries told → AreFacts c
facts_of races c s legal at harts few told room = record {
  legal = legal;
  few = let f = room.few in let a = room.arms_left in let n = room.steps_left in omega arith;
  state = subst IsSome (sym at) refl;
  harts = λ t is. subst (λ (u : State). length u.harts ≡ c.plan.harts) (some_same s t (sym at ∙ is)) harts;
  printed = λ t is. subst (λ (u : State). length u.output ≤ length c.start.output + length (steps c.entries)) (some_same s t (sym at ∙ is)) few;
  reports = λ place told seen is hit.
      let t = told_at c.start c.entries place told is in
      subst (λ (e : Ending). e.verdict ≡ Hit seen → Reported c.start c.entries (pause_of e) e.access seen) t.is (reported races c.start c.entries t.pause t.access seen t.would) hit;
}
