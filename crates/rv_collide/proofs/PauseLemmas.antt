-- What a legal list says of a pause that has ended.
use Rattle.std.proofs.Common.{◌≡◌, ◌≢◌, ℕ, ◌≤◌, ◌<◌, inl, inr, true, List, length, take, Option, Some, None, Result, Ok, refl, sym, ap, ◌∙◌, arith}
use Rattle.std.specs.Prelude.{not, nat_lt, is_some, option_and_then}
use Rattle.std.proofs.lemmas.Bool.{cases_eq}
use Rattle.rv_collide.specs.Entries.{steps, stepped_at}
use Rattle.rv_collide.specs.First.{paused_access}
use Rattle.rv_collide.specs.Forced.{Setting, Turn, forced, turn_entry}
use Rattle.rv_collide.specs.Legal.{IsLegal}
use Rattle.rv_collide.specs.Next.{next, plain, runs_at}
use Rattle.rv_collide.specs.Pause.{Pause, opening_of}
use Rattle.rv_collide.specs.PauseLaws.{PausesLast}
use Rattle.rv_collide.specs.StateAt.{state_at}
use Rattle.rv_collide.specs.declared.entry.Entry.{Entry}
use Rattle.rv_collide.specs.declared.entry.Entry.TheVariants.{Paused}
use Rattle.rv_collide.specs.declared.refused.Refused.{Refused}
use Rattle.rv_hart.specs.NextAccess.{next_access, next_plain}
use Rattle.rv_hart.specs.State.{State}
use Rattle.rv_hart.specs.declared.access.Access.{Access}
use Rattle.rv_collide.proofs.ArmedAccesses.{plain_next}
use Rattle.rv_collide.proofs.LawLemmas.{wanted}
use Rattle.rv_collide.proofs.OpenAt.{HasEnded, has_ended, no_step_at, step_not_paused}
use Rattle.rv_collide.proofs.ToldLemmas.{state_here}

-- ---- a turn that pauses stands at a plain load or store

same_ok : (x : Result Entry Refused) (a b : Entry) → x ≡ Ok a → x ≡ Ok b → a ≡ b
same_ok x a b one other = cc

pausing_turn : (setting : Setting) (entries : List Entry) (hart other : ℕ) (slot : Option ℕ) → forced setting entries (Turn hart) ≡ Ok (Paused other slot) → turn_entry setting entries hart (plain setting.start entries (length entries) hart) ≡ Paused other slot
unfolding forced
pausing_turn setting entries hart other slot h =
    same_ok _ _ _ refl (wanted (nat_lt (length (steps entries)) setting.plan.steps) _ _ _ (wanted (not (is_some (opening_of entries hart))) _ _ _ (wanted (runs_at setting.start entries (length entries) hart) _ _ _ (wanted (nat_lt hart setting.plan.harts) _ _ _ h).1).1).1).1

stands_at : (setting : Setting) (entries : List Entry) (hart other : ℕ) (slot : Option ℕ) (o : Option Access) → turn_entry setting entries hart o ≡ Paused other slot → is_some o ≡ true
stands_at setting entries hart other slot None h = cc
stands_at setting entries hart other slot (Some access) h = refl

plain_is_next : (o : Option State) (hart : ℕ) (access : Access) → is_some (option_and_then (λ s. next_plain s hart) o) ≡ true → option_and_then (λ s. next_access s hart) o ≡ Some access → option_and_then (λ s. next_plain s hart) o ≡ Some access
plain_is_next None hart access some would = cc
plain_is_next (Some s) hart access some would =
    elim (next_plain s hart) as (λ (o : Option Access). next_plain s hart ≡ o → is_some o ≡ true → o ≡ Some access) [
      | None ↦ λ is h. cc
      | Some plain_access ↦ λ is h. sym (plain_next s hart plain_access is) ∙ would
    ] refl some

plain_here : (start : State) (entries : List Entry) (place hart : ℕ) → plain start (take place entries) (length (take place entries)) hart ≡ plain start entries place hart
unfolding plain
plain_here start entries place hart = ap (option_and_then (λ (s : State). next_plain s hart)) (state_here start entries place)

stood_at : (setting : Setting) (entries : List Entry) (place : ℕ) (pause : Pause) → IsLegal setting entries → HasEnded entries place pause → (access : Access) → paused_access setting.start entries pause ≡ Some access → plain setting.start entries pause.paused_at pause.hart ≡ Some access
unfolding paused_access next plain
stood_at setting entries place pause legal p access would =
    let before = take pause.paused_at entries in
    let turned = pausing_turn setting before pause.hart pause.hart pause.slot (legal pause.paused_at (Paused pause.hart pause.slot) p.pauses) in
    let there = ap is_some (sym (plain_here setting.start entries pause.paused_at pause.hart)) ∙ stands_at setting before pause.hart pause.hart pause.slot (plain setting.start before (length before) pause.hart) turned in
    plain_is_next (state_at setting.start entries pause.paused_at) pause.hart access there would

-- ---- the whole

no_own_place : (o : Option ℕ) (hart : ℕ) → o ≡ None → o ≡ Some hart → ⊥
no_own_place o hart none some = cc

later : (a b : ℕ) → a ≤ b → a ≢ b → a < b
later a b le ne = omega arith

pub last : PausesLast
last setting entries place pause legal ended =
    let p = has_ended entries place pause ended in
    record {
      ends = p.ends;
      starts = p.starts;
      inside = p.inside;
      is_plain = stood_at setting entries place pause legal p;
      still = λ at from until steps. elim (cases_eq pause.paused_at at) [
        | inl same ↦ no_own_place (stepped_at entries at) pause.hart (ap (stepped_at entries) (sym same) ∙ no_step_at entries place pause p) steps
        | inr other ↦ step_not_paused setting entries place pause legal p at (later pause.paused_at at from other) until steps
      ];
    }
