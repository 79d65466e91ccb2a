-- From an ending to its pause, to the other hart's access, and to the two accesses side by side.
use Rattle.std.proofs.Common.{◌≡◌, ◌≢◌, ℕ, ◌+◌, ◌≤◌, ◌<◌, zero, suc, Bool, true, false, cond, List, [], ◌∷◌, ◌++◌, length, take, Option, Some, None, IsTrue, refl, sym, ap, subst, ◌∙◌, arith, add-one, append_assoc}
use Rattle.std.specs.Prelude.{◌==◌, ◌&&◌, ◌||◌, nat_lt, min, max, is_some, IsSome, slice_get, option_map, option_and_then, filter_map}
use Rattle.std.specs.Option.{option_map_or}
use Rattle.std.proofs.Math.Seq.{take-length}
use Rattle.std.proofs.lemmas.Bool.Decides.{nat_tests}
use Rattle.rv_break.specs.declared.claim.Seen.{Seen}
use Rattle.rv_collide.specs.Answers.{pause_of}
use Rattle.rv_collide.specs.ChangedLaws.{ChangedIsWritten}
use Rattle.rv_collide.specs.Entries.{places, stepped_at, stepped_hart, steps}
use Rattle.rv_collide.specs.First.{first, paused_access, seen_at}
use Rattle.rv_collide.specs.Forced.{Setting}
use Rattle.rv_collide.specs.Laws.{LegalHasStates, ReportsAreRaces}
use Rattle.rv_collide.specs.Legal.{IsLegal}
use Rattle.rv_collide.specs.Made.{made}
use Rattle.rv_collide.specs.Next.{next, plain}
use Rattle.rv_collide.specs.Pause.{Pause, pause_ended}
use Rattle.rv_collide.specs.PauseLaws.{Lasts, PausesLast}
use Rattle.rv_collide.specs.Plan.{Numbers}
use Rattle.rv_collide.specs.StateAt.{state_at}
use Rattle.rv_collide.specs.Stored.{Stored, setting_of, stored as stored_as}
use Rattle.rv_collide.specs.Verdict.{bytes_at, ending, ending_at, endings, verdict, verdict_of, watched}
use Rattle.rv_collide.specs.declared.ending.Ending.{Ending}
use Rattle.rv_collide.specs.declared.ending.Verdict.{Verdict}
use Rattle.rv_collide.specs.declared.ending.Verdict.TheVariants.{Hit, Changed, Quiet}
use Rattle.rv_collide.specs.declared.entry.Entry.{Entry}
use Rattle.rv_elf.specs.Contents.{Contents}
use Rattle.rv_hart.specs.Conflict.{Conflict, Shared, end_of, meets}
use Rattle.rv_hart.specs.NextAccess.{next_access, next_plain}
use Rattle.rv_hart.specs.ReservationLaws.{NextIsMade}
use Rattle.rv_hart.specs.Run.{run}
use Rattle.rv_hart.specs.State.{State}
use Rattle.rv_hart.specs.Step.{step_of}
use Rattle.rv_hart.specs.StepLaws.{OtherHartsStay}
use Rattle.rv_hart.specs.declared.access.Access.{Access}
use Rattle.rv_hart.specs.declared.access.Event.{Event}
use Rattle.rv_hart.specs.declared.access.Event.TheVariants.{Moved}
use Rattle.rv_memory.specs.Memory.{load}
use Rattle.rv_memory.specs.MemoryLaws.{StoreKeepsPermissions}
use Rattle.rv_report.specs.declared.exhibit.Exhibit.{Exhibit}
use Rattle.rv_report.specs.Exhibit.{IsExhibit, IsLastStore, IsOther, IsTextChanged, harts_to, paused_word, stores_at, word_at, writes_over}
use Rattle.rv_report.specs.SideBySide.{StandSideBySide}
use Rattle.rv_report.specs.declared.exhibiting.Other.{Other}
use Rattle.rv_report.specs.OfPause.{EndingsAreOfPauses, IsOfPause}
use Rattle.rv_report.specs.internal.Paused.{ExhibitsStandSideBySide, IsOtherAccess, LastBefore, last_after}
use Rattle.rv_report.proofs.SameStep.{moved_by, plain_hart, plain_pc, same_step}
use Rattle.rv_report.proofs.StillPaused.{last_step, run_on, run_permits, steps_with, still_from}

some_same : {A : Type 0} → (x y : A) → Some x ≡ Some y → x ≡ y
some_same x y h = cc

-- ---- an ending is of a pause

abbrev with_head : Option Ending → List Ending → List Ending
with_head None xs = xs
with_head (Some x) xs = x ∷ xs

filter_head : (f : ℕ → Option Ending) (p : ℕ) (ps : List ℕ) (o : Option Ending) → f p ≡ o → filter_map f (p ∷ ps) ≡ with_head o (filter_map f ps)
filter_head f p ps None is = rw is refl
filter_head f p ps (Some x) is = rw is refl

by_head : (f : ℕ → Option Ending) (p : ℕ) (ps : List ℕ) (x : Ending) (o : Option Ending) (n : ℕ) → f p ≡ o → slice_get (with_head o (filter_map f ps)) n ≡ Some x → ((m : ℕ) → slice_get (filter_map f ps) m ≡ Some x → (q : ℕ) × (f q ≡ Some x)) → (q : ℕ) × (f q ≡ Some x)
by_head f p ps x None n is got rest = rest n got
by_head f p ps x (Some y) zero is got rest = (p, is ∙ got)
by_head f p ps x (Some y) (suc n) is got rest = rest n got

from_filter : (f : ℕ → Option Ending) (ps : List ℕ) (n : ℕ) (x : Ending) → slice_get (filter_map f ps) n ≡ Some x → (q : ℕ) × (f q ≡ Some x)
from_filter f [] n x there = cc
from_filter f (p ∷ ps) n x there =
    by_head f p ps x (f p) n refl (subst (λ (ys : List Ending). slice_get ys n ≡ Some x) (filter_head f p ps (f p) refl) there) (λ m got. from_filter f ps m x got)

record EndsAt (start : State) (entries : List Entry) (place : ℕ) (told : Ending) : Type 0 where
  pub pause : Pause
  pub access : Access
  pub ended : pause_ended entries place ≡ Some pause
  pub would : paused_access start entries pause ≡ Some access
  pub is : ending start entries pause access ≡ told

ends_at : (start : State) (entries : List Entry) (place : ℕ) (told : Ending) → ending_at start entries place ≡ Some told → EndsAt start entries place told
unfolding ending_at
ends_at start entries place told h =
    elim (pause_ended entries place) as (λ (o : Option Pause). pause_ended entries place ≡ o → option_and_then (λ pause. option_map (ending start entries pause) (paused_access start entries pause)) o ≡ Some told → EndsAt start entries place told) [
      | None ↦ λ is none. cc
      | Some pause ↦ λ is some.
          elim (paused_access start entries pause) as (λ (o : Option Access). paused_access start entries pause ≡ o → option_map (ending start entries pause) o ≡ Some told → EndsAt start entries place told) [
            | None ↦ λ would none. cc
            | Some access ↦ λ would some. record { pause = pause; access = access; ended = is; would = would; is = some_same (ending start entries pause access) told some }
          ] refl some
    ] refl h

hit_of : (o : Option Seen) (same : Bool) (seen : Seen) → verdict_of o same ≡ Hit seen → o ≡ Some seen
hit_of (Some s) same seen h = cc
hit_of None true seen h = cc
hit_of None false seen h = cc

seen_parts : (place : ℕ) (hart : Option ℕ) (access : Option Access) (seen : Seen) → option_and_then (λ h. option_map (λ a. record { place = place; hart = h; access = a }) access) hart ≡ Some seen → (place ≡ seen.place) × (hart ≡ Some seen.hart) × (access ≡ Some seen.access)
seen_parts place None access seen h = cc
seen_parts place (Some hart) None seen h = cc
seen_parts place (Some hart) (Some access) seen h =
    let same = some_same (record { place = place; hart = hart; access = access }) seen h in
    (ap (λ (s : Seen). s.place) same, ap (λ (s : Seen). Some s.hart) same, ap (λ (s : Seen). Some s.access) same)

seen_is : (start : State) (entries : List Entry) (place : ℕ) (seen : Seen) → seen_at start entries place ≡ Some seen → (place ≡ seen.place) × (stepped_at entries place ≡ Some seen.hart) × (made start entries place ≡ Some seen.access)
unfolding seen_at
seen_is start entries place seen h = seen_parts place (stepped_at entries place) (made start entries place) seen h

first_seen : (start : State) (entries : List Entry) (b : Bool) (found : Option ℕ) (seen : Seen) → cond b (option_and_then (seen_at start entries) found) None ≡ Some seen → found ≡ Some seen.place
first_seen start entries false found seen h = cc
first_seen start entries true None seen h = cc
first_seen start entries true (Some place) seen h = ap Some (seen_is start entries place seen h).0

first_of_hit : (start : State) (entries : List Entry) (pause : Pause) (access : Access) (seen : Seen) → verdict start entries pause access ≡ Hit seen → first start entries pause ≡ Some seen.place
unfolding verdict watched
first_of_hit start entries pause access seen hit =
    first_seen start entries (is_some pause.slot) (first start entries pause) seen (hit_of (watched start entries pause) (bytes_at start entries pause.paused_at access == bytes_at start entries pause.resumed_at access) seen hit)

of_ending : ReportsAreRaces → ChangedIsWritten → (setting : Setting) (entries : List Entry) (place : ℕ) (pause : Pause) (access : Access) → IsLegal setting entries → pause_ended entries place ≡ Some pause → paused_access setting.start entries pause ≡ Some access → Lasts setting entries place pause → IsOfPause setting.start entries (ending setting.start entries pause access)
unfolding ending
of_ending races written setting entries place pause access legal ended would lasts =
    let ends = lasts.ends in
    record {
      starts = subst (λ (n : ℕ). pause.paused_at < n) (sym ends) lasts.starts;
      inside = subst (λ (n : ℕ). n < length entries) (sym ends) lasts.inside;
      is_plain = lasts.is_plain access would;
      still = λ at from until. lasts.still at from (subst (λ (n : ℕ). at ≤ n) ends until);
      hit = λ seen is. races setting.start entries pause access seen would is;
      is_first = λ seen is. first_of_hit setting.start entries pause access seen is;
      changed = λ is. written setting entries place pause access legal ended would is;
    }

pub of_pauses : ReportsAreRaces → ChangedIsWritten → PausesLast → EndingsAreOfPauses
unfolding endings
of_pauses races written last setting entries n told legal there =
    let p = from_filter (ending_at setting.start entries) (places entries) n told there in
    let e = ends_at setting.start entries p.0 told p.1 in
    subst (λ (x : Ending). IsOfPause setting.start entries x) e.is
    (of_ending races written setting entries p.0 e.pause e.access legal e.ended e.would (last setting entries p.0 e.pause legal e.ended))

-- ---- the other hart's access

pub hit_access : (start : State) (entries : List Entry) (told : Ending) (seen : Seen) → IsOfPause start entries told → told.verdict ≡ Hit seen → IsOtherAccess start entries told (record { place = seen.place; access = seen.access })
hit_access start entries told seen p hit = record {
  at = subst (λ (v : Verdict). IsOther start entries told v seen.place) (sym hit) (p.is_first seen hit);
  did = (seen_is start entries seen.place seen (p.hit seen hit).did).2;
  before = (p.hit seen hit).before;
}

pub last_access : (start : State) (entries : List Entry) (told : Ending) (other : Other) → told.verdict ≡ Changed → LastBefore start entries told told.resumed_at (Some other) → IsOtherAccess start entries told other
last_access start entries told other changed l = record {
  at = subst (λ (v : Verdict). IsOther start entries told v other.place) (sym changed) (record { after = l.after; before = l.before; stores = l.stores; last = l.last });
  did = l.did;
  before = l.before;
}

is_less : (a b : ℕ) → a < b → nat_lt a b ≡ true
is_less a b lt = grind (arith, nat_tests)

met : (a b at : ℕ) (c d : ℕ) → a ≤ at → b ≤ at → at < c → at < d → max a b < min c d
met a b at c d h k l m = omega arith

both : (b c : Bool) → b ≡ true → c ≡ true → IsTrue (b && c)
both true true h k = refl
both true false h k = cc
both false c h k = cc

stores_there : (start : State) (entries : List Entry) (paused access : Access) (place : ℕ) → made start entries place ≡ Some access → IsTrue (writes_over paused access) → IsTrue (stores_at start entries paused place)
unfolding stores_at
stores_there start entries paused access place did writes =
    subst (λ (o : Option Access). IsTrue (option_map_or (writes_over paused) o false)) (sym did) writes

shared_meets : (a b : Access) → Shared a b → meets a b ≡ true
shared_meets a b s =
    is_less (max a.first b.first) (min (end_of a) (end_of b)) (met a.first b.first s.address (end_of a) (end_of b) s.of_one.from s.of_other.from s.of_one.before s.of_other.before)

-- of a Changed ending there is a last store
pub some_store : (start : State) (entries : List Entry) (told : Ending) → IsOfPause start entries told → told.verdict ≡ Changed → LastBefore start entries told told.resumed_at None → ⊥
some_store start entries told p changed none =
    let w = p.changed changed in
    none w.seen.place w.after w.before
    (stores_there start entries told.access w.seen.access w.seen.place (seen_is start entries w.seen.place w.seen w.did).2
    (both w.seen.access.write (meets told.access w.seen.access) w.writes (shared_meets told.access w.seen.access w.shared)))

-- ---- it conflicts, within the pause

pub record Beside (start : State) (entries : List Entry) (told : Ending) (other : Other) : Type 0 where
  pub after : told.paused_at < other.place
  pub before : other.place < told.resumed_at
  pub hart : ℕ
  pub steps_there : stepped_at entries other.place ≡ Some hart
  pub conflict : Conflict other.access told.access

or_swap : (b c : Bool) → IsTrue (b || c) → IsTrue (c || b)
or_swap true true h = h
or_swap true false h = h
or_swap false true h = h
or_swap false false h = h

swapped : (a b : Access) → Conflict a b → Conflict b a
swapped a b c = record {
  shared = record { address = c.shared.address; of_one = c.shared.of_other; of_other = c.shared.of_one };
  writes = or_swap a.write b.write c.writes;
}

beside_hit : (start : State) (entries : List Entry) (told : Ending) (seen : Seen) (other : Other) → IsOfPause start entries told → told.verdict ≡ Hit seen → first start entries (pause_of told) ≡ Some other.place → made start entries other.place ≡ Some other.access → Beside start entries told other
beside_hit start entries told seen other p hit at did =
    let r = p.hit seen hit in
    let s = seen_is start entries seen.place seen r.did in
    let same : seen.place ≡ other.place = some_same seen.place other.place (sym (p.is_first seen hit) ∙ at) in
    let same_access : seen.access ≡ other.access = some_same seen.access other.access (sym s.2 ∙ ap (made start entries) same ∙ did) in
    record {
      after = subst (λ (n : ℕ). told.paused_at < n) same r.after;
      before = subst (λ (n : ℕ). n < told.resumed_at) same r.before;
      hart = seen.hart;
      steps_there = ap (stepped_at entries) (sym same) ∙ s.1;
      conflict = subst (λ (a : Access). Conflict a told.access) same_access (swapped told.access seen.access r.conflict);
    }

stepped : (start : State) (entries : List Entry) (place : ℕ) (access : Access) → made start entries place ≡ Some access → (k : ℕ) × (stepped_at entries place ≡ Some k) × (next start entries place k ≡ Some access)
unfolding made
stepped start entries place access did =
    elim (stepped_at entries place) as (λ (o : Option ℕ). option_and_then (λ hart. next start entries place hart) o ≡ Some access → (k : ℕ) × (o ≡ Some k) × (next start entries place k ≡ Some access)) [
      | None ↦ λ is. cc
      | Some k ↦ λ is. (k, refl, is)
    ] did

and_first : (b c : Bool) → IsTrue (b && c) → IsTrue b
and_first true c h = refl
and_first false c h = cc

and_second : (b c : Bool) → IsTrue (b && c) → c ≡ true
and_second true c h = h
and_second false c h = cc

below_of : (a b : ℕ) → nat_lt a b ≡ true → a < b
below_of a b h = grind (arith, nat_tests)

or_true : (b c : Bool) → IsTrue b → IsTrue (b || c)
or_true true c h = refl
or_true false c h = cc

conflict_of : (a b : Access) → IsTrue b.write → meets a b ≡ true → Conflict b a
conflict_of a b writes h =
    let met : max a.first b.first < min (end_of a) (end_of b) = below_of (max a.first b.first) (min (end_of a) (end_of b)) h in
    record {
      shared = record {
        address = max a.first b.first;
        of_one = record { from = omega arith; before = omega arith };
        of_other = record { from = omega arith; before = omega arith };
      };
      writes = or_true b.write a.write writes;
    }

stored : (start : State) (entries : List Entry) (paused access : Access) (place : ℕ) → made start entries place ≡ Some access → IsTrue (stores_at start entries paused place) → IsTrue (writes_over paused access)
unfolding stores_at
stored start entries paused access place did stores = subst (λ (o : Option Access). IsTrue (option_map_or (writes_over paused) o false)) did stores

beside_changed : (start : State) (entries : List Entry) (told : Ending) (other : Other) → IsLastStore start entries told other.place → made start entries other.place ≡ Some other.access → Beside start entries told other
beside_changed start entries told other l did =
    let k = stepped start entries other.place other.access did in
    let writes = stored start entries told.access other.access other.place did l.stores in
    record {
      after = l.after;
      before = l.before;
      hart = k.0;
      steps_there = k.1;
      conflict = conflict_of told.access other.access (and_first other.access.write (meets told.access other.access) writes) (and_second other.access.write (meets told.access other.access) writes);
    }

beside : (start : State) (entries : List Entry) (told : Ending) (other : Other) (v : Verdict) → told.verdict ≡ v → IsOfPause start entries told → IsOther start entries told v other.place → made start entries other.place ≡ Some other.access → Beside start entries told other
beside start entries told other (Hit seen) is p at did = beside_hit start entries told seen other p is at did
beside start entries told other Changed is p at did = beside_changed start entries told other at did
beside start entries told other Quiet is p at did = absurd at

-- ---- side by side

has : {A : Type 0} → (o : Option A) → IsSome o → (x : A) × (o ≡ Some x)
has None h = cc
has (Some x) h = (x, refl)

next_there : (start s : State) (entries : List Entry) (place k : ℕ) (access : Access) → state_at start entries place ≡ Some s → next start entries place k ≡ Some access → next_access s k ≡ Some access
unfolding next
next_there start s entries place k access at would = sym (ap (option_and_then (λ (u : State). next_access u k)) at) ∙ would

plain_there : (start s : State) (entries : List Entry) (place k : ℕ) (access : Access) → state_at start entries place ≡ Some s → plain start entries place k ≡ Some access → next_plain s k ≡ Some access
unfolding plain
plain_there start s entries place k access at would = sym (ap (option_and_then (λ (u : State). next_plain u k)) at) ∙ would

word_there : (start s : State) (entries : List Entry) (place address : ℕ) → state_at start entries place ≡ Some s → word_at start entries place address ≡ load s.memory address 4
unfolding word_at
word_there start s entries place address at = ap (λ (o : Option State). option_map_or (λ (s : State). load s.memory address 4) o 0) at

-- the steps up to a place, with the one there
with_step : (entries : List Entry) (place k : ℕ) → stepped_at entries place ≡ Some k → steps (take (place + 1) entries) ≡ steps (take place entries) ++ k ∷ []
unfolding stepped_at
with_step entries place k there = ap (λ (n : ℕ). steps (take n entries)) (add-one place) ∙ steps_with entries place k there

still_there : (start : State) (entries : List Entry) (told : Ending) (place : ℕ) → IsOfPause start entries told → place < told.resumed_at → (at : ℕ) → told.paused_at ≤ at → at < place + 1 → option_and_then stepped_hart (slice_get entries at) ≢ Some told.hart
unfolding stepped_at
still_there start entries told place p before at from below = p.still at from (omega arith)

module _ (states : LegalHasStates) (others : OtherHartsStay) (next_is : NextIsMade) (permissions : StoreKeepsPermissions) (setting : Setting) (entries : List Entry) (told : Ending) (other : Other) (legal : IsLegal setting entries) (p : IsOfPause setting.start entries told) (b : Beside setting.start entries told other) (did : made setting.start entries other.place ≡ Some other.access) (same_word : paused_word setting.start entries told told.paused_at ≡ paused_word setting.start entries told (other.place + 1)) where
  state_of : (place : ℕ) → place ≤ told.resumed_at → (s : State) × (state_at setting.start entries place ≡ Some s)
  state_of place le =
      let inside = p.inside in
      has (state_at setting.start entries place) (states setting entries legal place (omega arith))

  reached_by : (place : ℕ) (s : State) → state_at setting.start entries place ≡ Some s → run setting.start (steps (take place entries)) ≡ Some s
  unfolding state_at
  reached_by place s at = at

  first_step : (s t : State) → state_at setting.start entries other.place ≡ Some s → state_at setting.start entries (other.place + 1) ≡ Some t → step_of s b.hart ≡ Some (Moved (Some other.access), t)
  first_step s t at after =
      let run_before = reached_by other.place s at in
      let run_after = ap (run setting.start) (sym (with_step entries other.place b.hart b.steps_there)) ∙ reached_by (other.place + 1) t after in
      let last = last_step (steps (take other.place entries)) setting.start s t b.hart run_before run_after in
      let k = stepped setting.start entries other.place other.access did in
      let same : k.0 ≡ b.hart = some_same k.0 b.hart (sym k.1 ∙ b.steps_there) in
      let would = next_there setting.start s entries other.place b.hart other.access at (subst (λ (n : ℕ). next setting.start entries other.place n ≡ Some other.access) same k.2) in
      last.1 ∙ ap (λ (e : Event). Some (e, t)) (moved_by last.0 other.access (sym (next_is s t b.hart last.0 last.1) ∙ would))

  pub stand : StandSideBySide setting.start (harts_to entries other.place told.hart) other.access told.access
  unfolding harts_to
  stand =
      let after_is = b.after in
      let before_is = b.before in
      let s = state_of told.paused_at (omega arith) in
      let u = state_of other.place (omega arith) in
      let t = state_of (other.place + 1) (omega arith) in
      let would = plain_there setting.start s.0 entries told.paused_at told.hart told.access s.1 p.is_plain in
      let a = plain_hart s.0 told.hart told.access would in
      let stays = still_from others entries told.paused_at (other.place + 1) setting.start s.0 t.0 told.hart a.0 (omega arith) (reached_by told.paused_at s.0 s.1) (reached_by (other.place + 1) t.0 t.1) a.1 (still_there setting.start entries told other.place p before_is) in
      let permits_s = run_permits permissions (steps (take told.paused_at entries)) setting.start s.0 (reached_by told.paused_at s.0 s.1) in
      let permits_t = run_permits permissions (steps (take (other.place + 1) entries)) setting.start t.0 (reached_by (other.place + 1) t.0 t.1) in
      let pc = plain_pc s.0 told.hart a.0 told.access a.1 would in
      let word : load t.0.memory told.access.pc 4 ≡ load s.0.memory told.access.pc 4 =
      sym (word_there setting.start t.0 entries (other.place + 1) told.access.pc t.1) ∙ sym same_word ∙ word_there setting.start s.0 entries told.paused_at told.access.pc s.1 in
      let second = same_step s.0 t.0 told.hart a.0 stays.reservation told.access (λ address size wanted. permits_t address size wanted ∙ sym (permits_s address size wanted)) a.1 stays.still
      (subst (λ (n : ℕ). load t.0.memory n 4 ≡ load s.0.memory n 4) pc word) would in
      record {
        earlier = steps (take other.place entries);
        one = b.hart;
        other = told.hart;
        list = ap (λ (hs : List ℕ). hs ++ told.hart ∷ []) (with_step entries other.place b.hart b.steps_there) ∙ append_assoc (steps (take other.place entries)) (b.hart ∷ []) (told.hart ∷ []);
        before = u.0;
        between = t.0;
        after = _;
        reached = reached_by other.place u.0 u.1;
        first_step = first_step u.0 t.0 u.1 t.1;
        second_step = second;
        whole = run_on (steps (take (other.place + 1) entries)) setting.start t.0 _ told.hart _ (reached_by (other.place + 1) t.0 t.1) second;
        apart = λ same. p.still other.place (omega arith) (omega arith) (b.steps_there ∙ ap Some same);
        conflict = b.conflict;
      }

pub side_by_side : LegalHasStates → OtherHartsStay → NextIsMade → StoreKeepsPermissions → ExhibitsStandSideBySide
side_by_side states others next_is permissions setting entries told other legal p o same_word =
    stand states others next_is permissions setting entries told other legal p (beside setting.start entries told other told.verdict refl p o.at o.did) o.did same_word

-- ---- what the code finds

told_of_them : (start : State) (entries : List Entry) (place : ℕ) → state_at start (take place entries) (length (take place entries)) ≡ state_at start entries place
unfolding state_at
told_of_them start entries place = ap (λ (ys : List Entry). run start (steps ys)) (take-length (take place entries))

-- the word that the core shows at a place
pub word_of_core : (c : Stored) (image : Contents) (plan : Numbers) (entries : List Entry) (place address word : ℕ) (s : State) → c ≡ stored_as image plan (take place entries) → state_at (setting_of c).start c.entries (length c.entries) ≡ Some s → word ≡ load s.memory address 4 → word ≡ word_at (setting_of (stored_as image plan [])).start entries place address
word_of_core c image plan entries place address word s told at is =
    let start = (setting_of (stored_as image plan [])).start in
    let here : state_at start entries place ≡ Some s =
    sym (told_of_them start entries place) ∙ subst (λ (v : Stored). state_at (setting_of v).start v.entries (length v.entries) ≡ Some s) told at in
    is ∙ sym (word_there start s entries place address here)

-- the last store when one more place is passed
none_stores : (start : State) (entries : List Entry) (paused : Access) (place : ℕ) → made start entries place ≡ None → IsTrue (stores_at start entries paused place) → ⊥
unfolding stores_at
none_stores start entries paused place none stores =
    never (subst (λ (o : Option Access). IsTrue (option_map_or (writes_over paused) o false)) none stores)
  where
    never : false ≡ true → ⊥
    never h = cc

fails : (b : Bool) → b ≡ false → b ≡ true → ⊥
fails b h k = cc

passed : (a n : ℕ) → a < n + 1 → a ≢ n → a < n
passed a n lt ne = omega arith

not_there : (start : State) (entries : List Entry) (told : Ending) (place at : ℕ) → (IsTrue (stores_at start entries told.access place) → ⊥) → IsTrue (stores_at start entries told.access at) → at ≢ place
not_there start entries told place at never_here stores same = never_here (subst (λ (n : ℕ). IsTrue (stores_at start entries told.access n)) same stores)

pub no_store : (start : State) (entries : List Entry) (told : Ending) (place : ℕ) (last : Option Other) → (IsTrue (stores_at start entries told.access place) → ⊥) → LastBefore start entries told place last → LastBefore start entries told (place + 1) last
no_store start entries told place None never_here none = λ at after below stores. none at after (passed at place below (not_there start entries told place at never_here stores)) stores
no_store start entries told place (Some other) never_here l =
    let before = l.before in
    record {
      after = l.after;
      before = omega arith;
      stores = l.stores;
      last = λ later after below stores. l.last later after (passed later place below (not_there start entries told place later never_here stores)) stores;
      did = l.did;
    }

no_later : (n later : ℕ) → n < later → later < n + 1 → ⊥
no_later n later lo hi = omega arith

-- the place of a store itself
by_access : (start : State) (entries : List Entry) (told : Ending) (place : ℕ) (last : Option Other) (access : Access) (b : Bool) → writes_over told.access access ≡ b → told.paused_at < place → made start entries place ≡ Some access → LastBefore start entries told place last → LastBefore start entries told (place + 1) (cond b (Some (record { place = place; access = access })) last)
by_access start entries told place last access true is after did l = record {
  after = after;
  before = omega arith;
  stores = stores_there start entries told.access access place did is;
  last = λ later lo hi stores. no_later place later lo hi;
  did = did;
}
by_access start entries told place last access false is after did l =
    no_store start entries told place last (λ stores. fails (writes_over told.access access) is (stored start entries told.access access place did stores)) l

pub one_place : (start : State) (entries : List Entry) (told : Ending) (place : ℕ) (last : Option Other) (access : Option Access) → told.paused_at < place → access ≡ made start entries place → LastBefore start entries told place last → LastBefore start entries told (place + 1) (last_after told.access last place access)
one_place start entries told place last None after did l = no_store start entries told place last (none_stores start entries told.access place (sym did)) l
one_place start entries told place last (Some access) after did l = by_access start entries told place last access (writes_over told.access access) refl after (sym did) l

pub none_yet : (start : State) (entries : List Entry) (told : Ending) → LastBefore start entries told (told.paused_at + 1) None
none_yet start entries told at after below stores = no_later told.paused_at at after below

-- ---- the answer

same_number : (a b : ℕ) (same : Bool) → same ≡ (a == b) → same ≡ true → a ≡ b
same_number a b same is holds = let h : (a == b) ≡ true = sym is ∙ holds in grind (arith, nat_tests)

other_number : (a b : ℕ) (same : Bool) → same ≡ (a == b) → same ≡ false → a ≢ b
other_number a b same is fails equal = let h : (a == b) ≡ false = sym is ∙ fails in grind (arith, nat_tests)

module _ (setting : Setting) (entries : List Entry) (n : ℕ) (told : Ending) (other : Other) (same : Bool) (legal : IsLegal setting entries) (is_ending : slice_get (endings setting.start entries) n ≡ Some told) (o : IsOtherAccess setting.start entries told other) (is : same ≡ (paused_word setting.start entries told told.paused_at == paused_word setting.start entries told (other.place + 1))) where
  pub shown : (exhibit : Exhibit) → same ≡ true → exhibit.harts.items ≡ harts_to entries other.place told.hart → exhibit.first ≡ other.access → exhibit.second ≡ told.access → IsExhibit setting entries n exhibit
  shown exhibit holds harts one two = record {
    legal = legal;
    told = told;
    place = other.place;
    report = record { is_ending = is_ending; is_other = o.at };
    same_word = same_number (paused_word setting.start entries told told.paused_at) (paused_word setting.start entries told (other.place + 1)) same is holds;
    harts_are = harts;
    first_is = o.did ∙ ap Some (sym one);
    second_is = two;
  }

  pub text_changed : same ≡ false → IsTextChanged setting entries n
  text_changed fails = record {
    legal = legal;
    told = told;
    place = other.place;
    report = record { is_ending = is_ending; is_other = o.at };
    other_word = other_number (paused_word setting.start entries told told.paused_at) (paused_word setting.start entries told (other.place + 1)) same is fails;
  }

  pub stands : ExhibitsStandSideBySide → IsOfPause setting.start entries told → same ≡ true → (harts : List ℕ) → harts ≡ harts_to entries other.place told.hart → StandSideBySide setting.start harts other.access told.access
  stands law p holds harts is_list =
      subst (λ (hs : List ℕ). StandSideBySide setting.start hs other.access told.access) (sym is_list)
      (law setting entries told other legal p o (same_number (paused_word setting.start entries told told.paused_at) (paused_word setting.start entries told (other.place + 1)) same is holds))
