-- No conflicting access within a watched pause is lost.
use Rattle.std.proofs.Common.{◌≡◌, ◌≢◌, ℕ, zero, suc, ◌+◌, ◌-◌, ◌≤◌, ◌<◌, Bool, true, false, cond, List, Option, Some, None, refl, sym, ap, subst, ◌∙◌, arith}
use Rattle.std.specs.Prelude.{◌==◌, ◌&&◌, ◌||◌, not, nat_lt, min, max, is_some, find, option_and_then}
use Rattle.std.specs.List.{range_with_len}
use Rattle.std.specs.Option.{option_map_or}
use Rattle.std.proofs.lemmas.Bool.Decides.{nat_tests}
use Rattle.rv_break.specs.declared.claim.Seen.{Seen}
use Rattle.rv_collide.specs.Entries.{between}
use Rattle.rv_collide.specs.First.{first, paused_access, seen_at, conflicts_at, is_against}
use Rattle.rv_collide.specs.Laws.{ConflictsAreReported, Reported}
use Rattle.rv_collide.specs.Pause.{Pause, within}
use Rattle.rv_collide.specs.Verdict.{verdict, verdict_of, watched}
use Rattle.rv_collide.specs.declared.ending.Verdict.TheVariants.{Hit}
use Rattle.rv_collide.specs.declared.entry.Entry.{Entry}
use Rattle.rv_hart.specs.Conflict.{Conflict, conflicts, end_of, meets}
use Rattle.rv_hart.specs.State.{State}
use Rattle.rv_hart.specs.declared.access.Access.{Access}
use Rattle.rv_collide.proofs.LawLemmas.{seen_place}

true_not_false : false ≡ true → ⊥
true_not_false h = cc

differ : (a b : ℕ) → a ≢ b → not (a == b) ≡ true
differ a b h = grind (arith, nat_tests, h)

is_below : (a b : ℕ) → a < b → nat_lt a b ≡ true
is_below a b h = grind (arith, nat_tests, h)

both : (b c : Bool) → b ≡ true → c ≡ true → (b && c) ≡ true
both true c one other = other
both false c one other = cc

-- the least number of a range that passes is not above one that does
record Least (p : ℕ → Bool) (a n x : ℕ) : Type 0 where
  pub place : ℕ
  pub found : find p (range_with_len a n) ≡ Some place
  pub passes : p place ≡ true
  pub least : place ≤ x

find_least : (p : ℕ → Bool) (a n x : ℕ) → a ≤ x → x < a + n → p x ≡ true → Least p a n x
find_least p a zero x from below passes = absurd (omega (arith, from, below))
find_least p a (suc n) x from below passes =
    elim (p a) as (λ b. p a ≡ b → Least p a (suc n) x) [
      | true ↦ λ e. record { place = a; found = ap (λ b. cond b (Some a) (find p (range_with_len (a + 1) n))) e; passes = e; least = from }
      | false ↦ λ e.
          let other : a ≢ x = λ same. true_not_false (sym e ∙ ap p same ∙ passes) in
          let l = find_least p (a + 1) n x (omega arith) (omega arith) passes in
          record { place = l.place; found = ap (λ b. cond b (Some a) (find p (range_with_len (a + 1) n))) e ∙ l.found; passes = l.passes; least = l.least }
    ] refl

-- harts that differ, and accesses that conflict
against : (hart : ℕ) (access : Access) (seen : Seen) → hart ≢ seen.hart → Conflict access seen.access → is_against hart access seen ≡ true
against hart access seen others conflict =
    let address = conflict.shared.address in
    let one_from = conflict.shared.of_one.from in
    let one_before = conflict.shared.of_one.before in
    let other_from = conflict.shared.of_other.from in
    let other_before = conflict.shared.of_other.before in
    let met : max access.first seen.access.first < min (end_of access) (end_of seen.access) = omega arith in
    both (not (hart == seen.hart)) (conflicts access seen.access) (differ hart seen.hart others)
    (both (meets access seen.access) (access.write || seen.access.write) (is_below _ _ met) conflict.writes)

conflicts_there : (start : State) (entries : List Entry) (pause : Pause) (access : Access) (seen : Seen) → paused_access start entries pause ≡ Some access → Reported start entries pause access seen → conflicts_at start entries pause seen.place ≡ true
unfolding conflicts_at
conflicts_there start entries pause access seen would r =
    ap (λ (o : Option Access). option_map_or (λ a. option_map_or (is_against pause.hart a) (seen_at start entries seen.place) false) o false) would
    ∙ ap (λ (o : Option Seen). option_map_or (is_against pause.hart access) o false) r.did
    ∙ against pause.hart access seen r.others r.conflict

-- what was seen where an access conflicts
record SeenAt (start : State) (entries : List Entry) (place : ℕ) : Type 0 where
  pub seen : Seen
  pub there : seen_at start entries place ≡ Some seen

seen_some : (start : State) (entries : List Entry) (pause : Pause) (access : Access) (place : ℕ) (o : Option Seen) → seen_at start entries place ≡ o → option_map_or (is_against pause.hart access) o false ≡ true → SeenAt start entries place
seen_some start entries pause access place None is passes = absurd (true_not_false passes)
seen_some start entries pause access place (Some seen) is passes = record { seen = seen; there = is }

seen_where : (start : State) (entries : List Entry) (pause : Pause) (access : Access) (place : ℕ) → paused_access start entries pause ≡ Some access → conflicts_at start entries pause place ≡ true → SeenAt start entries place
unfolding conflicts_at
seen_where start entries pause access place would passes =
    seen_some start entries pause access place (seen_at start entries place) refl
    (sym (ap (λ (o : Option Access). option_map_or (λ a. option_map_or (is_against pause.hart a) (seen_at start entries place) false) o false) would) ∙ passes)

told : (found : Option Seen) (same : Bool) (seen : Seen) → found ≡ Some seen → verdict_of found same ≡ Hit seen
told found same seen is = ap (λ o. verdict_of o same) is

watched_by : (start : State) (entries : List Entry) (slot : Option ℕ) (number : ℕ) (found : Option ℕ) (place : ℕ) (seen : Seen) → slot ≡ Some number → found ≡ Some place → seen_at start entries place ≡ Some seen → cond (is_some slot) (option_and_then (seen_at start entries) found) None ≡ Some seen
watched_by start entries slot number found place seen is at there =
    ap (λ o. cond (is_some o) (option_and_then (seen_at start entries) found) None) is ∙ ap (λ o. option_and_then (seen_at start entries) o) at ∙ there

pub complete : ConflictsAreReported
unfolding verdict watched first within between
complete start entries pause access slot seen is would r =
    let after = r.after in
    let before = r.before in
    let l = find_least (conflicts_at start entries pause) (pause.paused_at + 1) (pause.resumed_at - (pause.paused_at + 1)) seen.place (omega (arith, after)) (omega (arith, after, before)) (conflicts_there start entries pause access seen would r) in
    let s = seen_where start entries pause access l.place would l.passes in
    let same = seen_place start entries l.place s.seen s.there in
    record {
      first = s.seen;
      hit = told _ _ s.seen (watched_by start entries pause.slot slot _ l.place s.seen is l.found s.there);
      no_later = subst (λ p. p ≤ seen.place) (sym same) l.least;
    }
