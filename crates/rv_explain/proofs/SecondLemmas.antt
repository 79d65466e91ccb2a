-- The last store within a pause, as it is found entry by entry.
use Rattle.std.proofs.Common.{◌≡◌, ◌∙◌, ℕ, zero, suc, ◌+◌, ◌-◌, ◌<◌, ◌≤◌, inl, inr, Bool, true, false, List, Option, Some, None, refl, ap, sym, subst, arith, IsTrue}
use Rattle.std.specs.Prelude.{◌⊎◌, filter_map, if◌then◌else◌, option_and_then, option_map, unwrap_or}
use Rattle.std.specs.List.{fold, range_with_len}
use Rattle.std.specs.Option.{option_map_or}
use Rattle.std.proofs.lemmas.Bool.{cases_eq, false≢true}
use Rattle.rv_break.specs.declared.claim.Seen.{Seen}
use Rattle.rv_collide.specs.Answers.{pause_of}
use Rattle.rv_collide.specs.Entries.{between, stepped_at}
use Rattle.rv_collide.specs.First.{first, seen_at}
use Rattle.rv_collide.specs.Made.{made}
use Rattle.rv_collide.specs.Next.{next}
use Rattle.rv_collide.specs.Pause.{within}
use Rattle.rv_collide.specs.declared.ending.Ending.{Ending}
use Rattle.rv_collide.specs.declared.ending.Verdict.{Verdict}
use Rattle.rv_collide.specs.declared.ending.Verdict.TheVariants.{Hit, Changed, Quiet}
use Rattle.rv_collide.specs.declared.entry.Entry.{Entry}
use Rattle.rv_explain.proofs.Ranges.{fold_found_to}
use Rattle.rv_explain.specs.BlockOf.{second}
use Rattle.rv_races.specs.Judged.{last_store, seen_within, store_or}
use Rattle.rv_explain.specs.SecondLaws.{SecondIsExhibited}
use Rattle.rv_hart.specs.State.{State}
use Rattle.rv_hart.specs.declared.access.Access.{Access}
use Rattle.rv_races.specs.Races.{Run}
use Rattle.rv_races.specs.Second.{own_access, second_of}
use Rattle.rv_report.specs.Exhibit.{IsLastStore, IsOther, stores_at, writes_over}
use Rattle.rv_report.specs.OfPause.{IsOfPause}

-- ---- an access made, and the same as a report names it

record_case : (place hart : ℕ) (m : Option Access) (t : Seen) → option_map (λ (access : Access). record { place = place; hart = hart; access = access }) m ≡ Some t → m ≡ Some t.access
record_case place hart None t e = cc
record_case place hart (Some access) t e = ap (option_map (λ (s : Seen). s.access)) e

seen_case : (place : ℕ) (m : Option Access) (o : Option ℕ) (t : Seen) → option_and_then (λ hart. option_map (λ (access : Access). record { place = place; hart = hart; access = access }) m) o ≡ Some t → m ≡ Some t.access
seen_case place m None t e = cc
seen_case place m (Some hart) t e = record_case place hart m t e

seen_made : (start : State) (entries : List Entry) (place : ℕ) (t : Seen) → seen_at start entries place ≡ Some t → made start entries place ≡ Some t.access
unfolding seen_at
seen_made start entries place t e = seen_case place (made start entries place) (stepped_at entries place) t e

-- what is told of the access at a place
abbrev Told : ℕ → Access → Option Seen → Type 0
Told place access o = (s : Seen) × (o ≡ Some s) × (s.access ≡ access)

made_case : (start : State) (entries : List Entry) (place : ℕ) (access : Access) (m : Option Access) (o : Option ℕ) → m ≡ option_and_then (λ hart. next start entries place hart) o → m ≡ Some access
    → Told place access (option_and_then (λ hart. option_map (λ (access : Access). record { place = place; hart = hart; access = access }) m) o)
made_case start entries place access m None is e = let no : None ≡ Some access = sym is ∙ e in cc
made_case start entries place access m (Some hart) is e =
    (record { place = place; hart = hart; access = access }, ap (option_map (λ (access : Access). record { place = place; hart = hart; access = access })) e, refl)

made_seen : (start : State) (entries : List Entry) (place : ℕ) (access : Access) → made start entries place ≡ Some access → Told place access (seen_at start entries place)
unfolding seen_at made
made_seen start entries place access e = made_case start entries place access (made start entries place) (stepped_at entries place) refl e

stored_case : (paused : Access) (m : Option Access) → IsTrue (option_map_or (writes_over paused) m false) → (access : Access) × (m ≡ Some access) × (writes_over paused access ≡ true)
stored_case paused None h = absurd (false≢true h)
stored_case paused (Some access) h = (access, refl, h)

stored : (start : State) (entries : List Entry) (paused : Access) (place : ℕ) → IsTrue (stores_at start entries paused place) → (access : Access) × (made start entries place ≡ Some access) × (writes_over paused access ≡ true)
unfolding stores_at
stored start entries paused place h = stored_case paused (made start entries place) h

stores : (start : State) (entries : List Entry) (paused : Access) (place : ℕ) (access : Access) → made start entries place ≡ Some access → writes_over paused access ≡ true → IsTrue (stores_at start entries paused place)
unfolding stores_at
stores start entries paused place access is writes = rw is writes

-- ---- the last one so far

abbrev so_far : Run → Ending → ℕ → Option Seen
so_far run told k =
    fold (store_or told.access) None (filter_map (seen_at run.start run.entries) (range_with_len (told.paused_at + 1) (k - (told.paused_at + 1))))

-- a store that is met is the last one so far
met_case : (paused : Access) (old o : Option Seen) (s : Seen) → o ≡ Some s → writes_over paused s.access ≡ true → option_map_or (store_or paused old) o old ≡ o
met_case paused old None s is writes = cc
met_case paused old (Some t) s is writes =
    let same : writes_over paused t.access ≡ true = ap (λ (x : Option Seen). option_map_or (λ (y : Seen). writes_over paused y.access) x false) is ∙ writes in
    rw same refl

store_if : (b : Bool) (t : Seen) (old : Option Seen) → b ≡ false → (if b then Some t else old) ≡ old
store_if true t old h = cc
store_if false t old h = refl

-- what is no store changes nothing
passed_case : (paused : Access) (old o : Option Seen) → ((t : Seen) → o ≡ Some t → writes_over paused t.access ≡ false) → option_map_or (store_or paused old) o old ≡ old
passed_case paused old None none = refl
passed_case paused old (Some t) none = store_if (writes_over paused t.access) t old (none t refl)

not_yes : (b : Bool) → (b ≡ true → ⊥) → b ≡ false
not_yes true never = absurd (never refl)
not_yes false never = refl

module _ (run : Run) (told : Ending) (place : ℕ) (is : IsLastStore run.start run.entries told place) where
  at_place : so_far run told (place + 1) ≡ seen_at run.start run.entries place
  at_place =
      let did = stored run.start run.entries told.access place is.stores in
      let seen = made_seen run.start run.entries place did.0 did.1 in
      let writes : writes_over told.access seen.0.access ≡ true = ap (writes_over told.access) seen.2 ∙ did.2 in
      fold_found_to (store_or told.access) None (seen_at run.start run.entries) (told.paused_at + 1) place (let after = is.after in omega (arith, after))
      ∙ met_case told.access (so_far run told place) (seen_at run.start run.entries place) seen.0 seen.1 writes

  past_place : (j : ℕ) → place < j → j < told.resumed_at → so_far run told (j + 1) ≡ so_far run told j
  past_place j later inside =
      fold_found_to (store_or told.access) None (seen_at run.start run.entries) (told.paused_at + 1) j (let after = is.after in omega (arith, after, later))
      ∙ passed_case told.access (so_far run told j) (seen_at run.start run.entries j)
      (λ t e. not_yes (writes_over told.access t.access) (λ writes. is.last j later inside (stores run.start run.entries told.access j t.access (seen_made run.start run.entries j t e) writes)))

  from_place : (more : ℕ) → place + 1 + more ≤ told.resumed_at → so_far run told (place + 1 + more) ≡ seen_at run.start run.entries place
  from_place zero inside = ap (so_far run told) (let e : place + 1 + 0 ≡ place + 1 = omega arith in e) ∙ at_place
  from_place (suc more) inside =
      let next_place : place + 1 + suc more ≡ place + 1 + more + 1 = omega arith in
      ap (so_far run told) next_place ∙ past_place (place + 1 + more) (omega arith) (omega (arith, inside)) ∙ from_place more (omega (arith, inside))

  at_end : so_far run told told.resumed_at ≡ seen_at run.start run.entries place
  at_end =
      let before = is.before in
      let e : told.resumed_at ≡ place + 1 + (told.resumed_at - (place + 1)) = omega (arith, before) in
      ap (so_far run told) e ∙ from_place (told.resumed_at - (place + 1)) (omega (arith, before))

  last_is : last_store run told ≡ seen_at run.start run.entries place
  unfolding last_store seen_within within between
  last_is = at_end

-- ---- the second access

some_place : (x y : ℕ) → Some x ≡ Some y → x ≡ y
some_place x y h = cc

told_last : (told : Ending) (last o : Option Seen) (s : Seen) → last ≡ o → o ≡ Some s → o ≡ Some (unwrap_or last (own_access told))
told_last told last o s same is = rw (same ∙ is) is

second_case : (run : Run) (told : Ending) (place : ℕ) (v : Verdict) → told.verdict ≡ v → IsOfPause run.start run.entries told → IsOther run.start run.entries told v place → seen_at run.start run.entries place ≡ Some (second_of told (last_store run told) v)
second_case run told place (Hit seen) v of_pause is =
    let same : seen.place ≡ place = some_place _ _ (sym (of_pause.is_first seen v) ∙ is) in
    ap (seen_at run.start run.entries) (sym same) ∙ (of_pause.hit seen v).did
second_case run told place Changed v of_pause is =
    let did = stored run.start run.entries told.access place is.stores in
    let seen = made_seen run.start run.entries place did.0 did.1 in
    told_last told (last_store run told) (seen_at run.start run.entries place) seen.0 (last_is run told place is) seen.1
second_case run told place Quiet v of_pause is = absurd is

pub second_is_exhibited : SecondIsExhibited
unfolding second
second_is_exhibited run told place of_pause is = second_case run told place told.verdict refl of_pause is
