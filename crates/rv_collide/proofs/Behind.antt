-- What stands behind a prefix, place by place.
use Rattle.std.proofs.Common.{◌≡◌, ℕ, zero, suc, ◌+◌, ◌-◌, Bool, true, false, cond, List, [], ◌∷◌, ◌++◌, length, take, Option, Some, None, map, refl, sym, ap, ◌∙◌, arith, add-zero, zero-add}
use Rattle.std.specs.Prelude.{◌==◌, ◌||◌, not, find, is_some, slice_get, option_and_then, option_map}
use Rattle.std.specs.List.{list_any, range_with_len}
use Rattle.std.specs.Option.{option_map_or}
use Rattle.std.proofs.lemmas.List.{map-append}
use Rattle.std.proofs.lemmas.List.Elements.{filter_map-append}
use Rattle.std.proofs.lemmas.List.Folds.{list_any-append}
use Rattle.std.proofs.Math.Seq.{take-append-add}
use Rattle.rv_break.specs.declared.claim.Seen.{Seen}
use Rattle.rv_collide.specs.Entries.{steps, stepped_at, stepped_hart, between}
use Rattle.rv_collide.specs.First.{first, paused_access, seen_at, conflicts_at, is_against}
use Rattle.rv_collide.specs.Forced.{is_taken, least_free}
use Rattle.rv_collide.specs.Joined.{seen_later, verdict_later, opening_later, ending_later}
use Rattle.rv_collide.specs.Made.{made}
use Rattle.rv_collide.specs.Next.{next, plain, runs_at}
use Rattle.rv_collide.specs.Pause.{Pause, Opening, ended, opened, opening_of, openings, openings_from, pause_ended, resumed_hart, resumes, within}
use Rattle.rv_collide.specs.StateAt.{state_at}
use Rattle.rv_collide.specs.Verdict.{bytes_at, ending, ending_at, verdict, verdict_of, watched}
use Rattle.rv_collide.specs.declared.entry.Entry.{Entry}
use Rattle.rv_collide.specs.declared.entry.Entry.TheVariants.{Stepped, Paused, Resumed, Armed, Disarmed}
use Rattle.rv_hart.specs.NextAccess.{next_access, next_plain}
use Rattle.rv_hart.specs.Refusals.{is_running_hart}
use Rattle.rv_hart.specs.Run.{run}
use Rattle.rv_hart.specs.State.{State}
use Rattle.rv_hart.specs.declared.access.Access.{Access}
use Rattle.rv_memory.specs.Memory.{load}
use Rattle.rv_collide.proofs.Lists.{find_range}
use Rattle.rv_collide.proofs.Prefix.{run_append, state_end}

-- ---- lists

deeper : (p n : ℕ) → p + 1 + n ≡ p + suc n
deeper p n = omega arith

suc_plus : (a b : ℕ) → suc a + b ≡ suc (a + b)
suc_plus a b = omega arith

plus_one : (a b : ℕ) → a + b + 1 ≡ a + (b + 1)
plus_one a b = omega arith

pub get_behind : {X : Type 0} → (xs ys : List X) (i : ℕ) → slice_get (xs ++ ys) (length xs + i) ≡ slice_get ys i
get_behind [] ys i = ap (slice_get ys) (zero-add i)
get_behind (x ∷ xs) ys i = ap (slice_get (x ∷ (xs ++ ys))) (suc_plus (length xs) i) ∙ get_behind xs ys i

pub steps_append : (xs ys : List Entry) → steps (xs ++ ys) ≡ steps xs ++ steps ys
unfolding steps
steps_append xs ys = filter_map-append stepped_hart xs ys

find_later : (f g : ℕ → Bool) (by a n : ℕ) → ((i : ℕ) → f (by + i) ≡ g i) → find f (range_with_len (by + a) n) ≡ option_map (λ i. by + i) (find g (range_with_len a n))
find_later f g by a zero same = refl
find_later f g by a (suc n) same =
    ap (λ b. cond b (Some (by + a)) (find f (range_with_len (by + a + 1) n))) (same a)
    ∙ ap (λ k. cond (g a) (Some (by + a)) (find f (range_with_len k n))) (plus_one by a)
    ∙ ap (λ o. cond (g a) (Some (by + a)) o) (find_later f g by (a + 1) n same)
    ∙ elim (g a) as (λ b. cond b (Some (by + a)) (option_map (λ i. by + i) (find g (range_with_len (a + 1) n))) ≡ option_map (λ i. by + i) (cond b (Some a) (find g (range_with_len (a + 1) n)))) [ true ↦ refl | false ↦ refl ]

-- ---- the machine

abbrev pub pause_later : ℕ → Pause → Pause
pause_later by p = record { hart = p.hart; slot = p.slot; paused_at = by + p.paused_at; resumed_at = by + p.resumed_at }

later_begin : (by a : ℕ) → by + a + 1 ≡ by + (a + 1)
later_begin by a = omega arith

later_many : (by a b : ℕ) → (by + b) - (by + a + 1) ≡ b - (a + 1)
later_many by a b = omega arith

seen_parts : (by i : ℕ) (hart : Option ℕ) (access : Option Access) → option_and_then (λ h. option_map (λ a. let s : Seen = record { place = by + i; hart = h; access = a } in s) access) hart ≡ option_map (seen_later by) (option_and_then (λ h. option_map (λ a. let s : Seen = record { place = i; hart = h; access = a } in s) access) hart)
seen_parts by i None access = refl
seen_parts by i (Some h) None = refl
seen_parts by i (Some h) (Some a) = refl

against_later : (by hart : ℕ) (access : Access) (seen : Option Seen) → option_map_or (is_against hart access) (option_map (seen_later by) seen) false ≡ option_map_or (is_against hart access) seen false
against_later by hart access None = refl
against_later by hart access (Some seen) = refl

cond_map : (by : ℕ) (b : Bool) (o : Option Seen) → cond b (option_map (seen_later by) o) None ≡ option_map (seen_later by) (cond b o None)
cond_map by true o = refl
cond_map by false o = refl

verdict_moves : (by : ℕ) (o : Option Seen) (same : Bool) → verdict_of (option_map (seen_later by) o) same ≡ verdict_later by (verdict_of o same)
verdict_moves by (Some seen) same = refl
verdict_moves by None true = refl
verdict_moves by None false = refl

module _ (start end : State) (xs : List Entry) (leads : state_at start xs (length xs) ≡ Some end) where
  run_behind : (hs : List ℕ) → run start (steps xs ++ hs) ≡ run end hs
  run_behind hs = run_append start (steps xs) hs ∙ ap (option_and_then (λ t. run t hs)) (sym (state_end start xs) ∙ leads)

  pub state_behind : (ys : List Entry) (i : ℕ) → state_at start (xs ++ ys) (length xs + i) ≡ state_at end ys i
  unfolding state_at
  state_behind ys i =
      ap (λ zs. run start (steps zs)) (take-append-add xs ys i) ∙ ap (run start) (steps_append xs (take i ys)) ∙ run_behind (steps (take i ys))

  pub next_behind : (ys : List Entry) (i h : ℕ) → next start (xs ++ ys) (length xs + i) h ≡ next end ys i h
  unfolding next
  next_behind ys i h = ap (option_and_then (λ (s : State). next_access s h)) (state_behind ys i)

  pub plain_behind : (ys : List Entry) (i h : ℕ) → plain start (xs ++ ys) (length xs + i) h ≡ plain end ys i h
  unfolding plain
  plain_behind ys i h = ap (option_and_then (λ (s : State). next_plain s h)) (state_behind ys i)

  pub runs_behind : (ys : List Entry) (i h : ℕ) → runs_at start (xs ++ ys) (length xs + i) h ≡ runs_at end ys i h
  unfolding runs_at
  runs_behind ys i h = ap (λ (o : Option State). option_map_or (λ (s : State). is_running_hart (slice_get s.harts h)) o false) (state_behind ys i)

  stepped_behind : (ys : List Entry) (i : ℕ) → stepped_at (xs ++ ys) (length xs + i) ≡ stepped_at ys i
  unfolding stepped_at
  stepped_behind ys i = ap (option_and_then stepped_hart) (get_behind xs ys i)

  pub made_behind : (ys : List Entry) (i : ℕ) → made start (xs ++ ys) (length xs + i) ≡ made end ys i
  unfolding made
  made_behind ys i =
      ap (option_and_then (λ h. next start (xs ++ ys) (length xs + i) h)) (stepped_behind ys i)
      ∙ elim (stepped_at ys i) as (λ (o : Option ℕ). option_and_then (λ h. next start (xs ++ ys) (length xs + i) h) o ≡ option_and_then (λ h. next end ys i h) o) [
        | None ↦ refl
        | Some h ↦ next_behind ys i h
      ]

  -- ---- accesses within a pause

  seen_behind : (ys : List Entry) (i : ℕ) → seen_at start (xs ++ ys) (length xs + i) ≡ option_map (seen_later (length xs)) (seen_at end ys i)
  unfolding seen_at
  seen_behind ys i = rw (made_behind ys i, stepped_behind ys i) (seen_parts (length xs) i (stepped_at ys i) (made end ys i))

  conflicts_behind : (ys : List Entry) (p : Pause) (i : ℕ) → conflicts_at start (xs ++ ys) (pause_later (length xs) p) (length xs + i) ≡ conflicts_at end ys p i
  unfolding conflicts_at paused_access
  conflicts_behind ys p i =
      ap (λ (a : Option Access). option_map_or (λ access. option_map_or (is_against p.hart access) (seen_at start (xs ++ ys) (length xs + i)) false) a false) (next_behind ys p.paused_at p.hart)
      ∙ elim (next end ys p.paused_at p.hart) as (λ (a : Option Access). option_map_or (λ access. option_map_or (is_against p.hart access) (seen_at start (xs ++ ys) (length xs + i)) false) a false ≡ option_map_or (λ access. option_map_or (is_against p.hart access) (seen_at end ys i) false) a false) [
        | None ↦ refl
        | Some access ↦ ap (λ s. option_map_or (is_against p.hart access) s false) (seen_behind ys i) ∙ against_later (length xs) p.hart access (seen_at end ys i)
      ]

  first_behind : (ys : List Entry) (p : Pause) → first start (xs ++ ys) (pause_later (length xs) p) ≡ option_map (λ i. length xs + i) (first end ys p)
  unfolding first within between
  first_behind ys p =
      let conflict = conflicts_at start (xs ++ ys) (pause_later (length xs) p) in
      ap (λ k. find conflict (range_with_len k ((length xs + p.resumed_at) - (length xs + p.paused_at + 1)))) (later_begin (length xs) p.paused_at)
      ∙ ap (λ n. find conflict (range_with_len (length xs + (p.paused_at + 1)) n)) (later_many (length xs) p.paused_at p.resumed_at)
      ∙ find_later conflict (conflicts_at end ys p) (length xs) (p.paused_at + 1) (p.resumed_at - (p.paused_at + 1)) (conflicts_behind ys p)

  watched_behind : (ys : List Entry) (p : Pause) → watched start (xs ++ ys) (pause_later (length xs) p) ≡ option_map (seen_later (length xs)) (watched end ys p)
  unfolding watched
  watched_behind ys p =
      ap (λ (f : Option ℕ). cond (is_some p.slot) (option_and_then (seen_at start (xs ++ ys)) f) None) (first_behind ys p)
      ∙ elim (first end ys p) as (λ (f : Option ℕ). cond (is_some p.slot) (option_and_then (seen_at start (xs ++ ys)) (option_map (λ i. length xs + i) f)) None ≡ option_map (seen_later (length xs)) (cond (is_some p.slot) (option_and_then (seen_at end ys) f) None)) [
        | None ↦ cond_map (length xs) (is_some p.slot) None
        | Some i ↦ ap (λ s. cond (is_some p.slot) s None) (seen_behind ys i) ∙ cond_map (length xs) (is_some p.slot) (seen_at end ys i)
      ]

  bytes_behind : (ys : List Entry) (i : ℕ) (access : Access) → bytes_at start (xs ++ ys) (length xs + i) access ≡ bytes_at end ys i access
  unfolding bytes_at
  bytes_behind ys i access = ap (λ (o : Option State). option_map_or (λ (s : State). load s.memory access.first access.size) o 0) (state_behind ys i)

  pub ending_behind : (ys : List Entry) (p : Pause) (access : Access) → ending start (xs ++ ys) (pause_later (length xs) p) access ≡ ending_later (length xs) (ending end ys p access)
  unfolding ending verdict
  ending_behind ys p access =
      rw (watched_behind ys p, bytes_behind ys p.paused_at access, bytes_behind ys p.resumed_at access, verdict_moves (length xs) (watched end ys p) (bytes_at end ys p.paused_at access == bytes_at end ys p.resumed_at access)) refl

-- ---- open pauses

none_first : (os ps : List Opening) → os ++ ps ≡ [] → os ≡ []
none_first [] ps h = refl
none_first (o ∷ os) ps h = cc

none_second : (os ps : List Opening) → os ++ ps ≡ [] → ps ≡ []
none_second [] ps h = h
none_second (o ∷ os) ps h = cc

closed : (any : Bool) (o : Opening) → cond any [] (o ∷ []) ≡ [] → any ≡ true
closed true o h = refl
closed false o h = cc

closed_still : (place : ℕ) (x : Entry) (xs ys : List Entry) → opened place x xs ≡ [] → opened place x (xs ++ ys) ≡ []
closed_still place (Paused h slot) xs ys none =
    ap (λ b. cond b [] (record { hart = h; slot = slot; place = place } ∷ []))
    (list_any-append (resumes h) xs ys ∙ ap (λ b. b || list_any (resumes h) ys) (closed (list_any (resumes h) xs) (record { hart = h; slot = slot; place = place }) none))
closed_still place (Stepped h) xs ys none = refl
closed_still place (Resumed h) xs ys none = refl
closed_still place (Armed a) xs ys none = refl
closed_still place (Disarmed a) xs ys none = refl

from_behind : (p : ℕ) (xs ys : List Entry) → openings_from p xs ≡ [] → openings_from p (xs ++ ys) ≡ openings_from (p + length xs) ys
unfolding openings_from
from_behind p [] ys none = ap (λ k. openings_from k ys) (sym (add-zero p))
from_behind p (x ∷ xs) ys none =
    ap (λ os. os ++ openings_from (p + 1) (xs ++ ys)) (closed_still p x xs ys (none_first (opened p x xs) (openings_from (p + 1) xs) none))
    ∙ from_behind (p + 1) xs ys (none_second (opened p x xs) (openings_from (p + 1) xs) none)
    ∙ ap (λ k. openings_from k ys) (deeper p (length xs))

opened_later : (by p : ℕ) (y : Entry) (ys : List Entry) → opened (by + p) y ys ≡ map (opening_later by) (opened p y ys)
opened_later by p (Paused h slot) ys =
    elim (list_any (resumes h) ys) as (λ b. cond b [] (record { hart = h; slot = slot; place = by + p } ∷ []) ≡ map (opening_later by) (cond b [] (record { hart = h; slot = slot; place = p } ∷ []))) [ true ↦ refl | false ↦ refl ]
opened_later by p (Stepped h) ys = refl
opened_later by p (Resumed h) ys = refl
opened_later by p (Armed a) ys = refl
opened_later by p (Disarmed a) ys = refl

from_later : (by p : ℕ) (ys : List Entry) → openings_from (by + p) ys ≡ map (opening_later by) (openings_from p ys)
unfolding openings_from
from_later by p [] = refl
from_later by p (y ∷ ys) =
    ap (λ os. os ++ openings_from (by + p + 1) ys) (opened_later by p y ys)
    ∙ ap (λ k. map (opening_later by) (opened p y ys) ++ openings_from k ys) (plus_one by p)
    ∙ ap (λ os. map (opening_later by) (opened p y ys) ++ os) (from_later by (p + 1) ys)
    ∙ sym (map-append (opening_later by) (opened p y ys) (openings_from (p + 1) ys))

other_way : (n : ℕ) → 0 + n ≡ n + 0
other_way n = omega arith

pub openings_behind : (xs ys : List Entry) → openings xs ≡ [] → openings (xs ++ ys) ≡ map (opening_later (length xs)) (openings ys)
unfolding openings
openings_behind xs ys none =
    from_behind 0 xs ys none ∙ ap (λ k. openings_from k ys) (other_way (length xs)) ∙ from_later (length xs) 0 ys

found_later : (by h : ℕ) (os : List Opening) → find (λ (o : Opening). o.hart == h) (map (opening_later by) os) ≡ option_map (opening_later by) (find (λ (o : Opening). o.hart == h) os)
found_later by h [] = refl
found_later by h (o ∷ os) =
    elim (o.hart == h) as (λ b. cond b (Some (opening_later by o)) (find (λ (o : Opening). o.hart == h) (map (opening_later by) os)) ≡ option_map (opening_later by) (cond b (Some o) (find (λ (o : Opening). o.hart == h) os))) [
      | true ↦ refl
      | false ↦ found_later by h os
    ]

any_later : (by : ℕ) (slot : ℕ) (os : List Opening) → list_any (λ (o : Opening). option_map_or (λ other. other == slot) o.slot false) (map (opening_later by) os) ≡ list_any (λ (o : Opening). option_map_or (λ other. other == slot) o.slot false) os
any_later by slot [] = refl
any_later by slot (o ∷ os) = ap (λ b. option_map_or (λ other. other == slot) o.slot false || b) (any_later by slot os)

ended_later : (by i : ℕ) (o : Option Opening) → option_map (ended (by + i)) (option_map (opening_later by) o) ≡ option_map (pause_later by) (option_map (ended i) o)
ended_later by i None = refl
ended_later by i (Some o) = refl

module _ (xs : List Entry) (none : openings xs ≡ []) where
  pub opening_behind : (ys : List Entry) (h : ℕ) → opening_of (xs ++ ys) h ≡ option_map (opening_later (length xs)) (opening_of ys h)
  unfolding opening_of
  opening_behind ys h = ap (find (λ (o : Opening). o.hart == h)) (openings_behind xs ys none) ∙ found_later (length xs) h (openings ys)

  taken_behind : (ys : List Entry) (slot : ℕ) → is_taken (xs ++ ys) slot ≡ is_taken ys slot
  unfolding is_taken
  taken_behind ys slot = ap (list_any (λ (o : Opening). option_map_or (λ other. other == slot) o.slot false)) (openings_behind xs ys none) ∙ any_later (length xs) slot (openings ys)

  pub free_behind : (ys : List Entry) (count : ℕ) → least_free count (xs ++ ys) ≡ least_free count ys
  unfolding least_free
  free_behind ys count = find_range _ _ 0 count (λ slot lo hi. ap not (taken_behind ys slot))

  pause_behind : (ys : List Entry) (i : ℕ) → pause_ended (xs ++ ys) (length xs + i) ≡ option_map (pause_later (length xs)) (pause_ended ys i)
  unfolding pause_ended
  pause_behind ys i =
      ap (λ (o : Option Entry). option_and_then (λ hart. option_map (ended (length xs + i)) (opening_of (take (length xs + i) (xs ++ ys)) hart)) (option_and_then resumed_hart o)) (get_behind xs ys i)
      ∙ ap (λ (zs : List Entry). option_and_then (λ hart. option_map (ended (length xs + i)) (opening_of zs hart)) (option_and_then resumed_hart (slice_get ys i))) (take-append-add xs ys i)
      ∙ elim (option_and_then resumed_hart (slice_get ys i)) as (λ (o : Option ℕ). option_and_then (λ hart. option_map (ended (length xs + i)) (opening_of (xs ++ take i ys) hart)) o ≡ option_map (pause_later (length xs)) (option_and_then (λ hart. option_map (ended i) (opening_of (take i ys) hart)) o)) [
        | None ↦ refl
        | Some h ↦ ap (option_map (ended (length xs + i))) (opening_behind (take i ys) h) ∙ ended_later (length xs) i (opening_of (take i ys) h)
      ]

  module _ (start end : State) (leads : state_at start xs (length xs) ≡ Some end) where
    told_behind : (ys : List Entry) (p : Pause) (o : Option Access) → option_map (ending start (xs ++ ys) (pause_later (length xs) p)) o ≡ option_map (ending_later (length xs)) (option_map (ending end ys p) o)
    told_behind ys p None = refl
    told_behind ys p (Some access) = ap Some (ending_behind start end xs leads ys p access)

    pub ending_at_behind : (ys : List Entry) (i : ℕ) → ending_at start (xs ++ ys) (length xs + i) ≡ option_map (ending_later (length xs)) (ending_at end ys i)
    unfolding ending_at paused_access
    ending_at_behind ys i =
        ap (option_and_then (λ (p : Pause). option_map (ending start (xs ++ ys) p) (next start (xs ++ ys) p.paused_at p.hart))) (pause_behind ys i)
        ∙ elim (pause_ended ys i) as (λ (p : Option Pause). option_and_then (λ (p : Pause). option_map (ending start (xs ++ ys) p) (next start (xs ++ ys) p.paused_at p.hart)) (option_map (pause_later (length xs)) p) ≡ option_map (ending_later (length xs)) (option_and_then (λ (p : Pause). option_map (ending end ys p) (next end ys p.paused_at p.hart)) p)) [
          | None ↦ refl
          | Some p ↦ ap (option_map (ending start (xs ++ ys) (pause_later (length xs) p))) (next_behind start end xs leads ys p.paused_at p.hart) ∙ told_behind ys p (next end ys p.paused_at p.hart)
        ]
