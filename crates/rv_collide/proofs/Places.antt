-- First conflicts, verdicts and endings when an entry is added.
use Rattle.std.proofs.Common.{◌≡◌, ℕ, ◌+◌, ◌-◌, ◌≤◌, ◌<◌, true, false, cond, List, [], ◌∷◌, ◌++◌, length, Option, Some, None, refl, sym, ap, ◌∙◌, arith, length-append}
use Rattle.std.specs.Prelude.{find, is_none, is_some, option_and_then, option_map}
use Rattle.std.specs.List.{range_with_len}
use Rattle.std.specs.Option.{option_map_or, option_or}
use Rattle.std.proofs.lemmas.List.Folds.{find-append}
use Rattle.rv_break.specs.Slots.{claim_after}
use Rattle.rv_break.specs.declared.claim.Claim.{Claim}
use Rattle.rv_break.specs.declared.claim.Seen.{Seen}
use Rattle.rv_collide.specs.Entries.{between}
use Rattle.rv_collide.specs.First.{first, paused_access, seen_at, conflicts_at, is_against}
use Rattle.rv_collide.specs.Next.{next}
use Rattle.rv_collide.specs.Pause.{Pause, Opening, ended, within}
use Rattle.rv_collide.specs.Verdict.{bytes_at, ending, verdict, watched}
use Rattle.rv_collide.specs.declared.entry.Entry.{Entry}
use Rattle.rv_collide.specs.internal.Core.{claim_of}
use Rattle.rv_hart.specs.State.{State}
use Rattle.rv_hart.specs.declared.access.Access.{Access}
use Rattle.rv_collide.proofs.LawLemmas.{find_within}
use Rattle.rv_collide.proofs.Lists.{find_range, range_more}
use Rattle.rv_collide.proofs.Prefix.{next_front, seen_front, state_front}

-- ---- the places between two

one_longer : (a b : ℕ) → a < b → (b + 1) - (a + 1) ≡ (b - (a + 1)) + 1
one_longer a b lt = omega arith

last_between : (a b : ℕ) → a < b → (a + 1) + (b - (a + 1)) ≡ b
last_between a b lt = omega arith

pub between_more : (a b : ℕ) → a < b → between a (b + 1) ≡ between a b ++ b ∷ []
unfolding between
between_more a b lt =
    ap (range_with_len (a + 1)) (one_longer a b lt) ∙ range_more (a + 1) (b - (a + 1)) ∙ ap (λ k. range_with_len (a + 1) (b - (a + 1)) ++ k ∷ []) (last_between a b lt)

none : (a : ℕ) → (a + 1) - (a + 1) ≡ 0
none a = omega arith

pub between_none : (a : ℕ) → between a (a + 1) ≡ []
unfolding between
between_none a = ap (range_with_len (a + 1)) (none a)

-- ---- the first conflict

conflicts_front : (start : State) (xs ys : List Entry) (pause : Pause) (j : ℕ) → pause.paused_at ≤ length xs → j < length xs → conflicts_at start (xs ++ ys) pause j ≡ conflicts_at start xs pause j
unfolding conflicts_at paused_access
conflicts_front start xs ys pause j le lt = rw (next_front start xs ys pause.paused_at pause.hart le, seen_front start xs ys j lt) refl

inside : (a b n i : ℕ) → a < n → b ≤ n → a + 1 ≤ i → i < (a + 1) + (b - (a + 1)) → i < n
inside a b n i lt le lo hi = omega arith

pub first_front : (start : State) (xs ys : List Entry) (pause : Pause) → pause.paused_at < length xs → pause.resumed_at ≤ length xs → first start (xs ++ ys) pause ≡ first start xs pause
unfolding first within between
first_front start xs ys pause lt le =
    find_range (conflicts_at start (xs ++ ys) pause) (conflicts_at start xs pause) (pause.paused_at + 1) (pause.resumed_at - (pause.paused_at + 1))
    (λ i lo hi. conflicts_front start xs ys pause i (omega arith) (inside pause.paused_at pause.resumed_at (length xs) i lt le lo hi))

-- a first conflict lies before the end
pub first_below : (start : State) (xs : List Entry) (o : Opening) (n j : ℕ) → o.place < n → first start xs (ended n o) ≡ Some j → (j < n) × (conflicts_at start xs (ended n o) j ≡ true)
unfolding first within between
first_below start xs o n j lt found =
    let w = find_within (conflicts_at start xs (ended n o)) (o.place + 1) (n - (o.place + 1)) j found in
    let from = w.from in
    let below = w.below in
    (inside o.place n n j lt (omega arith) from below, w.passes)

same_pause : (start : State) (xs : List Entry) (e : Entry) (o : Opening) → find (conflicts_at start (xs ++ e ∷ []) (ended (length xs + 1) o)) (between o.place (length xs) ++ length xs ∷ []) ≡ find (conflicts_at start (xs ++ e ∷ []) (ended (length xs) o)) (between o.place (length xs) ++ length xs ∷ [])
unfolding conflicts_at paused_access
same_pause start xs e o = refl

first_at_front : (start : State) (xs : List Entry) (e : Entry) (o : Opening) → o.place < length xs → find (conflicts_at start (xs ++ e ∷ []) (ended (length xs) o)) (between o.place (length xs)) ≡ find (conflicts_at start xs (ended (length xs) o)) (between o.place (length xs))
unfolding first within
first_at_front start xs e o lt = first_front start xs (e ∷ []) (ended (length xs) o) lt (omega arith)

first_more : (start : State) (xs : List Entry) (e : Entry) (o : Opening) → o.place < length xs → first start (xs ++ e ∷ []) (ended (length xs + 1) o) ≡ option_or (first start xs (ended (length xs) o)) (cond (conflicts_at start (xs ++ e ∷ []) (ended (length xs) o) (length xs)) (Some (length xs)) None)
unfolding first within
first_more start xs e o lt =
    ap (find (conflicts_at start (xs ++ e ∷ []) (ended (length xs + 1) o))) (between_more o.place (length xs) lt)
    ∙ same_pause start xs e o
    ∙ find-append (conflicts_at start (xs ++ e ∷ []) (ended (length xs) o)) (between o.place (length xs)) (length xs ∷ [])
    ∙ ap (λ f. option_or f (cond (conflicts_at start (xs ++ e ∷ []) (ended (length xs) o) (length xs)) (Some (length xs)) None)) (first_at_front start xs e o lt)

-- ---- what a claim has seen

-- a claim after the entry at the end of the list
abbrev pub shown : Option Seen → Claim → Claim
shown None claim = claim
shown (Some seen) claim = claim_after seen claim

abbrev seen_since : State → List Entry → Option ℕ → Option Seen
seen_since start xs found = option_and_then (seen_at start xs) found

abbrev the_claim : Opening → Access → Option Seen → Claim
the_claim o access seen = record { hart = o.hart; access = access; seen = seen }

conflicts_now : (start : State) (xs : List Entry) (o : Opening) (access : Access) (n j : ℕ) → next start xs o.place o.hart ≡ Some access → conflicts_at start xs (ended n o) j ≡ option_map_or (is_against o.hart access) (seen_at start xs j) false
unfolding conflicts_at paused_access
conflicts_now start xs o access n j would = ap (λ (a : Option Access). option_map_or (λ access. option_map_or (is_against o.hart access) (seen_at start xs j) false) a false) would

seen_some : (hart : ℕ) (access : Access) (seen : Option Seen) → option_map_or (is_against hart access) seen false ≡ true → is_none seen ≡ false
seen_some hart access None h = cc
seen_some hart access (Some s) h = refl

kept_seen : (o : Opening) (access : Access) (seen : Seen) (old : Option Seen) → is_none old ≡ false → the_claim o access old ≡ claim_after seen (the_claim o access old)
kept_seen o access seen None h = cc
kept_seen o access seen (Some s) h = refl

-- the claim of an open pause, from its first conflict before the end and what is seen at the end
seen_then : (start : State) (xs : List Entry) (e : Entry) (o : Opening) (access : Access) (now : Option Seen) (found : Option ℕ) → seen_at start (xs ++ e ∷ []) (length xs) ≡ now → ((j : ℕ) → found ≡ Some j → (j < length xs) × (is_none (seen_at start xs j) ≡ false)) → the_claim o access (seen_since start (xs ++ e ∷ []) (option_or found (cond (option_map_or (is_against o.hart access) now false) (Some (length xs)) None))) ≡ shown now (the_claim o access (seen_since start xs found))
seen_then start xs e o access None None is has = refl
seen_then start xs e o access None (Some j) is has = ap (the_claim o access) (seen_front start xs (e ∷ []) j (has j refl).0)
seen_then start xs e o access (Some seen) None is has =
    elim (is_against o.hart access seen) as (λ b. the_claim o access (seen_since start (xs ++ e ∷ []) (cond b (Some (length xs)) None)) ≡ the_claim o access (cond b (Some seen) None)) [
      | true ↦ ap (the_claim o access) is
      | false ↦ refl
    ]
seen_then start xs e o access (Some seen) (Some j) is has =
    ap (the_claim o access) (seen_front start xs (e ∷ []) j (has j refl).0)
    ∙ kept_seen o access seen (seen_at start xs j) (has j refl).1

one_claim : (start : State) (xs : List Entry) (e : Entry) (o : Opening) (access : Access) → o.place < length xs → next start xs o.place o.hart ≡ Some access → the_claim o access (seen_since start (xs ++ e ∷ []) (first start (xs ++ e ∷ []) (ended (length xs + 1) o))) ≡ shown (seen_at start (xs ++ e ∷ []) (length xs)) (the_claim o access (seen_since start xs (first start xs (ended (length xs) o))))
one_claim start xs e o access lt would =
    let would_now : next start (xs ++ e ∷ []) o.place o.hart ≡ Some access = next_front start xs (e ∷ []) o.place o.hart (omega arith) ∙ would in
    ap (λ f. the_claim o access (seen_since start (xs ++ e ∷ []) f))
    (first_more start xs e o lt
    ∙ ap (λ b. option_or (first start xs (ended (length xs) o)) (cond b (Some (length xs)) None)) (conflicts_now start (xs ++ e ∷ []) o access (length xs) (length xs) would_now))
    ∙ seen_then start xs e o access (seen_at start (xs ++ e ∷ []) (length xs)) (first start xs (ended (length xs) o)) refl
    (λ j found. let b = first_below start xs o (length xs) j lt found in (b.0, seen_some o.hart access (seen_at start xs j) (sym (conflicts_now start xs o access (length xs) j would) ∙ b.1)))

pub claim_push : (start : State) (xs : List Entry) (e : Entry) (o : Opening) → o.place < length xs → claim_of start (xs ++ e ∷ []) o ≡ option_map (shown (seen_at start (xs ++ e ∷ []) (length xs))) (claim_of start xs o)
unfolding claim_of
claim_push start xs e o lt =
    let same = next_front start xs (e ∷ []) o.place o.hart (omega arith) in
    rw (length-append xs (e ∷ []), same)
    (elim (next start xs o.place o.hart) as (λ (a : Option Access). next start xs o.place o.hart ≡ a → option_map (λ access. the_claim o access (seen_since start (xs ++ e ∷ []) (first start (xs ++ e ∷ []) (ended (length xs + 1) o)))) a ≡ option_map (shown (seen_at start (xs ++ e ∷ []) (length xs))) (option_map (λ access. the_claim o access (seen_since start xs (first start xs (ended (length xs) o)))) a)) [
      | None ↦ λ would. refl
      | Some access ↦ λ would. ap Some (one_claim start xs e o access lt would)
    ] refl)

-- ---- endings

pub bytes_front : (start : State) (xs ys : List Entry) (i : ℕ) (access : Access) → i ≤ length xs → bytes_at start (xs ++ ys) i access ≡ bytes_at start xs i access
unfolding bytes_at
bytes_front start xs ys i access le = rw (state_front start xs ys i le) refl

first_seen_front : (start : State) (xs ys : List Entry) (pause : Pause) → pause.paused_at < length xs → pause.resumed_at ≤ length xs → watched start (xs ++ ys) pause ≡ watched start xs pause
unfolding watched first within between
first_seen_front start xs ys pause lt le =
    ap (λ (f : Option ℕ). cond (is_some pause.slot) (seen_since start (xs ++ ys) f) None) (first_front start xs ys pause lt le)
    ∙ ap (λ (s : Option Seen). cond (is_some pause.slot) s None)
    (elim (first start xs pause) as (λ (f : Option ℕ). first start xs pause ≡ f → seen_since start (xs ++ ys) f ≡ seen_since start xs f) [
      | None ↦ λ found. refl
      | Some j ↦ λ found.
          let w = find_within (conflicts_at start xs pause) (pause.paused_at + 1) (pause.resumed_at - (pause.paused_at + 1)) j found in
          let from = w.from in
          let below = w.below in
          seen_front start xs ys j (inside pause.paused_at pause.resumed_at (length xs) j lt le from below)
    ] refl)

pub ending_front : (start : State) (xs ys : List Entry) (pause : Pause) (access : Access) → pause.paused_at < length xs → pause.resumed_at ≤ length xs → ending start (xs ++ ys) pause access ≡ ending start xs pause access
unfolding ending verdict
ending_front start xs ys pause access lt le =
    rw (first_seen_front start xs ys pause lt le, bytes_front start xs ys pause.paused_at access (omega arith), bytes_front start xs ys pause.resumed_at access le) refl
