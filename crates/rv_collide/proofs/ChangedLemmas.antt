-- Where the bytes of a paused access differ at the pause's end, another hart has written one of them.
use Rattle.std.proofs.Common.{◌≡◌, ◌≢◌, ℕ, zero, suc, ◌+◌, ◌-◌, ◌*◌, ◌≤◌, ◌<◌, ◌⊎◌, inl, inr, Bool, true, false, cond, List, length, Option, Some, None, refl, sym, ap, subst, ◌∙◌, arith}
use Rattle.std.specs.Prelude.{◌==◌, ◌&&◌, ◌||◌, not, find, is_some, IsSome, nat_le, nat_lt, min, max, unwrap_or, option_and_then, option_map}
use Rattle.std.specs.List.{range_with_len}
use Rattle.std.specs.Option.{option_map_or}
use Rattle.std.proofs.lemmas.Bool.Decides.{nat_tests}
use Rattle.rv_break.specs.declared.claim.Seen.{Seen}
use Rattle.rv_collide.specs.ChangedLaws.{Overwritten, ChangesAreWritten, ChangedIsWritten, WatchedIsNeverChanged}
use Rattle.rv_collide.specs.Entries.{stepped_at, between}
use Rattle.rv_collide.specs.First.{first, paused_access, seen_at, conflicts_at, is_against}
use Rattle.rv_collide.specs.Forced.{Setting}
use Rattle.rv_collide.specs.Legal.{IsLegal}
use Rattle.rv_collide.specs.Made.{made}
use Rattle.rv_collide.specs.Pause.{Pause, within}
use Rattle.rv_collide.specs.StateAt.{state_at}
use Rattle.rv_collide.specs.Verdict.{bytes_at, verdict, verdict_of, watched}
use Rattle.rv_collide.specs.declared.ending.Verdict.TheVariants.{Changed}
use Rattle.rv_collide.specs.declared.entry.Entry.{Entry}
use Rattle.rv_hart.specs.Conflict.{Touches, Shared, meets, conflicts, end_of}
use Rattle.rv_hart.specs.NextAccess.{accessed}
use Rattle.rv_hart.specs.ReservationLaws.{NextIsMade, StepsOfRunningHarts}
use Rattle.rv_hart.specs.State.{State}
use Rattle.rv_hart.specs.StepLaws.{OtherBytesStay, access_writes}
use Rattle.rv_hart.specs.Step.{step_of}
use Rattle.rv_hart.specs.declared.access.Access.{Access}
use Rattle.rv_hart.specs.declared.access.Event.{Event}
use Rattle.rv_memory.specs.Memory.{Memory, byte, load}
use Rattle.rv_collide.proofs.LawLemmas.{and_first, and_second, below_of, find_within, has, states}
use Rattle.rv_collide.proofs.HeldLemmas.{Grows, Same, Step, before, made_is}
use Rattle.rv_collide.proofs.OpenAt.{HasEnded, has_ended, step_not_paused, no_step_at}

pub record Laws : Type 0 where
  pub running : StepsOfRunningHarts
  pub next : NextIsMade
  pub bytes : OtherBytesStay

-- ---- a load is made of its bytes

record Byte (a : Option Access) (first size : ℕ) : Type 0 where
  pub at : ℕ
  pub from : first ≤ at
  pub below : at < first + size
  pub written : access_writes a at ≡ true

next_byte : (a : Option Access) (first size : ℕ) → Byte a (first + 1) size → Byte a first (suc size)
next_byte a first size b =
    let from = b.from in
    let below = b.below in
    record { at = b.at; from = omega arith; below = omega arith; written = b.written }

written_or_same : (a : Option Access) (m n : Memory) → ((address : ℕ) → access_writes a address ≡ false → byte n address ≡ byte m address) → (first size : ℕ) → Byte a first size ⊎ (load m first size ≡ load n first size)
written_or_same a m n stays first zero = inr refl
written_or_same a m n stays first (suc size) =
    elim (access_writes a first) as (λ b. access_writes a first ≡ b → Byte a first (suc size) ⊎ (load m first (suc size) ≡ load n first (suc size))) [
      | true ↦ λ is. inl (record { at = first; from = omega arith; below = omega arith; written = is })
      | false ↦ λ is. elim (written_or_same a m n stays (first + 1) size) [
        | inl b ↦ inl (next_byte a first size b)
        | inr same ↦ inr (ap (λ (b : Option ℕ). unwrap_or b 0 + 256 * load m (first + 1) size) (sym (stays first is)) ∙ ap (λ (rest : ℕ). unwrap_or (byte n first) 0 + 256 * rest) same)
      ]
    ] refl

-- ---- from one place to another

record Wrote (start : State) (entries : List Entry) (access : Access) (first until : ℕ) : Type 0 where
  pub place : ℕ
  pub from : first ≤ place
  pub below : place < until
  pub hart : ℕ
  pub own : stepped_at entries place ≡ Some hart
  pub by : Access
  pub did : made start entries place ≡ Some by
  pub at : ℕ
  pub paused : Touches access at
  pub written : access_writes (Some by) at ≡ true

abbrev WroteOrSame : State → List Entry → Access → ℕ → ℕ → Type 0
WroteOrSame start entries access first until =
    Wrote start entries access first until ⊎ (bytes_at start entries first access ≡ bytes_at start entries until access)

same_bytes : (start : State) (entries : List Entry) (access : Access) (p q : ℕ) (s t : State) → state_at start entries p ≡ Some s → state_at start entries q ≡ Some t → load s.memory access.first access.size ≡ load t.memory access.first access.size → bytes_at start entries p access ≡ bytes_at start entries q access
unfolding bytes_at
same_bytes start entries access p q s t here there same =
    ap (λ (o : Option State). option_map_or (λ (s : State). load s.memory access.first access.size) o 0) here
    ∙ same
    ∙ sym (ap (λ (o : Option State). option_map_or (λ (s : State). load s.memory access.first access.size) o 0) there)

the_access : (a : Option Access) (at : ℕ) → access_writes a at ≡ true → (by : Access) × (a ≡ Some by)
the_access None at h = cc
the_access (Some by) at h = (by, refl)

wrote_there : Laws → (start s t : State) (entries : List Entry) (access : Access) (place hart : ℕ) (event : Event) → state_at start entries place ≡ Some s → stepped_at entries place ≡ Some hart → step_of s hart ≡ Some (event, t) → Byte (accessed event) access.first access.size → Wrote start entries access place (place + 1)
wrote_there laws start s t entries access place hart event at own step b =
    let by = the_access (accessed event) b.at b.written in
    record {
      place = place;
      from = omega arith;
      below = omega arith;
      hart = hart;
      own = own;
      by = by.0;
      did = made_is laws.next start s t entries place hart event at own step ∙ by.1;
      at = b.at;
      paused = record { from = b.from; before = b.below };
      written = subst (λ (a : Option Access). access_writes a b.at ≡ true) by.1 b.written;
    }

grown : Laws → (start s t : State) (entries : List Entry) (access : Access) (place : ℕ) → state_at start entries place ≡ Some s → state_at start entries (place + 1) ≡ Some t → Grows s t entries place → WroteOrSame start entries access place (place + 1)
grown laws start s t entries access place at after (Same none same) =
    inr (same_bytes start entries access place (place + 1) s t at after (ap (λ (u : State). load u.memory access.first access.size) same))
grown laws start s t entries access place at after (Step hart event own step) =
    elim (written_or_same (accessed event) s.memory t.memory (laws.bytes s t hart event step) access.first access.size) [
      | inl b ↦ inl (wrote_there laws start s t entries access place hart event at own step b)
      | inr same ↦ inr (same_bytes start entries access place (place + 1) s t at after same)
    ]

one_place : Laws → (start : State) (entries : List Entry) (access : Access) (place : ℕ) (t : State) → place < length entries → state_at start entries (place + 1) ≡ Some t → WroteOrSame start entries access place (place + 1)
one_place laws start entries access place t below at =
    let b = before start entries place t below at in
    grown laws start b.state t entries access place b.reached at b.grows

wrote_wider : (start : State) (entries : List Entry) (access : Access) (first until a b : ℕ) → a ≤ first → until ≤ b → Wrote start entries access first until → Wrote start entries access a b
wrote_wider start entries access first until a b lo hi w =
    let from = w.from in
    let below = w.below in
    record { place = w.place; from = omega arith; below = omega arith; hart = w.hart; own = w.own; by = w.by; did = w.did; at = w.at; paused = w.paused; written = w.written }

no_more : (a : ℕ) → a + 0 ≡ a
no_more a = omega arith

one_more : (a n : ℕ) → (a + n) + 1 ≡ a + suc n
one_more a n = omega arith

places_on : Laws → (start : State) (entries : List Entry) (access : Access) (first n : ℕ) → first + n ≤ length entries → ((place : ℕ) → place ≤ length entries → IsSome (state_at start entries place)) → WroteOrSame start entries access first (first + n)
places_on laws start entries access first zero le defined = inr (ap (λ (p : ℕ). bytes_at start entries p access) (sym (no_more first)))
places_on laws start entries access first (suc n) le defined =
    let t = has (state_at start entries (first + n + 1)) (defined (first + n + 1) (omega arith)) in
    subst (λ (p : ℕ). WroteOrSame start entries access first p) (one_more first n)
    (elim (places_on laws start entries access first n (omega arith) defined) [
      | inl w ↦ inl (wrote_wider start entries access first (first + n) first (first + n + 1) (omega arith) (omega arith) w)
      | inr same ↦ elim (one_place laws start entries access (first + n) t.0 (omega arith) t.1) [
        | inl w ↦ inl (wrote_wider start entries access (first + n) (first + n + 1) first (first + n + 1) (omega arith) (omega arith) w)
        | inr still ↦ inr (same ∙ still)
      ]
    ])

-- ---- within a pause

at_most : (a b : ℕ) → nat_le a b ≡ true → a ≤ b
at_most a b h = grind (arith, nat_tests)

touched : (by : Access) (at : ℕ) → access_writes (Some by) at ≡ true → (by.write ≡ true) × Touches by at
touched by at h =
    let range = and_second by.write (nat_le by.first at && nat_lt at (end_of by)) h in (
      and_first by.write (nat_le by.first at && nat_lt at (end_of by)) h,
      record { from = at_most by.first at (and_first (nat_le by.first at) (nat_lt at (end_of by)) range); before = below_of at (end_of by) (and_second (nat_le by.first at) (nat_lt at (end_of by)) range) },
    )

seen_there : (start : State) (entries : List Entry) (place hart : ℕ) (by : Access) → stepped_at entries place ≡ Some hart → made start entries place ≡ Some by → seen_at start entries place ≡ Some (record { place = place; hart = hart; access = by })
unfolding seen_at
seen_there start entries place hart by own did =
    ap (option_and_then (λ hart. option_map (λ access. record { place = place; hart = hart; access = access }) (made start entries place))) own
    ∙ ap (option_map (λ access. record { place = place; hart = hart; access = access })) did

no_own_place : (o : Option ℕ) (hart : ℕ) → o ≡ None → o ≡ Some hart → ⊥
no_own_place o hart none some = cc

strictly : (a b : ℕ) → a ≤ b → a ≢ b → a < b
strictly a b le ne = omega arith

overwritten : (setting : Setting) (entries : List Entry) (place : ℕ) (pause : Pause) (access : Access) → IsLegal setting entries → HasEnded entries place pause → Wrote setting.start entries access pause.paused_at pause.resumed_at → Overwritten setting.start entries pause access
overwritten setting entries place pause access legal p w =
    let from = w.from in
    let below = w.below in
    let ends = p.ends in
    let late : pause.paused_at < w.place = strictly pause.paused_at w.place from (λ same. no_own_place (stepped_at entries pause.paused_at) w.hart (no_step_at entries place pause p) (subst (λ (q : ℕ). stepped_at entries q ≡ Some w.hart) (sym same) w.own)) in
    let parts = touched w.by w.at w.written in
    record {
      seen = record { place = w.place; hart = w.hart; access = w.by };
      after = late;
      before = below;
      others = λ same. step_not_paused setting entries place pause legal p w.place late (omega arith) (w.own ∙ ap Some (sym same));
      did = seen_there setting.start entries w.place w.hart w.by w.own w.did;
      writes = parts.0;
      shared = record { address = w.at; of_one = w.paused; of_other = parts.1 };
    }

until_end : (a b : ℕ) → a < b → a + (b - a) ≡ b
until_end a b lt = omega arith

pub changes : Laws → ChangesAreWritten
changes laws setting entries place pause access legal ended would differ =
    let p = has_ended entries place pause ended in
    let inside = p.inside in
    let starts = p.starts in
    let ends = p.ends in
    let end : pause.paused_at + (pause.resumed_at - pause.paused_at) ≡ pause.resumed_at = until_end pause.paused_at pause.resumed_at (omega arith) in
    let found : WroteOrSame setting.start entries access pause.paused_at pause.resumed_at =
    subst (λ (q : ℕ). WroteOrSame setting.start entries access pause.paused_at q) end
    (places_on laws setting.start entries access pause.paused_at (pause.resumed_at - pause.paused_at) (omega arith) (λ q le. states laws.running setting entries legal q le)) in
    elim found [
      | inl w ↦ overwritten setting entries place pause access legal p w
      | inr same ↦ absurd (differ same)
    ]

-- ---- by the verdict

when_changed : (o : Option Seen) (same : Bool) → verdict_of o same ≡ Changed → (o ≡ None) × (same ≡ false)
when_changed (Some seen) same h = cc
when_changed None true h = cc
when_changed None false h = (refl, refl)

differing : (a b : ℕ) → (a == b) ≡ false → a ≢ b
differing a b h same = grind (arith, nat_tests)

verdict_parts : (start : State) (entries : List Entry) (pause : Pause) (access : Access) → verdict start entries pause access ≡ Changed → (watched start entries pause ≡ None) × (bytes_at start entries pause.paused_at access ≢ bytes_at start entries pause.resumed_at access)
unfolding verdict
verdict_parts start entries pause access h =
    let parts = when_changed (watched start entries pause) (bytes_at start entries pause.paused_at access == bytes_at start entries pause.resumed_at access) h in
    (parts.0, differing (bytes_at start entries pause.paused_at access) (bytes_at start entries pause.resumed_at access) parts.1)

pub changed : Laws → ChangedIsWritten
changed laws setting entries place pause access legal ended would h =
    changes laws setting entries place pause access legal ended would (verdict_parts setting.start entries pause access h).1

-- ---- a data breakpoint sees the write

never : (b : Bool) → b ≡ false → b ≡ true → ⊥
never b h k = cc

find_some : (p : ℕ → Bool) (a n place : ℕ) → a ≤ place → place < a + n → p place ≡ true → (j : ℕ) × (find p (range_with_len a n) ≡ Some j)
find_some p a zero place lo hi passes = absurd (omega arith)
find_some p a (suc n) place lo hi passes =
    elim (p a) as (λ b. p a ≡ b → (j : ℕ) × (cond b (Some a) (find p (range_with_len (a + 1) n)) ≡ Some j)) [
      | true ↦ λ is. (a, refl)
      | false ↦ λ is.
          let later : a < place = strictly a place lo (λ same. never (p a) is (ap p same ∙ passes)) in
          find_some p (a + 1) n place (omega arith) (omega arith) passes
    ] refl

both : (b c : Bool) → b ≡ true → c ≡ true → (b && c) ≡ true
both b c h k = cc

or_right : (b c : Bool) → c ≡ true → (b || c) ≡ true
or_right true c h = refl
or_right false c h = h

apart : (a b : ℕ) → a ≢ b → not (a == b) ≡ true
apart a b ne = grind (arith, nat_tests)

is_less : (a b : ℕ) → a < b → nat_lt a b ≡ true
is_less a b lt = grind (arith, nat_tests)

met : (a b at : ℕ) (c d : ℕ) → a ≤ at → b ≤ at → at < c → at < d → max a b < min c d
met a b at c d h k l m = omega arith

against : (hart : ℕ) (access : Access) (seen : Seen) → hart ≢ seen.hart → Shared access seen.access → seen.access.write ≡ true → is_against hart access seen ≡ true
against hart access seen ne s writes =
    both (not (hart == seen.hart)) (conflicts access seen.access) (apart hart seen.hart ne)
    (both (meets access seen.access) (access.write || seen.access.write)
    (is_less (max access.first seen.access.first) (min (end_of access) (end_of seen.access)) (met access.first seen.access.first s.address (end_of access) (end_of seen.access) s.of_one.from s.of_other.from s.of_one.before s.of_other.before))
    (or_right access.write seen.access.write writes))

conflict_there : (start : State) (entries : List Entry) (pause : Pause) (access : Access) (place : ℕ) → paused_access start entries pause ≡ Some access → conflicts_at start entries pause place ≡ option_map_or (is_against pause.hart access) (seen_at start entries place) false
unfolding conflicts_at
conflict_there start entries pause access place would =
    ap (λ (o : Option Access). option_map_or (λ access. option_map_or (is_against pause.hart access) (seen_at start entries place) false) o false) would

conflict_sees : (start : State) (entries : List Entry) (pause : Pause) (access : Access) → paused_access start entries pause ≡ Some access → (w : Overwritten start entries pause access) → conflicts_at start entries pause w.seen.place ≡ true
conflict_sees start entries pause access would w =
    conflict_there start entries pause access w.seen.place would
    ∙ ap (λ (o : Option Seen). option_map_or (is_against pause.hart access) o false) w.did
    ∙ against pause.hart access w.seen w.others w.shared w.writes

seen_some : (hart : ℕ) (access : Access) (o : Option Seen) → option_map_or (is_against hart access) o false ≡ true → (seen : Seen) × (o ≡ Some seen)
seen_some hart access None h = cc
seen_some hart access (Some seen) h = (seen, refl)

inside_pause : (a b place : ℕ) → a < place → place < b → place < (a + 1) + (b - (a + 1))
inside_pause a b place lo hi = omega arith

none_is_not_some : (x : Seen) → None ≡ Some x → ⊥
none_is_not_some x h = cc

first_some : (start : State) (entries : List Entry) (pause : Pause) (access : Access) → paused_access start entries pause ≡ Some access → Overwritten start entries pause access → (j : ℕ) × (first start entries pause ≡ Some j) × (conflicts_at start entries pause j ≡ true)
unfolding first within between
first_some start entries pause access would w =
    let after = w.after in
    let p : ℕ → Bool = conflicts_at start entries pause in
    let found = find_some p (pause.paused_at + 1) (pause.resumed_at - (pause.paused_at + 1)) w.seen.place (omega arith) (inside_pause pause.paused_at pause.resumed_at w.seen.place after w.before) (conflict_sees start entries pause access would w) in
    (found.0, found.1, (find_within p (pause.paused_at + 1) (pause.resumed_at - (pause.paused_at + 1)) found.0 found.1).passes)

watched_is : (start : State) (entries : List Entry) (pause : Pause) (slot j : ℕ) (seen : Seen) → pause.slot ≡ Some slot → first start entries pause ≡ Some j → seen_at start entries j ≡ Some seen → watched start entries pause ≡ Some seen
unfolding watched
watched_is start entries pause slot j seen claimed found sees =
    ap (λ (s : Option ℕ). cond (is_some s) (option_and_then (seen_at start entries) (first start entries pause)) None) claimed
    ∙ ap (option_and_then (seen_at start entries)) found
    ∙ sees

watched_some : (start : State) (entries : List Entry) (pause : Pause) (access : Access) (slot : ℕ) → paused_access start entries pause ≡ Some access → pause.slot ≡ Some slot → Overwritten start entries pause access → watched start entries pause ≡ None → ⊥
watched_some start entries pause access slot would claimed w none =
    let f = first_some start entries pause access would w in
    let seen = seen_some pause.hart access (seen_at start entries f.0) (sym (conflict_there start entries pause access f.0 would) ∙ f.2) in
    none_is_not_some seen.0 (sym none ∙ watched_is start entries pause slot f.0 seen.0 claimed f.1 seen.1)

pub watched_never : Laws → WatchedIsNeverChanged
watched_never laws setting entries place pause access slot legal ended would claimed h =
    watched_some setting.start entries pause access slot would claimed (changed laws setting entries place pause access legal ended would h)
    (verdict_parts setting.start entries pause access h).0
