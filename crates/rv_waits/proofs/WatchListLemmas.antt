-- The anchors of all harts, after a step of one.
use Rattle.std.proofs.Common.{◌≡◌, ◌≢◌, ℕ, zero, suc, ◌+◌, ◌≤◌, ◌<◌, ◌⊎◌, inl, inr, Bool, true, false, Option, Some, None, List, [], ◌∷◌, ◌++◌, length, set, refl, sym, ap, subst, ◌∙◌, arith, length-append}
use Rattle.std.specs.Prelude.{slice_get, IsSomeAnd, ◌==◌}
use Rattle.std.proofs.Math.ListN.{length-set}
use Rattle.std.proofs.lemmas.Bool.{cases_eq, cases_lt}
use Rattle.std.proofs.lemmas.Bool.Decides.{nat_tests}
use Rattle.std.proofs.lemmas.List.{length-map}
use Rattle.std.proofs.lemmas.Option.{slice_get_past}
use Rattle.rv_hart.specs.Locality.{LocalityLaw}
use Rattle.rv_hart.specs.NextAccess.{accessed, next_access}
use Rattle.rv_hart.specs.State.{State}
use Rattle.rv_hart.specs.Step.{step_of}
use Rattle.rv_hart.specs.StepLaws.{OtherBytesStay, OtherHartsStay, access_writes}
use Rattle.rv_hart.specs.declared.access.Access.{Access}
use Rattle.rv_hart.specs.declared.access.Event.{Event}
use Rattle.rv_hart.specs.declared.access.Event.TheVariants.{Moved}
use Rattle.rv_hart.specs.declared.hart.Hart.{Hart}
use Rattle.rv_memory.specs.MemoryLaws.{StoreKeepsOtherBytes, StoreKeepsPermissions}
use Rattle.rv_waits.specs.Touched.{covers}
use Rattle.rv_waits.specs.Touches.{is_among}
use Rattle.rv_waits.specs.Watch.{IsAnchor, IsWatchOf}
use Rattle.rv_waits.specs.declared.watch.Anchor.{Anchor}
use Rattle.rv_waits.specs.internal.Added.{IsAdded}
use Rattle.rv_waits.specs.internal.Anchored.{IsGoneOn, IsLooked, IsNew, IsOneMore}
use Rattle.rv_waits.specs.internal.Looked.{AreLooked, AreNew}
use Rattle.rv_waits.specs.internal.Moves.{IsMove, IsSetAt, WritesAmong}
use Rattle.rv_waits.proofs.StepLemmas.{next_is_accessed, some_and, step_is}
use Rattle.rv_waits.proofs.WatchLemmas.{anchor_left, anchor_more, anchor_now}

-- ---- lists

get_set_other : (xs : List Anchor) (i j : ℕ) (x : Anchor) → j ≢ i → slice_get (set xs i x) j ≡ slice_get xs j
get_set_other [] i j x ne = refl
get_set_other (y ∷ ys) zero zero x ne = absurd (ne refl)
get_set_other (y ∷ ys) zero (suc j) x ne = refl
get_set_other (y ∷ ys) (suc i) zero x ne = refl
get_set_other (y ∷ ys) (suc i) (suc j) x ne = get_set_other ys i j x (λ e. ne (ap suc e))

get_set_same : (xs : List Anchor) (i : ℕ) (x y : Anchor) → slice_get (set xs i x) i ≡ Some y → y ≡ x
get_set_same [] i x y h = cc
get_set_same (z ∷ zs) zero x y h = cc
get_set_same (z ∷ zs) (suc i) x y h = get_set_same zs i x y h

get_within : (xs : List Anchor) (i : ℕ) (x : Anchor) → slice_get xs i ≡ Some x → i < length xs
get_within xs i x h =
    elim (cases_lt i (length xs)) [
      | inl below ↦ below
      | inr past ↦ let none : slice_get xs i ≡ None = slice_get_past xs i past in cc
    ]

get_snoc : (xs : List Anchor) (j : ℕ) (x y : Anchor) → slice_get (xs ++ x ∷ []) j ≡ Some y → (slice_get xs j ≡ Some y) ⊎ ((j ≡ length xs) × (y ≡ x))
get_snoc [] zero x y h = inr (refl, cc)
get_snoc [] (suc j) x y h = cc
get_snoc (z ∷ zs) zero x y h = inl h
get_snoc (z ∷ zs) (suc j) x y h =
    elim (get_snoc zs j x y h) [
      | inl there ↦ inl there
      | inr last ↦ inr (ap suc last.0, last.1)
    ]

step_length : (s t : State) (h : ℕ) (event : Event) → step_of s h ≡ Some (event, t) → length t.harts ≡ length s.harts
step_length s t h event step =
    let w = step_is s t h event step in
    ap (λ (u : State). length u.harts) w.1.after ∙ simp (length-set, length-map)

set_and_unset : (b : Bool) → b ≡ true → b ≡ false → ⊥
set_and_unset true e f = cc
set_and_unset false e f = cc

-- ---- as they are now

new_anchor : (s : State) (h : ℕ) (hart : Hart) (anchor : Anchor) → slice_get s.harts h ≡ Some hart → IsNew hart anchor → IsAnchor s h anchor
new_anchor s h hart anchor there new = anchor_now s h hart anchor there new.hart new.steps new.polls

pub new_none : (harts : List Hart) → AreNew 0 harts []
new_none harts = record { count = refl; each = λ j anchor e. cc }

pub new_more : (k : ℕ) (harts : List Hart) (anchors : List Anchor) (hart : Hart) (anchor : Anchor) → AreNew k harts anchors → slice_get harts k ≡ Some hart → IsNew hart anchor → AreNew (k + 1) harts (anchors ++ anchor ∷ [])
new_more k harts anchors hart anchor so_far there new =
    let each : (j : ℕ) (a : Anchor) → slice_get (anchors ++ anchor ∷ []) j ≡ Some a → (it : Hart) × (slice_get harts j ≡ Some it) × IsNew it a = λ j a e.
    elim (get_snoc anchors j anchor a e) [
      | inl before ↦ so_far.each j a before
      | inr last ↦
          let at : j ≡ k = last.0 ∙ so_far.count in
          (hart, ap (slice_get harts) at ∙ there, subst (IsNew hart) (sym last.1) new)
    ] in
    record { count = omega (arith, so_far.count, length-append anchors (anchor ∷ [])); each = each }

pub new_watch : (s : State) (anchors : List Anchor) → AreNew (length s.harts) s.harts anchors → IsWatchOf anchors s
new_watch s anchors new =
    record { count = new.count; each = λ h anchor e is_set. let it = new.each h anchor e in new_anchor s h it.0 anchor it.1 it.2 }

-- ---- after a step that changed nothing

pub watch_more : LocalityLaw → OtherHartsStay → StoreKeepsOtherBytes → StoreKeepsPermissions → (anchors : List Anchor) (t : State) (h pc : ℕ) (access : Option Access) (old new : Anchor) (now : Hart) → slice_get anchors h ≡ Some old → slice_get t.harts h ≡ Some now → IsGoneOn old now pc access new →
    (s : State) → IsWatchOf anchors s → IsMove anchors s t h pc access → IsWatchOf (set anchors h new) t
watch_more local stay keeps permissions anchors t h pc access old new now there_old there_now gone s watch move =
    let it = some_and {P = λ hart. pc ≡ hart.pc} (slice_get s.harts h) move.at_pc in
    let made : access ≡ next_access s h = sym (next_is_accessed s t h (Moved access) move.step) in
    let more : IsOneMore old new pc access → IsAnchor t h new = λ m.
    let set_at : IsSetAt anchors h = subst (λ (o : Option Anchor). IsSomeAnd o (λ a. a.is_set ≡ true)) (sym there_old) m.was_set in
    anchor_more local keeps s t h it.0 access old new (watch.each h old there_old m.was_set) (move.quiet set_at) it.1 made m.hart m.steps (subst (λ (k : ℕ). IsAdded old.seen.touched new.seen.touched k access) it.2 m.touched) m.polls in
    let own : new.is_set ≡ true → IsAnchor t h new = elim gone [
      | inl anew ↦ λ is_set. new_anchor t h now new there_now anew
      | inr other ↦ elim other [
        | inl unset ↦ λ is_set. absurd (set_and_unset new.is_set is_set unset)
        | inr m ↦ λ is_set. more m
      ]
    ] in
    let each : (k : ℕ) (a : Anchor) → slice_get (set anchors h new) k ≡ Some a → a.is_set ≡ true → IsAnchor t k a = λ k a e is_set.
    elim (cases_eq k h) [
      | inl same ↦
          let here : slice_get (set anchors h new) h ≡ Some a = ap (slice_get (set anchors h new)) (sym same) ∙ e in
          let is_new : a ≡ new = get_set_same anchors h new a here in
          subst (λ (x : Anchor). IsAnchor t k x) (sym is_new) (subst (λ (i : ℕ). IsAnchor t i new) (sym same) (own (ap (λ (x : Anchor). x.is_set) (sym is_new) ∙ is_set)))
      | inr other ↦
          let there : slice_get anchors k ≡ Some a = sym (get_set_other anchors h k new other) ∙ e in
          anchor_left local stay keeps permissions s t k h (Moved access) a (watch.each k a there is_set) move.step (λ x. other (sym x)) (λ address c. rw move.memory refl)
    ] in
    record { count = length-set anchors h new ∙ watch.count ∙ sym (step_length s t h (Moved access) move.step); each = each }

-- ---- after another step

pub looked_none : (h first size : ℕ) (old : List Anchor) → AreLooked 0 h first size old old
looked_none h first size old = record { count = refl; rest = λ j from. refl; done = λ j anchor below e. absurd (omega arith) }

pub looked_more : (k h first size : ℕ) (old now : List Anchor) (was new : Anchor) → AreLooked k h first size old now → slice_get now k ≡ Some was → IsLooked was (k == h) first size new → AreLooked (k + 1) h first size old (set now k new)
looked_more k h first size old now was new so_far there looked =
    let rest : (j : ℕ) → k + 1 ≤ j → slice_get (set now k new) j ≡ slice_get old j = λ j from.
    get_set_other now k j new (λ e. absurd (omega arith)) ∙ so_far.rest j (omega arith) in
    let done : (j : ℕ) (a : Anchor) → j < k + 1 → slice_get (set now k new) j ≡ Some a → (w : Anchor) × (slice_get old j ≡ Some w) × IsLooked w (j == h) first size a = λ j a below e.
    elim (cases_eq j k) [
      | inl same ↦
          let is_new : a ≡ new = get_set_same now k new a (ap (slice_get (set now k new)) (sym same) ∙ e) in
          let was_there : slice_get old j ≡ Some was = ap (slice_get old) same ∙ sym (so_far.rest k (omega arith)) ∙ there in
          (was, was_there, subst (λ (x : Anchor). IsLooked was (j == h) first size x) (sym is_new) (subst (λ (i : ℕ). IsLooked was (i == h) first size new) (sym same) looked))
      | inr other ↦ so_far.done j a (omega arith) (sym (get_set_other now k j new other) ∙ e)
    ] in
    record { count = length-set now k new ∙ so_far.count; rest = rest; done = done }

not_own : (j h : ℕ) → (j == h) ≡ false → h ≢ j
not_own j h e same = grind (arith, nat_tests)

-- what is touched is not written, where none of the bytes that may be written is touched
unwritten : (first size address : ℕ) (touched written : Bool) → (written ≡ true → is_among first size address ≡ true) → (is_among first size address ≡ true → touched ≡ false) → touched ≡ true → written ≡ false
unwritten first size address touched true among apart is_touched = absurd (set_and_unset touched is_touched (apart (among refl)))
unwritten first size address touched false among apart is_touched = refl

pub looked_all : LocalityLaw → OtherHartsStay → OtherBytesStay → StoreKeepsOtherBytes → StoreKeepsPermissions → (k h first size : ℕ) (old now : List Anchor) → AreLooked k h first size old now → length now ≤ k →
    (s t : State) (event : Event) → IsWatchOf old s → step_of s h ≡ Some (event, t) → WritesAmong first size (accessed event) → IsWatchOf now t
looked_all local stay bytes keeps permissions k h first size old now looked past s t event watch step among =
    let each : (j : ℕ) (a : Anchor) → slice_get now j ≡ Some a → a.is_set ≡ true → IsAnchor t j a = λ j a e is_set.
    let within : j < length now = get_within now j a e in
    let it = looked.done j a (omega arith) e in
    elim it.2 [
      | inl unset ↦ absurd (set_and_unset a.is_set is_set unset)
      | inr kept ↦
          let was : IsAnchor s j it.0 = watch.each j it.0 it.1 (ap (λ (x : Anchor). x.is_set) (sym kept.same) ∙ is_set) in
          let apart : (address : ℕ) → covers it.0.seen.touched address ≡ true → access_writes (accessed event) address ≡ false = λ address c.
          unwritten first size address (covers it.0.seen.touched address) (access_writes (accessed event) address) (among address) (kept.apart address) c in
          let left : IsAnchor t j it.0 = anchor_left local stay keeps permissions s t j h event it.0 was step (not_own j h kept.other) (λ address c. bytes s t h event step address (apart address c)) in
          subst (λ (x : Anchor). IsAnchor t j x) (sym kept.same) left
    ] in
    record { count = looked.count ∙ watch.count ∙ sym (step_length s t h event step); each = each }
