use Rattle.std.proofs.Common.{◌≡◌, ℕ, ◌+◌, ◌<◌, ◌≤◌, Bool, IsTrue, true, false, cond, List, ◌++◌, Option, Some, None, length, map, set, take, drop, refl, sym, ap, subst, ◌∙◌, arith, length-append, length-drop}
use Rattle.std.specs.Prelude.{slice_get, is_some, IsSomeAnd, Result, Ok, Err, is_err, OnErr, OnOk}
use Rattle.std.proofs.Math.ListN.{length-set}
use Rattle.std.proofs.lemmas.Grind.{common_steps}
use Rattle.std.proofs.lemmas.List.{length-map, append-nil, length-take}
use Rattle.rv_hart.specs.NextAccess.{accessed, access_of_step, is_write, next_access}
use Rattle.rv_hart.specs.Refusals.{is_print}
use Rattle.rv_hart.specs.internal.Able.{IsAble, IsAbleWrite, AreBytes}
use Rattle.rv_hart.specs.internal.Harts.{HartsAfter}
use Rattle.rv_hart.specs.internal.Machine.{RunsTo, Takes}
use Rattle.rv_hart.specs.State.{State}
use Rattle.rv_hart.specs.Step.{step_of, step_by, loaded_by, written_by, memory_after, event_of, printed, reserves, seen_by, hart_after}
use Rattle.rv_hart.specs.declared.access.Event.{Event}
use Rattle.rv_hart.specs.declared.access.Event.TheVariants.{Moved}
use Rattle.rv_hart.specs.declared.action.Action.{Action}
use Rattle.rv_hart.specs.declared.action.Action.TheVariants.{Trap, Set, Load, Store, Reserve, Conditional, Replace, Print, Exit}
use Rattle.rv_hart.specs.declared.hart.Hart.{Hart}
use Rattle.rv_hart.specs.declared.write.Write.{Write}
use Rattle.rv_hart.proofs.HartsLemmas.{none_seen}
use Rattle.rv_memory.specs.Memory.{Memory}
use Rattle.rv_memory.specs.MemoryLaws.{StoreKeepsSound}
use Rattle.rv_memory.specs.Sound.{IsSound}

-- what an able action writes are bytes that there are
able_if : (m : Memory) (b : Bool) (w : Write) → AreBytes m w.address w.size → IsAbleWrite m (cond b (Some w) None)
able_if m true w h = h
able_if m false w h = tt

pub able_write : (m : Memory) (loaded : ℕ) (hart : Hart) (action : Action) → IsAble m action → IsAbleWrite m (written_by loaded hart action)
able_write m loaded hart (Load rd address size signed) h = tt
able_write m loaded hart (Store address size value) h = h
able_write m loaded hart (Reserve rd address) h = tt
able_write m loaded hart (Conditional rd address value) h =
    able_if m (reserves hart.reservation address) (record { address = address; size = 4; value = value }) h
able_write m loaded hart (Replace rd address combine value) h = h
able_write m loaded hart (Trap cause) h = tt
able_write m loaded hart (Set rd value next) h = tt
able_write m loaded hart (Print byte) h = tt
able_write m loaded hart (Exit code) h = tt

-- a fact of hart h, with the hart
pub some_hart : {P : Hart → Type 0} (o : Option Hart) → IsSomeAnd o P → (hart : Hart) × (o ≡ Some hart) × P hart
some_hart None h = absurd h
some_hart (Some hart) h = (hart, refl, h)

-- The parts of a step, put together.
pub step_parts : (s : State) (h : ℕ) (hart : Hart) (action : Action) → slice_get s.harts h ≡ Some hart → RunsTo s.memory hart action →
    step_of s h ≡ Some (step_by s h hart action)
unfolding step_of
step_parts s h hart action found runs = rw (found, runs.running, runs.next)

pub harts_of : (old new : List Hart) (h loaded : ℕ) (action : Action) (w : Option Write) (hart : Hart) → slice_get old h ≡ Some hart → HartsAfter old new h loaded action w → new ≡ set (map (seen_by w) old) h (hart_after loaded hart action)
harts_of old new h loaded action w hart found after =
    let P : Hart → Type 0 = λ x. new ≡ set (map (seen_by w) old) h (hart_after loaded x action) in
    subst (λ (o : Option Hart). IsSomeAnd o P) found after

same_state : (t : State) (harts : List Hart) (memory : Memory) (output : List ℕ) → t.harts ≡ harts → t.memory ≡ memory → t.output ≡ output → t ≡ record { harts = harts; memory = memory; output = output }
same_state t harts memory output a b o = rw (← a, ← b, ← o)

runs_at : (s : State) (h : ℕ) (hart : Hart) (action : Action) → slice_get s.harts h ≡ Some hart → Takes s h action → RunsTo s.memory hart action
runs_at s h hart action found takes =
    let P : Hart → Type 0 = λ x. RunsTo s.memory x action in
    subst (λ (o : Option Hart). IsSomeAnd o P) found takes

pub step_made : (s t : State) (h loaded : ℕ) (hart : Hart) (action : Action) (w : Option Write) (event : Event) → slice_get s.harts h ≡ Some hart → Takes s h action →
    loaded ≡ loaded_by s.memory action → w ≡ written_by loaded hart action → event ≡ event_of hart action →
    HartsAfter s.harts t.harts h loaded action w → t.memory ≡ memory_after s.memory w → t.output ≡ s.output ++ printed action →
    step_of s h ≡ Some (event, t)
step_made s t h loaded hart action w event found takes l w_is e harts memory output =
    let now : w ≡ written_by (loaded_by s.memory action) hart action = w_is ∙ ap (λ n. written_by n hart action) l in
    let after = harts_of s.harts t.harts h loaded action w hart found harts in
    let after_now : t.harts ≡ set (map (seen_by (written_by (loaded_by s.memory action) hart action)) s.harts) h (hart_after (loaded_by s.memory action) hart action) = after ∙ ap (λ x. set (map (seen_by x) s.harts) h (hart_after loaded hart action)) now ∙ ap (λ n. set (map (seen_by (written_by (loaded_by s.memory action) hart action)) s.harts) h (hart_after n hart action)) l in
    let memory_now : t.memory ≡ memory_after s.memory (written_by (loaded_by s.memory action) hart action) = memory ∙ ap (memory_after s.memory) now in
    let whole = same_state t _ _ _ after_now memory_now output in
    rw (e, whole) (step_parts s h hart action found (runs_at s h hart action found takes))

-- what only sets a register leaves the memory, the output and the other harts
pub set_made : (s t : State) (h rd value next : ℕ) (hart : Hart) → slice_get s.harts h ≡ Some hart → Takes s h (Set rd value next) →
    t.harts ≡ set s.harts h (hart_after 0 hart (Set rd value next)) → t.memory ≡ s.memory → t.output ≡ s.output →
    step_of s h ≡ Some (Moved None, t)
set_made s t h rd value next hart found takes harts memory output =
    let action : Action = Set rd value next in
    let after : HartsAfter s.harts t.harts h 0 action None = rw (found, none_seen s.harts) harts in
    step_made s t h 0 hart action None (Moved None) found takes refl refl refl after memory (output ∙ sym (append-nil s.output))

-- the harts keep their number
pub harts_count : (old new : List Hart) (h loaded : ℕ) (action : Action) (w : Option Write) (hart : Hart) → slice_get old h ≡ Some hart → HartsAfter old new h loaded action w → length new ≡ length old
harts_count old new h loaded action w hart found after =
    ap length (harts_of old new h loaded action w hart found after) ∙ simp (length-set, length-map)

take_whole : (xs rest : List Hart) (n : ℕ) → n ≡ length xs → take n (xs ++ rest) ≡ xs
take_whole xs rest n e = grind (arith, common_steps)

-- the harts that were lent as a slice, back in their vector
pub harts_back : (old lent new : List Hart) (n h loaded : ℕ) (action : Action) (w : Option Write) (hart : Hart) → lent ≡ old → n ≡ length old → slice_get old h ≡ Some hart → HartsAfter lent new h loaded action w →
    HartsAfter old (take n (new ++ drop (length new) old)) h loaded action w
harts_back old lent new n h loaded action w hart e count found after =
    let from_old : HartsAfter old new h loaded action w = subst (λ (x : List Hart). HartsAfter x new h loaded action w) e after in
    let same : take n (new ++ drop (length new) old) ≡ new = take_whole new (drop (length new) old) n (count ∙ sym (harts_count old new h loaded action w hart found from_old)) in
    rw same from_old

-- and their number
pub length_back : (old new : List Hart) (n : ℕ) → n ≡ length old → length (take n (new ++ drop (length new) old)) ≡ length old
length_back old new n count = simp (length-take, length-append, length-drop) (omega arith)

pub sound_after : (m : Memory) (w : Option Write) → StoreKeepsSound → IsSound m → IsSound (memory_after m w)
sound_after m None keeps sound = sound
sound_after m (Some w) keeps sound = keeps m w.address w.size w.value sound

-- what is printed has room
pub prints_within : (action : Action) (n limit : ℕ) → n ≤ limit → (IsTrue (is_print action) → n < limit) → n + length (printed action) ≤ limit
prints_within (Print byte) n limit within room =
    let below : n < limit = room refl in
    omega arith
prints_within (Trap cause) n limit within room = omega arith
prints_within (Set rd value next) n limit within room = omega arith
prints_within (Load rd address size signed) n limit within room = omega arith
prints_within (Store address size value) n limit within room = omega arith
prints_within (Reserve rd address) n limit within room = omega arith
prints_within (Conditional rd address value) n limit within room = omega arith
prints_within (Replace rd address combine value) n limit within room = omega arith
prints_within (Exit code) n limit within room = omega arith

-- what was answered without an error, and with one
pub on_ok : {T E P : Type 0} (r : Result T E) → is_err r ≡ false → OnOk r P → P
on_ok (Ok value) fine p = p
on_ok (Err fault) fine p = cc

pub on_err : {T E P : Type 0} (r : Result T E) → is_err r ≡ true → OnErr r P → P
on_err (Ok value) failed p = cc
on_err (Err fault) failed p = p

-- what an action writes, its access writes
writes_if : (b : Bool) (hart : Hart) (address value : ℕ) → is_some {T = Write} (cond b (Some (record { address = address; size = 4; value = value })) None) ≡ true → is_write (accessed (Moved (cond b (Some (record { pc = hart.pc; first = address; size = 4; read = false; write = true })) None))) ≡ true
writes_if true hart address value h = refl
writes_if false hart address value h = h

writes_accessed : (loaded : ℕ) (hart : Hart) (action : Action) → is_some (written_by loaded hart action) ≡ true → is_write (accessed (event_of hart action)) ≡ true
writes_accessed loaded hart (Store address size value) h = refl
writes_accessed loaded hart (Replace rd address combine value) h = refl
writes_accessed loaded hart (Conditional rd address value) h = writes_if (reserves hart.reservation address) hart address value h
writes_accessed loaded hart (Load rd address size signed) h = h
writes_accessed loaded hart (Reserve rd address) h = h
writes_accessed loaded hart (Trap cause) h = h
writes_accessed loaded hart (Set rd value next) h = h
writes_accessed loaded hart (Print byte) h = h
writes_accessed loaded hart (Exit code) h = h

pub writes_next : (s : State) (h loaded : ℕ) (hart : Hart) (action : Action) (w : Option Write) → slice_get s.harts h ≡ Some hart → Takes s h action → w ≡ written_by loaded hart action → is_some w ≡ true → is_write (next_access s h) ≡ true
unfolding next_access
writes_next s h loaded hart action w found takes w_is some =
    let made : access_of_step (step_of s h) ≡ accessed (event_of hart action) = ap access_of_step (step_parts s h hart action found (runs_at s h hart action found takes)) in
    ap is_write made ∙ writes_accessed loaded hart action (ap (λ (x : Option Write). is_some x) (sym w_is) ∙ some)
