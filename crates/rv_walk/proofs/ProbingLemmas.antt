-- What a probe keeps, through each of its calls.
use Rattle.std.proofs.Common.{◌≡◌, ◌≢◌, inl, inr, ℕ, ◌+◌, ◌-◌, ◌%◌, ◌≤◌, ◌<◌, true, false, Option, Some, None, List, length, refl, sym, ap, subst, ◌∙◌, arith}
use Rattle.std.proofs.Math.Nat.{mod-add-mod}
use Rattle.std.specs.Prelude.{IfOk, IfSome, OnErr, Ok, Err, Result, not, option_map, ◌==◌}
use Rattle.std.proofs.lemmas.Bool.Decides.{eqb_tells}
use Rattle.rv_collide.specs.Begun.{Begun, added}
use Rattle.rv_collide.specs.Detected.{Adds, Turns}
use Rattle.rv_collide.specs.Forced.{Arm, Resume, Turn}
use Rattle.rv_collide.specs.ListLaws.{OthersStayOpen}
use Rattle.rv_collide.specs.declared.collider.Turned.TheVariants as turned
use Rattle.rv_collide.specs.declared.entry.Entry.TheVariants.{Stepped, Paused, Resumed, Armed}
use Rattle.rv_collide.specs.declared.refused.Refused.{Refused}
use Rattle.rv_drive.specs.DriverLaws.{PausesGoOn}
use Rattle.rv_hart.specs.State.{State}
use Rattle.rv_hart.specs.Step.{step_of}
use Rattle.rv_hart.specs.declared.access.Event.{Event}
use Rattle.rv_waits.specs.Round.{Waits}
use Rattle.rv_waits.specs.Stuck.{Runs}
use Rattle.rv_waits.specs.Watch.{IsWatchOf}
use Rattle.rv_waits.specs.declared.watch.Anchor.{Anchor}
use Rattle.rv_walk.specs.Burst.{MayRest}
use Rattle.rv_walk.specs.Probe.{IsAimedAt, MayEnd}
use Rattle.rv_walk.specs.declared.probe.Held.{Held}
use Rattle.rv_walk.specs.internal.Probing.{IsHeld, IsNow, IsProbing, IsReady, MayLetGo, Probing, holds}
use Rattle.rv_waits.specs.CircleLaw.{CircleLaw}
use Rattle.rv_walk.proofs.StandsLemmas.{runs_within}
use Rattle.rv_walk.proofs.ProbeLemmas.{accepted_free, grown, held_from, held_less, held_on, now_same, now_step}

-- the probe with another list and another hart held
abbrev pub with : Probing → Begun → Option Held → Probing
with p core held = record p { core = core; held = held }

abbrev pub less : Held → Held
less it = record it { left = it.left - 1 }

another : (h a : ℕ) → (a == h) ≡ false → h ≢ a
another h a e same = elim (eqb_tells a h) [
  | inl it ↦ let f : true ≡ false = sym it.0 ∙ e in cc
  | inr it ↦ it.1 (sym same)
]

others : (h a : ℕ) → (a == h) ≡ false → not (h == a) ≡ true
others h a e = elim (eqb_tells h a) [
  | inl it ↦ absurd (another h a e it.1)
  | inr it ↦ ap not it.0
]

one_state : (core : Begun) (s t : State) → IsNow core s → IsNow core t → s ≡ t
one_state core s t at also = let e : Some s ≡ Some t = sym at ∙ also in cc

-- ---- an address is armed

held_armed : OthersStayOpen → PausesGoOn → (core : Begun) (address : ℕ) (held : Option Held) → IfSome held (IsHeld core) → IfSome held (IsHeld (added core (Armed address)))
held_armed stay on core address None is = tt
held_armed stay on core address (Some it) is = held_on stay on core (Armed address) it (λ other. refl) (λ slot e. cc) refl is

pub armed : OthersStayOpen → PausesGoOn → (p : Probing) (anchors : List Anchor) (new : Begun) (address : ℕ) → IsProbing p anchors → IsAimedAt p.aim address → Adds p.core new (Arm address) (Armed address) → IsProbing (with p new p.held) anchors
armed stay on p anchors new address is aimed adds =
    subst (λ (c : Begun). IsProbing (with p c p.held) anchors) (sym adds.is_added) (record {
      probe = grown p.aim p.core (Armed address) is.probe (λ other e. let same : address ≡ other = cc in subst (IsAimedAt p.aim) same aimed) (λ hart e. cc);
      watched = λ s now. is.watched s (now_same p.core (Armed address) s refl now);
      held_is = held_armed stay on p.core address p.held is.held_is;
    })

pub armed_or_not : OthersStayOpen → PausesGoOn → (p : Probing) (anchors : List Anchor) (new : Begun) (address : ℕ) (told : Result (Unit {0}) Refused) → IsProbing p anchors → IsAimedAt p.aim address → IfOk told (λ _. Adds p.core new (Arm address) (Armed address)) → OnErr told (new ≡ p.core) → IsProbing (with p new p.held) anchors
armed_or_not stay on p anchors new address (Ok u) is aimed adds same = armed stay on p anchors new address is aimed adds
armed_or_not stay on p anchors new address (Err fault) is aimed adds same = subst (λ (c : Begun). IsProbing (with p c p.held) anchors) (sym same) is

-- ---- a step

held_stepped : OthersStayOpen → PausesGoOn → (core : Begun) (h : ℕ) (held : Option Held) → IfSome held (λ it. 1 ≤ it.left) → holds held h ≡ false → IfSome held (IsHeld core) → IfSome (option_map less held) (IsHeld (added core (Stepped h)))
held_stepped stay on core h None some free is = tt
held_stepped stay on core h (Some it) some free is = held_less stay on core h it some (others h it.hart free) is

pub stepped : OthersStayOpen → PausesGoOn → (p : Probing) (anchors later : List Anchor) (new : Begun) (h : ℕ) (event : Event) (s u : State) → IsProbing p anchors → IsReady p h → Turns p.core new h (turned.Stepped event) → IsNow p.core s → IsNow new u → (step_of s h ≡ Some (event, u) → IsWatchOf later u) → IsProbing (with p new (option_map less p.held)) later
stepped stay on p anchors later new h event s u is ready turns now after watch =
    let same : turns.1.state ≡ s = one_state p.core turns.1.state s turns.1.reached now in
    let from : step_of s h ≡ Some (event, turns.1.after) = subst (λ (v : State). step_of v h ≡ Some (event, turns.1.after)) same turns.1.step in
    let there : IsNow (added p.core (Stepped h)) u = subst (λ (c : Begun). IsNow c u) turns.0.is_added after in
    let to : turns.1.after ≡ u = now_step p.core h event s turns.1.after u now from there in
    let watched : IsWatchOf later u = watch (subst (λ (v : State). step_of s h ≡ Some (event, v)) to from) in
    subst (λ (c : Begun). IsProbing (with p c (option_map less p.held)) later) (sym turns.0.is_added) (record {
      probe = grown p.aim p.core (Stepped h) is.probe (λ address e. cc) (λ hart e. cc);
      watched = λ v at. subst (IsWatchOf later) (one_state (added p.core (Stepped h)) u v there at) watched;
      held_is = held_stepped stay on p.core h p.held ready.left ready.free is.held_is;
    })

-- ---- a pause

paused : (p : Probing) (anchors : List Anchor) (new : Begun) (h : ℕ) (slot : Option ℕ) (held : Option Held) → IsProbing p anchors → Adds p.core new (Turn h) (Paused h slot) → IfSome held (IsHeld (added p.core (Paused h slot))) → IsProbing (with p new held) anchors
paused p anchors new h slot held is adds held_is =
    subst (λ (c : Begun). IsProbing (with p c held) anchors) (sym adds.is_added) (record {
      probe = grown p.aim p.core (Paused h slot) is.probe (λ address e. cc) (λ hart e. cc);
      watched = λ s now. is.watched s (now_same p.core (Paused h slot) s refl now);
      held_is = held_is;
    })

pub holds_now : OthersStayOpen → PausesGoOn → (p : Probing) (anchors : List Anchor) (new : Begun) (h left : ℕ) (slot : Option ℕ) → IsProbing p anchors → IsReady p h → Adds p.core new (Turn h) (Paused h slot) → left ≡ p.core.plan.pause → IsProbing (with p new (Some (record { hart = h; left = left }))) anchors
holds_now stay on p anchors new h left slot is ready adds e =
    let free = accepted_free _ p.core.entries h (Paused h slot) adds.is_forced in
    let held : IsHeld (added p.core (Paused h slot)) (record { hart = h; left = p.core.plan.pause }) = held_from stay on p.core h slot free ready.is_hart in
    paused p anchors new h slot (Some (record { hart = h; left = left })) is adds
    (subst (λ (k : ℕ). IsHeld (added p.core (Paused h slot)) (record { hart = h; left = k })) (sym e) held)

held_paused : OthersStayOpen → PausesGoOn → (core : Begun) (h : ℕ) (slot : Option ℕ) (held : Option Held) → holds held h ≡ false → IfSome held (IsHeld core) → IfSome held (IsHeld (added core (Paused h slot)))
held_paused stay on core h slot None free is = tt
held_paused stay on core h slot (Some it) free is =
    held_on stay on core (Paused h slot) it (λ other. refl) (λ s e. let same : h ≡ it.hart = cc in another h it.hart free same) refl is

pub holds_on : OthersStayOpen → PausesGoOn → (p : Probing) (anchors : List Anchor) (new : Begun) (h : ℕ) (slot : Option ℕ) → IsProbing p anchors → IsReady p h → Adds p.core new (Turn h) (Paused h slot) → IsProbing (with p new p.held) anchors
holds_on stay on p anchors new h slot is ready adds = paused p anchors new h slot p.held is adds (held_paused stay on p.core h slot p.held ready.free is.held_is)

-- ---- a resumption

pub ended : (p : Probing) (anchors : List Anchor) (new : Begun) (hart : ℕ) → IsProbing p anchors → MayEnd p.core (length p.core.entries) hart → Adds p.core new (Resume hart) (Resumed hart) → IsProbing (with p new None) anchors
ended p anchors new hart is may adds =
    subst (λ (c : Begun). IsProbing (with p c None) anchors) (sym adds.is_added) (record {
      probe = grown p.aim p.core (Resumed hart) is.probe (λ address e. cc) (λ other e. let same : hart ≡ other = cc in subst (MayEnd p.core (length p.core.entries)) same may);
      watched = λ s now. is.watched s (now_same p.core (Resumed hart) s refl now);
      held_is = tt;
    })

-- ---- no hart may go

-- all harts were looked at, in a circle: each that isn't held may rest
pub all_looked : CircleLaw → (s : State) (from n : ℕ) (held : Option Held) → length s.harts ≡ n → ((k : ℕ) → k < n → holds held ((from + k) % n) ≡ false → MayRest s ((from + k) % n)) → (other : ℕ) → holds held other ≡ false → MayRest s other
all_looked reaches s from n held count rest other free runs =
    let below : other < length s.harts = runs_within s.harts other runs in
    let r = reaches n from other (omega arith) in
    subst (Waits s) r.2 (rest r.0 r.1 (subst (λ (h : ℕ). holds held h ≡ false) (sym r.2) free) (subst (Runs s) (sym r.2) runs))

not_held : (it : Held) (other : ℕ) → other ≢ it.hart → holds (Some it) other ≡ false
not_held it other apart = elim (eqb_tells it.hart other) [
  | inl e ↦ absurd (apart (sym e.1))
  | inr e ↦ e.0
]

pub none_goes : (p : Probing) → ((s : State) → IsNow p.core s → (other : ℕ) → holds p.held other ≡ false → MayRest s other) → MayLetGo p
none_goes p rest =
    elim p.held as (λ (o : Option Held). ((s : State) → IsNow p.core s → (other : ℕ) → holds o other ≡ false → MayRest s other) → IfSome o (λ it. MayEnd p.core (length p.core.entries) it.hart)) [
      | None ↦ λ r. tt
      | Some it ↦ λ r. inr (inr (λ s at other apart. r s at other (not_held it other apart)))
    ] rest

-- one more hart was looked at
pub one_looked : (s : State) (from passed k n : ℕ) (held : Option Held) → k ≡ passed → (holds held ((from % n + passed) % n) ≡ false → MayRest s ((from % n + passed) % n)) → holds held ((from + k) % n) ≡ false → MayRest s ((from + k) % n)
one_looked s from passed k n held is rests free =
    let e : (from % n + passed) % n ≡ (from + k) % n = mod-add-mod from n passed ∙ ap (λ m. (from + m) % n) (sym is) in
    subst (MayRest s) e (rests (subst (λ (h : ℕ). holds held h ≡ false) (sym e) free))
