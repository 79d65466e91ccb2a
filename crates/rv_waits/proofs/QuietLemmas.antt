-- A step after which its four bytes are as before has changed no byte.
use Rattle.std.proofs.Common.{◌≡◌, ℕ, ◌+◌, ◌<◌, ◌≤◌, inl, inr, false, Option, Some, List, [], ◌∷◌, ◌++◌, length, refl, sym, ap, subst, ◌∙◌, arith, length-append}
use Rattle.std.specs.Prelude.{Bool, slice_get, IfSome, IfOk, Result, Ok}
use Rattle.std.proofs.lemmas.Bool.{cases_eq}
use Rattle.std.proofs.lemmas.List.{append-nil}
use Rattle.rv_hart.specs.Locality.{at_conditional, is_conditional}
use Rattle.rv_hart.specs.NextAccess.{next_access}
use Rattle.rv_hart.specs.ReservationLaws.{SizesOfAccesses}
use Rattle.rv_hart.specs.State.{State, Guest}
use Rattle.rv_hart.specs.StepAnswer.{AnswersStep}
use Rattle.rv_hart.specs.Step.{step_of, action_at, access_of, loaded_by, memory_after, written_by, writes, both}
use Rattle.rv_hart.specs.StepLaws.{OutputLaw}
use Rattle.rv_hart.specs.declared.access.Access.{Access}
use Rattle.rv_hart.specs.declared.access.Event.{Event}
use Rattle.rv_hart.specs.declared.access.Event.TheVariants.{Moved}
use Rattle.rv_hart.specs.declared.action.Action.{Action}
use Rattle.rv_hart.specs.declared.action.Action.TheVariants.{Trap, Set, Load, Store, Reserve, Conditional, Replace, Print, Exit}
use Rattle.rv_hart.specs.declared.hart.Hart.{Hart}
use Rattle.rv_memory.specs.Memory.{IsSize, Memory, byte}
use Rattle.rv_memory.specs.MemoryLaws.{StoreKeepsOtherBytes}
use Rattle.rv_waits.specs.Round.{IsQuietStep}
use Rattle.rv_waits.specs.declared.quiet.FourBytes.{FourBytes}
use Rattle.rv_hart.specs.declared.machine.StepFault.{StepFault}
use Rattle.rv_waits.specs.declared.quiet.Told.{Told}
use Rattle.rv_waits.specs.declared.quiet.Told.TheVariants.{Quiet, Loud, Refused}
use Rattle.rv_waits.specs.internal.Four.{AreBytesFrom}
use Rattle.rv_waits.specs.internal.Told.{IfQuiet, answer_of}
use Rattle.rv_waits.proofs.ByteLemmas.{SameBytes, from_first, store_same, to_last}
use Rattle.rv_waits.proofs.StepLemmas.{next_access_is, step_is}

-- ---- four bytes

at_same : (m n : Memory) (a b : ℕ) (o : Option ℕ) → a ≡ b → o ≡ byte m b → o ≡ byte n b → byte n a ≡ byte m a
at_same m n a b o e x y = rw e (sym y ∙ x)

-- the same four bytes are the same bytes of an access of up to four
same_bytes : (m n : Memory) (first size : ℕ) (bytes : FourBytes) → AreBytesFrom m first bytes → AreBytesFrom n first bytes → size ≤ 4 → SameBytes m n first size
same_bytes m n first size bytes a b small address among =
    let from : first ≤ address = from_first first size address among in
    let to : address < first + size = to_last first size address among in
    elim (cases_eq address (first + 0)) [
      | inl e ↦ at_same m n address (first + 0) bytes.one e a.one b.one
      | inr not_0 ↦
          elim (cases_eq address (first + 1)) [
            | inl e ↦ at_same m n address (first + 1) bytes.two e a.two b.two
            | inr not_1 ↦
                elim (cases_eq address (first + 2)) [
                  | inl e ↦ at_same m n address (first + 2) bytes.three e a.three b.three
                  | inr not_2 ↦ let e : address ≡ first + 3 = omega arith in at_same m n address (first + 3) bytes.four e a.four b.four
                ]
          ]
    ]

-- ---- what a step writes

write_same : StoreKeepsOtherBytes → (m : Memory) (hart : Hart) (loaded : ℕ) (action : Action) → is_conditional action ≡ false → ((a : Access) → access_of hart action ≡ Some a → SameBytes m (memory_after m (written_by loaded hart action)) a.first a.size) → memory_after m (written_by loaded hart action) ≡ m
write_same keeps m hart loaded (Store address size value) no_sc same = store_same keeps m address size value (same (writes hart address size) refl)
write_same keeps m hart loaded (Replace rd address combine value) no_sc same = store_same keeps m address 4 _ (same (both hart address 4) refl)
write_same keeps m hart loaded (Conditional rd address value) no_sc same = cc
write_same keeps m hart loaded (Load rd address size signed) no_sc same = refl
write_same keeps m hart loaded (Reserve rd address) no_sc same = refl
write_same keeps m hart loaded (Trap cause) no_sc same = refl
write_same keeps m hart loaded (Set rd value next) no_sc same = refl
write_same keeps m hart loaded (Print byte) no_sc same = refl
write_same keeps m hart loaded (Exit code) no_sc same = refl

small_size : (size : ℕ) → IsSize size → size ≤ 4
small_size size (inl e) = omega arith
small_size size (inr (inl e)) = omega arith
small_size size (inr (inr e)) = omega arith

-- the first address of an access that was next
abbrev pub BeginsAt : Option Access → ℕ → Type 0
BeginsAt access first = IfSome access (λ it. first ≡ it.first)

begins : (access : Option Access) (first : ℕ) (a : Access) → BeginsAt access first → access ≡ Some a → first ≡ a.first
begins access first a h e = subst (λ (o : Option Access). BeginsAt o first) e h

pub quiet_memory : StoreKeepsOtherBytes → SizesOfAccesses → (s t : State) (h first : ℕ) (event : Event) (bytes : FourBytes) → step_of s h ≡ Some (event, t) → at_conditional s.memory (slice_get s.harts h) ≡ false → BeginsAt (next_access s h) first → AreBytesFrom s.memory first bytes → AreBytesFrom t.memory first bytes → t.memory ≡ s.memory
quiet_memory keeps sizes s t h first event bytes step no_sc at_first before after =
    let w = step_is s t h event step in
    let hart : Hart = w.0 in
    let action : Action = action_at s.memory hart in
    let loaded : ℕ = loaded_by s.memory action in
    let is_after : t.memory ≡ memory_after s.memory (written_by loaded hart action) = ap (λ (u : State). u.memory) w.1.after in
    let not_sc : is_conditional action ≡ false = ap (at_conditional s.memory) (sym w.1.there) ∙ no_sc in
    let same : (a : Access) → access_of hart action ≡ Some a → SameBytes s.memory (memory_after s.memory (written_by loaded hart action)) a.first a.size =
    λ a e.
    let next : next_access s h ≡ Some a = next_access_is s t h event hart w.1.there step ∙ e in
    let small : a.size ≤ 4 = small_size a.size (sizes s h a next) in
    let begin : first ≡ a.first = begins (next_access s h) first a at_first next in
    let here : SameBytes s.memory t.memory first a.size = same_bytes s.memory t.memory first a.size bytes before after small in
    subst (λ (k : ℕ). SameBytes s.memory (memory_after s.memory (written_by loaded hart action)) k a.size) begin
    (subst (λ (m : Memory). SameBytes s.memory m first a.size) is_after here) in
    is_after ∙ write_same keeps s.memory hart loaded action not_sc same

-- ---- what a step prints

no_more : (before more after : List ℕ) → after ≡ before ++ more → length after ≡ length before → after ≡ before
no_more before [] after e h = e ∙ append-nil before
no_more before (x ∷ xs) after e h = absurd (omega (arith, ap length e, length-append before (x ∷ xs)))

pub quiet_output : OutputLaw → (s t : State) (h : ℕ) (event : Event) → step_of s h ≡ Some (event, t) → length t.output ≡ length s.output → t.output ≡ s.output
quiet_output law s t h event step same =
    let grown = law s t h event step in
    no_more s.output grown.0 t.output grown.2 same

pub quiet_made : StoreKeepsOtherBytes → SizesOfAccesses → OutputLaw → (s t : State) (h first : ℕ) (access : Option Access) (bytes : FourBytes) → step_of s h ≡ Some (Moved access, t) → at_conditional s.memory (slice_get s.harts h) ≡ false → BeginsAt (next_access s h) first → AreBytesFrom s.memory first bytes → AreBytesFrom t.memory first bytes → length t.output ≡ length s.output → IsQuietStep h s t
quiet_made keeps sizes output s t h first access bytes step no_sc at_first before after same = record {
  moves = (access, step);
  memory = quiet_memory keeps sizes s t h first (Moved access) bytes step no_sc at_first before after;
  output = quiet_output output s t h (Moved access) step same;
  no_sc = no_sc;
}

-- ---- what was told

pub if_quiet : (P : Option Access → Type 0) (told : Told) (answer : Result Event StepFault) → answer_of told ≡ answer → ((access : Option Access) → answer ≡ Ok (Moved access) → P access) → IfQuiet told P
if_quiet P (Quiet access) answer e f = f access (sym e)
if_quiet P (Loud event) answer e f = tt
if_quiet P (Refused fault) answer e f = tt

pub not_quiet : (P : Option Access → Type 0) (told : Told) → IfQuiet told (λ access. ⊥) → IfQuiet told P
not_quiet P (Quiet access) none = absurd none
not_quiet P (Loud event) none = tt
not_quiet P (Refused fault) none = tt

pub answered : (r : Bool) (old new : Guest) (h : ℕ) (one other : Result Event StepFault) → one ≡ other → AnswersStep r old new h other → AnswersStep r old new h one
answered r old new h one other e a = subst (λ (x : Result Event StepFault). AnswersStep r old new h x) (sym e) a

pub moved_step : (r : Bool) (old new : Guest) (h : ℕ) (answer : Result Event StepFault) (access : Option Access) → AnswersStep r old new h answer → answer ≡ Ok (Moved access) → step_of old.state h ≡ Some (Moved access, new.state)
moved_step r old new h answer access a e = subst (λ (x : Result Event StepFault). IfOk x (λ event. step_of old.state h ≡ Some (event, new.state))) e a.step
