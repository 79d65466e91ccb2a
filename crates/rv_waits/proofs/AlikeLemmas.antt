-- A hart that stands the same in two states goes the same round from both, where the bytes that it touches are the same.
use Rattle.std.proofs.Common.{◌≡◌, ℕ, zero, suc, inl, inr, Bool, true, false, Option, Some, List, [], ◌++◌, refl, sym, ap, subst, ◌∙◌}
use Rattle.std.specs.Prelude.{slice_get, IsSomeAnd, ◌||◌}
use Rattle.std.proofs.lemmas.List.{append-nil}
use Rattle.rv_hart.specs.Locality.{LocalityLaw, SamePermissions, AreAlikeTo, StandsAlike, GoesOnAlike, at_conditional, is_conditional, next_write}
use Rattle.rv_hart.specs.NextAccess.{next_access}
use Rattle.rv_hart.specs.State.{State}
use Rattle.rv_hart.specs.Step.{step_of, action_at, access_of, loaded_by, memory_after, printed}
use Rattle.rv_hart.specs.StepLaws.{SameButReservation}
use Rattle.rv_hart.specs.declared.access.Access.{Access}
use Rattle.rv_hart.specs.declared.access.Event.{Event}
use Rattle.rv_hart.specs.declared.access.Event.TheVariants.{Moved}
use Rattle.rv_hart.specs.declared.action.Action.{Action}
use Rattle.rv_hart.specs.declared.hart.Hart.{Hart}
use Rattle.rv_memory.specs.Memory.{Memory, byte}
use Rattle.rv_memory.specs.MemoryLaws.{StoreKeepsOtherBytes}
use Rattle.rv_waits.specs.Round.{IsQuietStep, StepsQuietly, IsWhereItWas}
use Rattle.rv_waits.specs.Touches.{Touches, touches_next, in_instruction, in_access, is_among}
use Rattle.rv_waits.proofs.ByteLemmas.{same_load}
use Rattle.rv_waits.proofs.StepLemmas.{some_and, next_access_is, next_is_accessed, SameAccessed, same_loaded, idle_write, prints_none}

-- ---- a hart that is where it was

-- hart h of both states
pub record InBoth (h : ℕ) (s t : State) (one other : Hart) : Type 0 where
  pub there : slice_get s.harts h ≡ Some one
  pub there_too : slice_get t.harts h ≡ Some other
  pub same : SameButReservation one other

pub in_both : (h : ℕ) (s t : State) → IsWhereItWas h s t → (one other : Hart) × InBoth h s t one other
in_both h s t w =
    let a = some_and {P = λ one. IsSomeAnd (slice_get t.harts h) (SameButReservation one)} (slice_get s.harts h) w in
    let b = some_and {P = SameButReservation a.0} (slice_get t.harts h) a.2 in
    (a.0, b.0, record { there = a.1; there_too = b.1; same = b.2 })

pub where_it_was : (h : ℕ) (s t : State) (one other : Hart) → InBoth h s t one other → IsWhereItWas h s t
where_it_was h s t one other b =
    let P : Option Hart → Option Hart → Type 0 = λ o p. IsSomeAnd o (λ x. IsSomeAnd p (SameButReservation x)) in
    subst (λ (o : Option Hart). P o (slice_get t.harts h)) (sym b.there) (subst (λ (p : Option Hart). P (Some one) p) (sym b.there_too) b.same)

pub where_back : (h : ℕ) (s t : State) → IsWhereItWas h s t → IsWhereItWas h t s
where_back h s t w =
    let b = in_both h s t w in
    where_it_was h t s b.1 b.0 (record { there = b.2.there_too; there_too = b.2.there; same = record { registers = sym b.2.same.registers; pc = sym b.2.same.pc; status = sym b.2.same.status } })

pub where_on : (h : ℕ) (s t u : State) → IsWhereItWas h s t → IsWhereItWas h t u → IsWhereItWas h s u
where_on h s t u v w =
    let a = in_both h s t v in
    let b = in_both h t u w in
    let both : Some a.1 ≡ Some b.0 = sym a.2.there_too ∙ b.2.there in
    let met : a.1 ≡ b.0 = cc in
    where_it_was h s u a.0 b.1 (record {
      there = a.2.there;
      there_too = b.2.there_too;
      same = record {
        registers = b.2.same.registers ∙ ap (λ (x : Hart). x.registers) (sym met) ∙ a.2.same.registers;
        pc = b.2.same.pc ∙ ap (λ (x : Hart). x.pc) (sym met) ∙ a.2.same.pc;
        status = b.2.same.status ∙ ap (λ (x : Hart). x.status) (sym met) ∙ a.2.same.status;
      };
    })

-- ---- one step

or_left : (a b : Bool) → a ≡ true → (a || b) ≡ true
or_left a b e = rw e refl

or_right : (a b : Bool) → b ≡ true → (a || b) ≡ true
or_right true b e = refl
or_right false b e = e

-- each byte that the next step of hart h touches is the same in another memory
abbrev pub SameTouched : State → ℕ → Memory → Type 0
SameTouched s h n = (address : ℕ) → touches_next s h address ≡ true → byte n address ≡ byte s.memory address

same_word_bytes : (s : State) (h : ℕ) (n : Memory) (hart : Hart) → slice_get s.harts h ≡ Some hart → SameTouched s h n → (address : ℕ) → is_among hart.pc 4 address ≡ true → byte n address ≡ byte s.memory address
same_word_bytes s h n hart there same address e =
    let here : in_instruction (slice_get s.harts h) address ≡ true = ap (λ (o : Option Hart). in_instruction o address) there ∙ e in
    same address (or_left _ _ here)

same_accessed : (s t : State) (h : ℕ) (e : Event) (n : Memory) (hart : Hart) → slice_get s.harts h ≡ Some hart → step_of s h ≡ Some (e, t) → SameTouched s h n → SameAccessed s.memory n (access_of hart (action_at s.memory hart))
same_accessed s t h e n hart there step same address among =
    let here : in_access (next_access s h) address ≡ true = ap (λ (a : Option Access). in_access a address) (next_access_is s t h e hart there step) ∙ among in
    same address (or_right (in_instruction (slice_get s.harts h) address) _ here)

-- hart h goes on from t as from s, with the same access
abbrev pub GoesToo : ℕ → State → State → State → Type 0
GoesToo h s next t = (u : State) × IsQuietStep h t u × IsWhereItWas h next u × (next_access t h ≡ next_access s h)

pub step_alike : LocalityLaw → StoreKeepsOtherBytes → (h : ℕ) (s next t : State) → IsQuietStep h s next → IsWhereItWas h s t → SamePermissions s.memory t.memory → SameTouched s h t.memory → GoesToo h s next t
step_alike local keeps h s next t quiet w permissions same =
    let b = in_both h s t w in
    let one : Hart = b.0 in
    let other : Hart = b.1 in
    let action : Action = action_at s.memory one in
    let event : Event = Moved quiet.moves.0 in
    let no_sc : is_conditional action ≡ false = ap (at_conditional s.memory) (sym b.2.there) ∙ quiet.no_sc in
    let accessed : SameAccessed s.memory t.memory (access_of one action) = same_accessed s next h event t.memory one b.2.there quiet.moves.1 same in
    let memory : AreAlikeTo one s.memory t.memory = record {
      permissions = permissions;
      word = same_load s.memory t.memory one.pc 4 (same_word_bytes s h t.memory one b.2.there same);
      loaded = same_loaded s.memory t.memory one action accessed;
    } in
    let stands : StandsAlike s t h one other = record { there = b.2.there; there_too = b.2.there_too; same = b.2.same; memory = memory; no_sc = no_sc } in
    let found = local s t next h one other event stands quiet.moves.1 in
    let goes : GoesOnAlike s next t found.0 h one other = found.2 in
    let idle : memory_after t.memory (next_write s.memory one) ≡ t.memory = idle_write keeps s.memory t.memory one (loaded_by s.memory action) action no_sc accessed (sym goes.memory ∙ quiet.memory) in
    let silent : printed action ≡ [] = prints_none s.output (printed action) (sym goes.output ∙ quiet.output) in
    let no_sc_too : at_conditional t.memory (slice_get t.harts h) ≡ false = ap (at_conditional t.memory) b.2.there_too ∙ ap is_conditional goes.action ∙ no_sc in
    let moved : IsQuietStep h t found.0 = record {
      moves = (quiet.moves.0, found.1);
      memory = goes.memory_too ∙ idle;
      output = goes.output_too ∙ ap (λ (l : List ℕ). t.output ++ l) silent ∙ append-nil t.output;
      no_sc = no_sc_too;
    } in
    (found.0, moved, goes.left, next_is_accessed t found.0 h event found.1 ∙ sym (next_is_accessed s next h event quiet.moves.1))

-- ---- some steps

-- each byte that hart h touches in n steps of its own is the same in another memory
abbrev pub SameTouchedIn : ℕ → State → ℕ → Memory → Type 0
SameTouchedIn n s h m = (address : ℕ) → Touches h n s address → byte m address ≡ byte s.memory address

-- the memories of both states have not changed
pub same_permissions : (k l m n : Memory) → l ≡ k → n ≡ m → SamePermissions k m → SamePermissions l n
same_permissions k l m n a b same address size need = rw (a, b) (same address size need)

pub same_byte : (k l m n : Memory) (address : ℕ) → l ≡ k → n ≡ m → byte m address ≡ byte k address → byte n address ≡ byte l address
same_byte k l m n address a b same = rw (a, b) same

pub steps_alike : LocalityLaw → StoreKeepsOtherBytes → (h n : ℕ) (s u t : State) → StepsQuietly h n s u → IsWhereItWas h s t → SamePermissions s.memory t.memory → SameTouchedIn n s h t.memory → (v : State) × StepsQuietly h n t v × IsWhereItWas h u v
steps_alike local keeps h zero s u t steps w permissions same = (t, refl, subst (λ (x : State). IsWhereItWas h x t) steps w)
steps_alike local keeps h (suc n) s u t (next, quiet, rest) w permissions same =
    let first = step_alike local keeps h s next t quiet w permissions (λ address e. same address (inl e)) in
    let kept : SamePermissions next.memory first.0.memory = same_permissions s.memory next.memory t.memory first.0.memory quiet.memory first.1.memory permissions in
    let touched : SameTouchedIn n next h first.0.memory = λ address e. same_byte s.memory next.memory t.memory first.0.memory address quiet.memory first.1.memory (same address (inr (next, (Moved quiet.moves.0, quiet.moves.1), e))) in
    let more = steps_alike local keeps h n next u first.0 rest first.2 kept touched in
    (more.0, (first.0, first.1, more.1), more.2)
