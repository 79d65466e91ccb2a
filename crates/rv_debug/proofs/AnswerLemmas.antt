-- What is put for a command, from what the session told.
use Rattle.std.proofs.Common.{◌≡◌, ℕ, ◌+◌, ◌-◌, ◌<◌, ◌≤◌, true, false, ◌==◌, List, Option, Some, None, Result, Ok, Err, length, refl, inl, inr, arith}
use Rattle.std.specs.Prelude.{OnOk, IsSomeAnd, nat_le, slice_get, ◌⊎◌}
use Rattle.std.specs.Io.KnownBytes.{Appends}
use Rattle.std.proofs.lemmas.Bool.Decides.{nat_tests}
use Rattle.std.proofs.lemmas.Option.{slice_get_past}
use Rattle.rv_debug.specs.Answers.{HasBytes, HasLines, HasNoBytes, HasNoLines, HasNoTouch, IsFirstTouch, bytes_from, lines_from}
use Rattle.rv_debug.specs.Placed.{Placed, SomeState, moved, state}
use Rattle.rv_debug.specs.declared.session.SessionFault.{SessionFault}
use Rattle.rv_debug.specs.declared.session.SessionFault.TheVariants.{NoPlace, NoHart, NoBytes, NotFound, NoMemory}
use Rattle.rv_hart.specs.SomeHart.{SomeHart}
use Rattle.rv_hart.specs.State.{State}
use Rattle.rv_hart.specs.declared.hart.Hart.{Hart}
use Rattle.rv_text.specs.Lines.{text_of_lines}
use Rattle.rv_debug.specs.Answered.{IsAnswer, IsAnswered, bytes_text, fault_text, found_text, goes, hart_text, malformed_text, place_text, refuses, showing, shows}
use Rattle.rv_debug.specs.declared.command.Command.{Command}
use Rattle.rv_debug.specs.declared.command.Command.TheVariants as said
use Rattle.rv_debug.specs.internal.Puts.{Puts}

-- a fact of an answer that was put whole
pub when_put : {A E P Q : Type 0} (put : Result A E) → (P → Q) → OnOk put P → OnOk put Q
when_put (Ok a) next is = next is
when_put (Err e) next is = tt

-- ---- what is put

pub refused : (p q : Placed) (command : Command) (fault : SessionFault) (a b : Option (List ℕ)) → IsAnswered p (Some command) (refuses p fault) → q ≡ p → Appends a b (fault_text fault) → Puts p (Some command) q (Appends a b)
refused p q command fault a b is stays put = record { answer = refuses p fault; answered = is; place = stays; written = put }

pub shown : (p : Placed) (command : Command) (text : List ℕ) (a b : Option (List ℕ)) → IsAnswer p command (shows p text) → Appends a b text → Puts p (Some command) p (Appends a b)
shown p command text a b is put = record { answer = shows p text; answered = inl is; place = refl; written = put }

pub gone : (p q : Placed) (command : Command) (place : ℕ) (a b : Option (List ℕ)) → IsAnswer p command (goes place) → q ≡ moved p place → Appends a b (place_text place) → Puts p (Some command) q (Appends a b)
gone p q command place a b is goes_there put = record { answer = goes place; answered = inl is; place = goes_there; written = put }

pub malformed : (p : Placed) (a b : Option (List ℕ)) → Appends a b malformed_text → Puts p None p (Appends a b)
malformed p a b put = record { answer = shows p malformed_text; answered = refl; place = refl; written = put }

-- ---- places

pub go_within : (p : Placed) (n : ℕ) → (length p.entries < n → ⊥) → IsAnswer p (said.Go n) (goes n)
go_within p n within =
    let test : nat_le n (length p.entries) ≡ true = grind (arith, nat_tests) in
    rw test refl

pub go_past : (p : Placed) (n : ℕ) (fault : SessionFault) → (fault ≡ NoPlace) ⊎ (fault ≡ NoMemory) → (fault ≡ NoPlace → length p.entries < n) → (length p.entries < n → fault ≡ NoPlace) → IsAnswered p (Some (said.Go n)) (refuses p fault)
go_past p n fault told past due =
    elim told [
      | inl is ↦ (let more = past is in let test : nat_le n (length p.entries) ≡ false = grind (arith, nat_tests) in inl (rw (test, is) refl))
      | inr is ↦ (let there : length p.entries < n → ⊥ = λ more. let other = due more in cc in inr (omega arith, rw is refl))
    ]

pub forward_within : (p : Placed) → (length p.entries ≡ p.place → ⊥) → IsAnswer p said.Forward (goes (p.place + 1))
forward_within p within =
    let test : (p.place == length p.entries) ≡ false = grind (arith, nat_tests) in
    rw test refl

pub forward_past : (p : Placed) (fault : SessionFault) → p.place ≤ length p.entries → (fault ≡ NoPlace) ⊎ (fault ≡ NoMemory) → (fault ≡ NoPlace → length p.entries ≡ p.place) → (length p.entries ≡ p.place → fault ≡ NoPlace) → IsAnswered p (Some said.Forward) (refuses p fault)
forward_past p fault within told past due =
    elim told [
      | inl is ↦ (let last = past is in let test : (p.place == length p.entries) ≡ true = grind (arith, nat_tests) in inl (rw (test, is) refl))
      | inr is ↦ (let there : length p.entries ≡ p.place → ⊥ = λ last. let other = due last in cc in inr (omega arith, rw is refl))
    ]

pub back_within : (p : Placed) → (p.place ≡ 0 → ⊥) → IsAnswer p said.Back (goes (p.place - 1))
back_within p within =
    let test : (p.place == 0) ≡ false = grind (arith, nat_tests) in
    rw test refl

pub back_past : (p : Placed) (fault : SessionFault) → (fault ≡ NoPlace) ⊎ (fault ≡ NoMemory) → (fault ≡ NoPlace → p.place ≡ 0) → (p.place ≡ 0 → fault ≡ NoPlace) → IsAnswered p (Some said.Back) (refuses p fault)
back_past p fault told past due =
    elim told [
      | inl is ↦ (let first = past is in let test : (p.place == 0) ≡ true = grind (arith, nat_tests) in inl (rw (test, is) refl))
      | inr is ↦ (let there : p.place ≡ 0 → ⊥ = λ first. let other = due first in cc in inr (omega arith, rw is refl))
    ]

-- ---- the state at the place

pub in_state : (p : Placed) (s : State) (P : State → Type 0) → state p ≡ Some s → P s → SomeState P p
in_state p s P is holds = rw is holds

some_then : {A : Type 0} (o : Option A) (P Q : A → Type 0) → ((x : A) → P x → Q x) → IsSomeAnd o P → IsSomeAnd o Q
some_then None P Q next is = absurd is
some_then (Some x) P Q next is = next x is

pub no_hart : (p : Placed) (s : State) (h : ℕ) → state p ≡ Some s → length s.harts ≤ h → IsAnswered p (Some (said.Hart h)) (refuses p NoHart)
no_hart p s h is past = inl (in_state p s (λ s. refuses p NoHart ≡ showing p NoHart (hart_text h) (slice_get s.harts h)) is (rw (slice_get_past s.harts h past) refl))

hart_found : (p : Placed) (s : State) (h : ℕ) (a b : Option (List ℕ)) (o : Option Hart) → slice_get s.harts h ≡ o → state p ≡ Some s → IsSomeAnd o (λ hart. Appends a b (hart_text h hart)) → Puts p (Some (said.Hart h)) p (Appends a b)
hart_found p s h a b None found is put = absurd put
hart_found p s h a b (Some hart) found is put =
    shown p (said.Hart h) (hart_text h hart) a b (in_state p s (λ s. shows p (hart_text h hart) ≡ showing p NoHart (hart_text h) (slice_get s.harts h)) is (rw found refl)) put

pub hart_shown : (p : Placed) (s : State) (h : ℕ) (a b : Option (List ℕ)) → state p ≡ Some s → SomeHart (λ hart. Appends a b (hart_text h hart)) s h → Puts p (Some (said.Hart h)) p (Appends a b)
hart_shown p s h a b is put = hart_found p s h a b (slice_get s.harts h) refl is put

pub bytes_shown : (p : Placed) (address len : ℕ) (bytes : List ℕ) → SomeState (λ (s : State). bytes_from s.memory address len ≡ Some bytes) p → IsAnswer p (said.Bytes address len) (shows p (bytes_text address bytes))
bytes_shown p address len bytes is =
    some_then (state p) (λ s. bytes_from s.memory address len ≡ Some bytes) (λ s. shows p (bytes_text address bytes) ≡ showing p NoBytes (bytes_text address) (bytes_from s.memory address len)) (λ s found. rw found refl) is

pub no_bytes : (p : Placed) (address len : ℕ) (fault : SessionFault) → ((fault ≡ NoBytes) × HasNoBytes p address len) ⊎ ((fault ≡ NoMemory) × HasBytes p address len)
    → IsAnswered p (Some (said.Bytes address len)) (refuses p fault)
no_bytes p address len fault told =
    elim told [
      | inl both ↦ inl (some_then (state p) (λ s. bytes_from s.memory address len ≡ None) (λ s. refuses p fault ≡ showing p NoBytes (bytes_text address) (bytes_from s.memory address len)) (λ s none. rw (none, both.0) refl) both.1)
      | inr both ↦ inr (both.1, rw (both.0) refl)
    ]

pub lines_shown : (p : Placed) (address count : ℕ) (lines : List (List ℕ)) → SomeState (λ (s : State). lines_from s.memory address count ≡ Some lines) p → IsAnswer p (said.Lines address count) (shows p (text_of_lines lines))
lines_shown p address count lines is =
    some_then (state p) (λ s. lines_from s.memory address count ≡ Some lines) (λ s. shows p (text_of_lines lines) ≡ showing p NoBytes text_of_lines (lines_from s.memory address count)) (λ s found. rw found refl) is

pub no_lines : (p : Placed) (address count : ℕ) (fault : SessionFault) → ((fault ≡ NoBytes) × HasNoLines p address count) ⊎ ((fault ≡ NoMemory) × HasLines p address count)
    → IsAnswered p (Some (said.Lines address count)) (refuses p fault)
no_lines p address count fault told =
    elim told [
      | inl both ↦ inl (some_then (state p) (λ s. lines_from s.memory address count ≡ None) (λ s. refuses p fault ≡ showing p NoBytes text_of_lines (lines_from s.memory address count)) (λ s none. rw (none, both.0) refl) both.1)
      | inr both ↦ inr (both.1, rw (both.0) refl)
    ]

-- ---- what is found

pub found_there : (p q : Placed) (address found : ℕ) (a b : Option (List ℕ)) → IsFirstTouch p address found → q ≡ moved p (found + 1) → Appends a b (found_text found) → Puts p (Some (said.Find address)) q (Appends a b)
found_there p q address found a b is goes_there put =
    record { answer = record { text = found_text found; place = found + 1 }; answered = inl (inl (found, (is, refl))); place = goes_there; written = put }

pub not_found : (p : Placed) (address : ℕ) (fault : SessionFault) → (fault ≡ NoMemory) ⊎ ((fault ≡ NotFound) × HasNoTouch p address) → IsAnswered p (Some (said.Find address)) (refuses p fault)
not_found p address fault told =
    elim told [
      | inl is ↦ inr (tt, rw is refl)
      | inr both ↦ inl (inr (both.1, rw (both.0) refl))
    ]
