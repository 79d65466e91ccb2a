-- What the debugger answers to a command at a place.
use Rattle.std.specs.Prelude.{◌≡◌, ℕ, ◌+◌, ◌-◌, ◌<◌, ◌≤◌, ◌==◌, ◌⊎◌, ⊤, nat_le, if◌then◌else◌, Option, Some, None, List, [], ◌∷◌, ◌++◌, codes, length, slice_get}
use Rattle.std.specs.List.{flat_map}
use Rattle.std.specs.Fmt.{decimal}
use Rattle.rv_debug.specs.Answers.{HasBytes, HasLines, HasNoTouch, IsFirstTouch, bytes_from, lines_from}
use Rattle.rv_debug.specs.Placed.{Placed, SomeState}
use Rattle.rv_debug.specs.declared.session.SessionFault.{SessionFault}
use Rattle.rv_debug.specs.declared.session.SessionFault.TheVariants.{NoPlace, NoHart, NoBytes, NotFound, NoMemory}
use Rattle.rv_hart.specs.State.{State}
use Rattle.rv_hart.specs.Texts.{hart_line}
use Rattle.rv_hart.specs.declared.hart.Hart.{Hart}
use Rattle.rv_text.specs.Hexadecimal.{byte_digits, word_digits}
use Rattle.rv_text.specs.Lines.{text_of_lines}
use Rattle.rv_debug.specs.declared.command.Command.{Command}
use Rattle.rv_debug.specs.declared.command.Command.TheVariants as said

-- ---- the texts

abbrev pub place_text : ℕ → List ℕ
place_text place = codes "at " ++ decimal place ++ 10 ∷ []

abbrev pub found_text : ℕ → List ℕ
found_text place = codes "found " ++ decimal place ++ 10 ∷ []

-- the address, and for each byte a blank and two digits
abbrev pub bytes_text : ℕ → List ℕ → List ℕ
bytes_text address bytes = word_digits address ++ codes ":" ++ flat_map (λ byte. 32 ∷ byte_digits byte) bytes ++ 10 ∷ []

-- the number and the name of a fault
abbrev pub fault_words : SessionFault → List ℕ
fault_words NoPlace = codes "1 NoPlace"
fault_words NoHart = codes "2 NoHart"
fault_words NoBytes = codes "3 NoBytes"
fault_words NotFound = codes "4 NotFound"
fault_words NoMemory = codes "5 NoMemory"

abbrev pub fault_text : SessionFault → List ℕ
fault_text fault = codes "fault " ++ fault_words fault ++ 10 ∷ []

-- what is told of a malformed line
abbrev pub malformed_text : List ℕ
malformed_text = codes "fault 0 Command" ++ 10 ∷ []

-- ---- the answers

-- what is written, and the place of the session after it
pub record Answer : Type 0 where
  pub text : List ℕ
  pub place : ℕ

abbrev pub goes : ℕ → Answer
goes place = record { text = place_text place; place = place }

-- the session stays at its place
abbrev pub shows : Placed → List ℕ → Answer
shows p text = record { text = text; place = p.place }

abbrev pub refuses : Placed → SessionFault → Answer
refuses p fault = shows p (fault_text fault)

abbrev pub going : Placed → ℕ → Answer
going p place = if nat_le place (length p.entries) then goes place else refuses p NoPlace

abbrev pub going_forward : Placed → Answer
going_forward p = if p.place == length p.entries then refuses p NoPlace else goes (p.place + 1)

abbrev pub going_back : Placed → Answer
going_back p = if p.place == 0 then refuses p NoPlace else goes (p.place - 1)

-- what is found in the state at the place is shown, or it is told that it is not there
abbrev pub showing : {A : Type 0} → Placed → SessionFault → (A → List ℕ) → Option A → Answer
showing p fault text None = refuses p fault
showing p fault text (Some found) = shows p (text found)

abbrev pub hart_text : ℕ → Hart → List ℕ
hart_text h hart = hart_line h hart ++ 10 ∷ []

abbrev pub IsFinding : Placed → ℕ → Answer → Type 0
IsFinding p address answer =
    ((found : ℕ) × (IsFirstTouch p address found × (answer ≡ record { text = found_text found; place = found + 1 })))
    ⊎ (HasNoTouch p address × (answer ≡ refuses p NotFound))

-- The answer to a command, from the session at its place. `q` is answered by nothing.
abbrev pub IsAnswer : Placed → Command → Answer → Type 0
IsAnswer p (said.Go n) answer = answer ≡ going p n
IsAnswer p said.Forward answer = answer ≡ going_forward p
IsAnswer p said.Back answer = answer ≡ going_back p
IsAnswer p (said.Hart h) answer = SomeState (λ (s : State). answer ≡ showing p NoHart (hart_text h) (slice_get s.harts h)) p
IsAnswer p (said.Bytes address len) answer = SomeState (λ (s : State). answer ≡ showing p NoBytes (bytes_text address) (bytes_from s.memory address len)) p
IsAnswer p (said.Lines address count) answer = SomeState (λ (s : State). answer ≡ showing p NoBytes text_of_lines (lines_from s.memory address count)) p
IsAnswer p (said.Find address) answer = IsFinding p address answer
IsAnswer p said.Quit answer = answer ≡ shows p []

-- Memory has to be found for the command's own answer: it is a way to another place, bytes, lines, or what a search
-- over the entries gives. A fault that is told without a search takes none.
abbrev pub TakesMemory : Placed → Command → Type 0
TakesMemory p (said.Go n) = n ≤ length p.entries
TakesMemory p said.Forward = p.place < length p.entries
TakesMemory p said.Back = 0 < p.place
TakesMemory p (said.Hart h) = ⊥
TakesMemory p (said.Bytes address len) = HasBytes p address len
TakesMemory p (said.Lines address count) = HasLines p address count
TakesMemory p (said.Find address) = ⊤
TakesMemory p said.Quit = ⊥

-- The answer to a line: that it is malformed; or the command's own; or, where memory has to be found for that, that
-- there is none.
abbrev pub IsAnswered : Placed → Option Command → Answer → Type 0
IsAnswered p None answer = answer ≡ shows p malformed_text
IsAnswered p (Some command) answer = IsAnswer p command answer ⊎ (TakesMemory p command × (answer ≡ refuses p NoMemory))
