-- What the engine tells of all that was made, and why it was not.
use Rattle.std.proofs.Common.{◌≡◌, ℕ, List, Option, Some, None, refl, sym, subst, true, false}
use Rattle.std.specs.Prelude.{IfSome}
use Rattle.rv_faults.specs.CommandFault as command
use Rattle.rv_faults.specs.declared.command.CommandFault.{CommandFault}
use Rattle.rv_hunt.proofs.OpenLemmas.{is_ok}
use Rattle.rv_shown.specs.Asked.{Asked}
use Rattle.rv_hunt.specs.engine.HuntFault as fault
use Rattle.rv_hunt.specs.engine.Hunting.{Files, Hunting, IsHuntingOf, IsMade, IsTold, Showing, Texts, hunt_of}
use Rattle.rv_shown.specs.declared.found.Found.{Found}
use Rattle.rv_hunt.specs.declared.engine.fault.HuntFault.TheVariants.{Command}
use Rattle.rv_hunt.specs.declared.engine.fault.MakeFault.{MakeFault}
use Rattle.rv_hunt.specs.declared.engine.fault.MakeFault.TheVariants.{NoMemory, NoThread, Write}
use Rattle.rv_hunt.specs.internal.MakeFault.{as_command, is_write}
use Rattle.rv_json.specs.Object.{Member}
use Rattle.rv_markup.specs.declared.markup.Fact.{Fact}

never : {P : Type 0} → true ≡ false → P
never h = cc

by_fault : (files : Files) (asked : Asked) (hunting : Hunting) → IsHuntingOf asked files hunting → (made : MakeFault) → fault.IsTold asked files (Command (as_command made))
by_fault files asked hunting is NoMemory = (tt, λ plain. never (sym plain), λ thread. never (sym thread))
by_fault files asked hunting is NoThread = (is_ok (hunt_of asked files.image) hunting.hunt is.hunt_is, λ plain. never (sym plain), λ thread. (hunting, is))
by_fault files asked hunting is Write = (tt, λ plain. never (sym plain), λ thread. never (sym thread))

pub make_told : (known : Option Files) (asked : Asked) (hunting : Hunting) (made : MakeFault) (told : CommandFault) → told ≡ as_command made → IfSome known (λ files. IsHuntingOf asked files hunting) → IfSome known (λ files. fault.IsTold asked files (Command told))
make_told None asked hunting made told same is = tt
make_told (Some files) asked hunting made told same is =
    subst (λ (t : CommandFault). fault.IsTold asked files (Command t)) (sym same) (by_fault files asked hunting is made)

pub write_same : (made : MakeFault) → command.is_write (command.refusal (as_command made)) ≡ is_write made
write_same NoMemory = refl
write_same NoThread = refl
write_same Write = refl

pub made_known : (known : Option Files) (asked : Asked) (way : Showing) (hunting : Hunting) (Saves : ℕ → List ℕ → Type 0) (Pages : List Fact → Type 0) (Lists : List ℕ → Type 0) (Objects : List Member → Type 0) (found : Found) (texts : Texts)
    → IfSome known (λ files. IsHuntingOf asked files hunting) → IsMade way hunting Saves Pages Lists Objects found texts
    → IfSome known (λ files. (x : Hunting) × IsHuntingOf asked files x × IsMade way x Saves Pages Lists Objects found texts)
made_known None asked way hunting Saves Pages Lists Objects found texts is all = tt
made_known (Some files) asked way hunting Saves Pages Lists Objects found texts is all = (hunting, is, all)

pub told_known : (known : Option Files) (asked : Asked) (way : Showing) (Writes Notes : List ℕ → Type 0) (Saves : ℕ → List ℕ → Type 0) (Pages : List Fact → Type 0) (Lists : List ℕ → Type 0) (Objects : List Member → Type 0) (found : Found) (texts : Texts)
    → IfSome known (λ files. (x : Hunting) × IsHuntingOf asked files x × IsMade way x Saves Pages Lists Objects found texts) → Writes texts.text → Notes texts.notes
    → IfSome known (λ files. (x : Hunting) × IsHuntingOf asked files x × IsTold way x found Writes Notes Saves Pages Lists Objects)
told_known None asked way Writes Notes Saves Pages Lists Objects found texts is written noted = tt
told_known (Some files) asked way Writes Notes Saves Pages Lists Objects found texts (hunting, is, all) written noted = (
  hunting,
  is,
  record { texts = texts; made = all; written = written; noted = noted },
)
