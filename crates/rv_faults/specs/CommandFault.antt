-- Why `run` is refused. A text that a refusal tells is its bytes.
use Rattle.std.specs.Prelude.{◌≡◌, ⊤, ℕ, Bool, true, false, Option, Some, List, ◌++◌, codes, Result, Ok, Err}
use Rattle.std.specs.Result.{IsOk}
use Rattle.std.specs.Fmt.{decimal}
use Rattle.rv_campaign.specs.declared.runs.CampaignFault.{CampaignFault}
use Rattle.rv_campaign.specs.declared.runs.CampaignFault.TheVariants as campaign
use Rattle.rv_campaign.specs.declared.runs.NumberFault.{NumberFault}
use Rattle.rv_campaign.specs.declared.runs.NumberFault.TheVariants as number
use Rattle.std.specs.declared.convert.Infallible.{Infallible}
use Rattle.rv_faults.specs.Fault as plain
use Rattle.rv_faults.specs.FaultText as text
use Rattle.rv_faults.specs.declared.fault.Fault.{Fault}
use Rattle.rv_faults.specs.declared.fault.Fault.TheVariants.{Line, Step, Asm, Load, Schedule, Entry, Threads, Exhibit, TooLong, Read, Write, NoMemory}
use Rattle.rv_faults.specs.declared.command.CommandFault.{CommandFault}
use Rattle.rv_faults.specs.declared.command.CommandFault.TheVariants as run

-- a fault that any command may tell; an element of the list of addresses that is none; a name that no symbol has;
-- why the numbers of a campaign are refused; that a worker's thread could not be started; and that there is no race of
-- the number that was asked for, among as many as there are
pub data Refusal : Type 0 where
  Plain : Fault → Refusal
  Skip : (element : List ℕ) → Refusal
  Name : (name : List ℕ) → Refusal
  Campaign : NumberFault → Refusal
  NoThread : Refusal
  NoRace : (races : ℕ) → Refusal

abbrev pub refusal : CommandFault → Refusal
refusal (run.Plain fault) = Plain fault
refusal (run.Skip element) = Skip element.now
refusal (run.Name name) = Name name.now
refusal (run.Campaign fault) = Campaign fault
refusal run.NoThread = NoThread
refusal (run.NoRace races) = NoRace races

-- a gate that always lets in gives no value to refuse with
abbrev pub refusal_of_campaign : CampaignFault Infallible → Refusal
refusal_of_campaign campaign.NoMemory = Plain NoMemory
refusal_of_campaign campaign.TooLarge = Campaign number.TooLarge
refusal_of_campaign campaign.Runs = Campaign number.Runs
refusal_of_campaign campaign.Workers = Campaign number.Workers
refusal_of_campaign campaign.NoThread = NoThread
refusal_of_campaign (campaign.GateClosed worker shut) = elim shut [ ]

-- a fault that any command may tell, as one of `run`
abbrev pub plainly : {A : Type 0} → Result A Fault → Result A Refusal
plainly (Ok a) = Ok a
plainly (Err fault) = Err (Plain fault)

-- The refusal is the one that is told of the inputs; that a device failed or memory is out says nothing of them, and
-- that a thread could not be started is told only where there is nothing to refuse in them.
abbrev pub IsTold : {A : Type 0} → Result A Refusal → Refusal → Type 0
IsTold told (Plain (Line number)) = told ≡ Err (Plain (Line number))
IsTold told (Plain (Step number fault)) = told ≡ Err (Plain (Step number fault))
IsTold told (Plain (Asm fault)) = told ≡ Err (Plain (Asm fault))
IsTold told (Plain (Load fault)) = told ≡ Err (Plain (Load fault))
IsTold told (Plain (Schedule fault)) = told ≡ Err (Plain (Schedule fault))
IsTold told (Plain (Entry place why)) = told ≡ Err (Plain (Entry place why))
IsTold told (Plain (Threads fault)) = told ≡ Err (Plain (Threads fault))
IsTold told (Plain (Exhibit fault)) = told ≡ Err (Plain (Exhibit fault))
IsTold told (Plain TooLong) = told ≡ Err (Plain TooLong)
IsTold told (Plain Read) = ⊤
IsTold told (Plain Write) = ⊤
IsTold told (Plain NoMemory) = ⊤
IsTold told (Skip element) = told ≡ Err (Skip element)
IsTold told (Name name) = told ≡ Err (Name name)
IsTold told (Campaign fault) = told ≡ Err (Campaign fault)
IsTold told NoThread = IsOk told
IsTold told (NoRace races) = told ≡ Err (NoRace races)

-- the refusal is that the reader failed
abbrev pub is_read : Refusal → Bool
is_read (Plain fault) = plain.is_read fault
is_read (Skip element) = false
is_read (Name name) = false
is_read (Campaign fault) = false
is_read NoThread = false
is_read (NoRace races) = false

-- the refusal is that a writer failed
abbrev pub is_write : Refusal → Bool
is_write (Plain fault) = plain.is_write fault
is_write (Skip element) = false
is_write (Name name) = false
is_write (Campaign fault) = false
is_write NoThread = false
is_write (NoRace races) = false

-- the refusal is that a thread could not be started
abbrev pub is_thread : Refusal → Bool
is_thread (Plain fault) = false
is_thread (Skip element) = false
is_thread (Name name) = false
is_thread (Campaign fault) = false
is_thread NoThread = true
is_thread (NoRace races) = false

-- something was refused, and the refusal passes the test
abbrev pub fails_by : {A : Type 0} → (Refusal → Bool) → Result A CommandFault → Bool
fails_by test (Ok a) = false
fails_by test (Err fault) = test (refusal fault)

-- ---- what is told

abbrev pub number_fault_name : NumberFault → List ℕ
number_fault_name number.TooLarge = codes "TooLarge"
number_fault_name number.Runs = codes "Runs"
number_fault_name number.Workers = codes "Workers"

-- what the program writes of a refusal, after its own name
abbrev pub refusal_output : CommandFault → Option (List ℕ)
refusal_output (run.Plain fault) = text.fault_output fault
refusal_output (run.Skip element) = Some (codes "skip " ++ element.now)
refusal_output (run.Name name) = Some (codes "name " ++ name.now)
refusal_output (run.Campaign fault) = Some (codes "campaign " ++ number_fault_name fault)
refusal_output run.NoThread = Some (codes "campaign NoThread")
refusal_output (run.NoRace races) = Some (codes "explain NoRace of " ++ decimal races)

-- the exit status
abbrev pub status : CommandFault → ℕ
status (run.Plain fault) = text.status fault
status (run.Skip element) = 1
status (run.Name name) = 1
status (run.Campaign fault) = 1
status run.NoThread = 1
status (run.NoRace races) = 1
