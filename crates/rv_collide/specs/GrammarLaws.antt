-- What holds of the schedule's text.
use Rattle.std.specs.Prelude.{◌≡◌, ℕ, ◌↔◌, Ok, All, List}
use Rattle.rv_collide.specs.Forced.{Setting}
use Rattle.rv_collide.specs.Grammar.{Grammar, GrammarIn, HasAddress, IsWritable, IsWritableIn, text_in}
use Rattle.rv_collide.specs.Legal.{IsLegal}
use Rattle.rv_collide.specs.Numbers.{numbers}
use Rattle.rv_collide.specs.Plan.{IsPlan}
use Rattle.rv_collide.specs.ScheduleRead.{schedule_of}
use Rattle.rv_collide.specs.declared.entry.Entry.{Entry}
use Rattle.rv_collide.specs.declared.plan.Plan.{Plan}
use Rattle.rv_collide.specs.declared.schedule.format.Format.{Format}

-- a text is read as a plan and its entries exactly where it is theirs
abbrev pub ReadsTheGrammar : Type 0
ReadsTheGrammar =
    (text : List ℕ) (plan : Plan) (entries : List Entry) → (schedule_of text ≡ Ok (record { numbers = numbers plan; entries = entries })) ↔ Grammar text plan entries

-- a text is of one plan and one list of entries at most
abbrev pub TextHasOneSchedule : Type 0
TextHasOneSchedule =
    (text : List ℕ) (plan other : Plan) (entries others : List Entry) → Grammar text plan entries → Grammar text other others → (numbers plan ≡ numbers other) × (entries ≡ others)

-- a plan and its entries have one text of a format at most
abbrev pub ScheduleHasOneText : Type 0
ScheduleHasOneText =
    (format : Format) (text other : List ℕ) (plan : Plan) (entries : List Entry) → GrammarIn format text plan entries → GrammarIn format other plan entries → text ≡ other

-- and one where they may be written: in format 2 what a caller may write, in format 1 with four slots and none over 3
abbrev pub ScheduleHasText : Type 0
ScheduleHasText =
    (format : Format) (plan : Plan) (entries : List Entry) → IsWritableIn format (numbers plan) entries → All HasAddress entries → GrammarIn format (text_in format (numbers plan) entries) plan entries

-- a legal schedule of a plan may be written
abbrev pub LegalIsWritable : Type 0
LegalIsWritable = (setting : Setting) (entries : List Entry) → IsPlan setting.plan → IsLegal setting entries → IsWritable setting.plan entries
