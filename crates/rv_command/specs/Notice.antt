-- What is written of a line that gives no job: the help, the version, or why it is refused.
use Rattle.std.specs.Prelude.{Bool, true, false, not, ◌&&◌, ◌||◌, ◌++◌, List, [], ◌∷◌, Option, Some, codes}
use Rattle.std.specs.List.{list_all, list_any}
use Rattle.std.specs.Str.{bytes_eq}
use Rattle.std.specs.String.{string_bytes}
use Rattle.clap.specs.Words.{Text}
use Rattle.clap.specs.Faults.{fault_of}
use Rattle.clap.specs.declared.error.kind.ErrorKind.{ErrorKind}
use Rattle.clap.specs.declared.error.kind.ErrorKind.TheVariants as kind
use Rattle.rv_command.specs.ClapProgram.{is_accepted, program}
use Rattle.std.specs.Fmt.{decimal}
use Rattle.rv_command.specs.declared.command.complaint.Complaint.{Complaint}
use Rattle.rv_command.specs.declared.command.complaint.Complaint.TheVariants as complaint
use Rattle.rv_collide.specs.declared.plan.TheConstants.{MOST_ARMS, MOST_PAUSE, MOST_STEPS}
use Rattle.rv_command.specs.declared.command.exhibit.TheConstants.{MOST_ENDING}
use Rattle.rv_command.specs.declared.command.hunt.TheConstants.{MOST_CODE}
use Rattle.rv_command.specs.declared.command.Notice.{Notice}
use Rattle.rv_command.specs.declared.command.Notice.TheVariants.{Answer, Refusal}
use Rattle.rv_faults.specs.Shown.{shown}

-- What is written of a line that gives no job.

abbrev pub is_request : ErrorKind → Bool
is_request kind.DisplayHelp = true
is_request kind.DisplayVersion = true
is_request _ = false

-- the line is `help faults` or `help words`, which are answered before `clap` sees them
abbrev pub asks_topic : List Text → Bool
asks_topic (name ∷ command ∷ topic ∷ []) = bytes_eq command (codes "help") && (bytes_eq topic (codes "faults") || bytes_eq topic (codes "words"))
asks_topic _ = false

-- among what `clap` may answer to the words is the help or the version
abbrev pub asks_clap : List Text → Bool
asks_clap words = list_any is_request (fault_of program words)

-- it is nothing else
abbrev pub only_asks_clap : List Text → Bool
only_asks_clap words = not (is_accepted words) && list_all is_request (fault_of program words)

-- the words may ask for a text; and they ask for nothing else
abbrev pub asks : List Text → Bool
asks words = asks_topic words || asks_clap words

abbrev pub only_asks : List Text → Bool
only_asks words = asks_topic words || only_asks_clap words

abbrev pub text_of : Notice → Text
text_of (Answer text) = string_bytes text
text_of (Refusal text) = string_bytes text

-- the text goes to the standard output
abbrev pub is_answer : Notice → Bool
is_answer (Answer text) = true
is_answer (Refusal text) = false

-- what is told of a line in which `clap` finds no fault, with the value as messages show it
abbrev pub complaint_output : Complaint → Option Text
complaint_output (complaint.Number option value) =
    Some (codes "error: invalid value '" ++ shown value.now ++ codes "' for '--" ++ option.name.now ++ codes "': it is a decimal number from "
    ++ decimal option.least ++ codes " to " ++ decimal option.most ++ codes "\n")
complaint_output (complaint.Lengths value) =
    Some (codes "error: invalid value '" ++ (shown value.now ++ (codes "' for '--plan': it is STEPS,ARMS,PAUSE: numbers from 1 to "
    ++ (decimal MOST_STEPS ++ (codes ", 0 to " ++ (decimal MOST_ARMS ++ (codes " and 1 to " ++ (decimal MOST_PAUSE ++ codes "\n"))))))))
complaint_output (complaint.Aim value) =
    Some (codes "error: invalid value '" ++ (shown value.now ++ codes "' for '--aim': it is A,B: two names or addresses with one comma\n"))
complaint_output complaint.SampledAim = Some (codes "error: '--aim' cannot be used with '--sampled': sampled runs make no probes\n")
complaint_output complaint.QuietProgress = Some (codes "error: '--progress' cannot be used with '--quiet'\n")
complaint_output (complaint.Color value) =
    Some (codes "error: invalid value '" ++ (shown value.now ++ codes "' for '--color': it is auto, always or never\n"))
complaint_output (complaint.Right value) =
    Some (codes "error: invalid value '" ++ (shown value.now ++ (codes "' for '--right': it is a list of decimal numbers from 0 to "
    ++ (decimal MOST_CODE ++ codes " with commas between them\n"))))
complaint_output (complaint.Keep value runs) =
    Some (codes "error: invalid value '" ++ (shown value.now ++ (codes "' for '--keep': it is less than '--runs', which is "
    ++ (decimal runs ++ codes "\n"))))
complaint_output (complaint.Ending value) =
    Some (codes "error: invalid value '" ++ (shown value.now ++ (codes "' for 'N': it is a decimal number from 0 to "
    ++ (decimal MOST_ENDING ++ codes "\n"))))
complaint_output complaint.Tables = Some (codes "error: merge takes its tables together, with '--expect TABLE' before them or behind\n")
complaint_output complaint.Words = Some (codes "error: the command line is refused\n")
