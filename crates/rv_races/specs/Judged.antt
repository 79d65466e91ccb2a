-- By what a report is judged: by the access that its data breakpoint saw, or else by the last store to its bytes.
use Rattle.std.specs.Prelude.{ℕ, Bool, true, false, if◌then◌else◌, Option, Some, None, unwrap_or, List, filter_map}
use Rattle.std.specs.List.{fold}
use Rattle.std.specs.Option.{option_map_or}
use Rattle.rv_break.specs.declared.claim.Seen.{Seen}
use Rattle.rv_collide.specs.Answers.{pause_of}
use Rattle.rv_collide.specs.First.{seen_at}
use Rattle.rv_collide.specs.Pause.{within}
use Rattle.rv_collide.specs.declared.ending.Ending.{Ending}
use Rattle.rv_collide.specs.declared.ending.Verdict.{Verdict}
use Rattle.rv_collide.specs.declared.ending.Verdict.TheVariants.{Hit, Changed, Quiet}
use Rattle.rv_collide.specs.declared.entry.Entry.{Entry}
use Rattle.rv_elf.specs.Contents.{Contents}
use Rattle.rv_hart.specs.Run.{run}
use Rattle.rv_hart.specs.State.{State}
use Rattle.rv_hart.specs.declared.access.Access.{Access}
use Rattle.rv_races.specs.Run.{Run}
use Rattle.rv_races.specs.declared.judged.Judged.{Judged}
use Rattle.rv_report.specs.Exhibit.{writes_over}

-- the accesses within the pause, in order: all are other harts'
unfoldable pub seen_within : Run → Ending → List Seen
seen_within run told = filter_map (seen_at run.start run.entries) (within (pause_of told))

-- the later of two where it writes one of the bytes
abbrev pub store_or : Access → Option Seen → Seen → Option Seen
store_or paused earlier seen = if writes_over paused seen.access then Some seen else earlier

-- the last of them that writes one of the bytes
unfoldable pub last_store : Run → Ending → Option Seen
last_store run told = fold (store_or told.access) None (seen_within run told)

-- a Changed report as the hit of its last store; any other as it is
abbrev pub judged_by : Option Seen → Verdict → Verdict
judged_by last (Hit seen) = Hit seen
judged_by last Changed = option_map_or (λ seen. Hit seen) last Changed
judged_by last Quiet = Quiet

abbrev pub is_changed_by : Verdict → Bool
is_changed_by (Hit seen) = false
is_changed_by Changed = true
is_changed_by Quiet = false

-- the ending found its bytes changed
abbrev pub is_changed : Ending → Bool
is_changed told = is_changed_by told.verdict

-- the run of entries behind such steps from a state
abbrev pub run_behind : Contents → State → List ℕ → List Entry → Run
run_behind image start steps entries = record { image = image; start = unwrap_or (run start steps) start; entries = entries }

-- an ending, and the verdict that it is judged by
unfoldable pub judged : Run → Ending → Judged
judged run told = record { ending = told; verdict = judged_by (last_store run told) told.verdict }
