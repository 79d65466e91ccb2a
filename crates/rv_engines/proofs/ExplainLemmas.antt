-- What two files and the options of `explain` come to, and why they are refused.
use Rattle.std.proofs.Common.{◌≡◌, ℕ, Bool, true, false, true≢false, List, [], length, Option, Some, None, Result, Ok, Err, refl, sym, ap, subst, ◌∙◌}
use Rattle.std.specs.Prelude.{◌==◌, ◌||◌, ◌&&◌, IfSome, IsOkAnd, if◌then◌else◌, find, is_some}
use Rattle.std.specs.Result.{IsOk}
use Rattle.rv_collide.specs.Legal.{IsLegal}
use Rattle.rv_collide.specs.Plan.{Numbers}
use Rattle.rv_collide.specs.Replays.{IsReplayFault}
use Rattle.rv_collide.specs.Stored.{Stored, setting_of, stored}
use Rattle.rv_collide.specs.declared.entry.Entry.{Entry}
use Rattle.rv_collide.specs.declared.replay.ReplayFault.{ReplayFault}
use Rattle.rv_debug.specs.Placed.{Placed, placed, setting}
use Rattle.rv_elf.specs.Contents.{Contents}
use Rattle.rv_explain.specs.Blocks.{RaceShown}
use Rattle.rv_explain.specs.Explained.{blocks_asked}
use Rattle.rv_explain.specs.Races.{AreTold, Found, Run, found, found_of, run_of as placed_run}
use Rattle.rv_races.specs.declared.races.Race.{Race}
use Rattle.rv_lines.specs.SourceLines.{SourceLine}
use Rattle.rv_markup.specs.Markup.{IsDocument}
use Rattle.rv_memory.specs.Chain.{◌>>=◌}
use Rattle.rv_prune.specs.Ranges.{is_unknown, ranges}
use Rattle.rv_engines.proofs.ReplayLemmas.{entry_told}
use Rattle.rv_engines.specs.Asking.{Asking}
use Rattle.rv_engines.specs.Campaigns.{IfWanted, elements, listed, unless_some}
use Rattle.rv_faults.specs.CommandFault.{Refusal, Plain, Name, NoThread, NoRace, IsTold, is_thread, plainly, refusal}
use Rattle.rv_engines.specs.Explains.{IsAnObject, IsDrawn, IsExplainRefusal, IsExplainTold, IsObjected, IsOfLegal, SaysMiss, explain_of, if_drawn, of_command, of_fault, of_lines, run_in, shown_in, shown_in_run, unless_none}
use Rattle.rv_faults.specs.Fault.{fault_of_replay}
use Rattle.rv_engines.specs.Replay.{IfKnown, IsReplayRefusal, run_of}
use Rattle.rv_engines.specs.declared.explain.opening.Opened.{Opened}
use Rattle.rv_faults.specs.declared.fault.Fault.{Fault}
use Rattle.rv_faults.specs.declared.fault.Fault.TheVariants.{Read, Write, NoMemory}
use Rattle.rv_engines.specs.declared.explain.fault.ExplainFault.{ExplainFault}
use Rattle.rv_faults.specs.declared.command.CommandFault.{CommandFault}
use Rattle.rv_faults.specs.declared.source_lines.SourceFault.{SourceFault}
use Rattle.rv_faults.specs.SourceFile as source
use Rattle.rv_engines.specs.internal.Opened.{AreFound}

-- ---- the files

pub files_refused : (image schedule : Option (List ℕ)) (draws : Bool) (wanted : Asking) (fault : Fault) (told : Refusal) → told ≡ Plain fault
    → IfKnown image schedule (λ i s. IsReplayRefusal i s fault) → IfKnown image schedule (λ i s. IsExplainRefusal draws wanted i s told)
files_refused image schedule draws wanted fault told is h = subst (λ (t : Refusal). IfKnown image schedule (λ i s. IsExplainRefusal draws wanted i s t)) (sym is) h

of_legal : (i s : List ℕ) (run : Stored) → run_of i s ≡ Ok run → IsLegal (setting_of run) run.entries → IsOfLegal i s
of_legal i s run is legal = rw is legal

explain_is : (draws : Bool) (wanted : Asking) (i s : List ℕ) (run : Stored) → run_of i s ≡ Ok run → explain_of draws wanted i s ≡ shown_in draws wanted run
unfolding explain_of
explain_is draws wanted i s run is = ap (λ r. plainly r >>= shown_in draws wanted) is

pub entry_refused : (image schedule : Option (List ℕ)) (draws : Bool) (wanted : Asking) (run : Stored) (given : ReplayFault) (told : Refusal) → IfKnown image schedule (λ i s. run_of i s ≡ Ok run)
    → IsReplayFault (setting_of run) run.entries given → told ≡ Plain (fault_of_replay given) → IfKnown image schedule (λ i s. IsExplainRefusal draws wanted i s told)
entry_refused None schedule draws wanted run given told is fault same = tt
entry_refused (Some i) None draws wanted run given told is fault same = tt
entry_refused (Some i) (Some s) draws wanted run given told is fault same =
    subst (λ (t : Refusal). IsExplainRefusal draws wanted i s t) (sym same) (entry_told i s run given is fault)

-- ---- the names

listed_no_plain : (image : Contents) (names : List (List ℕ)) (fault : Fault) → listed image names ≡ Err (Plain fault) → ⊥
unfolding listed
listed_no_plain image names fault h = go (find (is_unknown image) names) h
  where
    go : (o : Option (List ℕ)) → (unless_some o Name >>= λ _. Ok (ranges image names)) ≡ Err (Plain fault) → ⊥
    go None h = cc
    go (Some name) h = cc

of_names : (draws : Bool) (wanted : Asking) (i s : List ℕ) (run : Stored) (told : Refusal) → run_of i s ≡ Ok run → IsLegal (setting_of run) run.entries
    → listed run.image (elements wanted.named) ≡ Err told → IsOfLegal i s × (explain_of draws wanted i s ≡ Err told)
of_names draws wanted i s run told is legal h = (
  of_legal i s run is legal,
  explain_is draws wanted i s run is ∙ ap (λ r. r >>= λ ranges. shown_in_run draws wanted (run_in run) (found (run_in run) ranges)) h,
)

names_told : (draws : Bool) (wanted : Asking) (i s : List ℕ) (run : Stored) (told : Refusal) → run_of i s ≡ Ok run → IsLegal (setting_of run) run.entries
    → is_thread told ≡ false → IsTold (listed run.image (elements wanted.named)) told → IsExplainRefusal draws wanted i s told
names_told draws wanted i s run (Plain Read) is legal no_thread h = tt
names_told draws wanted i s run (Plain Write) is legal no_thread h = tt
names_told draws wanted i s run (Plain NoMemory) is legal no_thread h = tt
names_told draws wanted i s run (Plain fault) is legal no_thread h = absurd (listed_no_plain run.image (elements wanted.named) fault h)
names_told draws wanted i s run NoThread is legal no_thread h = absurd (true≢false no_thread)
names_told draws wanted i s run told is legal no_thread h = of_names draws wanted i s run told is legal h

pub names_refused : (image schedule : Option (List ℕ)) (draws : Bool) (wanted : Asking) (run : Stored) (contents : Contents) (told : Refusal) → IfKnown image schedule (λ i s. run_of i s ≡ Ok run)
    → run.image ≡ contents → IsLegal (setting_of run) run.entries → is_thread told ≡ false → IsTold (listed contents (elements wanted.named)) told → IfKnown image schedule (λ i s. IsExplainRefusal draws wanted i s told)
names_refused None schedule draws wanted run contents told is same legal no_thread h = tt
names_refused (Some i) None draws wanted run contents told is same legal no_thread h = tt
names_refused (Some i) (Some s) draws wanted run contents told is same legal no_thread h =
    names_told draws wanted i s run told is legal no_thread (subst (λ (c : Contents). IsTold (listed c (elements wanted.named)) told) (sym same) h)

-- ---- the races

run_same : (p : Placed) (contents : Contents) (plan : Numbers) (entries : List Entry) → p.image ≡ contents → p.plan ≡ plan → p.entries ≡ entries → placed_run (placed contents plan entries 0) ≡ placed_run p
run_same p contents plan entries image numbers list =
    ap (λ (c : Contents). placed_run (placed c plan entries 0)) (sym image)
    ∙ ap (λ (n : Numbers). placed_run (placed p.image n entries 0)) (sym numbers)
    ∙ ap (λ (es : List Entry). placed_run (placed p.image p.plan es 0)) (sym list)

pub are_found : (wanted : Asking) (opened : Opened) (contents : Contents) (plan : Numbers) (entries : List Entry) (ranges : List (ℕ × ℕ)) → opened.image ≡ contents → opened.session.image ≡ contents → opened.session.plan ≡ plan → opened.session.entries ≡ entries
    → listed contents (elements wanted.named) ≡ Ok ranges → found_of opened.found ≡ found (placed_run (placed contents plan entries 0)) ranges → AreFound wanted opened
are_found wanted opened contents plan entries ranges own image numbers list names found_is = record {
  ranges = ranges;
  listed_are = ap (λ (c : Contents). listed c (elements wanted.named)) own ∙ names;
  found_are = found_is ∙ ap (λ (r : Run). found r ranges) (run_same opened.session contents plan entries image numbers list);
}

pub are_told : (p : Placed) (contents : Contents) (plan : Numbers) (entries : List Entry) (races : List Race) → p.image ≡ contents → p.plan ≡ plan → p.entries ≡ entries
    → AreTold (placed_run (placed contents plan entries 0)) races → AreTold (placed_run p) races
are_told p contents plan entries races image numbers list told = subst (λ (r : Run). AreTold r races) (run_same p contents plan entries image numbers list) told

-- ---- what is told

whole : (draws : Bool) (wanted : Asking) (i s : List ℕ) (opened : Opened) → run_of i s ≡ Ok (stored opened.session.image opened.session.plan opened.session.entries) → opened.session.image ≡ opened.image
    → AreFound wanted opened → explain_of draws wanted i s ≡ shown_in_run draws wanted (placed_run opened.session) (found_of opened.found)
whole draws wanted i s opened is image found_in =
    let names = ap (λ (c : Contents). listed c (elements wanted.named)) image ∙ found_in.listed_are in
    explain_is draws wanted i s (stored opened.session.image opened.session.plan opened.session.entries) is
    ∙ ap (λ r. r >>= λ ranges. shown_in_run draws wanted (placed_run opened.session) (found (placed_run opened.session) ranges)) names
    ∙ ap (λ (f : Found). shown_in_run draws wanted (placed_run opened.session) f) (sym found_in.found_are)

no_plain : (draws : Bool) (wanted : Asking) (run : Run) (f : Found) (fault : Fault) → shown_in_run draws wanted run f ≡ Err (Plain fault) → ⊥
no_plain draws wanted run f fault h = go (blocks_asked run wanted.around f.races wanted.race) h
  where
    undrawn : (none : Bool) (blocks : List RaceShown) → (if none then Err (NoRace 0) else Ok blocks) ≡ Err (Plain fault) → ⊥
    undrawn true blocks h = cc
    undrawn false blocks h = cc

    go : (blocks : Option (List RaceShown)) → (unless_none (length f.races) blocks >>= if_drawn draws) ≡ Err (Plain fault) → ⊥
    go None h = cc
    go (Some blocks) h = undrawn (draws && length blocks == 0) blocks h

races_told : (draws : Bool) (wanted : Asking) (i s : List ℕ) (run : Run) (f : Found) (told : Refusal) → IsOfLegal i s → explain_of draws wanted i s ≡ shown_in_run draws wanted run f
    → is_thread told ≡ false → IsTold (shown_in_run draws wanted run f) told → IsExplainRefusal draws wanted i s told
races_told draws wanted i s run f (Plain Read) legal is no_thread h = tt
races_told draws wanted i s run f (Plain Write) legal is no_thread h = tt
races_told draws wanted i s run f (Plain NoMemory) legal is no_thread h = tt
races_told draws wanted i s run f (Plain fault) legal is no_thread h = absurd (no_plain draws wanted run f fault h)
races_told draws wanted i s run f NoThread legal is no_thread h = absurd (true≢false no_thread)
races_told draws wanted i s run f told legal is no_thread h = (legal, is ∙ h)

pub races_refused : (image schedule : Option (List ℕ)) (draws : Bool) (wanted : Asking) (opened : Opened) (told : Refusal) → IfKnown image schedule (λ i s. run_of i s ≡ Ok (stored opened.session.image opened.session.plan opened.session.entries))
    → opened.session.image ≡ opened.image → IsLegal (setting opened.session) opened.session.entries → AreFound wanted opened
    → is_thread told ≡ false → IsTold (shown_in_run draws wanted (placed_run opened.session) (found_of opened.found)) told → IfKnown image schedule (λ i s. IsExplainRefusal draws wanted i s told)
races_refused None schedule draws wanted opened told is image legal found_in no_thread h = tt
races_refused (Some i) None draws wanted opened told is image legal found_in no_thread h = tt
races_refused (Some i) (Some s) draws wanted opened told is image legal found_in no_thread h =
    races_told draws wanted i s (placed_run opened.session) (found_of opened.found) told (of_legal i s _ is legal) (whole draws wanted i s opened is image found_in) no_thread h

pub races_shown : (image schedule : Option (List ℕ)) (draws : Bool) (wanted : Asking) (opened : Opened) → IfKnown image schedule (λ i s. run_of i s ≡ Ok (stored opened.session.image opened.session.plan opened.session.entries))
    → opened.session.image ≡ opened.image → IsLegal (setting opened.session) opened.session.entries → AreFound wanted opened
    → IsOk (shown_in_run draws wanted (placed_run opened.session) (found_of opened.found)) → IfKnown image schedule (λ i s. IsOfLegal i s × IsOk (explain_of draws wanted i s))
races_shown None schedule draws wanted opened is image legal found_in h = tt
races_shown (Some i) None draws wanted opened is image legal found_in h = tt
races_shown (Some i) (Some s) draws wanted opened is image legal found_in h =
    (of_legal i s _ is legal, subst (λ (o : Result (List RaceShown) Refusal). IsOk o) (sym (whole draws wanted i s opened is image found_in)) h)

-- ---- with source lines

-- what is told of the files is told with any lines too
pub told_command : (image schedule : Option (List ℕ)) (lines : Option (Option (List ℕ))) (draws : Bool) (wanted : Asking) (given : CommandFault)
    → IfKnown image schedule (λ i s. IsExplainRefusal draws wanted i s (refusal given)) → IfKnown image schedule (λ i s. IfSome lines (λ l. IsExplainTold draws wanted i s l (of_command given)))
told_command None schedule lines draws wanted given h = tt
told_command (Some i) None lines draws wanted given h = tt
told_command (Some i) (Some s) None draws wanted given h = tt
told_command (Some i) (Some s) (Some l) draws wanted given h = h

-- lines that are refused are told where the schedule is legal
pub told_lines : (image schedule : Option (List ℕ)) (lines : Option (Option (List ℕ))) (draws : Bool) (wanted : Asking) (run : Stored) (given : SourceFault) → IfKnown image schedule (λ i s. run_of i s ≡ Ok run)
    → IsLegal (setting_of run) run.entries → IfSome lines (λ l. source.IsTold (source.source_in l) given) → IfKnown image schedule (λ i s. IfSome lines (λ l. IsExplainTold draws wanted i s l (of_lines given)))
told_lines None schedule lines draws wanted run given is legal h = tt
told_lines (Some i) None lines draws wanted run given is legal h = tt
told_lines (Some i) (Some s) None draws wanted run given is legal h = tt
told_lines (Some i) (Some s) (Some l) draws wanted run given is legal h = (of_legal i s run is legal, h)

pub write_told : (image schedule : Option (List ℕ)) (lines : Option (Option (List ℕ))) (draws : Bool) (wanted : Asking) (told : ExplainFault) → told ≡ of_fault Write
    → IfKnown image schedule (λ i s. IfSome lines (λ l. IsExplainTold draws wanted i s l told))
write_told None schedule lines draws wanted told is = tt
write_told (Some i) None lines draws wanted told is = tt
write_told (Some i) (Some s) None draws wanted told is = tt
write_told (Some i) (Some s) (Some l) draws wanted told is = subst (λ (t : ExplainFault). IsExplainTold draws wanted i s l t) (sym is) tt

-- whether the lines miss the image is said of what was read
pub missed : (image schedule : Option (List ℕ)) (lines : Option (Option (List ℕ))) (opened : Opened) (read : Option (List SourceLine)) (misses : Bool)
    → IfKnown image schedule (λ i s. run_of i s ≡ Ok (stored opened.session.image opened.session.plan opened.session.entries)) → opened.session.image ≡ opened.image
    → IfSome lines (λ l. source.source_in l ≡ Ok read) → misses ≡ source.lines_miss opened.image read → IfKnown image schedule (λ i s. IfSome lines (λ l. SaysMiss i s l misses))
missed None schedule lines opened read misses is image read_is same = tt
missed (Some i) None lines opened read misses is image read_is same = tt
missed (Some i) (Some s) None opened read misses is image read_is same = tt
missed (Some i) (Some s) (Some l) opened read misses is image read_is same =
    subst (λ (o : Result Stored Fault). IsOkAnd o (λ (run : Stored). IsOkAnd (source.source_in l) (λ (found : Option (List SourceLine)). misses ≡ source.lines_miss run.image found))) (sym is)
    (subst (λ (o : Result (Option (List SourceLine)) SourceFault). IsOkAnd o (λ (found : Option (List SourceLine)). misses ≡ source.lines_miss opened.session.image found)) (sym read_is)
    (same ∙ ap (λ (c : Contents). source.lines_miss c read) (sym image)))

reassoc : (a b c : Bool) → (a || b || c) ≡ ((a || b) || c)
reassoc true b c = refl
reassoc false b c = refl

swapped : (i s f l : Bool) → ((i || s || f) || l) ≡ (i || s || l || f)
swapped true s f l = refl
swapped false true f l = refl
swapped false false true true = refl
swapped false false true false = refl
swapped false false false true = refl
swapped false false false false = refl

joined : (i s l g : Bool) → ((i || s || false) || (l || g)) ≡ (i || s || l || g)
joined true s l g = refl
joined false true l g = refl
joined false false l g = refl

-- of three readers the first two may have failed
pub files_read : (image_now schedule_now image schedule failed lines : Bool) → (image_now || schedule_now) ≡ (image || schedule || failed)
    → (image_now || schedule_now || lines) ≡ (image || schedule || lines || failed)
files_read image_now schedule_now image schedule failed lines h =
    reassoc image_now schedule_now lines ∙ ap (λ (b : Bool). b || lines) h ∙ swapped image schedule failed lines

-- or the last
pub lines_read : (image_now schedule_now lines_now image schedule lines failed : Bool) → (image_now || schedule_now) ≡ (image || schedule || false) → lines_now ≡ (lines || failed)
    → (image_now || schedule_now || lines_now) ≡ (image || schedule || lines || failed)
lines_read image_now schedule_now lines_now image schedule lines failed h k =
    reassoc image_now schedule_now lines_now ∙ ap (λ (b : Bool). b || lines_now) h ∙ ap (λ (b : Bool). (image || schedule || false) || b) k ∙ joined image schedule lines failed

-- or none
pub all_read : (image_now schedule_now lines_now image schedule lines failed : Bool) → (image_now || schedule_now) ≡ (image || schedule || false) → lines_now ≡ (lines || false) → failed ≡ false
    → (image_now || schedule_now || lines_now) ≡ (image || schedule || lines || failed)
all_read image_now schedule_now lines_now image schedule lines failed h k is =
    lines_read image_now schedule_now lines_now image schedule lines false h k ∙ ap (λ (b : Bool). image || schedule || lines || b) (sym is)

-- ---- what is written

pub no_writer : (file other writer failed : Bool) → failed ≡ false → (file || other || writer) ≡ (file || other || writer || failed)
no_writer true other writer failed is = refl
no_writer false true writer failed is = refl
no_writer false false true failed is = refl
no_writer false false false failed is = sym is

-- the same where what is wanted is known by a test
pub refused_by : (image schedule : Option (List ℕ)) (draws tested : Bool) (wanted : Asking) (told : Refusal) → draws ≡ tested → IfKnown image schedule (λ i s. IsExplainRefusal draws wanted i s told)
    → IfKnown image schedule (λ i s. IsExplainRefusal tested wanted i s told)
refused_by image schedule draws tested wanted told same h = subst (λ (b : Bool). IfKnown image schedule (λ i s. IsExplainRefusal b wanted i s told)) same h

pub shown_by : (image schedule : Option (List ℕ)) (draws tested : Bool) (wanted : Asking) → draws ≡ tested → IfKnown image schedule (λ i s. IsOfLegal i s × IsOk (explain_of draws wanted i s))
    → IfKnown image schedule (λ i s. IsOfLegal i s × IsOk (explain_of tested wanted i s))
shown_by image schedule draws tested wanted same h = subst (λ (b : Bool). IfKnown image schedule (λ i s. IsOfLegal i s × IsOk (explain_of b wanted i s))) same h

-- ---- what is made

-- a picture that is wanted is made, and there
pub drawn_there : {F V : Type 0} (items : V → List ℕ) (Holds : F → List ℕ → Type 0) (made : Option V) (file : Option F) → is_some made ≡ is_some file
    → IfSome made (λ text. IfWanted Holds file (items text)) → IfSome made (λ text. IsDocument (items text) []) → IfSome file (λ f. IsDrawn (Holds f))
drawn_there items Holds made None same held is = tt
drawn_there items Holds None (Some f) same held is = absurd (true≢false (sym same))
drawn_there items Holds (Some text) (Some f) same held is = record { drawn = items text; is_markup = is; held = held }

-- and so is an object
pub object_there : {F V : Type 0} (items : V → List ℕ) (Holds : F → List ℕ → Type 0) (made : Option V) (file : Option F) → is_some made ≡ is_some file
    → IfSome made (λ text. IfWanted Holds file (items text)) → IfSome made (λ text. IsAnObject (items text)) → IfSome file (λ f. IsObjected (Holds f))
object_there items Holds made None same held is = tt
object_there items Holds None (Some f) same held is = absurd (true≢false (sym same))
object_there items Holds (Some text) (Some f) same held is = record { text = items text; is_object = is; held = held }
