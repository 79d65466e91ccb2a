-- What `show` makes of its files, and why it goes no further.
use Rattle.std.proofs.Common.{◌≡◌, ℕ, List, Option, Some, None, Result, Ok, Err, Bool, length, map, take, inl, inr, [], refl, ap, subst, ◌∙◌, true, false, sym}
use Rattle.std.specs.Borrow.{Bor}
use Rattle.std.specs.Prelude.{IfSome, IsOkAnd, ◌||◌, filter, option_map}
use Rattle.rv_elf.specs.Contents.{Contents}
use Rattle.rv_faults.specs.CommandFault as command
use Rattle.rv_faults.specs.Fault.{IsToldFault}
use Rattle.rv_engines.specs.Images.{image_of}
use Rattle.rv_faults.specs.SourceFile.{lines_miss, source_in}
use Rattle.rv_explain.specs.Naming.{Naming}
use Rattle.rv_lines.specs.SourceLines.{SourceLine}
use Rattle.rv_faults.specs.declared.fault.Fault.{Fault}
use Rattle.rv_faults.specs.declared.fault.Fault.TheVariants as plain
use Rattle.rv_faults.specs.declared.command.CommandFault.{CommandFault}
use Rattle.rv_faults.specs.declared.command.CommandFault.TheVariants as fault
use Rattle.rv_hunt.proofs.FileLemmas.{files_in}
use Rattle.rv_hunt.proofs.OpenLemmas.{and_ok, is_ok, of_image, plainly_told}
use Rattle.rv_hunt.specs.GivenRuns.{RunsGiven, given as runs_given, given_in, texts}
use Rattle.rv_hunt.specs.declared.given.GivenRuns.{GivenRuns}
use Rattle.rv_search.specs.Hunt.{Hunt}
use Rattle.rv_object.specs.HuntObject.{object_facts, table_sums}
use Rattle.rv_tables.specs.Origin.{image_digits, runs_of, words_in}
use Rattle.rv_page.specs.PageFacts.{table_facts}
use Rattle.rv_shown.specs.ToldOrder.{AreInOrder}
use Rattle.rv_hunt.specs.declared.engine.fault.HuntFault.TheVariants.{Command, Ignored, Expected, Aimed, Lines}
use Rattle.rv_shown.specs.declared.found.Found.{Found}
use Rattle.rv_hunt.specs.declared.engine.lists.Lists.{Lists as ListsRead}
use Rattle.rv_hunt.specs.declared.engine.opening.Listed.{Listed}
use Rattle.rv_hunt.specs.declared.engine.show.ShowFault.{ShowFault}
use Rattle.rv_hunt.specs.declared.engine.show.ShowFault.TheVariants.{Table, Hunt as OfHunt}
use Rattle.rv_shown.specs.declared.shown.ShownRace.{ShownRace}
use Rattle.rv_hunt.specs.declared.engine.tabled.ShownTable.{ShownTable}
use Rattle.rv_tables.specs.declared.merge.fault.FileFault.{FileFault}
use Rattle.rv_tables.specs.declared.orders.OrderRow.{OrderRow}
use Rattle.rv_tables.specs.declared.row.RaceRow.{RaceRow}
use Rattle.rv_shown.specs.Asked.{Asked}
use Rattle.rv_hunt.specs.engine.Hunting.{expected_in, found_in, ignored_in}
use Rattle.rv_remade.specs.Shown.{AreShown}
use Rattle.rv_hunt.specs.engine.TableShown.{IsMade, IsShownOf, IsTold, TableShown, asked_by, ignored_of, is_of_files, naming_in, table_in, told_of, unmet, unsaid, without_place}
use Rattle.rv_campaign.specs.declared.pool.PoolFault.{PoolFault}
use Rattle.rv_campaign.specs.declared.pool.PoolFault.TheVariants as pool
use Rattle.rv_remade.specs.declared.folder.FolderFault.{FolderFault}
use Rattle.rv_remade.specs.declared.folder.FolderFault.TheVariants as folder
use Rattle.rv_hunt.specs.declared.engine.remaking.RemakeFault.{RemakeFault}
use Rattle.rv_hunt.specs.declared.engine.remaking.RemakeFault.TheVariants as remake
use Rattle.rv_hunt.specs.internal.Opened.{hunt_by, hunt_with}
use Rattle.rv_hunt.specs.internal.Remaking.{IsDevice, IsLateTold, IsRunFault, IsShownBy, of_folder, of_pool, of_remake, shown_by, shown_with}
use Rattle.rv_tables.specs.merge.FileFault as file
use Rattle.rv_tables.specs.merge.Ignore.{is_ignored, is_told, naming_of}
use Rattle.rv_tables.specs.merge.Known.{has_gone, new_races}
use Rattle.rv_tables.specs.merge.Listing.{list_text}
use Rattle.rv_json.specs.Object.{Member}
use Rattle.rv_markup.specs.declared.markup.Fact.{Fact}
use Rattle.rv_report.specs.declared.key.Key.{Key}

abbrev Row : Type 0
Row = Key × RaceRow

-- ---- the files

table_of : (image digits version bytes : List ℕ) (table : ShownTable) → digits ≡ image_digits image → table_in digits version bytes ≡ Ok table → table_in (image_digits image) version bytes ≡ Ok table
table_of image digits version bytes table same is = rw same at is

of_files : (image : List ℕ) (lines ignored expected : Option (List ℕ)) (digits version bytes : List ℕ) (contents : Contents) (table : ShownTable) (shown : TableShown) → image_of image ≡ Ok contents → digits ≡ image_digits image → table_in digits version bytes ≡ Ok table → IsShownBy contents lines ignored expected table shown
    → IsShownOf version (record { image = image; lines = lines; ignored = ignored; expected = expected }) bytes table shown
of_files image lines ignored expected digits version bytes contents table shown is same read by = record {
  table_is = table_of image digits version bytes table same read;
  given = by.given;
  given_is = by.given_is;
  hunt_is = of_image (asked_by table.origin.seed by.given) image contents is ∙ by.hunt_is;
  lines_are = by.lines_are;
  ignored_is = ap (λ (i : Contents). ignored_in (naming_of i shown.lines) ignored) by.image_is ∙ by.ignored_is;
  expected_is = by.expected_is;
}

pub show_known : (image : Option (List ℕ)) (lines ignored expected : Option (Option (List ℕ))) (known : Option (List ℕ)) (digits version : List ℕ) (contents : Contents) (table : ShownTable) (full : ℕ) (Saves : ℕ → List ℕ → Type 0) (Pages : List Fact → Type 0) (Lists : List ℕ → Type 0) (Objects : List Member → Type 0) (found : Found)
    → IfSome image (λ bytes. image_of bytes ≡ Ok contents) → IfSome image (λ bytes. digits ≡ image_digits bytes) → IfSome known (λ bytes. table_in digits version bytes ≡ Ok table)
    → IfSome lines (λ l. IfSome ignored (λ g. IfSome expected (λ e. (shown : TableShown) × IsShownBy contents l g e table shown × IsMade shown full table Saves Pages Lists Objects found)))
    → IfSome (files_in image lines ignored expected) (λ files. IfSome known (λ bytes. (read : ShownTable) × (shown : TableShown) × IsShownOf version files bytes read shown × IsMade shown full read Saves Pages Lists Objects found))
show_known None lines ignored expected known digits version contents table full Saves Pages Lists Objects found is same read made = tt
show_known (Some i) None ignored expected known digits version contents table full Saves Pages Lists Objects found is same read made = tt
show_known (Some i) (Some l) None expected known digits version contents table full Saves Pages Lists Objects found is same read made = tt
show_known (Some i) (Some l) (Some g) None known digits version contents table full Saves Pages Lists Objects found is same read made = tt
show_known (Some i) (Some l) (Some g) (Some e) None digits version contents table full Saves Pages Lists Objects found is same read made = tt
show_known (Some i) (Some l) (Some g) (Some e) (Some t) digits version contents table full Saves Pages Lists Objects found is same read (shown, by, made) =
    (table, shown, of_files i l g e digits version t contents table shown is same read by, made)

-- what is said of bytes by digits and a version that are the same
pub read_as : (known : Option (List ℕ)) (digits that_digits version that_version : List ℕ) (Fact : List ℕ → List ℕ → List ℕ → Type 0) → digits ≡ that_digits → version ≡ that_version
    → IfSome known (λ bytes. Fact digits version bytes) → IfSome known (λ bytes. Fact that_digits that_version bytes)
read_as known digits that_digits version that_version Fact a b is =
    subst (λ (v : List ℕ). IfSome known (λ bytes. Fact that_digits v bytes)) b (subst (λ (ds : List ℕ). IfSome known (λ bytes. Fact ds version bytes)) a is)

-- ---- the faults

by_device : (image : List ℕ) (contents : Contents) (given : CommandFault) → image_of image ≡ Ok contents → IsDevice given → command.IsTold (command.plainly (image_of image)) (command.refusal given)
by_device image contents (fault.Plain plain.Write) is device = tt
by_device image contents (fault.Plain plain.NoMemory) is device = tt
by_device image contents fault.NoThread is device = is_ok (command.plainly (image_of image)) contents (ap command.plainly is)
by_device image contents given is device = absurd device

-- what holds of a value that was read holds more
and_map : {A B : Type 0} (r : Result A B) (One Other : A → Type 0) → ((a : A) → One a → Other a) → IsOkAnd r One → IsOkAnd r Other
and_map (Ok a) One Other more is = more a is
and_map (Err b) One Other more is = is

by_late : (image : List ℕ) (lines ignored expected : Option (List ℕ)) (digits version bytes : List ℕ) (contents : Contents) (table : ShownTable) (given : ShowFault) → image_of image ≡ Ok contents → digits ≡ image_digits image → table_in digits version bytes ≡ Ok table
    → IsLateTold table contents lines ignored expected given → IsTold version (record { image = image; lines = lines; ignored = ignored; expected = expected }) bytes given
by_late image lines ignored expected digits version bytes contents table (Table given) is same read (inl shape) = inr (unsaid table (table_of image digits version bytes table same read) shape)
by_late image lines ignored expected digits version bytes contents table (Table given) is same read (inr unmet_at) = inr (unmet unmet_at.0 unmet_at.1)
by_late image lines ignored expected digits version bytes contents table (OfHunt (Command given)) is same read late = by_device image contents given is late
by_late image lines ignored expected digits version bytes contents table (OfHunt (Lines given)) is same read late = late
by_late image lines ignored expected digits version bytes contents table (OfHunt (Ignored given)) is same read late =
    and_map (source_in lines) (λ (read : Option (List SourceLine)). file.IsTold (ignored_in (naming_of contents read) ignored) given) (λ (read : Option (List SourceLine)). IsOkAnd (image_of image) (λ (i : Contents). file.IsTold (ignored_in (naming_of i read) ignored) given))
    (λ read told. and_ok (image_of image) contents (λ (i : Contents). file.IsTold (ignored_in (naming_of i read) ignored) given) is told) late
by_late image lines ignored expected digits version bytes contents table (OfHunt (Expected given)) is same read late = late
by_late image lines ignored expected digits version bytes contents table (OfHunt (Aimed given)) is same read late = absurd late

pub late_told : (image : Option (List ℕ)) (lines ignored expected : Option (Option (List ℕ))) (known : Option (List ℕ)) (digits version : List ℕ) (contents : Contents) (table : ShownTable) (given : ShowFault)
    → IfSome image (λ bytes. image_of bytes ≡ Ok contents) → IfSome image (λ bytes. digits ≡ image_digits bytes) → IfSome known (λ bytes. table_in digits version bytes ≡ Ok table)
    → IfSome lines (λ l. IfSome ignored (λ g. IfSome expected (λ e. IsLateTold table contents l g e given)))
    → IfSome (files_in image lines ignored expected) (λ files. IfSome known (λ bytes. IsTold version files bytes given))
late_told None lines ignored expected known digits version contents table given is same read late = tt
late_told (Some i) None ignored expected known digits version contents table given is same read late = tt
late_told (Some i) (Some l) None expected known digits version contents table given is same read late = tt
late_told (Some i) (Some l) (Some g) None known digits version contents table given is same read late = tt
late_told (Some i) (Some l) (Some g) (Some e) None digits version contents table given is same read late = tt
late_told (Some i) (Some l) (Some g) (Some e) (Some t) digits version contents table given is same read late = by_late i l g e digits version t contents table given is same read late

-- runs that were not made, whatever the lists are
pub run_late : (table : ShownTable) (image : Contents) (lines ignored expected : Option (List ℕ)) (given : ShowFault) → IsRunFault given → IsLateTold table image lines ignored expected given
run_late table image lines ignored expected (Table given) is = inr is
run_late table image lines ignored expected (OfHunt (Command given)) is = is
run_late table image lines ignored expected (OfHunt given) is = absurd is

pub run_late_if : (table : ShownTable) (image : Contents) (lines ignored expected : Option (Option (List ℕ))) (given : ShowFault) → IsRunFault given → IfSome lines (λ l. IfSome ignored (λ g. IfSome expected (λ e. IsLateTold table image l g e given)))
run_late_if table image None ignored expected given is = tt
run_late_if table image (Some l) None expected given is = tt
run_late_if table image (Some l) (Some g) None given is = tt
run_late_if table image (Some l) (Some g) (Some e) given is = run_late table image l g e given is

pub image_told : (image : Option (List ℕ)) (lines ignored expected : Option (Option (List ℕ))) (known : Option (List ℕ)) (version : List ℕ) (given : Fault)
    → IfSome image (λ bytes. IsToldFault (image_of bytes) given) → IfSome (files_in image lines ignored expected) (λ files. IfSome known (λ bytes. IsTold version files bytes (OfHunt (Command (fault.Plain given)))))
image_told None lines ignored expected known version given h = tt
image_told (Some i) None ignored expected known version given h = tt
image_told (Some i) (Some l) None expected known version given h = tt
image_told (Some i) (Some l) (Some g) None known version given h = tt
image_told (Some i) (Some l) (Some g) (Some e) None version given h = tt
image_told (Some i) (Some l) (Some g) (Some e) (Some t) version given h = plainly_told (image_of i) given h

pub table_told : (image : Option (List ℕ)) (lines ignored expected : Option (Option (List ℕ))) (known : Option (List ℕ)) (digits version : List ℕ) (given : FileFault)
    → IfSome image (λ bytes. digits ≡ image_digits bytes) → IfSome known (λ bytes. file.IsTold (table_in digits version bytes) given) → IfSome (files_in image lines ignored expected) (λ files. IfSome known (λ bytes. IsTold version files bytes (Table given)))
table_told None lines ignored expected known digits version given same h = tt
table_told (Some i) None ignored expected known digits version given same h = tt
table_told (Some i) (Some l) None expected known digits version given same h = tt
table_told (Some i) (Some l) (Some g) None known digits version given same h = tt
table_told (Some i) (Some l) (Some g) (Some e) None digits version given same h = tt
table_told (Some i) (Some l) (Some g) (Some e) (Some t) digits version given same h = inl (subst (λ (ds : List ℕ). file.IsTold (table_in ds version t) given) same h)

-- ---- what is made

-- what is told of a table, each value as it was found
pub table_made : (shown : TableShown) (full : ℕ) (table : ShownTable) (rows parted set_apart told fresh ordered_rows fresh_rows first_rows firsts found_fresh found_rows paged_rows paged_apart paged_told object_told listed_rows : List Row) (orders : List (Key × OrderRow)) (gone misses : Bool) (runs : ℕ) (races paged : List ShownRace) (naming : Naming) (gone_image miss_image : Contents) (list written : List ℕ)
    (Saves : ℕ → List ℕ → Type 0) (Pages : List Fact → Type 0) (Lists : List ℕ → Type 0) (Objects : List Member → Type 0) (found : Found)
    → map without_place rows ≡ map without_place table.rows → naming ≡ naming_in shown → parted ≡ filter (is_told naming shown.ignored) rows → set_apart ≡ filter (is_ignored naming shown.ignored) rows
    → ordered_rows ≡ parted → orders ≡ [] → AreInOrder naming.image orders ordered_rows told
    → fresh_rows ≡ parted → fresh ≡ new_races naming shown.expected fresh_rows
    → gone_image ≡ naming.image → gone ≡ has_gone (naming_of gone_image shown.lines) shown.expected → miss_image ≡ naming.image → misses ≡ lines_miss miss_image shown.lines
    → first_rows ≡ told → firsts ≡ take full first_rows → AreShown shown.hunt Saves firsts races
    → paged_rows ≡ parted → paged_apart ≡ set_apart → paged_told ≡ told → paged ≡ races → Pages (table_facts (gone || misses) paged_rows paged_apart paged_told (length paged))
    → runs ≡ runs_of table.origin.stretches → object_told ≡ told → Objects (object_facts (table_sums paged_rows paged_apart runs) object_told)
    → listed_rows ≡ parted → list ≡ list_text naming listed_rows → written ≡ list → Lists written
    → found_fresh ≡ fresh → found_rows ≡ parted → found ≡ found_in found_fresh found_rows 0 false false
    → IsMade shown full table Saves Pages Lists Objects found
table_made shown full table rows parted set_apart told fresh ordered_rows fresh_rows first_rows firsts found_fresh found_rows paged_rows paged_apart paged_told object_told listed_rows orders gone misses runs races paged naming gone_image miss_image list written Saves Pages Lists Objects found
    rows_are same are_told are_ignored same_ordered untried order same_fresh news same_gone has same_miss miss same_first first are_shown same_rows same_apart same_told same_races page same_runs same_object object same_listed is_list is_written listed same_news same_found is =
    let at_image : parted ≡ told_of shown rows = are_told ∙ ap (λ (n : Naming). filter (is_told n shown.ignored) rows) same in
    let apart_at_image : paged_apart ≡ ignored_of shown rows = same_apart ∙ are_ignored ∙ ap (λ (n : Naming). filter (is_ignored n shown.ignored) rows) same in
    let fresh_at_image : fresh ≡ new_races (naming_in shown) shown.expected (told_of shown rows) =
    news ∙ ap (λ (n : Naming). new_races n shown.expected fresh_rows) same ∙ ap (λ (rs : List Row). new_races (naming_in shown) shown.expected rs) (same_fresh ∙ at_image) in
    let list_at_image : written ≡ list_text (naming_in shown) (told_of shown rows) =
    is_written ∙ is_list ∙ ap (λ (n : Naming). list_text n listed_rows) same ∙ ap (λ (rs : List Row). list_text (naming_in shown) rs) (same_listed ∙ at_image) in
    record {
      rows = rows;
      rows_are = rows_are;
      told = told;
      order =
          subst (λ (rs : List Row). AreInOrder shown.hunt.source.image [] rs told) (same_ordered ∙ at_image)
          (subst (λ (os : List (Key × OrderRow)). AreInOrder shown.hunt.source.image os ordered_rows told) untried
          (subst (λ (n : Naming). AreInOrder n.image orders ordered_rows told) same order));
      races = races;
      are_shown = subst (λ (rs : List Row). AreShown shown.hunt Saves rs races) (first ∙ ap (λ (rs : List Row). take full rs) same_first) are_shown;
      paged =
          subst (λ (g : Bool). Pages (table_facts g (told_of shown rows) (ignored_of shown rows) told (length races))) (ap (λ (b : Bool). b || misses) (has ∙ ap (λ (i : Contents). has_gone (naming_of i shown.lines) shown.expected) (same_gone ∙ ap (λ (n : Naming). n.image) same))
          ∙ ap (λ (b : Bool). has_gone (naming_in shown) shown.expected || b) (miss ∙ ap (λ (i : Contents). lines_miss i shown.lines) (same_miss ∙ ap (λ (n : Naming). n.image) same)))
          (subst (λ (rs : List Row). Pages (table_facts (gone || misses) rs (ignored_of shown rows) told (length races))) (same_rows ∙ at_image)
          (subst (λ (rs : List Row). Pages (table_facts (gone || misses) paged_rows rs told (length races))) apart_at_image
          (subst (λ (rs : List Row). Pages (table_facts (gone || misses) paged_rows paged_apart rs (length races))) same_told
          (subst (λ (those : List ShownRace). Pages (table_facts (gone || misses) paged_rows paged_apart paged_told (length those))) same_races page))));
      listed = subst (λ (text : List ℕ). Lists text) list_at_image listed;
      objected =
          subst (λ (n : ℕ). Objects (object_facts (table_sums (told_of shown rows) (ignored_of shown rows) n) told)) same_runs
          (subst (λ (rs : List Row). Objects (object_facts (table_sums rs (ignored_of shown rows) runs) told)) (same_rows ∙ at_image)
          (subst (λ (rs : List Row). Objects (object_facts (table_sums paged_rows rs runs) told)) apart_at_image
          (subst (λ (rs : List Row). Objects (object_facts (table_sums paged_rows paged_apart runs) rs)) same_object object)));
      found_is =
          is ∙ ap (λ (rs : List Row). found_in rs found_rows 0 false false) (same_news ∙ fresh_at_image)
          ∙ ap (λ (rs : List Row). found_in (new_races (naming_in shown) shown.expected (told_of shown rows)) rs 0 false false) (same_found ∙ at_image);
    }

-- what the words of the line say was given
pub given_is : (words items : List (Bor (List ℕ))) (listed : List (List ℕ)) (runs : GivenRuns) → words ≡ items → map (λ (word : Bor (List ℕ)). word.now) items ≡ listed → option_map runs_given (Some runs) ≡ given_in (texts words) → given_in listed ≡ Some (runs_given runs)
given_is words items listed runs same are is = ap given_in (sym are) ∙ ap (λ (ws : List (Bor (List ℕ))). given_in (texts ws)) (sym same) ∙ sym is

-- what is made of the runs that the table's last line says and of the lists of files
pub made_with : (lines ignored expected : Option (Option (List ℕ))) (image : Contents) (table : ShownTable) (given : RunsGiven) (hunt : Hunt) (lists : ListsRead) (full : ℕ) (Saves : ℕ → List ℕ → Type 0) (Pages : List Fact → Type 0) (Lists : List ℕ → Type 0) (Objects : List Member → Type 0) (found : Found)
    → given_in (words_in table.origin.given) ≡ Some given → hunt.source.image ≡ image → hunt_with (asked_by table.origin.seed given) image ≡ Ok hunt
    → IfSome lines (λ l. source_in l ≡ Ok lists.source) → IfSome ignored (λ g. ignored_in (naming_of image lists.source) g ≡ Ok lists.ignored) → IfSome expected (λ e. expected_in e ≡ Ok lists.expected) → IsMade (shown_by hunt lists) full table Saves Pages Lists Objects found
    → IfSome lines (λ l. IfSome ignored (λ g. IfSome expected (λ e. (shown : TableShown) × IsShownBy image l g e table shown × IsMade shown full table Saves Pages Lists Objects found)))
made_with None ignored expected image table given hunt lists full Saves Pages Lists Objects found is same of_hunt says ignores expects made = tt
made_with (Some l) None expected image table given hunt lists full Saves Pages Lists Objects found is same of_hunt says ignores expects made = tt
made_with (Some l) (Some g) None image table given hunt lists full Saves Pages Lists Objects found is same of_hunt says ignores expects made = tt
made_with (Some l) (Some g) (Some e) image table given hunt lists full Saves Pages Lists Objects found is same of_hunt says ignores expects made =
    (shown_by hunt lists, record { given = given; given_is = is; image_is = same; hunt_is = of_hunt; lines_are = says; ignored_is = ignores; expected_is = expects }, made)

-- the same, by what is asked of the runs
pub made_as_asked : (lines ignored expected : Option (Option (List ℕ))) (image : Contents) (table : ShownTable) (given : RunsGiven) (asked : Asked) (seed : ℕ) (listed : Listed) (lists : ListsRead) (asked_full full : ℕ) (Saves : ℕ → List ℕ → Type 0) (Pages : List Fact → Type 0) (Lists : List ℕ → Type 0) (Objects : List Member → Type 0) (found : Found)
    → given_in (words_in table.origin.given) ≡ Some given → seed ≡ table.origin.seed → asked ≡ asked_by seed given → asked_full ≡ full → hunt_with asked image ≡ Ok (hunt_by asked image listed)
    → IfSome lines (λ l. source_in l ≡ Ok lists.source) → IfSome ignored (λ g. ignored_in (naming_of image lists.source) g ≡ Ok lists.ignored) → IfSome expected (λ e. expected_in e ≡ Ok lists.expected) → IsMade (shown_with asked image listed lists) asked_full table Saves Pages Lists Objects found
    → IfSome lines (λ l. IfSome ignored (λ g. IfSome expected (λ e. (shown : TableShown) × IsShownBy image l g e table shown × IsMade shown full table Saves Pages Lists Objects found)))
made_as_asked lines ignored expected image table given asked seed listed lists asked_full full Saves Pages Lists Objects found is same_seed as_asked same_full of_hunt says ignores expects made =
    let e : asked ≡ asked_by table.origin.seed given = as_asked ∙ ap (λ (s : ℕ). asked_by s given) same_seed in
    made_with lines ignored expected image table given (hunt_by (asked_by table.origin.seed given) image listed) lists full Saves Pages Lists Objects found is refl
    (subst (λ (a : Asked). hunt_with a image ≡ Ok (hunt_by a image listed)) e of_hunt) says ignores expects
    (subst (λ (a : Asked). IsMade (shown_by (hunt_by a image listed) lists) full table Saves Pages Lists Objects found) e
    (subst (λ (n : ℕ). IsMade (shown_with asked image listed lists) n table Saves Pages Lists Objects found) same_full made))

-- ---- which faults are of files

pub pool_runs : (given : PoolFault) → IsRunFault (of_pool given)
pool_runs pool.NoMemory = tt
pool_runs pool.NoThread = tt

pub pool_no_file : (given : PoolFault) → is_of_files (of_pool given) ≡ false
pool_no_file pool.NoMemory = refl
pool_no_file pool.NoThread = refl

pub folder_runs : (given : FolderFault) → IsRunFault (of_folder given)
folder_runs folder.NoMemory = tt
folder_runs folder.Write = tt

pub folder_no_file : (given : FolderFault) → is_of_files (of_folder given) ≡ false
folder_no_file folder.NoMemory = refl
folder_no_file folder.Write = refl

pub remake_runs : (given : RemakeFault) → IsRunFault (of_remake given)
remake_runs (remake.Pool given) = pool_runs given
remake_runs (remake.NotMet line) = (line, refl)

pub never : {P : Type 0} → true ≡ false → P
never h = cc

-- ---- a list of races to be ignored is refused

pub late_ignored : (lines ignored expected : Option (Option (List ℕ))) (table : ShownTable) (image : Contents) (read : Option (List SourceLine)) (given : FileFault) → IfSome lines (λ l. source_in l ≡ Ok read)
    → IfSome ignored (λ g. file.IsTold (ignored_in (naming_of image read) g) given) → IfSome lines (λ l. IfSome ignored (λ g. IfSome expected (λ e. IsLateTold table image l g e (OfHunt (Ignored given)))))
late_ignored None ignored expected table image read given is told = tt
late_ignored (Some l) None expected table image read given is told = tt
late_ignored (Some l) (Some g) None table image read given is told = tt
late_ignored (Some l) (Some g) (Some e) table image read given is told =
    and_ok (source_in l) read (λ (found : Option (List SourceLine)). file.IsTold (ignored_in (naming_of image found) g) given) is told
