-- What is made of a hunt.
use Rattle.std.proofs.Common.{◌≡◌, ℕ, Bool, Option, Result, Ok, Err, IfOk, List, [], ◌∷◌, length, ap, subst, ◌∙◌, take, true, false}
use Rattle.std.specs.Map.{keys_of}
use Rattle.rv_faults.specs.SourceFile.{lines_miss}
use Rattle.rv_explain.specs.Naming.{Naming}
use Rattle.rv_campaign.specs.declared.pool.PoolFault.{PoolFault}
use Rattle.rv_campaign.specs.declared.pool.PoolFault.TheVariants as pool
use Rattle.rv_hunt.specs.declared.engine.fault.MakeFault.{MakeFault}
use Rattle.rv_hunt.specs.internal.MakeFault.{is_write, of_pool}
use Rattle.rv_search.specs.Hunted.{IsNoted}
use Rattle.rv_search.specs.RightEnds.{EndsSeen, has_wrong_end}
use Rattle.rv_shown.specs.Warnings.{is_void}
use Rattle.rv_object.specs.HuntObject.{hunt_facts}
use Rattle.rv_shown.specs.Outcome.{Outcome}
use Rattle.rv_page.specs.PageFacts.{page_facts}
use Rattle.rv_tables.specs.ShownRows.{shown_rows}
use Rattle.rv_shown.specs.ToldOrder.{AreInOrder}
use Rattle.rv_shown.specs.declared.found.Found.{Found}
use Rattle.rv_shown.specs.declared.shown.ShownOrder.{ShownOrder}
use Rattle.rv_shown.specs.declared.options.Shows.{Shows}
use Rattle.rv_shown.specs.declared.shown.ShownRace.{ShownRace}
use Rattle.rv_tables.specs.declared.origin.Stretch.{Stretch}
use Rattle.rv_search.specs.declared.hunted.Hunted.{Hunted}
use Rattle.rv_tables.specs.declared.merge.known.Known.{Known}
use Rattle.rv_tables.specs.declared.row.RaceRow.{RaceRow}
use Rattle.rv_hunt.specs.engine.Hunting.{Hunting, IsMade, IsTable, Showing, Texts, found_in, ignored_by, naming_in, new_in, origin_of, outcome, shown_in, told_in}
use Rattle.rv_tables.specs.merge.Known.{has_gone, new_races}
use Rattle.rv_tables.specs.merge.Listing.{list_text}
use Rattle.rv_remade.specs.OrderShown.{AreOrdersShown}
use Rattle.rv_remade.specs.Shown.{AreShown}
use Rattle.rv_remade.specs.StuckShown.{AreStuckShown}
use Rattle.rv_shown.specs.declared.shown.ShownStuck.{ShownStuck}
use Rattle.rv_engines.specs.declared.built.Built.{Built}
use Rattle.rv_json.specs.Object.{Member}
use Rattle.rv_markup.specs.declared.markup.Fact.{Fact}
use Rattle.rv_report.specs.declared.key.Key.{Key}
use Rattle.rv_plans.specs.declared.plans.Mix.{Mix}

abbrev Row : Type 0
Row = Key × RaceRow

pub outcome_is : (hunting : Hunting) (saw : Hunted) (n : ℕ) (mix : Mix) (rows races ignored : List Row) (gone misses : Bool) (built : Built) → n ≡ length hunting.hunt.source.sites → mix ≡ hunting.hunt.given.mix → rows ≡ told_in hunting saw → races ≡ shown_in hunting saw → ignored ≡ ignored_by hunting saw → gone ≡ has_gone (naming_in hunting) hunting.expected → misses ≡ lines_miss hunting.hunt.source.image hunting.lines → built ≡ hunting.built
    → record { sites = n; mix = mix; saw = saw; rows = rows; races = races; ignored = ignored; gone = gone; misses = misses; built = built } ≡ outcome hunting saw
outcome_is hunting saw n mix rows races ignored gone misses built a b c s d f m e = rw (a, b, c, s, d, f, m, e)

pub made_is : (way : Showing) (hunting : Hunting) (saw : Hunted) (Saves : ℕ → List ℕ → Type 0) (Pages : List Fact → Type 0) (Lists : List ℕ → Type 0) (Objects : List Member → Type 0) (rows races told full unexpected : List Row) (o : Outcome) (paged_told : List Row) (paged_shown : List ShownRace) (object_told : List Row) (listed_image : Naming) (listed_rows : List Row) (shown : List ShownRace) (orders : List ShownOrder) (stuck : List ShownStuck) (ends : EndsSeen) (wrong : Bool) (found : Found) (texts : Texts) → IsNoted hunting.hunt saw ends → ends.right ≡ hunting.right → wrong ≡ ends.is_wrong
    → rows ≡ told_in hunting saw → races ≡ shown_in hunting saw → AreInOrder hunting.hunt.source.image saw.orders races told → full ≡ take way.full told → o ≡ outcome hunting saw → AreShown hunting.hunt Saves full shown → AreOrdersShown hunting.hunt saw.orders (keys_of full) orders
    → IsTable way.shows o.rows (origin_of way hunting saw) texts.text → paged_told ≡ told → paged_shown ≡ shown → Pages (page_facts o paged_told (length paged_shown)) → object_told ≡ told → Objects (hunt_facts o object_told) → AreStuckShown hunting.hunt stuck
    → listed_image ≡ naming_in hunting → listed_rows ≡ rows → Lists (list_text listed_image listed_rows) → unexpected ≡ new_races (naming_in hunting) hunting.expected rows → found ≡ found_in unexpected races (length stuck) wrong (is_void o)
    → IsMade way hunting Saves Pages Lists Objects found texts
made_is way hunting saw Saves Pages Lists Objects rows races told full unexpected o paged_told paged_shown object_told listed_image listed_rows shown orders stuck ends wrong found texts noted right is_wrong are shows order first came are_shown ordered table same_told same_shown paged same_object objected are_stuck same_image same_rows listed new_is found_is = record {
  saw = saw;
  hunted = noted.hunted_is;
  told = told;
  order = subst (λ (rs : List Row). AreInOrder hunting.hunt.source.image saw.orders rs told) shows order;
  shown = shown;
  are_shown = subst (λ (rs : List Row). AreShown hunting.hunt Saves rs shown) first are_shown;
  orders = orders;
  are_ordered = subst (λ (rs : List Row). AreOrdersShown hunting.hunt saw.orders (keys_of rs) orders) first ordered;
  is_table = subst (λ (x : Outcome). IsTable way.shows x.rows (origin_of way hunting saw) texts.text) came table;
  paged =
      subst (λ (x : Outcome). Pages (page_facts x told (length shown))) came
      (subst (λ (those : List ShownRace). Pages (page_facts o told (length those))) same_shown
      (subst (λ (rs : List Row). Pages (page_facts o rs (length paged_shown))) same_told paged));
  objected =
      subst (λ (x : Outcome). Objects (hunt_facts x told)) came
      (subst (λ (rs : List Row). Objects (hunt_facts o rs)) same_object objected);
  listed =
      subst (λ (rs : List Row). Lists (list_text (naming_in hunting) rs)) (same_rows ∙ are)
      (subst (λ (naming : Naming). Lists (list_text naming listed_rows)) same_image listed);
  stuck = stuck;
  are_stuck = are_stuck;
  found_is =
      found_is ∙ ap (λ (rs : List Row). found_in rs races (length stuck) wrong (is_void o)) new_is
      ∙ ap (λ (rs : List Row). found_in (new_races (naming_in hunting) hunting.expected rs) races (length stuck) wrong (is_void o)) are
      ∙ ap (λ (rs : List Row). found_in (new_in hunting saw) rs (length stuck) wrong (is_void o)) shows
      ∙ ap (λ (x : Outcome). found_in (new_in hunting saw) (shown_in hunting saw) (length stuck) wrong (is_void x)) came
      ∙ ap (λ (w : Bool). found_in (new_in hunting saw) (shown_in hunting saw) (length stuck) w (is_void (outcome hunting saw)))
      (is_wrong ∙ noted.wrong ∙ ap (λ (codes : List ℕ). has_wrong_end codes noted.hunted_is.so_far.runs) right);
}

-- the races as they are shown, of the rows that are told
pub races_from : (hunting : Hunting) (saw : Hunted) (rows those races : List Row) → those ≡ rows → rows ≡ told_in hunting saw → races ≡ shown_rows those saw.changed → races ≡ shown_in hunting saw
races_from hunting saw rows those races same are shown = shown ∙ ap (λ (rs : List Row). shown_rows rs saw.changed) (same ∙ are)

-- a text of a table, of which each value is another one that is the same
pub table_from : (shows : Shows) (rows : List Row) (image that_image version that_version given that_given text : List ℕ) (seed that_seed : ℕ) (stretch that_stretch : Stretch) → image ≡ that_image → version ≡ that_version → seed ≡ that_seed → given ≡ that_given → stretch ≡ that_stretch
    → IsTable shows rows (record { image = image; version = version; seed = seed; stretches = stretch ∷ []; given = given }) text
    → IsTable shows rows (record { image = that_image; version = that_version; seed = that_seed; stretches = that_stretch ∷ []; given = that_given }) text
table_from shows rows image that_image version that_version given that_given text seed that_seed stretch that_stretch a b c d e is =
    subst (λ (x : Stretch). IsTable shows rows (record { image = that_image; version = that_version; seed = that_seed; stretches = x ∷ []; given = that_given }) text) e
    (subst (λ (x : List ℕ). IsTable shows rows (record { image = that_image; version = that_version; seed = that_seed; stretches = stretch ∷ []; given = x }) text) d
    (subst (λ (x : ℕ). IsTable shows rows (record { image = that_image; version = that_version; seed = x; stretches = stretch ∷ []; given = given }) text) c
    (subst (λ (x : List ℕ). IsTable shows rows (record { image = that_image; version = x; seed = seed; stretches = stretch ∷ []; given = given }) text) b
    (subst (λ (x : List ℕ). IsTable shows rows (record { image = x; version = version; seed = seed; stretches = stretch ∷ []; given = given }) text) a is))))

-- the same of rows that are the same
pub new_from : (image that : Naming) (known : Option Known) (rows those found : List Row) → image ≡ that → rows ≡ those → found ≡ new_races image known rows → found ≡ new_races that known those
new_from image that known rows those found a b is = is ∙ ap (λ (i : Naming). new_races i known rows) a ∙ ap (λ (rs : List Row). new_races that known rs) b

pub found_from : (unexpected new_ones rows those : List Row) (stuck ends : List ShownStuck) (wrong void is_so : Bool) (found : Found) → unexpected ≡ new_ones → rows ≡ those → stuck ≡ ends → void ≡ is_so → found ≡ found_in unexpected rows (length stuck) wrong void → found ≡ found_in new_ones those (length ends) wrong is_so
found_from unexpected new_ones rows those stuck ends wrong void is_so found a b c d is =
    is ∙ ap (λ (rs : List Row). found_in rs rows (length stuck) wrong void) a ∙ ap (λ (rs : List Row). found_in new_ones rs (length stuck) wrong void) b
    ∙ ap (λ (es : List ShownStuck). found_in new_ones those (length es) wrong void) c ∙ ap (λ (v : Bool). found_in new_ones those (length ends) wrong v) d

never : {P : Type 0} → false ≡ true → P
never h = cc

-- of what was refused nothing is said
pub not_ok : {A E : Type 0} (r : Result A E) (e : E) (Fact : A → Type 0) → r ≡ Err e → IfOk r Fact
not_ok (Ok a) e Fact is = cc
not_ok (Err x) e Fact is = tt

-- no fault of a pool is that of a file
pub no_write : {P : Type 0} (fault : PoolFault) (made : MakeFault) → made ≡ of_pool fault → is_write made ≡ true → P
no_write pool.NoMemory made is writes = never (rw is at writes)
no_write pool.NoThread made is writes = never (rw is at writes)
