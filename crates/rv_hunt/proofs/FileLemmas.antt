-- What is asked by the files of a hunt, and why one of them is refused.
use Rattle.std.proofs.Common.{◌≡◌, ℕ, List, Option, Some, None, Result, Ok, sym, true, false, ◌∙◌}
use Rattle.std.specs.Prelude.{IfSome, IsOkAnd, option_and_then, option_map}
use Rattle.std.specs.Result.{IsOk}
use Rattle.rv_engines.specs.Built.{built_of}
use Rattle.rv_search.specs.Hunt.{Hunt}
use Rattle.rv_tables.specs.Origin.{image_digits}
use Rattle.rv_search.specs.RightEnds.{right_codes}
use Rattle.rv_shown.specs.Asked.{Asked}
use Rattle.rv_hunt.specs.engine.HuntFault.{IsTold}
use Rattle.rv_hunt.specs.engine.Hunting.{Files, Hunting, IsHuntingOf, expected_in, hunt_of, ignored_in, naming_in}
use Rattle.rv_tables.specs.merge.Ignore.{aimed_in, naming_of}
use Rattle.rv_faults.specs.SourceFile as source
use Rattle.rv_faults.specs.SourceFile.{source_in}
use Rattle.rv_faults.specs.declared.source_lines.SourceFault.{SourceFault}
use Rattle.rv_hunt.specs.declared.engine.fault.HuntFault.{HuntFault}
use Rattle.rv_hunt.specs.declared.engine.fault.HuntFault.TheVariants.{Command, Ignored, Expected, Aimed, Lines}
use Rattle.rv_hunt.specs.internal.Opened.{IsOpenTold}
use Rattle.rv_hunt.proofs.OpenLemmas.{and_ok, is_ok}
use Rattle.rv_lines.specs.SourceLines.{SourceLine}
use Rattle.rv_tables.specs.merge.FileFault as file
use Rattle.rv_tables.specs.declared.merge.fault.FileFault.{FileFault}
use Rattle.rv_tables.specs.declared.merge.ignore.Line.{Line}

-- the bytes of the files, where they are known
abbrev pub files_in : Option (List ℕ) → Option (Option (List ℕ)) → Option (Option (List ℕ)) → Option (Option (List ℕ)) → Option Files
files_in image lines ignored expected =
    option_and_then (λ i. option_and_then (λ l. option_and_then (λ g. option_map (λ e. record { image = i; lines = l; ignored = g; expected = e }) expected) ignored) lines) image

pub hunting_known : (image : Option (List ℕ)) (lines ignored expected : Option (Option (List ℕ))) (asked : Asked) (hunting : Hunting) → IfSome image (λ bytes. hunt_of asked bytes ≡ Ok hunting.hunt) → IfSome image (λ bytes. hunting.digits ≡ image_digits bytes)
    → IfSome lines (λ bytes. source_in bytes ≡ Ok hunting.lines) → IfSome ignored (λ bytes. ignored_in (naming_in hunting) bytes ≡ Ok hunting.ignored) → IfSome expected (λ bytes. expected_in bytes ≡ Ok hunting.expected) → aimed_in hunting.hunt.source.image asked.aim ≡ Ok hunting.aim
    → hunting.right ≡ right_codes asked.right → IfSome image (λ bytes. hunting.built ≡ built_of bytes) → IfSome (files_in image lines ignored expected) (λ files. IsHuntingOf asked files hunting)
hunting_known None lines ignored expected asked hunting h d l g e a r b = tt
hunting_known (Some i) None ignored expected asked hunting h d l g e a r b = tt
hunting_known (Some i) (Some s) None expected asked hunting h d l g e a r b = tt
hunting_known (Some i) (Some s) (Some n) None asked hunting h d l g e a r b = tt
hunting_known (Some i) (Some s) (Some n) (Some t) asked hunting h d l g e a r b = record { hunt_is = h; digits_are = d; lines_are = l; ignored_is = g; expected_is = e; aim_is = a; right_is = r; built_is = b }

never : {P : Type 0} → true ≡ false → P
never h = cc

-- what is aimed at is there
aimed : (asked : Asked) (i : List ℕ) (hunt : Hunt) (aim : List Line) → hunt_of asked i ≡ Ok hunt → aimed_in hunt.source.image asked.aim ≡ Ok aim → IsOkAnd (hunt_of asked i) (λ (found : Hunt). IsOk (aimed_in found.source.image asked.aim))
aimed asked i hunt aim h a = and_ok (hunt_of asked i) hunt (λ (found : Hunt). IsOk (aimed_in found.source.image asked.aim)) h (is_ok (aimed_in hunt.source.image asked.aim) aim a)

-- what holds of the list of races to be ignored
of_list : (asked : Asked) (i : List ℕ) (s g : Option (List ℕ)) (hunt : Hunt) (source : Option (List SourceLine)) (Holds : Result (List Line) FileFault → Type 0) → hunt_of asked i ≡ Ok hunt → source_in s ≡ Ok source
    → Holds (ignored_in (naming_of hunt.source.image source) g)
    → IsOkAnd (source_in s) (λ (lines : Option (List SourceLine)). IsOkAnd (hunt_of asked i) (λ (found : Hunt). Holds (ignored_in (naming_of found.source.image lines) g)))
of_list asked i s g hunt source Holds h l holds =
    and_ok (source_in s) source (λ (lines : Option (List SourceLine)). IsOkAnd (hunt_of asked i) (λ (found : Hunt). Holds (ignored_in (naming_of found.source.image lines) g))) l
    (and_ok (hunt_of asked i) hunt (λ (found : Hunt). Holds (ignored_in (naming_of found.source.image source) g)) h holds)

-- the fault of the image, of a list of the line, or of what is aimed at
open_fault : (asked : Asked) (i : List ℕ) (s g t : Option (List ℕ)) (fault : HuntFault) → IsOpenTold asked i fault → IsTold asked (record { image = i; lines = s; ignored = g; expected = t }) fault
open_fault asked i s g t (Command fault) (told, other, aim) = (told, aim, λ thread. never (sym thread ∙ other))
open_fault asked i s g t (Aimed fault) told = told
open_fault asked i s g t (Lines fault) told = never told
open_fault asked i s g t (Ignored fault) told = never told
open_fault asked i s g t (Expected fault) told = never told

pub open_told : (image : Option (List ℕ)) (lines ignored expected : Option (Option (List ℕ))) (asked : Asked) (fault : HuntFault) → IfSome image (λ bytes. IsOpenTold asked bytes fault)
    → IfSome (files_in image lines ignored expected) (λ files. IsTold asked files fault)
open_told None lines ignored expected asked fault h = tt
open_told (Some i) None ignored expected asked fault h = tt
open_told (Some i) (Some s) None expected asked fault h = tt
open_told (Some i) (Some s) (Some g) None asked fault h = tt
open_told (Some i) (Some s) (Some g) (Some t) asked fault h = open_fault asked i s g t fault h

pub lines_told : (image : Option (List ℕ)) (lines ignored expected : Option (Option (List ℕ))) (asked : Asked) (hunt : Hunt) (aim : List Line) (fault : SourceFault) → IfSome image (λ bytes. hunt_of asked bytes ≡ Ok hunt)
    → aimed_in hunt.source.image asked.aim ≡ Ok aim → IfSome lines (λ bytes. source.IsTold (source_in bytes) fault) → IfSome (files_in image lines ignored expected) (λ files. IsTold asked files (Lines fault))
lines_told None lines ignored expected asked hunt aim fault h a l = tt
lines_told (Some i) None ignored expected asked hunt aim fault h a l = tt
lines_told (Some i) (Some s) None expected asked hunt aim fault h a l = tt
lines_told (Some i) (Some s) (Some g) None asked hunt aim fault h a l = tt
lines_told (Some i) (Some s) (Some g) (Some t) asked hunt aim fault h a l = (aimed asked i hunt aim h a, l)

pub ignored_told : (image : Option (List ℕ)) (lines ignored expected : Option (Option (List ℕ))) (asked : Asked) (hunt : Hunt) (aim : List Line) (read : Option (List SourceLine)) (fault : FileFault) → IfSome image (λ bytes. hunt_of asked bytes ≡ Ok hunt)
    → aimed_in hunt.source.image asked.aim ≡ Ok aim → IfSome lines (λ bytes. source_in bytes ≡ Ok read) → IfSome ignored (λ bytes. file.IsTold (ignored_in (naming_of hunt.source.image read) bytes) fault)
    → IfSome (files_in image lines ignored expected) (λ files. IsTold asked files (Ignored fault))
ignored_told None lines ignored expected asked hunt aim read fault h a l g = tt
ignored_told (Some i) None ignored expected asked hunt aim read fault h a l g = tt
ignored_told (Some i) (Some s) None expected asked hunt aim read fault h a l g = tt
ignored_told (Some i) (Some s) (Some n) None asked hunt aim read fault h a l g = tt
ignored_told (Some i) (Some s) (Some n) (Some t) asked hunt aim read fault h a l g =
    (aimed asked i hunt aim h a, of_list asked i s n hunt read (λ r. file.IsTold r fault) h l g)

pub expected_told : (image : Option (List ℕ)) (lines ignored expected : Option (Option (List ℕ))) (asked : Asked) (hunt : Hunt) (aim : List Line) (read : Option (List SourceLine)) (listed : List Line) (fault : FileFault) → IfSome image (λ bytes. hunt_of asked bytes ≡ Ok hunt)
    → aimed_in hunt.source.image asked.aim ≡ Ok aim → IfSome lines (λ bytes. source_in bytes ≡ Ok read) → IfSome ignored (λ bytes. ignored_in (naming_of hunt.source.image read) bytes ≡ Ok listed) → IfSome expected (λ bytes. file.IsTold (expected_in bytes) fault)
    → IfSome (files_in image lines ignored expected) (λ files. IsTold asked files (Expected fault))
expected_told None lines ignored expected asked hunt aim read listed fault h a l g e = tt
expected_told (Some i) None ignored expected asked hunt aim read listed fault h a l g e = tt
expected_told (Some i) (Some s) None expected asked hunt aim read listed fault h a l g e = tt
expected_told (Some i) (Some s) (Some n) None asked hunt aim read listed fault h a l g e = tt
expected_told (Some i) (Some s) (Some n) (Some t) asked hunt aim read listed fault h a l g e = (
  aimed asked i hunt aim h a,
  of_list asked i s n hunt read (λ r. IsOk r) h l (is_ok (ignored_in (naming_of hunt.source.image read) n) listed g),
  e,
)
