-- The code of a memory: a word that lies in it is permitted, and other bytes in memory leave it where it is.
use Rattle.std.proofs.Common.{◌≡◌, ℕ, ◌+◌, ◌-◌, ◌<◌, true, length, map, get_or, refl, ap, sym, ◌∙◌, arith}
use Rattle.std.specs.Prelude.{Some}
use Rattle.std.proofs.lemmas.Bool.Decides.{nat_tests}
use Rattle.std.proofs.lemmas.List.{get_or-map, length-map}
use Rattle.rv_memory.specs.Extent.{Extent, span}
use Rattle.rv_memory.specs.Memory.{Memory, holds, load_permitted}
use Rattle.rv_memory.specs.Sound.{IsSound}
use Rattle.rv_memory.specs.declared.code.Code.{Code}
use Rattle.rv_memory.specs.declared.store.Need.TheVariants.{Execute}
use Rattle.rv_memory.specs.internal.Code.{IsCode, IsExecutable}
use Rattle.rv_memory.specs.internal.Flat.{number_at}
use Rattle.rv_memory.proofs.Permitted.{permitted_at}
use Rattle.rv_memory.proofs.Places.{permitted_found}

word_held : (e : Extent) (code : Code) (address offset : ℕ) → IsExecutable e code → code.start + offset ≡ address → offset < code.words → holds e address 4 ≡ true
word_held e code address offset is at within =
    let start = is.start in
    let room = is.within in
    grind (arith, nat_tests)

-- the word at an offset in the code
pub fetched : (m : Memory) (code : Code) (e : Extent) (address offset word : ℕ) → IsSound m → IsCode m code → code.start + offset ≡ address → offset < code.words → e ≡ get_or m code.place e → word ≡ number_at e.bytes offset 4 → load_permitted m address 4 Execute ≡ Some word
fetched m code e address offset word sound is at within there read =
    let some : 0 < code.words = omega arith in
    let below = is.below some in
    let executable : IsExecutable (get_or m code.place e) code = is.there e some in
    let held : holds (get_or m code.place e) address 4 ≡ true = word_held _ code address offset executable at within in
    let start : e.start ≡ code.start = ap (λ x. x.start) there ∙ executable.start in
    let far : address - e.start ≡ offset = omega arith in
    permitted_found m code.place e address 4 word Execute sound below (λ d. word_held _ code address offset (is.there d some) at within) there
    (permitted_at m code.place e address 4 Execute below (rw (held, executable.executable) refl)) (read ∙ ap (λ k. number_at e.bytes k 4) (sym far))

-- the code of regions is that of all that have the same spans
pub same_code : (m k : Memory) (code : Code) → map span m ≡ map span k → IsCode m code → IsCode k code
same_code m k code same is =
    let count : length m ≡ length k = sym (length-map m span) ∙ ap length same ∙ length-map k span in
    record {
      below = λ some. rw (← count) (is.below some);
      there = λ e some.
          let below = is.below some in
          let alike : span (get_or m code.place e) ≡ span (get_or k code.place e) = sym (get_or-map span m code.place e (span e) below) ∙ ap (λ s. get_or s code.place (span e)) same ∙ get_or-map span k code.place e (span e) (rw (← count) below) in
          let is_there = is.there e some in
          record {
            executable = ap (λ s. s.x) (sym alike) ∙ is_there.executable;
            start = ap (λ s. s.start) (sym alike) ∙ is_there.start;
            within = rw (ap (λ s. s.len) (sym alike)) is_there.within;
          };
    }
