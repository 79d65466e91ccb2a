-- An access whose place is told by the index passes over no region that has its bytes.
use Rattle.std.proofs.Common.{◌≡◌, ℕ, ◌/◌, ◌<◌, ◌^◌, zero, suc, false, List, [], ◌∷◌, length, map, get_or, drop, refl, ap, sym, ◌∙◌, arith, slice_index}
use Rattle.std.specs.Prelude.{◌&&◌, ◌||◌}
use Rattle.std.proofs.lemmas.Bool.Decides.{nat_tests}
use Rattle.std.proofs.lemmas.List.{get_or-map, length-map}
use Rattle.rv_memory.specs.Extent.{Extent, span}
use Rattle.rv_memory.specs.internal.Index.{IsIndex, Skips, touches}
use Rattle.rv_memory.specs.Memory.{Memory, holds, allows, permits}
use Rattle.rv_memory.specs.declared.store.Need.{Need}

not_held : (e : Extent) (address size : ℕ) → touches (address / 65536) e ≡ false → holds e address size ≡ false
not_held e address size h = grind (arith, nat_tests)

skip_from : (m : Memory) (first address size : ℕ) (need : Need) → ((place : ℕ) (e : Extent) → place < first → place < length m → touches (address / 65536) (get_or m place e) ≡ false) → permits (drop first m) address size need ≡ permits m address size need
skip_from [] zero address size need h = refl
skip_from [] (suc first) address size need h = refl
skip_from (e ∷ es) zero address size need h = refl
skip_from (e ∷ es) (suc first) address size need h =
    let rest = skip_from es first address size need (λ place d before within. h (suc place) d (omega arith) (omega arith)) in
    let none : holds e address size ≡ false = not_held e address size (h 0 e (omega arith) (omega arith)) in
    rest ∙ sym (ap (λ b. (b && allows e need) || permits es address size need) none)

pub skips : (m : Memory) (firsts : List ℕ) (first address size : ℕ) (need : Need) → IsIndex m firsts → address < 2 ^ 32 → first ≡ slice_index firsts (address / 65536) → Skips m first address size need
skips m firsts first address size need index fits is =
    skip_from m first address size need (λ place e before within. index.skips (address / 65536) place e (omega arith) (rw (← is) before) within)

-- the index of regions is one of all that have the same spans
pub same_index : (m k : Memory) (firsts : List ℕ) → map span m ≡ map span k → IsIndex m firsts → IsIndex k firsts
same_index m k firsts same index =
    let count : length m ≡ length k = sym (length-map m span) ∙ ap length same ∙ length-map k span in
    record {
      count = index.count;
      skips = λ block place e within before there.
          let below : place < length m = omega arith in
          let alike : span (get_or m place e) ≡ span (get_or k place e) = sym (get_or-map span m place e (span e) below) ∙ ap (λ s. get_or s place (span e)) same ∙ get_or-map span k place e (span e) there in
          ap (touches block) (sym alike) ∙ index.skips block place e within before below;
    }
