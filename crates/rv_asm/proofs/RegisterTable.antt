-- The names of registers in a listing, read back: a table that the checker computes.
use Rattle.std.proofs.Common.{◌≡◌, ℕ, ◌<◌, Bool, true, false, Option, Some, None, get_or, refl, ap, sym, ◌∙◌, zero-add}
use Rattle.std.specs.Prelude.{◌==◌, ◌&&◌}
use Rattle.std.specs.List.{list_all, range_with_len}
use Rattle.std.proofs.lemmas.Bool.{and_parts}
use Rattle.std.proofs.lemmas.Bool.Decides.{Decides-eqb}
use Rattle.std.proofs.lemmas.List.FromFn.{get_or-range_with_len}
use Rattle.rv_asm.specs.Registers.{number_name, register_named}
use Rattle.rv_asm.specs.Text.{is_name}
use Rattle.rv_asm.proofs.DigitLemmas.{at_digit}
use Rattle.rv_asm.proofs.PlainLemmas.{is_plain}

abbrev is_found : ℕ → Option ℕ → Bool
is_found r None = false
is_found r (Some found) = found == r

abbrev test : ℕ → Bool
test r = (is_name (number_name r) && list_all is_plain (number_name r)) && is_found r (register_named (number_name r))

table : list_all test (range_with_len 0 32) ≡ true
table = refl

at_register : (r : ℕ) → r < 32 → test r ≡ true
at_register r small =
    let place : get_or (range_with_len 0 32) r 0 ≡ r = get_or-range_with_len 0 32 r 0 small ∙ zero-add r in
    ap test (sym place) ∙ at_digit test (range_with_len 0 32) r small table

found_is : (r : ℕ) (o : Option ℕ) → is_found r o ≡ true → o ≡ Some r
found_is r None is = cc
found_is r (Some found) is = ap Some ((Decides-eqb found r).0 is)

-- a register's name is a name of plain bytes, and names the register
pub record Named (r : ℕ) : Type 0 where
  pub name : is_name (number_name r) ≡ true
  pub plain : list_all is_plain (number_name r) ≡ true
  pub register : register_named (number_name r) ≡ Some r

pub named : (r : ℕ) → r < 32 → Named r
named r small =
    let parts = and_parts (is_name (number_name r) && list_all is_plain (number_name r)) _ (at_register r small) in
    let front = and_parts (is_name (number_name r)) (list_all is_plain (number_name r)) parts.0 in
    record { name = front.0; plain = front.1; register = found_is r _ parts.1 }
