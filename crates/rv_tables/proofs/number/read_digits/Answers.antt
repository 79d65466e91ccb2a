use Rattle.std.proofs.Common.{◌≡◌, ◌<◌, arith, get_or, length}
use Rattle.std.specs.Char.{digit_value}
use Rattle.std.proofs.lemmas.Grind.{common_steps}
use Rattle.rv_tables.proofs.NumberLemmas.{SoFar-more}
use Rattle.rv_tables.proofs.number.read_digits.Goals as goal

pub loop-byte-preserved : goal.loop-byte-preserved
loop-byte-preserved c =
    let text = c.args.text.now in
    let i = c.loop-byte.byte-index in
    let same : c.in_ok-digit.digit ≡ digit_value (get_or c.args.text.now c.loop-byte.byte-index 0) = grind (arith, common_steps) in
    let digit : digit_value (get_or c.args.text.now c.loop-byte.byte-index 0) < 10 = grind (arith, common_steps) in
    let inside : c.loop-byte.byte-index < length c.args.text.now = grind (arith, common_steps) in
    SoFar-more c.loop-byte.number c.longer-number.result text i inside c.loop-byte.invariant digit (rw same at c.longer-number.ensures)
