use Rattle.std.proofs.Common.{◌≡◌, ◌+◌, true, false}
use Rattle.rv_waits.specs.internal.Meets.{meets_some, overlaps}
use Rattle.rv_waits.proofs.TouchedLemmas.{covers_data, covers_instruction, none_covered}
use Rattle.rv_waits.proofs.touched.meets.Goals as goal

pub returns-then-meets_instructions-clause-some : goal.returns-then-meets_instructions-clause-some
returns-then-meets_instructions-clause-some c = λ e few.
    let touched = c.args.touched.now in
    let size = c.args.size in
    let met : overlaps touched.least_pc (touched.greatest_pc + 4) c.args.first (c.args.first + size) ≡ true = cc in
    covers_instruction touched c.args.first size met

pub returns-clause-apart : goal.returns-clause-apart
returns-clause-apart c = λ e.
    let touched = c.args.touched.now in
    let first = c.args.first in
    let size = c.args.size in
    let few : touched.is_all ≡ false = cc in
    let instructions : overlaps touched.least_pc (touched.greatest_pc + 4) first (first + size) ≡ false = cc in
    let ranges : meets_some touched.ranges first size ≡ false = cc in
    none_covered touched first size few instructions ranges

pub returns-clause-some : goal.returns-clause-some
returns-clause-some c = λ e few.
    let touched = c.args.touched.now in
    let met : meets_some touched.ranges c.args.first c.args.size ≡ true = cc in
    covers_data touched c.args.first c.args.size met
