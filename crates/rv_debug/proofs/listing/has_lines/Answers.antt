use Rattle.std.proofs.Common.{◌≡◌, true, ◌==◌, ◌%◌, ◌∙◌, arith}
use Rattle.std.proofs.lemmas.Bool.Decides.{nat_tests}
use Rattle.rv_debug.proofs.SeriesLemmas.{lines_some}
use Rattle.rv_debug.proofs.listing.has_lines.Goals as goal

pub returns : goal.returns
returns g c =
    let multiple : (c.args.address % 4 == 0) ≡ true = grind (arith, nat_tests) in
    rw multiple (c.has_bytes.ensures ∙ lines_some c.args.machine.now.state.memory c.args.address c.args.count)
