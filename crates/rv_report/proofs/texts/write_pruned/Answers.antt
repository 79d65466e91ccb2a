use Rattle.std.proofs.Common.{◌≡◌}
use Rattle.std.specs.Fmt.{decimal}
use Rattle.rv_report.proofs.Written.{pruned_written}
use Rattle.rv_report.proofs.texts.write_pruned.Goals as goal

pub returns-clause-ok : goal.returns-clause-ok
returns-clause-ok g c =
    let named : c.as_bytes.result.now ≡ decimal c.args.named = cc in
    let flag : c.as_bytes-2.result.now ≡ decimal c.args.flag = cc in
    let counter : c.as_bytes-3.result.now ≡ decimal c.args.counter = cc in
    pruned_written c.args.named c.args.flag c.args.counter c.put_pieces-2.result _ _ _ _ _ _ named flag counter c.in_ok-put_pieces.ensures.ok c.put_pieces-2.ensures.ok
