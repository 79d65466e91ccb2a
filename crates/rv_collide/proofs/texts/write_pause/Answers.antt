use Rattle.std.proofs.Common.{◌≡◌, ◌∙◌, ap}
use Rattle.std.specs.Fmt.{decimal}
use Rattle.rv_collide.proofs.EndingLemmas.{pause_written}
use Rattle.rv_collide.proofs.texts.write_pause.Goals as goal

pub returns-clause-ok : goal.returns-clause-ok
returns-clause-ok g c =
    let number : c.as_bytes.result.now ≡ decimal c.args.number = c.as_bytes.ensures ∙ c.new-number.ensures in
    let hart : c.as_bytes-2.result.now ≡ decimal c.args.ending.now.hart = c.as_bytes-2.ensures ∙ c.new-hart.ensures ∙ ap decimal c.from.ensures in
    pause_written c.args.number c.args.ending.now c.write_access.result _ _ _ _ _ number hart c.in_ok-put_pieces.ensures.ok c.write_access.ensures.ok
