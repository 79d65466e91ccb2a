use Rattle.std.proofs.Common.{◌≡◌, ◌∙◌, ap}
use Rattle.std.specs.Fmt.{decimal}
use Rattle.rv_collide.proofs.EndingLemmas.{seen_written}
use Rattle.rv_collide.proofs.texts.write_seen.Goals as goal

pub returns-clause-ok : goal.returns-clause-ok
returns-clause-ok g c =
    let place : c.as_bytes.result.now ≡ decimal c.args.seen.now.place = c.as_bytes.ensures ∙ c.new-place.ensures ∙ ap decimal c.from.ensures in
    let hart : c.as_bytes-2.result.now ≡ decimal c.args.seen.now.hart = c.as_bytes-2.ensures ∙ c.new-hart.ensures ∙ ap decimal c.from-2.ensures in
    seen_written c.args.seen.now c.write_access.result _ _ _ _ _ place hart c.in_ok-put_pieces.ensures.ok c.write_access.ensures.ok
