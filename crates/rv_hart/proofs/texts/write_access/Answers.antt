use Rattle.std.proofs.Common.{◌≡◌, ◌∙◌, ap}
use Rattle.std.specs.Fmt.{decimal}
use Rattle.rv_hart.proofs.TextLemmas.{access_written}
use Rattle.rv_hart.proofs.texts.write_access.Goals as goal

pub returns-clause-ok : goal.returns-clause-ok
returns-clause-ok g c =
    let size : c.as_bytes.result.now ≡ decimal c.args.access.now.size = c.as_bytes.ensures ∙ c.new-size.ensures ∙ ap decimal c.from.ensures in
    access_written c.args.access.now c.put_pieces-2.result _ _ _ _ _ _ _ c.word_digits.ensures c.kind_text.ensures c.word_digits-2.ensures size c.in_ok-put_pieces.ensures.ok c.put_pieces-2.ensures.ok
