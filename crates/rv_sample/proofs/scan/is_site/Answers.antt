use Rattle.std.proofs.Common.{not, ap, sym, ◌∙◌}
use Rattle.std.specs.Prelude.{◌&&◌, ◌==◌}
use Rattle.std.specs.List.{list_any}
use Rattle.rv_hart.specs.NextAccess.{is_plain_op}
use Rattle.rv_isa.specs.Decoded.{op_at}
use Rattle.rv_sample.proofs.Segments.{site_there}
use Rattle.rv_sample.proofs.scan.is_site.Goals as goal

pub returns-then-is_plain : goal.returns-then-is_plain
returns-then-is_plain c =
    let plain = sym (c.is_plain.ensures ∙ ap (λ w. is_plain_op (op_at w)) c.word_at.ensures) ∙ c.if-is_plain.true in
    ap not c.contains.ensures.value
    ∙ sym (site_there c.args.segment.now c.args.excluded.now c.args.address c.requires.executable c.requires.aligned c.requires.from c.requires.whole
    ∙ ap (λ b. b && not (list_any (λ other. other == c.args.address) c.args.excluded.now)) plain)

pub returns-else-is_plain : goal.returns-else-is_plain
returns-else-is_plain c =
    let plain = sym (c.is_plain.ensures ∙ ap (λ w. is_plain_op (op_at w)) c.word_at.ensures) ∙ c.if-is_plain.false in
    c.if-is_plain.false
    ∙ sym (site_there c.args.segment.now c.args.excluded.now c.args.address c.requires.executable c.requires.aligned c.requires.from c.requires.whole
    ∙ ap (λ b. b && not (list_any (λ other. other == c.args.address) c.args.excluded.now)) plain)
