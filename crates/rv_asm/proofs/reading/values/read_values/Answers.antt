use Rattle.std.proofs.Common.{sym, ◌∙◌}
use Rattle.rv_text.specs.Pieces.{pieces_of}
use Rattle.rv_asm.proofs.SourceLineLemmas.{are_values}
use Rattle.rv_asm.proofs.reading.values.read_values.Goals as goal

pub of-requires : goal.of-requires
of-requires c = are_values c.args.values (pieces_of 44 c.args.text.now) (sym c.are_in_range.ensures ∙ c.if-not-are_in_range.false)
