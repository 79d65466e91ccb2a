use Rattle.std.proofs.Common.{ℕ, ◌+◌, ◌-◌, List, get_or, ap, ◌∙◌}
use Rattle.rv_memory.specs.Extent.{Extent}
use Rattle.rv_sample.proofs.Segments.{word_there}
use Rattle.rv_sample.proofs.scan.word_at.Goals as goal

pub returns : goal.returns
returns c =
    let bytes = c.as_slice-bytes.ensures.value ∙ ap (λ (e : Extent). e.bytes) c.segment.view_is in
    let start = ap (λ (e : Extent). c.args.address - e.start) c.segment.view_is in
    let read = λ (k : ℕ). ap (λ (xs : List ℕ). get_or xs (c.args.address - c.segment.inside.start + k) 0) bytes ∙ ap (λ (i : ℕ). get_or c.args.segment.now.bytes (i + k) 0) start in
    word_there c.args.segment.now c.args.address _ _ _ _ c.requires.from c.requires.whole c.requires.segment.within
    (c.from-3.ensures ∙ ap (λ (xs : List ℕ). get_or xs (c.args.address - c.segment.inside.start) 0) bytes ∙ ap (λ (i : ℕ). get_or c.args.segment.now.bytes i 0) start)
    (c.from-4.ensures ∙ read 1)
    (c.from.ensures ∙ read 2)
    (c.from-2.ensures ∙ read 3)
