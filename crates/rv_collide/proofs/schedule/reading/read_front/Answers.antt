use Rattle.std.proofs.Common.{◌≡◌, ◌<◌, ◌∙◌, ◌==◌, ap, arith, length, take}
use Rattle.std.specs.Prelude.{count_by}
use Rattle.rv_collide.proofs.FrontLemmas.{part_taken, read_at_end, unchanged}
use Rattle.rv_collide.proofs.schedule.reading.read_front.Goals as goal

pub returns-then-count-eq0-clause-front : goal.returns-then-count-eq0-clause-front
returns-then-count-eq0-clause-front g c =
    let room : 0 < length c.read.new.buf = omega arith in
    read_at_end 67_108_864 c.in-Ok.count _ _ _ c.reads.text.items c.read.new.buf c.reads.invariant.taken c.in-Ok.ensures.bytes c.if-count-eq0.true room

pub returns-then-is_err-clause-place : goal.returns-then-is_err-clause-place
returns-then-is_err-clause-place g c =
    let kept : c.extend_from_slice.new.self.items ≡ c.reads.text.items = unchanged _ _ _ _ c.extend_from_slice.ensures.items c.if-is_err.ensures.negation in
    let feeds : c.line_feeds-then-is_err.result ≡ count_by (λ byte. byte == 10) c.reads.text.items =
    c.line_feeds-then-is_err.ensures.count ∙ ap (count_by (λ byte. byte == 10)) (c.deref-then-is_err.ensures.value ∙ kept) in
    let more : c.line_feeds-then-is_err-2.result ≡ count_by (λ byte. byte == 10) (take c.in-Ok.count c.read.new.buf) = c.line_feeds-then-is_err-2.ensures.count in
    rw c.at-then-is_err.ensures
    (part_taken _ _ _ c.reads.text.items (take c.in-Ok.count c.read.new.buf) c.line_feeds-then-is_err.result c.line_feeds-then-is_err-2.result c.reads.invariant.taken c.in-Ok.ensures.bytes.0 feeds more)
