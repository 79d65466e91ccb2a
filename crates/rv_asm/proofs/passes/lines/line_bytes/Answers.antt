use Rattle.std.proofs.Common.{◌≡◌, ◌+◌, false, Ok, length, ap, sym, ◌∙◌}
use Rattle.std.specs.Prelude.{nat_le, ◌&&◌}
use Rattle.rv_asm.specs.Layout.{address_of, label_size, bytes_before, limit_of}
use Rattle.rv_asm.specs.Bytes.{bytes_of}
use Rattle.rv_asm.specs.Assembled.{is_taken}
use Rattle.rv_asm.specs.internal.Listed.{listed}
use Rattle.rv_asm.proofs.LengthLemmas.{within_by_length}
use Rattle.rv_asm.proofs.LineLemmas.{line-fits, line-large}
use Rattle.rv_asm.proofs.passes.lines.line_bytes.Goals as goal

pub returns-then-is_within : goal.returns-then-is_within
returns-then-is_within c =
    let free : is_taken c.args.labels.now c.args.p.place.lines_before c.args.p.line.label ≡ false = sym c.is_taken.ensures ∙ c.if-is_taken.false in
    let are : bytes_of c.args.labels.now (address_of c.args.p.place) c.in-Ok.statement ≡ Ok c.in-Ok-2.bytes.items =
    ap (λ a. bytes_of c.args.labels.now a c.in-Ok.statement) (sym c.address_of.ensures) ∙ sym (c.in_ok-bytes.ensures {u = tt}) ∙ ap listed c.in-Ok-2.is in
    let within = within_by_length c.args.labels.now c.args.p.place c.args.p.line.label c.in-Ok.statement c.in-Ok-2.bytes.items c.requires are
    ∙ ap (λ bytes. nat_le (label_size c.args.p.line.label) c.args.p.place.label_room && nat_le (bytes_before c.args.p.place.section c.args.p.place + length bytes) (limit_of c.args.p.place.section)) (sym c.deref.ensures.value)
    ∙ sym c.is_within.ensures ∙ c.if-is_within.true in
    sym (line-fits c.args.labels.now c.args.p c.in-Ok.statement c.in-Ok-2.bytes.items free c.in-Ok.is are within)

pub returns-else-is_within : goal.returns-else-is_within
returns-else-is_within c =
    let free : is_taken c.args.labels.now c.args.p.place.lines_before c.args.p.line.label ≡ false = sym c.is_taken.ensures ∙ c.if-is_taken.false in
    let are : bytes_of c.args.labels.now (address_of c.args.p.place) c.in-Ok.statement ≡ Ok c.in-Ok-2.bytes.items =
    ap (λ a. bytes_of c.args.labels.now a c.in-Ok.statement) (sym c.address_of.ensures) ∙ sym (c.in_ok-bytes.ensures {u = tt}) ∙ ap listed c.in-Ok-2.is in
    let within = within_by_length c.args.labels.now c.args.p.place c.args.p.line.label c.in-Ok.statement c.in-Ok-2.bytes.items c.requires are
    ∙ ap (λ bytes. nat_le (label_size c.args.p.line.label) c.args.p.place.label_room && nat_le (bytes_before c.args.p.place.section c.args.p.place + length bytes) (limit_of c.args.p.place.section)) (sym c.deref.ensures.value)
    ∙ sym c.is_within.ensures ∙ c.if-is_within.false in
    sym (line-large c.args.labels.now c.args.p c.in-Ok.statement c.in-Ok-2.bytes.items free c.in-Ok.is are within)
