use Rattle.std.proofs.Common.{◌≡◌, Ok, Err, ◌++◌, ap, sym, ◌∙◌}
use Rattle.rv_asm.specs.Assembled.{line_bytes, if_in}
use Rattle.rv_asm.specs.internal.Listed.{listed}
use Rattle.rv_asm.specs.declared.statement.Section.TheVariants.{Text, Data}
use Rattle.rv_asm.proofs.SectionLemmas.{fault-more, fault-here, fault-none, bytes-more, bytes-done}
use Rattle.rv_asm.proofs.passes.sections.sections_of.Goals as goal

pub loop-p-preserved : goal.loop-p-preserved
loop-p-preserved c =
    let fine : line_bytes c.args.labels.now c.in-Some.p ≡ Ok c.in-Ok.bytes.items = sym (c.in_ok-bytes.ensures {u = tt}) ∙ ap listed c.in-Ok.is in
    let put = c.in_ok-put-in-Ok.ensures {u = tt} in
    let lines = c.in-Some.ensures.taken in
    record {
      fault = fault-more c.args.labels.now _ c.in-Some.p c.loop-p.lines c.next_line.new.self c.in-Ok.bytes.items lines fine c.loop-p.invariant.fault;
      text = bytes-more Text c.args.labels.now c.loop-p.sections.text.items c.put.new.sections.text.items _ c.in-Some.p c.loop-p.lines c.next_line.new.self c.in-Ok.bytes.items lines fine (put.text ∙ ap (λ bytes. c.loop-p.sections.text.items ++ if_in Text c.in-Some.p.place.section (Ok bytes)) c.deref.ensures.value) c.loop-p.invariant.text;
      writable = bytes-more Data c.args.labels.now c.loop-p.sections.writable.items c.put.new.sections.writable.items _ c.in-Some.p c.loop-p.lines c.next_line.new.self c.in-Ok.bytes.items lines fine (put.writable ∙ ap (λ bytes. c.loop-p.sections.writable.items ++ if_in Data c.in-Some.p.place.section (Ok bytes)) c.deref.ensures.value) c.loop-p.invariant.writable;
    }

pub returns-in-Err-clause-fault : goal.returns-in-Err-clause-fault
returns-in-Err-clause-fault c =
    let fault : line_bytes c.args.labels.now c.in-Some.p ≡ Err c.in-Err.kind = sym (c.in_ok-bytes.ensures {u = tt}) ∙ ap listed c.in-Err.is in
    fault-here c.args.labels.now _ c.in-Some.p c.loop-p.lines c.next_line.new.self c.in-Err.kind c.in-Some.ensures.taken fault c.loop-p.invariant.fault

pub returns-clause-fault : goal.returns-clause-fault
returns-clause-fault c = fault-none _ _ c.loop-p.lines c.in_default.ensures.taken.0 c.loop-p.invariant.fault

pub returns-clause-text : goal.returns-clause-text
returns-clause-text c = bytes-done Text _ _ _ c.loop-p.lines c.in_default.ensures.taken.0 c.loop-p.invariant.text

pub returns-clause-writable : goal.returns-clause-writable
returns-clause-writable c = bytes-done Data _ _ _ c.loop-p.lines c.in_default.ensures.taken.0 c.loop-p.invariant.writable
