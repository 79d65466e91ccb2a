use Rattle.std.proofs.Common.{◌≡◌, ◌<◌, ◌+◌, ◌-◌, true, ◌&&◌, sym, ap, ◌∙◌, not, arith}
use Rattle.std.specs.Option.{is_some}
use Rattle.rv_debug.specs.Answers.{bytes_from}
use Rattle.rv_debug.proofs.SeriesLemmas.{some_next}
use Rattle.rv_memory.specs.Memory.{byte}
use Rattle.rv_debug.proofs.shown.has_bytes.Goals as goal

pub loop-i-preserved : goal.loop-i-preserved
loop-i-preserved g c =
    let first = c.from.ensures in
    let offset = c.from-in-loop-i.ensures in
    let lt : c.loop-i.i < c.args.len = omega arith in
    let here : c.args.address + c.loop-i.i ≡ c.from.result + c.from-in-loop-i.result = omega arith in
    let next : (c.args.address + c.loop-i.i) + 1 ≡ c.args.address + (c.loop-i.i + 1) = omega arith in
    let there : is_some (byte c.args.machine.now.state.memory (c.args.address + c.loop-i.i)) ≡ true = ap (λ a. is_some (byte c.args.machine.now.state.memory a)) here ∙ sym (ap is_some c.byte_at.ensures) ∙ c.is_none.ensures ∙ ap not c.if-is_none.false in
    some_next (byte c.args.machine.now.state.memory) 1 (c.args.address + c.loop-i.i) c.loop-i.i c.args.len _ c.loop-i.invariant (c.args.address + (c.loop-i.i + 1)) lt next
    ∙ ap (λ t. t && is_some (bytes_from c.args.machine.now.state.memory (c.args.address + (c.loop-i.i + 1)) (c.args.len - (c.loop-i.i + 1)))) there
