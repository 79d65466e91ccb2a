use Rattle.std.proofs.Common.{◌≡◌, ◌<◌, ◌+◌, ◌-◌, ◌++◌, Some, sym, ap, ◌∙◌, arith}
use Rattle.std.specs.Prelude.{option_map}
use Rattle.std.proofs.lemmas.List.{append-nil}
use Rattle.rv_debug.specs.Answers.{bytes_from}
use Rattle.rv_debug.proofs.SeriesLemmas.{not_both, series_end, series_more}
use Rattle.rv_memory.specs.Memory.{byte}
use Rattle.rv_debug.proofs.shown.bytes_of.Goals as goal

pub unreachable-requires : goal.unreachable-requires
unreachable-requires g c =
    let first = c.from.ensures in
    let offset = c.from-in-loop-i.ensures in
    let lt : c.loop-i.i < c.args.len = omega arith in
    let here : c.args.address + c.loop-i.i ≡ c.from.result + c.from-in-loop-i.result = omega arith in
    not_both (bytes_from c.args.machine.now.state.memory c.args.address c.args.len)
    (series_end (byte c.args.machine.now.state.memory) 1 (c.args.address + c.loop-i.i) c.loop-i.i c.args.len c.loop-i.bytes.items _ c.loop-i.invariant lt (ap (byte c.args.machine.now.state.memory) here ∙ sym c.byte_at.ensures ∙ c.in-None.is))
    c.requires

pub loop-i-preserved : goal.loop-i-preserved
loop-i-preserved g c =
    let first = c.from.ensures in
    let offset = c.from-in-loop-i.ensures in
    let lt : c.loop-i.i < c.args.len = omega arith in
    let here : c.args.address + c.loop-i.i ≡ c.from.result + c.from-in-loop-i.result = omega arith in
    let next : (c.args.address + c.loop-i.i) + 1 ≡ c.args.address + (c.loop-i.i + 1) = omega arith in
    series_more (byte c.args.machine.now.state.memory) 1 (c.args.address + c.loop-i.i) c.loop-i.i c.args.len c.loop-i.bytes.items _ c.loop-i.invariant (c.args.address + (c.loop-i.i + 1)) lt next c.in-Some.byte (ap (byte c.args.machine.now.state.memory) here ∙ sym c.byte_at.ensures ∙ c.in-Some.is)
    ∙ ap (λ xs. option_map (λ bs. xs ++ bs) (bytes_from c.args.machine.now.state.memory (c.args.address + (c.loop-i.i + 1)) (c.args.len - (c.loop-i.i + 1)))) (sym c.in_ok-push-in-Some.ensures.items)

pub returns : goal.returns
returns g c =
    let done : c.args.len - c.loop-i.i ≡ 0 = omega arith in
    c.loop-i.invariant
    ∙ ap (λ n. option_map (λ bs. c.loop-i.bytes.items ++ bs) (bytes_from c.args.machine.now.state.memory (c.args.address + c.loop-i.i) n)) done
    ∙ ap Some (append-nil c.loop-i.bytes.items)
