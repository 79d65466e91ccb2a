use Rattle.std.proofs.Common.{◌≡◌, ◌==◌, ◌%◌, ◌<◌, ◌+◌, ◌-◌, ◌*◌, ◌++◌, [], ◌∷◌, map, Some, None, sym, ap, subst, ◌∙◌, arith}
use Rattle.std.proofs.lemmas.List.{map-append}
use Rattle.std.specs.Prelude.{IsSome, MatchOption, option_map}
use Rattle.std.specs.String.{string_bytes}
use Rattle.rv_debug.specs.Answers.{line_at, series}
use Rattle.rv_debug.proofs.SeriesLemmas.{not_both, series_end, series_more, series_whole, under_test}
use Rattle.rv_debug.proofs.listing.lines_of.Goals as goal

pub unreachable-requires : goal.unreachable-requires
unreachable-requires g c =
    let first = c.from.ensures in
    let offset = c.from-in-loop-i.ensures in
    let lt : c.loop-i.i < c.args.count = omega arith in
    let here : c.args.address + 4 * c.loop-i.i ≡ c.from.result + 4 * c.from-in-loop-i.result = omega arith in
    let at = c.from.result + 4 * c.from-in-loop-i.result in
    let none = subst (λ o. MatchOption o (line_at c.args.machine.now.state.memory at ≡ None) (λ line. line_at c.args.machine.now.state.memory at ≡ Some (string_bytes line))) c.in-None.is c.in_ok-line_at.ensures in
    let m = c.args.machine.now.state.memory in
    let all = series (line_at m) 4 c.args.address c.args.count in
    not_both all
    (series_end (line_at c.args.machine.now.state.memory) 4 (c.args.address + 4 * c.loop-i.i) c.loop-i.i c.args.count (map (λ line. string_bytes line) c.loop-i.lines.items) _ c.loop-i.invariant lt (ap (line_at c.args.machine.now.state.memory) here ∙ none))
    (subst (λ o. IsSome o) (under_test (c.args.address % 4 == 0) all c.requires) c.requires)

pub loop-i-preserved : goal.loop-i-preserved
loop-i-preserved g c =
    let first = c.from.ensures in
    let offset = c.from-in-loop-i.ensures in
    let lt : c.loop-i.i < c.args.count = omega arith in
    let here : c.args.address + 4 * c.loop-i.i ≡ c.from.result + 4 * c.from-in-loop-i.result = omega arith in
    let next : (c.args.address + 4 * c.loop-i.i) + 4 ≡ c.args.address + 4 * (c.loop-i.i + 1) = omega arith in
    let at = c.from.result + 4 * c.from-in-loop-i.result in
    let some = subst (λ o. MatchOption o (line_at c.args.machine.now.state.memory at ≡ None) (λ line. line_at c.args.machine.now.state.memory at ≡ Some (string_bytes line))) c.in-Some.is c.in_ok-line_at.ensures in
    series_more (line_at c.args.machine.now.state.memory) 4 (c.args.address + 4 * c.loop-i.i) c.loop-i.i c.args.count (map (λ line. string_bytes line) c.loop-i.lines.items) _ c.loop-i.invariant (c.args.address + 4 * (c.loop-i.i + 1)) lt next (string_bytes c.in-Some.line) (ap (line_at c.args.machine.now.state.memory) here ∙ some)
    ∙ ap (λ xs. option_map (λ ls. xs ++ ls) (series (line_at c.args.machine.now.state.memory) 4 (c.args.address + 4 * (c.loop-i.i + 1)) (c.args.count - (c.loop-i.i + 1))))
    (sym (ap (map (λ line. string_bytes line)) c.in_ok-push-in-Some.ensures.items ∙ map-append (λ line. string_bytes line) c.loop-i.lines.items (c.in-Some.line ∷ [])))

pub returns : goal.returns
returns g c =
    let all = series (line_at c.args.machine.now.state.memory) 4 c.args.address c.args.count in
    under_test (c.args.address % 4 == 0) all c.requires
    ∙ series_whole (line_at c.args.machine.now.state.memory) 4 _ c.loop-i.i c.args.count (map (λ line. string_bytes line) c.loop-i.lines.items) _ c.loop-i.invariant (omega arith)
