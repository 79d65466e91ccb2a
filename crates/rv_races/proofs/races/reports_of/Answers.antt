use Rattle.std.proofs.Common.{◌≡◌, ℕ, rules, ap, sym, ◌∙◌, ◌++◌}
use Rattle.std.specs.Option.{option_to_list}
use Rattle.rv_races.proofs.RaceLemmas.{reports_more}
use Rattle.rv_races.specs.Races.{report_at, reports_of}
use Rattle.rv_races.proofs.races.reports_of.Goals as goal

pub loop-n-init : goal.loop-n-init
unfolding reports_of
loop-n-init c = search rules

pub loop-n-preserved : goal.loop-n-preserved
loop-n-preserved c =
    let number : c.in-Ok.number ≡ c.loop-n.n = search rules in
    let here = c.report_at.ensures ∙ ap (λ (k : ℕ). report_at c.args.image.now c.args.ranges.now c.args.endings.now k) number in
    c.in_ok-add_found.ensures ∙ ap (λ rs. rs ++ option_to_list c.report_at.result) c.loop-n.invariant
    ∙ sym (reports_more c.args.image.now c.args.ranges.now c.args.endings.now c.loop-n.n c.report_at.result here)
