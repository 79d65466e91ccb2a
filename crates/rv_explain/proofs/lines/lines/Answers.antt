use Rattle.std.proofs.Common.{◌≡◌, ◌-◌, ◌≤◌, arith, refl, ap}
use Rattle.rv_explain.proofs.BlockLemmas.{lines_passed, none_yet}
use Rattle.rv_explain.specs.BlockOf.{Lines, first_shown, lines, lines_from}
use Rattle.rv_explain.specs.internal.Gathered.{gathered_of}
use Rattle.rv_races.specs.Races.{run_of}
use Rattle.rv_explain.proofs.lines.lines.Goals as goal

pub loop-at-init : goal.loop-at-init
unfolding lines_from
loop-at-init c = record {
  same = refl;
  lines = rw (c.new.ensures.items, c.saturating_sub-from.ensures) (none_yet (run_of c.args.session.now) c.args.about.now.around c.args.about.now.told c.args.about.now.places.items (first_shown c.args.about.now.around c.args.about.now.told));
  counted = record { hidden = omega arith; meeting = omega arith };
}

pub loop-at-preserved : goal.loop-at-preserved
loop-at-preserved c =
    let le : first_shown c.args.about.now.around c.args.about.now.told ≤ c.loop-at.at = omega arith in
    record {
      same = rw c.loop-at.invariant.same at c.in_ok-pass.ensures.same;
      lines = lines_passed c.args.session.now c.loop-at.session c.args.about.now.around c.args.about.now.told c.args.about.now.places.items (first_shown c.args.about.now.around c.args.about.now.told) c.loop-at.at (gathered_of c.loop-at.gathered) (gathered_of c.pass.new.self)
          c.loop-at.invariant.same le c.loop-at.invariant.lines c.in_ok-pass.ensures.passed;
      counted = c.in_ok-pass.ensures.counted;
    }

pub returns-clause-lines : goal.returns-clause-lines
unfolding lines
returns-clause-lines c =
    let from : c.saturating_sub-from.result ≤ c.end_shown-at-end.result = omega arith in
    let last = c.loop-at.auto.at-end from in
    let end : c.loop-at.at ≡ c.end_shown-at-end.result = omega arith in
    let all : c.loop-at.gathered.lines.items ≡ (lines_from (run_of c.args.session.now) c.args.about.now.around c.args.about.now.told c.args.about.now.places.items (first_shown c.args.about.now.around c.args.about.now.told) (c.loop-at.at - first_shown c.args.about.now.around c.args.about.now.told)).lines =
    ap (λ (l : Lines). l.lines) c.loop-at.invariant.lines in
    rw (end, c.end_shown-at-end.ensures.value) at all
