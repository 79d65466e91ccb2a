use Rattle.std.proofs.Common.{List, ap, subst}
use Rattle.std.specs.Prelude.{Contains}
use Rattle.rv_collide.specs.Plan.{Numbers}
use Rattle.rv_explain.specs.Races.{run_of}
use Rattle.rv_remade.proofs.ReportLemmas.{report_is_ending}
use Rattle.rv_races.specs.declared.races.Report.{Report}
use Rattle.rv_remade.proofs.orders.Again.trial.Goals as goal

pub race_block-requires-clause-told : goal.race_block-requires-clause-told
race_block-requires-clause-told c =
    report_is_ending (run_of c.args.session.now) c.args.self.now.hunt.now.ranges c.in-Some.report
    (subst (λ (rs : List Report). Contains rs c.in-Some.report) c.requires.reports c.in-Some.ensures.0)

pub returns-in-Some-2-clause-trial : goal.returns-in-Some-2-clause-trial
returns-in-Some-2-clause-trial c =
    record {
      race = record { reports = 1; told = c.in-Some.report };
      is_report = subst (λ (rs : List Report). Contains rs c.in-Some.report) c.requires.reports c.in-Some.ensures.0;
      key_is = c.in-Some.ensures.1;
      block_is = c.in_ok-block.ensures.block;
      order_is = rw (c.in-Some-2.is, c.entries.ensures, c.in_ok-block.ensures.same, ← c.requires.image, ap (λ (n : Numbers). n.harts) c.requires.plan) at c.in_ok-order.ensures;
    }
