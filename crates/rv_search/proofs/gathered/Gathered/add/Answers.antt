use Rattle.std.proofs.Common.{◌∙◌, ◌∷◌, [], List, ap, arith, length, length-append, map}
use Rattle.rv_races.specs.declared.judged.Judged.{Judged}
use Rattle.rv_collide.specs.declared.entry.Entry.{Entry}
use Rattle.rv_search.proofs.WalkLemmas.{all_of_some, counted_so, near_so, reports_so}
use Rattle.rv_search.specs.KeptRun.{in_part, reports_by}
use Rattle.rv_search.specs.Summary.{counts_of}
use Rattle.rv_search.proofs.gathered.Gathered.add.Goals as goal

pub returns : goal.returns
returns c = λ gone pairs parts judged is.
    let hunt = c.args.hunt.now in
    let part = c.args.part.now in
    let number = c.in-Some.number in
    let next = c.in-Some.ensures in
    let count = is.parts_are in
    let long = length-append parts (part ∷ []) in
    let counts = c.counts_of.ensures ∙ ap (λ (es : List Entry). counts_of es c.deref-2.result.now) c.deref.ensures.value ∙ ap (counts_of part.probed.finished.entries.items) c.deref-2.ensures.value in
    let reports = c.in_ok-reports.ensures ∙ ap (λ (js : List Judged). map (in_part number part.place) (reports_by hunt js)) judged in
    record {
      counts_are = counted_so (length gone.harts) parts part c.args.self.now.counts c.counts_of.result c.sum-self.result is.counts_are counts c.sum-self.ensures;
      parts_are = omega (arith, next, count, long);
      reports_are = reports_so hunt gone parts part number c.args.self.now.reports.items c.in_ok-reports.reports.items c.append_reports.new.reports.items is.reports_are reports (omega (arith, next, count)) c.in_ok-append_reports.ensures;
      near_are = near_so pairs parts part c.probed_pair.result c.args.self.now.near.items c.push.new.self.items is.near_are c.probed_pair.ensures c.in_ok-push.ensures.items;
      tried_are = all_of_some c.args.self.now.reports.items c.in_ok-reports.reports.items c.append_reports.new.reports.items c.args.self.now.trials.tried.items c.in_ok-append_reports.ensures is.tried_are;
    }
