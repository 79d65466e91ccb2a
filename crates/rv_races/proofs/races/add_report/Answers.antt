use Rattle.std.proofs.Common.{rules, ap, sym, ◌∙◌, slice_set}
use Rattle.rv_races.proofs.RaceLemmas.{raised_last, raised_there}
use Rattle.rv_races.specs.Races.{raised}
use Rattle.rv_races.specs.declared.races.Race.{Race}
use Rattle.rv_races.proofs.races.add_report.Goals as goal

pub returns-in-Some : goal.returns-in-Some
returns-in-Some c =
    let found = rw c.deref.ensures.value at (sym c.place_of.ensures ∙ c.in-Some.is) in
    let there = raised_there c.args.report.now c.args.races.now.items c.in-Some.place c.index.result.now found in
    rw c.raised.ensures (ap (λ (race : Race). slice_set c.args.races.now.items c.in-Some.place (raised race c.args.report.now)) c.index.ensures ∙ sym there)

pub returns-in_ok-push-in-None : goal.returns-in_ok-push-in-None
returns-in_ok-push-in-None c =
    let none = rw c.deref.ensures.value at (sym c.place_of.ensures ∙ c.in-None.is) in
    let last = raised_last c.args.report.now c.args.races.now.items none in
    rw last (search rules)
