use Rattle.std.proofs.Common.{sym, ◌∙◌}
use Rattle.rv_campaign.specs.Run.{sampling_of}
use Rattle.rv_collide.specs.Stored.{setting_of}
use Rattle.rv_campaign.proofs.DrivingLemmas.{run_over}
use Rattle.rv_campaign.proofs.GoingLemmas.{resumed_on, turns_longer, turns_on, turns_same}
use Rattle.rv_campaign.proofs.run.go_on.Goals as goal

pub returns-in-Some-clause-driving : goal.returns-in-Some-clause-driving
returns-in-Some-clause-driving c =
    resumed_on c.draws_owed.ensures c.args.driver.now c.resume.new.self c.draw.new.self c.args.sampler.now c.args.words.now c.draw.new.words c.in-Some.h c.requires.driving (sym c.due.ensures.value ∙ c.in-Some.is) c.resume.ensures.adds.is_added c.draw.ensures.core c.draw.ensures.words

pub returns-then-count-eq0-clause-over : goal.returns-then-count-eq0-clause-over
returns-then-count-eq0-clause-over c = λ _.
    run_over (setting_of c.args.driver.now) (sampling_of c.args.sampler.now c.args.words.now.seed c.args.words.now.stream) c.args.driver.now.entries c.args.words.now.taken c.requires.driving (sym c.due.ensures.value ∙ c.in_default.is) (sym c.count.ensures ∙ c.if-count-eq0.true)

pub returns-clause-driving : goal.returns-clause-driving
returns-clause-driving c =
    turns_on c.draws_owed.ensures c.accepted_calls.ensures.kind c.args.driver.now c.turns.new.self c.args.sampler.now c.args.words.now c.turns.new.words c.requires.driving c.turns.ensures.turns c.turns.ensures.words

pub returns-clause-same : goal.returns-clause-same
returns-clause-same c =
    turns_same c.args.driver.now c.turns.new.self c.args.words.now c.turns.new.words _ c.turns.ensures.turns c.turns.ensures.words

pub returns-clause-longer : goal.returns-clause-longer
returns-clause-longer c = λ _.
    turns_longer c.args.driver.now c.turns.new.self _ c.args.words.now.taken c.turns.new.words.taken c.turns.ensures.turns c.turns.ensures.one

pub turns-requires-clause-undue : goal.turns-requires-clause-undue
turns-requires-clause-undue c = sym c.due.ensures.value ∙ c.in_default.is
