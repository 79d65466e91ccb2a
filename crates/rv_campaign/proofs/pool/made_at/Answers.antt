use Rattle.rv_campaign.proofs.SlotLemmas.{taken_one}
use Rattle.rv_campaign.proofs.pool.made_at.Goals as goal

pub returns-in-Some-clause-slots : goal.returns-in-Some-clause-slots
returns-in-Some-clause-slots g c =
    taken_one (g.J.Jobs.makes c.args.jobs.now) c.args.slots.now.items c.take.new.slots.items c.args.place c.take.ensures.rest c.requires.slots

pub returns-in-None-clause-slots : goal.returns-in-None-clause-slots
returns-in-None-clause-slots g c =
    taken_one (g.J.Jobs.makes c.args.jobs.now) c.args.slots.now.items c.take.new.slots.items c.args.place c.take.ensures.rest c.requires.slots
