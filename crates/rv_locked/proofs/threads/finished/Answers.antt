use Rattle.std.proofs.Common.{Global, List, Vec, map, ℕ, ◌∙◌}
use Rattle.std.proofs.lemmas.List.{length-map}
use Rattle.rv_collide.specs.Numbers.{numbers}
use Rattle.rv_locked.proofs.EndedLemmas.{told_is}
use Rattle.rv_locked.proofs.threads.finished.Goals as goal

abbrev listed : Vec ℕ Global → List ℕ
listed v = v.items

pub returns-in-Ok-clause-ok : goal.returns-in-Ok-clause-ok
returns-in-Ok-clause-ok g c =
    told_is c.args.watched c.args.image.now (numbers c.args.plan) c.args.seed (map listed c.args.lists.now) c.in-Ok.told
    c.facts.ensures c.in-Ok.ensures.copies c.in-Ok.ensures.own c.in-Ok.ensures.left (length-map c.args.lists.now listed ∙ c.requires)
