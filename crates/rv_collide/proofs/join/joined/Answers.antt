use Rattle.std.proofs.Common.{ap, ◌∙◌, ◌++◌, List, subst, length, map, All, ◌≡◌}
use Rattle.rv_collide.specs.Joined.{ending_later}
use Rattle.rv_collide.specs.Numbers.{numbers}
use Rattle.rv_collide.specs.declared.ending.Ending.{Ending}
use Rattle.rv_collide.specs.declared.entry.Entry.{Entry}
use Rattle.rv_collide.specs.internal.Joins.{IsPlaced}
use Rattle.rv_collide.proofs.JoinedWhole.{capped, whole_of}
use Rattle.rv_collide.proofs.join.joined.Goals as goal

pub returns-clause-whole : goal.returns-clause-whole
returns-clause-whole c = λ fork goes.
    let own = c.args.own in
    let after = numbers own.plan in
    whole_of fork c.args.prefix.now own.entries.items c.args.told.now own.endings.items after goes
    (numbers c.plan_needed-plan.result) c.in_ok-entries.entries.items c.in_ok-endings.endings.items c.requires
    (c.in_ok-entries.ensures ∙ ap (λ (es : List Entry). c.args.prefix.now ++ es) c.deref.ensures.value)
    (subst (λ (es : List Ending). All (IsPlaced (length c.args.prefix.now)) es → c.in_ok-endings.endings.items ≡ c.args.told.now ++ map (ending_later (length c.args.prefix.now)) es) c.deref-2.ensures.value c.in_ok-endings.ensures)
    (c.plan_needed-plan.ensures ∙ ap (capped after) c.deref-3.ensures.value)
