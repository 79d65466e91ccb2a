use Rattle.std.proofs.Common.{Some, None, arith, rules}
use Rattle.std.proofs.lemmas.Str.Pattern.{split_parts}
use Rattle.rv_engines.proofs.RunLists.{last_element, no_more, one_element, one_more}
use Rattle.rv_engines.proofs.run.lists.split.Goals as goal

pub loop-element-preserved : goal.loop-element-preserved
loop-element-preserved c =
    let parts = split_parts 44 c.loop-element.rest.now (Some (c.in-Some.element, c.in-Some.after)) c.in-Some.ensures.cases (omega arith) in (
      search rules,
      one_more c.loop-element.found.items c.push.new.self.items c.in-Some.element c.loop-element.rest.now c.in-Some.after.now _ (c.in_ok-push.ensures).items
          (one_element c.loop-element.rest.now c.in-Some.element.now c.in-Some.after.now parts.0 parts.1) c.loop-element.invariant.1,
    )

pub returns : goal.returns
returns c =
    no_more c.loop-element.found.items c.push-2.new.self.items c.loop-element.rest _ (c.in_ok-push-2.ensures).items
    (last_element c.loop-element.rest.now (split_parts 44 c.loop-element.rest.now None c.in_default.ensures.cases (omega arith))) c.loop-element.invariant.1
