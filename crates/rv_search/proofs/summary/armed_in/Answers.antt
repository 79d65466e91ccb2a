use Rattle.std.proofs.Common.{◌++◌, ◌∙◌, ap, arith, rules}
use Rattle.std.specs.Option.{option_to_list}
use Rattle.std.proofs.lemmas.Option.{slice_get-get_or}
use Rattle.rv_search.specs.Summary.{armed_address, armed_in}
use Rattle.rv_search.proofs.SummaryLemmas.{picked_more}
use Rattle.rv_search.proofs.summary.armed_in.Goals as goal

pub loop-n-init : goal.loop-n-init
unfolding armed_in
loop-n-init c = search rules

pub loop-n-preserved : goal.loop-n-preserved
unfolding armed_in
loop-n-preserved c =
    let entries = c.args.entries.now in
    record {
      within = (let below = c.loop-n-test.true in omega (arith, below));
      armed = picked_more armed_address entries c.loop-n.armed.items c.push_some.new.addresses.items c.loop-n.n _ (c.in_ok-push_some.ensures ∙ ap (λ o. c.loop-n.armed.items ++ option_to_list o) c.armed_address.ensures) c.loop-n.invariant.armed (slice_get-get_or entries c.loop-n.n _ c.loop-n-test.true);
    }
