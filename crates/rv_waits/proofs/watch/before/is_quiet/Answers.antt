use Rattle.std.proofs.Common.{◌≡◌, length}
use Rattle.rv_waits.proofs.BeforeLemmas.{by_access, by_bytes, not_so}
use Rattle.rv_waits.proofs.watch.before.is_quiet.Goals as goal

pub returns-in-Access : goal.returns-in-Access
returns-in-Access g c = λ quiet anchors s h known step.
    let printed : length c.args.machine.now.state.output ≡ c.args.before.printed = cc in
    by_access c.what_no_step_does.ensures.output anchors s c.args.machine.now.state h c.args.before c.args.access known c.in-Access.is (c.writes.ensures (not_so c.writes.result quiet)) printed step

pub returns-in-Bytes : goal.returns-in-Bytes
returns-in-Bytes g c = λ quiet anchors s h known step.
    let printed : length c.args.machine.now.state.output ≡ c.args.before.printed = cc in
    by_bytes c.store_keeps_the_rest.ensures.bytes c.reservations_and_accesses.ensures.sizes c.what_no_step_does.ensures.output anchors s c.args.machine.now.state h c.in-Bytes.first c.in-Bytes.bytes c.args.before c.args.access known c.in-Bytes.is (c.has_bytes.ensures quiet) printed step
