use Rattle.std.proofs.Common.{subst}
use Rattle.rv_hart.specs.State.{Guest}
use Rattle.rv_orders.specs.Trial.{LeadsTo}
use Rattle.rv_orders.proofs.orders.trial.Goals as goal

pub returns-clause-trial : goal.returns-clause-trial
returns-clause-trial g c =
    let one = c.in_ok-one.one in
    let other = c.in_ok-other.other in
    record {
      first = record { end = one.machine.state; is = c.in_ok-one.ensures.tried };
      second = record {
        end = other.machine.state;
        is = subst (λ (m : Guest). LeadsTo m.state c.args.second c.args.first c.args.number other.tried other.machine.state) c.in_ok-one.ensures.same c.in_ok-other.ensures.tried;
      };
      difference = c.in_ok-difference.ensures;
    }
