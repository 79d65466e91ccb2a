use Rattle.rv_hart.proofs.AbleLemmas.{sized_fetched, able_action}
use Rattle.rv_hart.proofs.effect.action_at.Goals as goal

pub allowed-requires : goal.allowed-requires
allowed-requires g c = rw c.fetched.ensures (sized_fetched (g.S.ByteStore.memory c.args.store.now) c.args.hart.now)

pub returns-clause-able : goal.returns-clause-able
returns-clause-able g c = rw (c.allowed.ensures, c.fetched.ensures) (able_action c.permitted_bytes_are_there.ensures (g.S.ByteStore.memory c.args.store.now) c.args.hart.now)
