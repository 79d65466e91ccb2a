use Rattle.rv_prune.proofs.Counted.{has}
use Rattle.rv_prune.proofs.named_bytes.NamedBytes.has.Goals as goal

pub returns : goal.returns
returns c = rw (c.ended.ensures, c.begun.ensures, c.from-place.ensures) (has c.args.address c.args.self.now)
