use Rattle.std.proofs.Common.{sym, ap, ◌∙◌}
use Rattle.std.specs.Prelude.{◌==◌}
use Rattle.rv_break.proofs.Buckets.{len_at}
use Rattle.rv_break.proofs.armed.Armed.is_empty.Goals as goal

pub returns : goal.returns
returns c =
    let count = len_at c.self.inside.addresses.items c.args.self.now c.self.invariant.filtered.apart c.self.view_is in
    c.is_empty.ensures ∙ ap (λ n. n == 0) (c.self.inside.addresses.ok.0 ∙ sym count)
