use Rattle.std.specs.FinSet.{contains-from_list_nat}
use Rattle.rv_break.proofs.armed.Armed.is_among.Goals as goal

pub returns : goal.returns
returns c =
    let members = contains-from_list_nat c.self.inside.addresses.items c.args.address in
    cc (c.contains.ensures.value, c.deref.ensures.value, c.self.view_is, members)
