use Rattle.std.proofs.Common.{◌≡◌}
use Rattle.std.specs.Fmt.{decimal}
use Rattle.rv_gdb.specs.Features.{type_of}
use Rattle.rv_gdb.proofs.TextLemmas.{element_joined}
use Rattle.rv_gdb.proofs.features.write_register.Goals as goal

pub returns-clause-ok : goal.returns-clause-ok
returns-clause-ok g c =
    let name : c.as_bytes.result.now ≡ decimal c.args.r = cc in
    let type : c.type_of.result.now ≡ type_of c.args.r = c.type_of.ensures in
    let number : c.as_bytes-2.result.now ≡ decimal c.args.r = cc in
    element_joined _ _ _ _ _ c.args.r name type number c.in_ok-put_pieces.ensures.ok
