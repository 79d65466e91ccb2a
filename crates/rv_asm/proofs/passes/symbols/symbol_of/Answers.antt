use Rattle.std.proofs.Common.{◌≤◌, length, arith}
use Rattle.std.proofs.lemmas.Str.{is_utf8-from_IsUtf8}
use Rattle.rv_asm.specs.Assembled.{kind_in}
use Rattle.rv_asm.proofs.NameLemmas.{is_name-length, is_name_utf8, is_name_unbroken}
use Rattle.rv_asm.proofs.WalkLemmas.{kind_most}
use Rattle.rv_asm.proofs.passes.symbols.symbol_of.Goals as goal

pub returns-clause-sound : goal.returns-clause-sound
returns-clause-sound c =
    let made = c.in_ok-text_of.ensures {u = tt} in
    let long : 1 ≤ length c.args.label.now.name = (is_name-length c.args.label.now.name made.valid).0 in
    let kind : kind_in c.args.label.now.spot.section ≤ 2 = kind_most c.args.label.now.spot.section in
    rw made.bytes (record {
      kind = omega (arith, kind, c.kind_in.ensures);
      some = long;
      text = is_utf8-from_IsUtf8 c.args.label.now.name (is_name_utf8 c.args.label.now.name made.valid);
      unbroken = is_name_unbroken c.args.label.now.name made.valid;
      value = omega arith;
      size = omega arith;
    })
