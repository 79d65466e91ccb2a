use Rattle.std.proofs.Common.{ap, arith, length}
use Rattle.rv_engines.proofs.RunLists.{name_told, name_within, names_read}
use Rattle.rv_engines.proofs.run.lists.named_ranges.Goals as goal

pub returns-in-Ok-clause-ok : goal.returns-in-Ok-clause-ok
returns-in-Ok-clause-ok c =
    names_read c.args.image.now c.in_ok-names.names.items _ c.in-Ok.found.items c.in_ok-names.ensures
    (λ place at. let bad = (c.in-Ok.ensures.unknown place).1 (rw c.deref.ensures.value at) in cc) (rw c.deref.ensures.value at c.in-Ok.ensures.ok)

pub index-requires : goal.index-requires
index-requires c =
    let below = name_within c.args.image.now c.in_ok-names.names.items c.in-Err-Unknown.place (rw c.deref.ensures.value at ((c.in-Err-Unknown.ensures.unknown c.in-Err-Unknown.place).0 (cc))) in
    let size = c.deref.ensures.len in
    let same = ap length c.deref.ensures.value in
    omega arith

pub returns-clause-err : goal.returns-clause-err
returns-clause-err c =
    name_told c.args.image.now c.in_ok-names.names.items _ c.in-Err-Unknown.place c.index.result.now c.in_ok-names.ensures (rw c.deref.ensures.value at ((c.in-Err-Unknown.ensures.unknown c.in-Err-Unknown.place).0 (cc))) c.index.ensures
