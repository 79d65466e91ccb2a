use Rattle.std.proofs.Common.{sym, subst, arith}
use Rattle.rv_elf.specs.Written.{data_end}
use Rattle.rv_elf.proofs.Sizes.{AreInOrder, data_small, tables_small, places_in_order}
use Rattle.rv_elf.proofs.writing.write_parts.Goals as goal

pub put_front-requires-clause-small : goal.put_front-requires-clause-small
put_front-requires-clause-small c = data_small c.args.entry c.args.segments.now c.requires.segments

pub places_of-places-requires-clause-small : goal.places_of-places-requires-clause-small
places_of-places-requires-clause-small c = data_small c.args.entry c.args.segments.now c.requires.segments

pub put_front-requires-2-clause-small : goal.put_front-requires-2-clause-small
put_front-requires-2-clause-small c = data_small c.args.entry c.args.segments.now c.requires.segments

pub data_end-requires-clause-small : goal.data_end-requires-clause-small
data_end-requires-clause-small c = data_small c.args.entry c.args.segments.now c.requires.segments

pub places_of-places-requires-clause-few_symbols : goal.places_of-places-requires-clause-few_symbols
places_of-places-requires-clause-few_symbols c = omega (arith, tables_small c.args.symbols.now c.requires.symbols)

pub places_of-places-requires-clause-small_names : goal.places_of-places-requires-clause-small_names
places_of-places-requires-clause-small_names c = omega (arith, tables_small c.args.symbols.now c.requires.symbols)

pub put_tables-requires-clause-small : goal.put_tables-requires-clause-small
put_tables-requires-clause-small c = omega (arith, tables_small c.args.symbols.now c.requires.symbols)

pub put_tables-requires-clause-end : goal.put_tables-requires-clause-end
put_tables-requires-clause-end c =
    let order = places_in_order c.args.entry c.args.segments.now c.args.symbols.now c.requires.segments c.requires.symbols in
    omega (arith, order.bytes, c.data_end.ensures)

pub put_tables-requires-clause-symbols : goal.put_tables-requires-clause-symbols
put_tables-requires-clause-symbols c =
    let in_order = subst (AreInOrder (data_end c.args.segments.now)) (sym c.places_of-places.ensures) (places_in_order c.args.entry c.args.segments.now c.args.symbols.now c.requires.segments c.requires.symbols) in
    omega (arith, in_order.strings, in_order.small)

pub put_tables-requires-clause-strings : goal.put_tables-requires-clause-strings
put_tables-requires-clause-strings c =
    let in_order = subst (AreInOrder (data_end c.args.segments.now)) (sym c.places_of-places.ensures) (places_in_order c.args.entry c.args.segments.now c.args.symbols.now c.requires.segments c.requires.symbols) in
    omega (arith, in_order.names, in_order.small)

pub put_tables-requires-clause-names : goal.put_tables-requires-clause-names
put_tables-requires-clause-names c =
    let in_order = subst (AreInOrder (data_end c.args.segments.now)) (sym c.places_of-places.ensures) (places_in_order c.args.entry c.args.segments.now c.args.symbols.now c.requires.segments c.requires.symbols) in
    omega (arith, in_order.sections, in_order.small)
