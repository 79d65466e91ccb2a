use Rattle.std.proofs.Common.{[], map, ap, sym, ◌∙◌}
use Rattle.std.proofs.lemmas.Result.{err_from_is_err_and}
use Rattle.rv_elf.specs.Loaded.{entries_of, entries_test, symbols_among, each_segment_test, segment, segments_test, refusal}
use Rattle.rv_elf.proofs.LoadSteps.{IsRead, fails_segments, fails_table, fails_entries, passes, image_is}
use Rattle.rv_elf.proofs.loading.load.Goals as goal

pub returns-in_err-segments_test-clause-err : goal.returns-in_err-segments_test-clause-err
returns-in_err-segments_test-clause-err c =
    let p = err_from_is_err_and c.from_residual-in_err-segments_test.result c.from_residual-in_err-segments_test.ensures.1 in
    let hs = c.in_ok-headers.headers in
    let read : IsRead c.args.bytes.now c.in_ok-header.header hs = record { header = c.in_ok-header.ensures; headers = c.in_ok-headers.ensures.value; each = c.in_ok-each_segment_test.ensures {u = tt} ∙ ap (each_segment_test c.args.bytes.now) c.as_slice.ensures.value } in
    rw (p.1, p.2) (fails_segments c.args.bytes.now c.in_ok-header.header hs _ read (c.in_err-segments_test.ensures {u = tt} ∙ ap (λ t. segments_test c.in_ok-header.header.e_entry (map (segment []) t)) c.as_slice-2.ensures.value))

pub returns-in_err-table-clause-err : goal.returns-in_err-table-clause-err
returns-in_err-table-clause-err c =
    let p = err_from_is_err_and c.from_residual-in_err-table.result c.from_residual-in_err-table.ensures.1 in
    let hs = c.in_ok-headers.headers in
    let read : IsRead c.args.bytes.now c.in_ok-header.header hs = record { header = c.in_ok-header.ensures; headers = c.in_ok-headers.ensures.value; each = c.in_ok-each_segment_test.ensures {u = tt} ∙ ap (each_segment_test c.args.bytes.now) c.as_slice.ensures.value } in
    let apart = c.in_ok-segments_test.ensures {u = tt} ∙ ap (λ t. segments_test c.in_ok-header.header.e_entry (map (segment []) t)) c.as_slice-2.ensures.value in
    rw (p.1, p.2) (fails_table c.args.bytes.now c.in_ok-header.header hs _ read apart c.in_err-table.ensures)

pub returns-in_err-test-clause-err : goal.returns-in_err-test-clause-err
returns-in_err-test-clause-err c =
    let p = err_from_is_err_and c.from_residual-in_err-test.result c.from_residual-in_err-test.ensures.1 in
    let hs = c.in_ok-headers.headers in
    let read : IsRead c.args.bytes.now c.in_ok-header.header hs = record { header = c.in_ok-header.ensures; headers = c.in_ok-headers.ensures.value; each = c.in_ok-each_segment_test.ensures {u = tt} ∙ ap (each_segment_test c.args.bytes.now) c.as_slice.ensures.value } in
    let apart = c.in_ok-segments_test.ensures {u = tt} ∙ ap (λ t. segments_test c.in_ok-header.header.e_entry (map (segment []) t)) c.as_slice-2.ensures.value in
    rw (p.1, p.2) (fails_entries c.args.bytes.now c.in_ok-header.header hs c.in_ok-table.table _ read apart c.in_ok-table.ensures (c.in_err-test.ensures ∙ ap (λ strings. entries_test 67_108_864 strings (entries_of c.in_ok-table.table.symbols)) c.names-names.ensures))

pub returns-in_err-ready-clause-err : goal.returns-in_err-ready-clause-err
returns-in_err-ready-clause-err c =
    let p = err_from_is_err_and c.from_residual-in_err-ready.result c.from_residual-in_err-ready.ensures.1 in
    let hs = c.in_ok-headers.headers in
    let read : IsRead c.args.bytes.now c.in_ok-header.header hs = record { header = c.in_ok-header.ensures; headers = c.in_ok-headers.ensures.value; each = c.in_ok-each_segment_test.ensures {u = tt} ∙ ap (each_segment_test c.args.bytes.now) c.as_slice.ensures.value } in
    let apart = c.in_ok-segments_test.ensures {u = tt} ∙ ap (λ t. segments_test c.in_ok-header.header.e_entry (map (segment []) t)) c.as_slice-2.ensures.value in
    let all = passes c.args.bytes.now c.in_ok-header.header hs c.in_ok-table.table read apart c.in_ok-table.ensures (c.in_ok-test.ensures {u = tt} ∙ ap (λ strings. entries_test 67_108_864 strings (entries_of c.in_ok-table.table.symbols)) c.names-names.ensures) in
    rw (p.1, p.2) (sym (ap refusal all))

pub returns-in_err-segments-clause-err : goal.returns-in_err-segments-clause-err
returns-in_err-segments-clause-err c =
    let p = err_from_is_err_and c.from_residual-in_err-segments.result c.from_residual-in_err-segments.ensures.1 in
    let hs = c.in_ok-headers.headers in
    let read : IsRead c.args.bytes.now c.in_ok-header.header hs = record { header = c.in_ok-header.ensures; headers = c.in_ok-headers.ensures.value; each = c.in_ok-each_segment_test.ensures {u = tt} ∙ ap (each_segment_test c.args.bytes.now) c.as_slice.ensures.value } in
    let apart = c.in_ok-segments_test.ensures {u = tt} ∙ ap (λ t. segments_test c.in_ok-header.header.e_entry (map (segment []) t)) c.as_slice-2.ensures.value in
    let all = passes c.args.bytes.now c.in_ok-header.header hs c.in_ok-table.table read apart c.in_ok-table.ensures (c.in_ok-test.ensures {u = tt} ∙ ap (λ strings. entries_test 67_108_864 strings (entries_of c.in_ok-table.table.symbols)) c.names-names.ensures) in
    rw (p.1, p.2) (sym (ap refusal all))

pub returns-in_err-symbols-clause-err : goal.returns-in_err-symbols-clause-err
returns-in_err-symbols-clause-err c =
    let p = err_from_is_err_and c.from_residual-in_err-symbols.result c.from_residual-in_err-symbols.ensures.1 in
    let hs = c.in_ok-headers.headers in
    let read : IsRead c.args.bytes.now c.in_ok-header.header hs = record { header = c.in_ok-header.ensures; headers = c.in_ok-headers.ensures.value; each = c.in_ok-each_segment_test.ensures {u = tt} ∙ ap (each_segment_test c.args.bytes.now) c.as_slice.ensures.value } in
    let apart = c.in_ok-segments_test.ensures {u = tt} ∙ ap (λ t. segments_test c.in_ok-header.header.e_entry (map (segment []) t)) c.as_slice-2.ensures.value in
    let all = passes c.args.bytes.now c.in_ok-header.header hs c.in_ok-table.table read apart c.in_ok-table.ensures (c.in_ok-test.ensures {u = tt} ∙ ap (λ strings. entries_test 67_108_864 strings (entries_of c.in_ok-table.table.symbols)) c.names-names.ensures) in
    rw (p.1, p.2) (sym (ap refusal all))

pub tested_image-requires : goal.tested_image-requires
tested_image-requires c =
    let hs = c.in_ok-headers.headers in
    let read : IsRead c.args.bytes.now c.in_ok-header.header hs = record { header = c.in_ok-header.ensures; headers = c.in_ok-headers.ensures.value; each = c.in_ok-each_segment_test.ensures {u = tt} ∙ ap (each_segment_test c.args.bytes.now) c.as_slice.ensures.value } in
    let apart = c.in_ok-segments_test.ensures {u = tt} ∙ ap (λ t. segments_test c.in_ok-header.header.e_entry (map (segment []) t)) c.as_slice-2.ensures.value in
    rw (c.in_ok-segments.ensures, c.as_slice-3.ensures.value) (image_is c.args.bytes.now c.in_ok-header.header hs c.in_ok-table.table.strings (entries_of c.in_ok-table.table.symbols) c.in_ok-symbols.symbols.items read.each apart c.as_slice.ensures.few c.in_ok-headers.ensures.each (c.in_ok-test.ensures {u = tt} ∙ ap (λ strings. entries_test 67_108_864 strings (entries_of c.in_ok-table.table.symbols)) c.names-names.ensures) (c.in_ok-symbols.ensures.those ∙ ap (λ strings. symbols_among strings (entries_of c.in_ok-table.table.symbols)) c.names-names.ensures) c.in_ok-symbols.ensures.sound)

pub returns-clause-ok : goal.returns-clause-ok
returns-clause-ok c =
    let hs = c.in_ok-headers.headers in
    let read : IsRead c.args.bytes.now c.in_ok-header.header hs = record { header = c.in_ok-header.ensures; headers = c.in_ok-headers.ensures.value; each = c.in_ok-each_segment_test.ensures {u = tt} ∙ ap (each_segment_test c.args.bytes.now) c.as_slice.ensures.value } in
    let apart = c.in_ok-segments_test.ensures {u = tt} ∙ ap (λ t. segments_test c.in_ok-header.header.e_entry (map (segment []) t)) c.as_slice-2.ensures.value in
    let all = passes c.args.bytes.now c.in_ok-header.header hs c.in_ok-table.table read apart c.in_ok-table.ensures (c.in_ok-test.ensures {u = tt} ∙ ap (λ strings. entries_test 67_108_864 strings (entries_of c.in_ok-table.table.symbols)) c.names-names.ensures) in
    rw (c.tested_image.ensures, c.in_ok-segments.ensures, (c.in_ok-symbols.ensures.those ∙ ap (λ strings. symbols_among strings (entries_of c.in_ok-table.table.symbols)) c.names-names.ensures), c.as_slice-3.ensures.value) all
