use Rattle.std.specs.Prelude.{is_some}
use Rattle.rv_hunt.proofs.TableLemmas.{table_made}
use Rattle.rv_hunt.specs.engine.Late.{IfListed, IfPaged, IfWritten}
use Rattle.rv_remade.specs.Saved.{IfSaved}
use Rattle.rv_hunt.specs.internal.Remaking.{shown_by}
use Rattle.rv_hunt.proofs.engine.show.made_of.Goals as goal

pub returns : goal.returns
returns g c =
    table_made (shown_by c.args.hunt.now c.args.lists.now) c.args.beside.now.options.now.blocks c.args.table.now c.args.rows.now c.in_ok-parted.parted.told.items c.in_ok-parted.parted.ignored.items c.in_ok-told.told.items c.in_ok-unexpected.unexpected.items
    c.deref.result.now c.deref-2.result.now c.deref-6.result.now c.first_of.result.now c.deref-10.result.now c.deref-11.result.now c.deref-3.result.now c.deref-4.result.now c.deref-17.result.now c.deref-13.result.now c.deref-12.result.now
    _ (is_some c.in_ok-gone.field-0) c.lines_miss.result c.runs.result c.in_ok-shown.shown.items c.deref-18.result.now c.args.symbols.now c.image.result.now c.image-2.result.now c.in_ok-listed.listed.items c.deref-20.result.now
    (IfSaved g.D.Folder.has_failed g.D.Folder.Holds c.show.new.folder) (IfPaged g.F.NewFile.has_failed g.F.NewFile.Holds c.make_page.new.page) (IfListed g.F.NewFile.has_failed g.F.NewFile.Holds c.put_list.new.list) (IfWritten g.F.NewFile.has_failed g.F.NewFile.Holds c.make_object.new.json) c.found_in-found.result
    c.requires.rows c.requires.symbols c.in_ok-parted.ensures.told c.in_ok-parted.ensures.ignored
    c.deref.ensures.value c.new-untried.ensures c.in_ok-told.ensures
    c.deref-2.ensures.value c.in_ok-unexpected.ensures
    c.image.ensures c.in_ok-gone.ensures c.image-2.ensures c.lines_miss.ensures
    c.deref-6.ensures.value c.first_of.ensures c.in_ok-shown.ensures.shown
    c.deref-3.ensures.value c.deref-4.ensures.value c.deref-17.ensures.value c.deref-18.ensures.value c.in_ok-make_page.ensures
    c.runs.ensures c.deref-13.ensures.value c.in_ok-make_object.ensures
    c.deref-12.ensures.value c.in_ok-listed.ensures c.deref-20.ensures.value c.put_list.ensures
    c.deref-10.ensures.value c.deref-11.ensures.value c.found_in-found.ensures
