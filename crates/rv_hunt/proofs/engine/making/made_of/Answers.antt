use Rattle.std.proofs.Common.{◌∙◌, length, ap, refl}
use Rattle.std.proofs.lemmas.Result.{err_from_is_err_and}
use Rattle.rv_explain.specs.Naming.{Naming}
use Rattle.rv_search.specs.Hunt.{Hunt}
use Rattle.rv_hunt.specs.internal.Opened.{hunting_with}
use Rattle.rv_hunt.proofs.MadeLemmas.{found_from, made_is, new_from, not_ok, outcome_is, races_from, table_from}
use Rattle.rv_hunt.proofs.engine.making.made_of.Goals as goal

pub returns-clause-made : goal.returns-clause-made
returns-clause-made g c =
    let hunting = hunting_with c.args.hunt.now c.args.given.digits.now c.args.noted.now.ends.right c.args.given.lists.now in
    let sites = c.len.ensures ∙ ap (λ (h : Hunt). length h.source.sites) c.hunt.view_is in
    let races = races_from hunting c.args.saw.now c.in_ok-parted.parted.told.items c.deref.result.now _ c.deref.ensures.value c.in_ok-parted.ensures.told c.in_ok-races.ensures in
    let rows = c.deref-4.ensures.value ∙ c.in_ok-parted.ensures.told in
    let ignored = c.deref-6.ensures.value ∙ c.in_ok-parted.ensures.ignored in
    let image = c.image.ensures ∙ ap (λ (n : Naming). n.image) c.requires.symbols in
    let gone = rw image at c.in_ok-gone.ensures in
    let misses = rw (c.image-2.ensures ∙ ap (λ (n : Naming). n.image) c.requires.symbols) at c.lines_miss.ensures in
    let came = outcome_is hunting c.args.saw.now c.len.result c.mix.result c.deref-4.result.now c.deref-5.result.now c.deref-6.result.now _ _ _ sites (c.mix.ensures ∙ ap (λ (h : Hunt). h.given.mix) c.hunt.view_is) rows (c.deref-5.ensures.value ∙ races) ignored gone misses refl in
    made_is _ hunting c.args.saw.now _ _ _ _ c.in_ok-parted.parted.told.items c.in_ok-races.races.items c.in_ok-told.told.items c.first_of.result.now c.in_ok-unexpected.unexpected.items _ c.deref-18.result.now c.deref-19.result.now c.deref-15.result.now c.args.given.symbols.now c.deref-21.result.now c.in_ok-shown.shown.items c.in_ok-orders.orders.items c.in_ok-stuck.stuck.shown.items _ _ _ _ c.requires.noted refl c.is_wrong.ensures c.in_ok-parted.ensures.told
    races
    (rw (c.deref-2.ensures.value, ap (λ (n : Naming). n.image) c.requires.symbols) at c.in_ok-told.ensures)
    (rw (c.full_of-most.ensures, c.is_some.ensures, c.shows_blocks.ensures, c.save_ends.ensures, c.stuck_ends.ensures.wanted, c.deref-8.ensures.value) at c.first_of.ensures)
    came c.in_ok-shown.ensures.shown c.in_ok-orders.ensures.shown
    (table_from c.args.given.options.now.shows _ _ _ _ _ _ _ _ _ _ _ _ c.heading_of-heading.ensures.image c.heading_of-heading.ensures.version c.heading_of-heading.ensures.seed c.heading_of-heading.ensures.given c.stretch_of-stretch.ensures c.in_ok-text.ensures)
    c.deref-18.ensures.value c.deref-19.ensures.value c.in_ok-make_page.ensures.paged c.deref-15.ensures.value c.in_ok-make_json.ensures.written c.in_ok-stuck.ensures.shown
    c.requires.symbols c.deref-21.ensures.value c.in_ok-make_list.ensures.listed
    (new_from c.args.given.symbols.now _ c.args.given.lists.now.expected c.deref-3.result.now _ _ c.requires.symbols c.deref-3.ensures.value c.in_ok-unexpected.ensures)
    (found_from c.deref-12.result.now _ c.deref-13.result.now _ c.deref-14.result.now _ c.is_wrong.result c.is_void.result _ _ c.deref-12.ensures.value c.deref-13.ensures.value c.deref-14.ensures.value c.is_void.ensures c.found_in-found.ensures)

pub returns-in_err-make_page-clause-made : goal.returns-in_err-make_page-clause-made
returns-in_err-make_page-clause-made g c =
    let p = err_from_is_err_and c.from_residual-in_err-make_page.result c.from_residual-in_err-make_page.ensures.1 in
    not_ok c.from_residual-in_err-make_page.result _ _ p.1

pub returns-in_err-make_page-clause-wanted : goal.returns-in_err-make_page-clause-wanted
returns-in_err-make_page-clause-wanted g c =
    (c.show.ensures.wanted ∙ c.shown_orders.ensures.wanted ∙ c.save_ends.ensures ∙ c.stuck_ends.ensures.wanted, c.make_page.ensures.wanted, refl, c.make_json.ensures.wanted)

pub returns-in_err-make_list-clause-wanted : goal.returns-in_err-make_list-clause-wanted
returns-in_err-make_list-clause-wanted g c =
    (c.show.ensures.wanted ∙ c.shown_orders.ensures.wanted ∙ c.save_ends.ensures ∙ c.stuck_ends.ensures.wanted, c.make_page.ensures.wanted, c.make_list.ensures.wanted, c.make_json.ensures.wanted)

pub returns-clause-wanted : goal.returns-clause-wanted
returns-clause-wanted g c =
    (c.show.ensures.wanted ∙ c.shown_orders.ensures.wanted ∙ c.save_ends.ensures ∙ c.stuck_ends.ensures.wanted, c.make_page.ensures.wanted, c.make_list.ensures.wanted, c.make_json.ensures.wanted)
