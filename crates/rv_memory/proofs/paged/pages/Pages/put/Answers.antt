use Rattle.std.proofs.Common.{◌≡◌, ap, arith, inl, inr}
use Rattle.std.proofs.lemmas.Bool.{cases_Bool}
use Rattle.rv_memory.proofs.InPages.{page_below, store_in, owners_in}
use Rattle.rv_memory.proofs.paged.pages.Pages.put.Goals as goal

pub index_mut-page-requires : goal.index_mut-page-requires
index_mut-page-requires c =
    let pages = c.self.inside.pages in
    let within = rw (← c.self.view_is) at c.requires.within in
    omega (arith, page_below pages.items c.args.at c.self.invariant (omega arith), pages.ok.0)

pub returns-clause-put : goal.returns-clause-put
returns-clause-put c done =
    let pages = c.self.inside.pages.items in
    let within = rw (← c.self.view_is) at c.requires.within in
    let bytes = ap (λ p. p.bytes) (c.put.ensures.put done) in
    rw (← c.self.view_is) (store_in pages c.index_mut-page.result.now c.put.new.self c.args.at c.args.size c.args.value c.self.invariant (omega arith) (omega arith) c.index_mut-page.ensures.value bytes)

pub returns-clause-owners : goal.returns-clause-owners
returns-clause-owners c =
    let pages = c.self.inside.pages in
    let within = rw (← c.self.view_is) at c.requires.within in
    let below = page_below pages.items c.args.at c.self.invariant (omega arith) in
    let own : c.put.new.self.own ≡ c.index_mut-page.result.now.own =
    elim (cases_Bool c.put.result) [
      | inl h ↦ ap (λ p. p.own) (c.put.ensures.put h)
      | inr h ↦ ap (λ p. p.own) (c.put.ensures.same h)
    ] in
    rw (← c.self.view_is) (owners_in pages.items c.index_mut-page.result.now c.put.new.self _ below c.index_mut-page.ensures.value own)
