use Rattle.std.proofs.Common.{arith}
use Rattle.rv_memory.proofs.InPages.{page_below, same_in, keeps_in, own_in}
use Rattle.rv_memory.proofs.paged.pages.Pages.make_own.Goals as goal

pub index_mut-page-requires : goal.index_mut-page-requires
index_mut-page-requires c =
    let pages = c.self.inside.pages in
    let within = rw (← c.self.view_is) at c.requires.within in
    omega (arith, page_below pages.items c.args.at c.self.invariant within, pages.ok.0)

pub returns-in_err-make_own-clause-bytes : goal.returns-in_err-make_own-clause-bytes
returns-in_err-make_own-clause-bytes c =
    let pages = c.self.inside.pages.items in
    let below = page_below pages c.args.at c.self.invariant (rw (← c.self.view_is) at c.requires.within) in
    rw (← c.self.view_is) (same_in pages c.index_mut-page.result.now c.make_own.new.self _ c.self.invariant below c.index_mut-page.ensures.value c.make_own.ensures.bytes)

pub returns-in_err-make_own-clause-keeps : goal.returns-in_err-make_own-clause-keeps
returns-in_err-make_own-clause-keeps c =
    rw (← c.self.view_is) (λ place. keeps_in c.self.inside.pages.items _ place c.index_mut-page.result.now c.make_own.new.self c.index_mut-page.ensures.value c.make_own.ensures.keeps)

pub returns-clause-bytes : goal.returns-clause-bytes
returns-clause-bytes c =
    let pages = c.self.inside.pages.items in
    let below = page_below pages c.args.at c.self.invariant (rw (← c.self.view_is) at c.requires.within) in
    rw (← c.self.view_is) (same_in pages c.index_mut-page.result.now c.make_own.new.self _ c.self.invariant below c.index_mut-page.ensures.value c.make_own.ensures.bytes)

pub returns-clause-keeps : goal.returns-clause-keeps
returns-clause-keeps c =
    rw (← c.self.view_is) (λ place. keeps_in c.self.inside.pages.items _ place c.index_mut-page.result.now c.make_own.new.self c.index_mut-page.ensures.value c.make_own.ensures.keeps)

pub returns-clause-own : goal.returns-clause-own
returns-clause-own c =
    let pages = c.self.inside.pages.items in
    let below = page_below pages c.args.at c.self.invariant (rw (← c.self.view_is) at c.requires.within) in
    own_in pages _ c.make_own.new.self below c.in_ok-make_own.ensures.own
