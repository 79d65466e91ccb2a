use Rattle.rv_engines.proofs.RunLists.{skip_read, skip_told}
use Rattle.rv_engines.proofs.run.lists.read_skipped.Goals as goal

pub returns-in-Some-clause-err : goal.returns-in-Some-clause-err
returns-in-Some-clause-err c =
    skip_told c.in_ok-given.given.items _ c.in-Some.place c.index.result.now c.in_ok-given.ensures (rw c.deref.ensures.value at c.in-Some.ensures) c.index.ensures

pub returns-clause-ok : goal.returns-clause-ok
returns-clause-ok c =
    skip_read c.in_ok-given.given.items _ c.in_ok-words-in-None.field-0.items c.in_ok-given.ensures (rw c.deref.ensures.value at c.in-None.ensures) (rw c.deref-in-None.ensures.value at c.in_ok-words-in-None.ensures)
