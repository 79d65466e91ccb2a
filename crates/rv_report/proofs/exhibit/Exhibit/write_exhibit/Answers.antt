use Rattle.rv_report.proofs.Written.{exhibit_written}
use Rattle.rv_report.proofs.exhibit.Exhibit.write_exhibit.Goals as goal

pub returns-clause-ok : goal.returns-clause-ok
returns-clause-ok g c =
    exhibit_written c.args.self.now c.put-2.result _ _ _ _ _ _ c.in_ok-write_access_line.ensures.ok c.in_ok-write_access_line-2.ensures.ok c.in_ok-put.ensures.ok
    (rw c.deref.ensures.value at c.in_ok-write_harts.ensures.ok) c.put-2.ensures.ok
