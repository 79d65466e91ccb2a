use Rattle.rv_hart.specs.Texts.{access_text}
use Rattle.rv_report.proofs.Written.{line_written}
use Rattle.rv_report.proofs.exhibit.write_access_line.Goals as goal

pub returns-clause-ok : goal.returns-clause-ok
returns-clause-ok g c = line_written c.args.word.now (access_text c.args.access.now) c.put-2.result _ _ _ _ c.in_ok-put.ensures.ok c.in_ok-write_access.ensures.ok c.put-2.ensures.ok
