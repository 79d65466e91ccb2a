use Rattle.rv_hart.proofs.TextLemmas.{hart_written}
use Rattle.rv_hart.proofs.texts.write_hart.Goals as goal

pub returns-clause-ok : goal.returns-clause-ok
returns-clause-ok g c =
    hart_written _ c.args.h c.pc.result c.status.result c.reservation.result _ _ _ _ _ _ _ c.in_ok-write_front.ensures.ok c.status.ensures c.in_ok-write_status.ensures.ok c.pc.ensures
    c.in_ok-write_pc.ensures.ok c.in_ok-write_registers.ensures.ok c.reservation.ensures c.in_ok-write_reservation.ensures.ok c.in_ok-put.ensures.ok
