use Rattle.rv_collide.specs.Numbers.{numbers}
use Rattle.rv_report.proofs.Exhibits.{word_of_core}
use Rattle.rv_report.proofs.exhibiting.word_at.Goals as goal

pub returns : goal.returns
returns c =
    word_of_core c.in_ok-collider.collider c.args.image.now (numbers c.args.plan) c.args.entries.now c.args.place c.args.address c.number_at.result c.machine.result.now.state c.in_ok-collider.ensures c.machine.ensures c.number_at.ensures
