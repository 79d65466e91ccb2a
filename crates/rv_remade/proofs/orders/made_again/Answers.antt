use Rattle.std.proofs.lemmas.Result.{IfOk-weaker}
use Rattle.rv_remade.proofs.OrderShowingLemmas.{all_placed}
use Rattle.rv_remade.specs.declared.orders.Again.{Again}
use Rattle.rv_remade.proofs.orders.made_again.Goals as goal

pub returns : goal.returns
returns g c =
    let again : Again = record { hunt = c.args.full.now.hunt; symbols = c.args.full.now.symbols; wanted = c.args.wanted; runs = c.args.runs; count = c.in-Ok.count } in
    IfOk-weaker c.all_made.result _ _ (λ made are. λ known hunt wanted. all_placed known again made.items hunt c.requires.image wanted are) c.all_made.ensures
