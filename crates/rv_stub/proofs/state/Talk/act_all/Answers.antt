use Rattle.std.proofs.Common.{◌≡◌, ◌∙◌, Some, true, length, ap, sym, subst}
use Rattle.std.specs.Prelude.{IfOk}
use Rattle.rv_debug.specs.Placed.{state}
use Rattle.rv_stub.proofs.ActLemmas.{acts}
use Rattle.rv_stub.specs.Answers.{Answer, acting, name_harts, resuming}
use Rattle.rv_stub.specs.Reply.{reply_text}
use Rattle.rv_stub.specs.Standing.{Standing}
use Rattle.rv_stub.proofs.state.Talk.act_all.Goals as goal

pub returns-clause-ok : goal.returns-clause-ok
returns-clause-ok c =
    let s = c.machine.result.now.state in
    let there : state c.args.self.now.run ≡ Some s = ap (λ (t : Standing). state t.run) (sym c.self.view_is) ∙ c.machine.ensures in
    let named : name_harts (length s.harts) c.args.actions.now ≡ true = ap (λ n. name_harts n c.args.actions.now) (sym c.harts-harts.ensures.value) ∙ sym c.name_harts.ensures ∙ c.if-not-name_harts.false in
    let same : acting c.args.self.now c.args.actions.now ≡ resuming c.args.self.now c.of_actions.result = acts c.args.self.now c.args.actions.now s there named ∙ ap (resuming c.args.self.now) (sym c.of_actions.ensures) in
    subst (λ (a : Answer). IfOk c.resume.result (λ reply. a ≡ record { text = reply_text reply; after = c.resume.new.self })) (sym same) c.resume.ensures.ok
