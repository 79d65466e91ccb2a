use Rattle.std.proofs.Common.{◌≡◌, ◌∙◌, List, [], Some, map, refl, subst, sym}
use Rattle.std.specs.Prelude.{IfOk}
use Rattle.rv_hart.specs.Run.{run}
use Rattle.rv_hart.specs.State.{State, start as first_state}
use Rattle.rv_races.proofs.JudgedLemmas.{all_told, judged_behind}
use Rattle.rv_races.specs.Judged.{run_behind}
use Rattle.rv_races.specs.declared.judged.Judged.{Judged}
use Rattle.rv_races.specs.internal.LastStores.{judged_with}
use Rattle.rv_races.proofs.judged.judged_in.Goals as goal

pub returns-then-not-has_changed : goal.returns-then-not-has_changed
returns-then-not-has_changed c =
    let begin = first_state c.args.image.now.segments c.args.image.now.entry c.args.plan.now.harts in
    let told = run_behind c.args.image.now begin c.args.steps.now c.args.entries.now in
    subst (λ (js : List Judged). IfOk c.all_judged.result (λ judged. judged.items ≡ js))
    (all_told [] told c.args.endings.now (sym c.has_changed.ensures ∙ c.if-not-has_changed.true)) c.all_judged.ensures

pub returns : goal.returns
returns c =
    let begin = first_state c.args.image.now.segments c.args.image.now.entry c.args.plan.now.harts in
    let there : run begin c.args.steps.now ≡ Some c.make_steps.new.machine.state = subst (λ (s : State). run s c.args.steps.now ≡ Some c.make_steps.new.machine.state) c.in_ok-machine.ensures.state c.in_ok-make_steps.ensures in
    subst (λ (js : List Judged). IfOk c.all_judged-2.result (λ judged. judged.items ≡ js))
    (judged_behind c.args.image.now begin c.make_steps.new.machine.state c.args.steps.now c.args.entries.now c.deref.result.now c.args.endings.now (map (judged_with c.deref.result.now) c.args.endings.now) there (c.deref.ensures.value ∙ c.in_ok-made.ensures) refl)
    c.all_judged-2.ensures
