use Rattle.std.proofs.Common.{◌≡◌, ◌≤◌, ◌∙◌, List, ℕ, length, ap, subst, sym, arith}
use Rattle.rv_collide.specs.Grammar.{IsWritable}
use Rattle.rv_collide.specs.Numbers.{numbers}
use Rattle.rv_collide.specs.Plan.{Numbers}
use Rattle.rv_collide.specs.declared.entry.Entry.{Entry}
use Rattle.rv_hart.specs.State.{State}
use Rattle.rv_walk.specs.Walked.{entries_of}
use Rattle.rv_remade.proofs.beside.of_walk.Goals as goal

pub returns : goal.returns
returns c =
    let w = c.requires.walk in
    let plan = numbers c.in-Some.plan in
    let listed : c.deref.result.now ≡ w.walk.harts = c.deref.ensures.value ∙ w.left.harts_are in
    let same : c.in_ok-entries.entries.items ≡ entries_of w.walk.harts = c.in_ok-entries.ensures ∙ ap entries_of listed in
    let start : c.args.begin.now.state ≡ w.walk.start = c.requires.begin.state_is ∙ sym w.is_walk.start_is in
    let count : length w.walk.start.harts ≡ plan.harts = sym (ap (λ (s : State). length s.harts) start) ∙ sym c.harts-harts.ensures.value ∙ sym (ap (λ (n : Numbers). n.harts) c.in-Some.ensures.value) in
    let steps : plan.steps ≡ c.max.result = ap (λ (n : Numbers). n.steps) c.in-Some.ensures.value in
    let size : length c.args.walk.now.left.harts.items ≡ length w.walk.harts = ap (λ (hs : List ℕ). length hs) w.left.harts_are in
    let few : length w.walk.harts ≤ plan.steps = omega (arith, steps, size, c.len.ensures, c.in-Ok.ensures, c.max.ensures) in
    let prefix = c.steps_are_a_prefix.ensures w.walk.start w.left.reached.0 plan w.walk.harts w.left.reached.1 count few in
    subst (λ (es : List Entry). IsWritable plan es) (sym same)
    (c.legal_is_writable.ensures (record { start = w.walk.start; plan = plan }) (entries_of w.walk.harts) c.in-Some.plan.in_range prefix.legal)
