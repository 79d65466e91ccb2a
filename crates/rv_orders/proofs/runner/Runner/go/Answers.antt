use Rattle.std.proofs.Common.{◌≡◌, ℕ, ◌+◌, ◌%◌, length, ap, subst, sym, ◌∙◌, arith}
use Rattle.std.specs.Prelude.{replicate}
use Rattle.std.proofs.lemmas.List.{length-append, length-replicate}
use Rattle.rv_sample.specs.Generator.{Given, word_at}
use Rattle.rv_waits.specs.Turn.{IsNextFrom}
use Rattle.rv_orders.proofs.DrivenLemmas.{driven_more, not_driven}
use Rattle.rv_orders.specs.internal.Gone.{IsBurst, IsDrivenOn}
use Rattle.rv_orders.proofs.runner.Runner.go.Goals as goal

given : ℕ → ℕ → Given
given number taken = record { seed = 0; stream = number; taken = taken }

pub bursts-init : goal.bursts-init
unfolding given
bursts-init g c =
    let made : c.new-words.result ≡ given c.args.number 0 = c.new-words.ensures ∙ ap (λ (n : ℕ). given n 0) c.from.ensures in
    let none : c.new-words.result.taken ≡ 0 = ap (λ (w : Given). w.taken) made in
    record {
      further = subst (IsDrivenOn c.args.self.now c.args.self.now c.args.number) (sym none) (not_driven c.args.self.now c.args.number);
      words = made ∙ ap (given c.args.number) (sym none);
      few = omega (arith, none);
    }

pub bursts-preserved : goal.bursts-preserved
unfolding given
bursts-preserved g c =
    let inv = c.bursts.invariant in
    let number = c.args.number in
    let taken = c.bursts.words.taken in
    let word : c.next.result ≡ word_at 0 number taken = c.next.ensures.word ∙ ap (λ (w : Given). word_at w.seed w.stream w.taken) inv.words in
    let after : c.next.new.self ≡ given number (taken + 1) = c.next.ensures.after ∙ ap (λ (w : Given). let more : Given = record w { taken = w.taken + 1 } in more) inv.words in
    let other : c.next-in-bursts.result ≡ word_at 0 number (taken + 1) = c.next-in-bursts.ensures.word ∙ ap (λ (w : Given). word_at w.seed w.stream w.taken) after in
    let later : c.next-in-bursts.new.self ≡ given number (taken + 1 + 1) = c.next-in-bursts.ensures.after ∙ ap (λ (w : Given). let more : Given = record w { taken = w.taken + 1 } in more) after in
    let two : c.next-in-bursts.new.self.taken ≡ taken + 1 + 1 = ap (λ (w : Given). w.taken) later in
    let more : taken + 2 ≡ c.next-in-bursts.new.self.taken = omega (arith, two) in
    let burst : IsBurst c.bursts.self c.burst.new.self c.in-Some.h (1 + word_at 0 number (taken + 1) % 16) =
    subst (λ (n : ℕ). IsBurst c.bursts.self c.burst.new.self c.in-Some.h (1 + n % 16)) other c.in_ok-burst.ensures in
    let long : length c.burst.new.self.harts ≡ length c.bursts.self.harts + burst.turns =
    ap length burst.is.harts ∙ length-append c.bursts.self.harts (replicate burst.turns c.in-Some.h) ∙ ap (λ n. length c.bursts.self.harts + n) (length-replicate burst.turns c.in-Some.h) in
    let some = burst.some in
    let few = inv.few in
    record {
      further = subst (IsDrivenOn c.args.self.now c.burst.new.self number) more
          (driven_more c.args.self.now c.bursts.self c.burst.new.self number taken c.in-Some.h inv.further
          (subst (λ (n : ℕ). IsNextFrom c.bursts.self.state n c.in-Some.h) word c.in-Some.ensures.next) burst);
      words = later ∙ ap (given number) (sym two);
      few = omega (arith, two, long, some, few);
    }
