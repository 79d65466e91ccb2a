use Rattle.std.proofs.Common.{◌≡◌, ◌<◌, ℕ, arith, length, map, rules, subst}
use Rattle.std.specs.List.{range_with_len}
use Rattle.rv_collide.specs.Entries.{steps}
use Rattle.rv_collide.specs.First.{seen_at}
use Rattle.rv_collide.specs.StateAt.{state_at}
use Rattle.rv_collide.specs.declared.entry.Entry.TheVariants.{Stepped}
use Rattle.rv_races.proofs.JudgedLemmas.{made_more, state_next}
use Rattle.rv_races.specs.internal.LastStores.{made_in}
use Rattle.rv_races.proofs.judged.made_by.Goals as goal

pub loop-n-init : goal.loop-n-init
unfolding state_at steps
loop-n-init g c = search rules

pub loop-n-preserved : goal.loop-n-preserved
loop-n-preserved g c =
    let below : c.loop-n.n < length c.args.entries.now = omega arith in
    let place : c.in-Ok.place ≡ c.loop-n.n = search rules in
    record {
      here = state_next c.args.machine.now.state c.loop-n.machine.state c.make_step.new.machine.state c.args.entries.now c.loop-n.n (Stepped 0) below c.loop-n.invariant.here c.in_ok-make_step.ensures.on;
      made = made_more c.args.machine.now.state c.loop-n.machine.state c.args.entries.now c.loop-n.n (Stepped 0) c.loop-n.made.items c.push.new.self.items _ below c.loop-n.invariant.here c.loop-n.invariant.made (rw place at c.in_ok-make_step.ensures.seen) c.in_ok-push.ensures.items;
    }

pub returns : goal.returns
unfolding made_in
returns g c =
    let all : c.loop-n.n ≡ length c.args.entries.now = omega arith in
    subst (λ (n : ℕ). c.loop-n.made.items ≡ map (seen_at c.args.machine.now.state c.args.entries.now) (range_with_len 0 n)) all c.loop-n.invariant.made
