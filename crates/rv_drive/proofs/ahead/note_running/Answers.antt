use Rattle.std.proofs.Common.{ℕ, true, false, Vec, Global, length, ap, sym, ◌∙◌, arith}
use Rattle.std.specs.Prelude.{filter, vec_capacity}
use Rattle.std.specs.List.{range_with_len}
use Rattle.std.proofs.lemmas.List.{append-nil}
use Rattle.rv_collide.specs.Stored.{setting_of}
use Rattle.rv_drive.specs.Able.{able, is_able}
use Rattle.rv_drive.proofs.AheadLemmas.{found_more}
use Rattle.rv_drive.proofs.NotingLemmas.{running_able}
use Rattle.rv_drive.proofs.RowLemmas.{count_bound}
use Rattle.rv_drive.proofs.ahead.note_running.Goals as goal
use Rattle.rv_drive.proofs.ahead.note_running.Goals.{then-runs, else-runs}

pub push_reserved-requires : goal.push_reserved-requires
push_reserved-requires c =
    let bound = count_bound (is_able (setting_of c.args.collider.now) c.args.collider.now.entries) 0 c.loop-h.h in
    let found = ap length c.loop-h.invariant.found in
    let room = c.loop-h.invariant.room in
    let most = c.requires.room in
    let few = c.requires.few in
    let below = c.loop-h-test.true in
    omega (arith, c.loop-h.able.ok.0)

pub loop-h-preserved : goal.loop-h-preserved
loop-h-preserved c =
    let setting = setting_of c.args.collider.now in
    let is = running_able setting c.args.collider.now.entries c.loop-h.h c.runs.result c.requires.unpaused c.requires.left c.runs.ensures in
    elim c.if-runs.branch [
      | then-runs w ↦ record {
        found = found_more (is_able setting c.args.collider.now.entries) c.loop-h.h c.loop-h.able.items c.if-runs.able.items true (sym is ∙ w.if-runs.true) c.loop-h.invariant.found
            (ap (λ (v : Vec ℕ Global). v.items) w.able-is ∙ w.push_reserved.ensures.items);
        room = ap (λ (v : Vec ℕ Global). vec_capacity v) w.able-is ∙ w.push_reserved.ensures.capacity ∙ c.loop-h.invariant.room;
      }
      | else-runs w ↦ record {
        found = found_more (is_able setting c.args.collider.now.entries) c.loop-h.h c.loop-h.able.items c.if-runs.able.items false (sym is ∙ w.if-runs.false) c.loop-h.invariant.found
            (ap (λ (v : Vec ℕ Global). v.items) w.able-is ∙ sym (append-nil c.loop-h.able.items));
        room = ap (λ (v : Vec ℕ Global). vec_capacity v) w.able-is ∙ c.loop-h.invariant.room;
      }
    ]

pub returns-clause-able : goal.returns-clause-able
unfolding able
returns-clause-able c = c.loop-h.invariant.found ∙ ap (λ n. filter (is_able (setting_of c.args.collider.now) c.args.collider.now.entries) (range_with_len 0 n)) (omega (arith, c.loop-h-test.false, c.loop-h.auto.h-end, c.requires.harts))
