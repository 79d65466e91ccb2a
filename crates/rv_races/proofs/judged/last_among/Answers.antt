use Rattle.std.proofs.Common.{◌≡◌, ℕ, ◌+◌, ◌-◌, ◌≤◌, ◌∙◌, Option, None, ap, arith, refl, subst}
use Rattle.std.specs.Prelude.{filter_map}
use Rattle.std.specs.List.{fold, range_with_len}
use Rattle.std.specs.Option.{option_map_or}
use Rattle.rv_break.specs.declared.claim.Seen.{Seen}
use Rattle.rv_races.specs.Judged.{store_or}
use Rattle.rv_collide.specs.Entries.{between}
use Rattle.rv_collide.specs.Pause.{within}
use Rattle.rv_races.proofs.JudgedLemmas.{last_more}
use Rattle.rv_races.specs.internal.LastStores.{last_among, made_at}
use Rattle.rv_races.proofs.judged.last_among.Goals as goal

pub loop-place-preserved : goal.loop-place-preserved
loop-place-preserved c =
    let le : c.args.told.now.paused_at + 1 ≤ c.loop-place.place = omega arith in
    last_more c.args.made.now c.args.told.now (c.args.told.now.paused_at + 1) c.loop-place.place c.loop-place.last c.last_after-last.result le c.loop-place.invariant
    (c.last_after-last.ensures ∙ ap (λ (seen : Option Seen). option_map_or (store_or c.args.told.now.access c.loop-place.last) seen c.loop-place.last) c.made_at.ensures)

pub returns-then-told : goal.returns-then-told
unfolding last_among within between
returns-then-told c =
    let none : c.args.told.now.resumed_at - (c.args.told.now.paused_at + 1) ≡ 0 = omega (arith, c.if-told.true) in
    rw none refl

pub returns : goal.returns
unfolding last_among within between
returns c =
    let here : c.loop-place.place ≡ c.args.told.now.resumed_at = omega arith in
    subst (λ (place : ℕ). c.loop-place.last ≡ fold (store_or c.args.told.now.access) None (filter_map (made_at c.args.made.now) (range_with_len (c.args.told.now.paused_at + 1) (place - (c.args.told.now.paused_at + 1)))))
    here c.loop-place.invariant
