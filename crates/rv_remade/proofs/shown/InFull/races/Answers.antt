use Rattle.std.proofs.Common.{◌≡◌, ◌∙◌, ◌-◌, ◌<◌, ℕ, ap, arith, length, rules}
use Rattle.std.proofs.lemmas.Option.{slice_get-get_or}
use Rattle.rv_debug.specs.Placed.{Placed}
use Rattle.rv_explain.specs.Races.{run_of}
use Rattle.rv_remade.proofs.ShowingLemmas.{placed_more}
use Rattle.rv_remade.proofs.shown.InFull.races.Goals as goal

pub loop-n-preserved : goal.loop-n-preserved
loop-n-preserved c =
    let rows = c.args.self.now.rows.now in
    let place : ℕ = length rows - 1 - c.loop-n.n in
    let test = c.loop-n-test.true in
    let below : place < length rows = omega (arith, test) in
    let short : c.in-Ok.short ≡ place = search rules in
    record {
      shown = placed_more c.args.self.now c.args.of.run (run_of c.loop-n.session) (run_of c.args.session.now) c.args.harts place c.in-Ok.short _ c.in_ok-found.found c.loop-n.shown.items c.push_found.new.shown.items
          c.loop-n.invariant.same short (slice_get-get_or rows place _ below) c.if-row-of.false c.in_ok-found.ensures.shown c.in_ok-push_found.ensures c.loop-n.invariant.shown;
      same = ap run_of c.in_ok-found.ensures.same ∙ c.loop-n.invariant.same;
      image = ap (λ (p : Placed). p.image) c.in_ok-found.ensures.same ∙ c.loop-n.invariant.image;
    }
