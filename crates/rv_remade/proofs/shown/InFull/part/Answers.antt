use Rattle.std.proofs.Common.{◌≡◌, ◌∙◌, All, ap, subst}
use Rattle.rv_collide.specs.Numbers.{numbers}
use Rattle.rv_debug.specs.Placed.{placed}
use Rattle.rv_elf.specs.Contents.{Contents}
use Rattle.rv_explain.specs.Races.{Run, run_of}
use Rattle.rv_remade.specs.Shown.{run_told}
use Rattle.rv_remade.specs.internal.Showing.{IsPlaced}
use Rattle.rv_remade.proofs.shown.InFull.part.Goals as goal

pub returns : goal.returns
returns c =
    let full = c.args.self.now in
    let session_is : run_of c.in-Ok.session ≡ run_told full.symbols.now.image c.args.run =
    ap run_of c.in-Ok.ensures.ok ∙ ap (λ (i : Contents). run_of (placed i (numbers c.args.run.plan) c.args.run.entries.items 0)) c.image-image.ensures
    in
    record {
      schedule_is = rw c.deref.ensures.value at c.in_ok-schedule.ensures;
      races_are = subst (λ (r : Run). All (IsPlaced full c.args.of.run r c.args.run.plan.harts) c.in_ok-races.races.items) session_is c.in_ok-races.ensures;
    }
