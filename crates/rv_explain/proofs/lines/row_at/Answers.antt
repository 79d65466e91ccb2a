use Rattle.std.proofs.Common.{◌≡◌, ◌<◌, Some, ap, get_or, length}
use Rattle.std.specs.Prelude.{slice_get}
use Rattle.std.proofs.lemmas.Option.{slice_get-get_or}
use Rattle.rv_collide.specs.declared.entry.Entry.TheVariants.{Stepped}
use Rattle.rv_debug.specs.Placed.{Placed}
use Rattle.rv_explain.proofs.BlockLemmas.{row_found}
use Rattle.rv_explain.proofs.lines.row_at.Goals as goal

pub returns-clause-row : goal.returns-clause-row
returns-clause-row c =
    let here = c.in_ok-go_to.ensures.ok in
    let place : c.go_to.new.session.place ≡ c.args.at = ap (λ (p : Placed). p.place) here in
    let entries : c.go_to.new.session.entries ≡ c.args.session.now.entries = ap (λ (p : Placed). p.entries) here in
    let below : c.args.at < length c.go_to.new.session.entries = rw entries c.requires in
    let there : slice_get c.go_to.new.session.entries c.go_to.new.session.place ≡ Some (get_or c.entries.result.now c.args.at (Stepped 0)) =
    rw (place, c.entries.ensures) (slice_get-get_or c.go_to.new.session.entries c.args.at (Stepped 0) below) in
    row_found c.args.session.now c.go_to.new.session c.args.at (get_or c.entries.result.now c.args.at (Stepped 0)) c.args.paused.now c.row_here.result here there c.row_here.ensures.row
