use Rattle.std.proofs.Common.{◌∙◌, ap, sym, refl, get_or}
use Rattle.std.specs.Option.{option_copied}
use Rattle.std.specs.Prelude.{find}
use Rattle.std.proofs.lemmas.Option.{slice_get-get_or}
use Rattle.rv_explain.specs.Races.{run_of}
use Rattle.rv_remade.proofs.ReportLemmas.{found_is_ending}
use Rattle.rv_remade.proofs.ShowingLemmas.{race_found}
use Rattle.rv_remade.specs.Remade.{race_by}
use Rattle.rv_remade.proofs.shown.InFull.row.Goals as goal

pub race_block-requires-clause-told : goal.race_block-requires-clause-told
race_block-requires-clause-told c =
    let run = run_of c.args.session.now in
    let found = sym c.first_told.ensures ∙ ap option_copied c.in-Some.is in
    found_is_ending _ run c.args.self.now.hunt.now.ranges c.in-Some.told.now (ap (find _) (sym c.requires.reports) ∙ found)

pub returns-clause-shown : goal.returns-clause-shown
returns-clause-shown c =
    let run = run_of c.args.session.now in
    let row = get_or c.args.self.now.rows.now c.args.place _ in
    let found = sym c.first_told.ensures ∙ ap option_copied c.in-Some.is in
    record {
      row = row;
      there = slice_get-get_or c.args.self.now.rows.now c.args.place _ c.requires.place;
      is_shown = record {
        race = race_by row c.in-Some.told.now;
        is_race = race_found run c.args.self.now.hunt.now.ranges row c.args.reports.now c.in-Some.told.now c.requires.reports found;
        block_is = c.in_ok-block.ensures.block;
        harts_are = refl;
      };
    }
