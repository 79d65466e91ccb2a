use Rattle.std.proofs.Common.{◌∙◌, List, ap, get_or, length, refl, sym, ℕ}
use Rattle.rv_search.proofs.WalkLemmas.{of_walk, same_gone}
use Rattle.rv_search.specs.KeptRun.{Gone, reports_of_parts}
use Rattle.rv_search.specs.Summary.{counts_of_walk}
use Rattle.rv_search.proofs.hunt.Hunt.kept_of_walk.Goals as goal

pub returns : goal.returns
returns c =
    let w = c.in_ok-walk.ensures.walk in
    let g = c.in_ok-gathered.ensures in
    record {
      walk = w.walk;
      is_walk = w.is_walk;
      pairs = c.in_ok-walk.walk.left.pairs.items;
      are_told = w.left.are_told;
      parts = g.parts;
      are_parts = λ k d below. of_walk g.walk w.walk (get_or g.parts k d) (w.is_walk.start_is ∙ sym g.is_walk.start_is) (sym w.left.harts_are ∙ sym g.harts_are) (w.is_walk.sites_are ∙ sym g.is_walk.sites_are) (g.are_parts k d below);
      summary = record {
        armed_are = c.new.ensures.items;
        paused_are = c.new-2.ensures.items;
        counts_are = g.is_gathered.counts_are ∙ ap (λ (hs : List ℕ). counts_of_walk (length hs) g.parts) w.left.harts_are;
        sampled_are = c.none.ensures;
        probes_are = c.from.ensures ∙ g.is_gathered.parts_are;
        is_walk = refl;
      };
      reports_are = g.is_gathered.reports_are ∙ ap (λ (gone : Gone). reports_of_parts c.args.self.now gone 1 g.parts) (same_gone (sym w.is_walk.start_is) w.left.harts_are);
      near_are = g.is_gathered.near_are;
      tried_are = g.is_gathered.tried_are;
    }
