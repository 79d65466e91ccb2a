use Rattle.std.proofs.Common.{sym, subst}
use Rattle.std.specs.List.{All}
use Rattle.std.proofs.lemmas.Map.Views.{All-values-PutsEntry}
use Rattle.rv_walk.specs.NearPair.{IsNearPair}
use Rattle.rv_walk.proofs.ClosestLemmas.{puts_by, same_addresses, same_exact}
use Rattle.rv_walk.proofs.accesses.closest.Closest.note.Goals as goal

pub invariant_of-self : goal.invariant_of-self
invariant_of-self c = puts_by same_addresses same_exact c.self.inside.pairs c.insert.new.self c.addresses.result c.args.pair c.in_ok-insert.field-0 c.in_ok-insert.ensures.entries c.self.invariant c.addresses.ensures

pub returns-in_ok-insert : goal.returns-in_ok-insert
returns-in_ok-insert c =
    λ walk are is. All-values-PutsEntry same_addresses (IsNearPair walk) c.self.inside.pairs c.insert.new.self c.addresses.result c.args.pair c.in_ok-insert.field-0 c.in_ok-insert.ensures.entries (subst (All (IsNearPair walk)) (sym c.self.view_is) are) is
