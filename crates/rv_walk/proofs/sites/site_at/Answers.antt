use Rattle.std.proofs.Common.{◌≡◌, ℕ, ◌%◌, length, Some, ap, subst, ◌∙◌, arith, rules}
use Rattle.std.specs.Prelude.{slice_get}
use Rattle.std.proofs.Math.Nat.{mod-eq_of_lt}
use Rattle.rv_walk.proofs.sites.site_at.Goals as goal

pub returns-in-Some : goal.returns-in-Some
returns-in-Some c =
    let sites = c.args.sampler.now in
    let w : c.in-Ok.word ≡ c.args.place = first_of (omega arith, search rules) in
    let p : slice_get sites (c.in-Ok.word % length sites) ≡ Some c.in-Some.address = cc in
    let m : c.in-Ok.word % length sites ≡ c.args.place = ap (λ n. n % length sites) w ∙ mod-eq_of_lt c.requires in
    subst (λ (n : ℕ). slice_get sites n ≡ Some c.in-Some.address) m p
