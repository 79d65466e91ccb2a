use Rattle.std.proofs.Common.{refl, sym, subst}
use Rattle.std.proofs.lemmas.List.Elements.{All-push}
use Rattle.rv_walk.specs.NearPair.{WasMade}
use Rattle.rv_walk.specs.declared.accesses.Kept.{Kept}
use Rattle.rv_walk.specs.internal.Inside.{AreMade, AreOf}
use Rattle.rv_walk.proofs.KeptLemmas.{unchanged}
use Rattle.rv_walk.proofs.accesses.Accesses.see.Goals as goal

pub returns-in_err-look : goal.returns-in_err-look
returns-in_err-look c = λ walk sites made are. c.look.ensures walk sites made (unchanged walk c.args.self.now _ refl refl are)

pub returns-in_err-push-in-None : goal.returns-in_err-push-in-None
returns-in_err-push-in-None c =
    λ walk sites made are.
    let after : AreOf walk c.look.new.self = c.look.ensures walk sites made (unchanged walk c.args.self.now _ refl refl are) in
    record {
      made = subst (AreMade walk) (sym c.in_err-push-in-None.ensures.items) after.made;
      near = after.near;
    }

pub returns-in_ok-push-in-None : goal.returns-in_ok-push-in-None
returns-in_ok-push-in-None c =
    λ walk sites made are.
    let after : AreOf walk c.look.new.self = c.look.ensures walk sites made (unchanged walk c.args.self.now _ refl refl are) in
    record {
      made = subst (AreMade walk) (sym c.in_ok-push-in-None.ensures.items) (All-push (λ (kept : Kept). WasMade walk kept.seen) c.look.new.self.kept.items (record { seen = c.args.seen; older = c.get-newest.result }) after.made made);
      near = after.near;
    }

pub returns-in-Some : goal.returns-in-Some
returns-in-Some c =
    λ walk sites made are.
    let after : AreOf walk c.look.new.self = c.look.ensures walk sites made (unchanged walk c.args.self.now _ refl refl are) in
    record {
      made = c.replace.ensures walk after.made made;
      near = after.near;
    }
