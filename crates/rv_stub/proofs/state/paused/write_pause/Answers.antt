use Rattle.std.proofs.Common.{ℕ, List, ◌++◌, Option, Result, Ok, Err, OnOk}
use Rattle.std.specs.Io.KnownBytes.{Appends}
use Rattle.std.proofs.KnownBytes.{Appends-trans}
use Rattle.rv_stub.proofs.state.paused.write_pause.Goals as goal

joined : {T E : Type 0} (r : Result T E) (a b c d e : Option (List ℕ)) (ws xs ys zs : List ℕ) → Appends a b ws → Appends b c xs → Appends c d ys → OnOk r (Appends d e zs) → OnOk r (Appends a e (ws ++ (xs ++ (ys ++ zs))))
joined (Err fault) a b c d e ws xs ys zs one two three four = tt
joined (Ok value) a b c d e ws xs ys zs one two three four =
    Appends-trans a b e ws (xs ++ (ys ++ zs)) one (Appends-trans b c e xs (ys ++ zs) two (Appends-trans c d e ys zs three four))

pub returns-clause-ok : goal.returns-clause-ok
returns-clause-ok g c =
    joined c.write_slot.result _ _ _ _ _ _ _ _ _ c.in_ok-put.ensures.ok c.in_ok-write_access.ensures.ok c.in_ok-put-2.ensures.ok c.write_slot.ensures.ok
