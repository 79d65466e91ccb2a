-- Steps of one hart, one after another.
use Rattle.std.proofs.Common.{◌≡◌, ℕ, ◌+◌, List, ◌++◌, ap, ◌∙◌, append_assoc}
use Rattle.std.specs.Prelude.{replicate}
use Rattle.std.proofs.lemmas.List.{replicate-append-replicate}
use Rattle.rv_walk.specs.Burst.{longer}
use Rattle.rv_walk.specs.Walked.{Walked}

pub longer_longer : (walk : Walked) (h a b : ℕ) → longer (longer walk h a) h b ≡ longer walk h (a + b)
longer_longer walk h a b =
    ap (λ (hs : List ℕ). record walk { harts = hs }) (append_assoc walk.harts (replicate a h) (replicate b h) ∙ ap (λ (hs : List ℕ). walk.harts ++ hs) (replicate-append-replicate a b h))
