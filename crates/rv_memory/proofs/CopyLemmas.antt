-- Copies of a value, block by block.
use Rattle.std.proofs.Common.{◌≡◌, ℕ, ◌+◌, ◌*◌, ◌/◌, ◌%◌, ◌≤◌, List, ◌++◌, ap, sym, ◌∙◌, take, replicate}
use Rattle.std.proofs.Math.Nat.{add-mul, one-mul}
use Rattle.std.proofs.lemmas.List.{append_assoc, replicate-append-replicate, take-replicate}
use Rattle.std.proofs.lemmas.Nat.{div-add-mod'}

-- so many copies, and some more
more : {X : Type 0} → (start now block : List X) (m n k : ℕ) (value : X) → now ≡ start ++ replicate m value → block ≡ replicate n value → m + n ≡ k → now ++ block ≡ start ++ replicate k value
more start now block m n k value before same sum =
    ap (λ xs. xs ++ block) before ∙ ap (λ b. (start ++ replicate m value) ++ b) same
    ∙ append_assoc start (replicate m value) (replicate n value)
    ∙ ap (λ xs. start ++ xs) (replicate-append-replicate m n value ∙ ap (λ i. replicate i value) sum)

pub block_more : {X : Type 0} → (start now block : List X) (k n : ℕ) (value : X) → now ≡ start ++ replicate (k * n) value → block ≡ replicate n value → now ++ block ≡ start ++ replicate ((k + 1) * n) value
block_more start now block k n value before same =
    more start now block (k * n) n ((k + 1) * n) value before same (sym (add-mul k 1 n ∙ ap (λ m. k * n + m) (one-mul n)))

pub rest_more : {X : Type 0} → (start now block : List X) (k n count : ℕ) (value : X) → now ≡ start ++ replicate (k * n) value → k ≡ count / n → block ≡ replicate n value → count % n ≤ n → now ++ take (count % n) block ≡ start ++ replicate count value
rest_more start now block k n count value before all same less =
    more start now (take (count % n) block) (k * n) (count % n) count value before
    (ap (take (count % n)) same ∙ take-replicate (count % n) n value less) (ap (λ m. m * n + count % n) all ∙ div-add-mod' count n)
