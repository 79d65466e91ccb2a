-- The texts of the first words, and of those from a place on.
use Rattle.std.proofs.Common.{◌≡◌, ℕ, List, take, drop}
use Rattle.std.proofs.lemmas.List.{drop-map, take-map}
use Rattle.std.specs.Borrow.{Bor}
use Rattle.rv_command.specs.Command.{texts}

pub take_texts : (n : ℕ) (words : List (Bor (List ℕ))) → take n (texts words) ≡ texts (take n words)
take_texts n words = take-map (λ word. word.now) n words

pub drop_texts : (n : ℕ) (words : List (Bor (List ℕ))) → drop n (texts words) ≡ texts (drop n words)
drop_texts n words = drop-map (λ word. word.now) n words
