use Rattle.std.proofs.Common.{◌≡◌, ◌∙◌, ℕ, refl, ap, List, Option, Some, None, length, drop, codes}
use Rattle.std.proofs.lemmas.Bool.{false_from_ne_true}
use Rattle.std.proofs.lemmas.Bool.Decides.{Decides-eqb}
use Rattle.std.proofs.lemmas.Slice.Eq.{starts_is}
use Rattle.std.specs.Borrow.{Bor}
use Rattle.std.specs.Prelude.{nat_eq, option_map, if◌then◌else◌}
use Rattle.std.specs.List.{starts_with}
use Rattle.std.specs.Option.{MatchOption}
use Rattle.std.specs.Str.Pattern.{FindsTextPrefix, StripsPrefix}
use Rattle.rv_command.proofs.command.merge.joined_value.Goals as goal

-- what `strip_prefix` gives at a text, in the words `starts_with` and `drop`
stripped : (text front : List ℕ) (found : Option (Bor (List ℕ))) → MatchOption found (FindsTextPrefix front text None) (λ rest. StripsPrefix (FindsTextPrefix front) text rest.now)
    → option_map (λ rest. rest.now) found ≡ (if starts_with nat_eq text front then Some (drop (length front) text) else None)
stripped text front None lacks = rw (false_from_ne_true (starts_with nat_eq text front) (λ is. lacks _ ((starts_is Decides-eqb text front _ refl).0 is))) refl
stripped text front (Some rest) strips =
    rw ((starts_is Decides-eqb text front _ refl).1 _ strips.1.1) (ap (λ (t : List ℕ). Some t) (strips.2 ∙ ap (λ (n : ℕ). drop n text) strips.1.0))

pub returns : goal.returns
returns c = stripped c.args.word.now (codes "--expect=") c.strip_prefix.result c.strip_prefix.ensures.cases
