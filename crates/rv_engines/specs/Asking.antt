-- What the options of `explain` ask for.
use Rattle.std.specs.Prelude.{ℕ, Option, option_map, List}
use Rattle.rv_engines.specs.declared.explain.options.ExplainOptions.{ExplainOptions}

-- The names that are listed, how many entries are told around each place, and the race that is told alone.
pub record Asking : Type 0 where
  pub named : Option (List ℕ)
  pub around : ℕ
  pub race : Option ℕ

-- what some options ask for, the list as a text
abbrev pub asking : ExplainOptions → Asking
asking options = record {
  named = option_map (λ text. text.now) options.named;
  around = options.around;
  race = options.race;
}
