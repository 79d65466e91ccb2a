-- Each value that `clap` finds in a line stands in its words.
use Rattle.std.proofs.Common.{◌≡◌, ◌∙◌, ◌+◌, ◌++◌, suc, refl, ap, sym, subst, true, false, List, Option, Some, None, [], ◌∷◌, inl, inr, arith, fold}
use Rattle.std.proofs.lemmas.Bool.{and_parts}
use Rattle.std.proofs.lemmas.List.Elements.{Contains-append_right}
use Rattle.std.specs.Prelude.{Bool, IfSome, find, option_map, slice_get}
use Rattle.std.specs.List.{list_all}
use Rattle.clap.specs.Simple.{App, Shape, built, entered, label_of, names_of, rows_at}
use Rattle.clap.specs.Walk.{Held, Names, Row, Rule, Step, Text, Walk, after_step, answers_to, arg_by_index, first_of, next, nothing_held, subcommand, to_positional, trailing, value, walk_from, walked, walked_from, word_met}
use Rattle.clap.proofs.OnLiterals.{clap_on_literals}
use Rattle.clap.proofs.WalkLemmas.{walk_stopped}
use Rattle.rv_command.proofs.OptionLemmas.{Each, are_given, find_has, is_told}
use Rattle.rv_command.specs.ClapProgram.{program}
use Rattle.rv_command.specs.Given.{AreGiven, Gives, IsGiven, Stands, apart, is_flag, is_place, joined}

-- ---- what stands in some words stands in more

one_more : (word : Text) (words : List Text) (name v : Text) → Gives words name v → Gives (word ∷ words) name v
one_more word words name v (apart place is follows) =
    let behind : suc place + 1 ≡ suc (place + 1) = omega arith in
    apart (suc place) is (ap (slice_get (word ∷ words)) behind ∙ follows)
one_more word words name v (joined contains) = joined (Contains-append_right (word ∷ []) words _ contains)

more : (front words : List Text) (name v : Text) → Gives words name v → Gives (front ++ words) name v
more [] words name v gives = gives
more (word ∷ front) words name v gives = one_more word (front ++ words) name v (more front words name v gives)

stand_in_more : (front words : List Text) (place flag : Bool) (name v : Text) → Stands place flag words name v → Stands place flag (front ++ words) name v
stand_in_more front words true flag name v stands = Contains-append_right front words v stands
stand_in_more front words false true name v (inl unset) = inl unset
stand_in_more front words false true name v (inr stands) = inr (Contains-append_right front words _ stands)
stand_in_more front words false false name v gives = more front words name v gives

given_in_more : (front words : List Text) (rows : List Row) → AreGiven words rows → AreGiven (front ++ words) rows
given_in_more front words rows given name = go (first_of name rows) (given name)
  where
    go : (o : Option Text) → IfSome o (Stands (is_place name) (is_flag name) words name) → IfSome o (Stands (is_place name) (is_flag name) (front ++ words) name)
    go None stands = tt
    go (Some v) stands = stand_in_more front words (is_place name) (is_flag name) name v stands

-- ---- the words after a command's name end the line

abbrev Behind : List Text → Option (Text × List Text) → Type 0
Behind words stop = IfSome stop (λ p. (front : List Text) × (words ≡ front ++ p.1))

module _ (c : List Rule) (names : Names) where
  abbrev after : Walk → List Text → Walk
  after w words = fold (walked c names) w words

  one_behind : (word : Text) (words : List Text) (stop : Option (Text × List Text)) → Behind words stop → Behind (word ∷ words) stop
  one_behind word words None behind = tt
  one_behind word words (Some p) behind = (word ∷ behind.0, ap (λ ws. word ∷ ws) behind.1)

  abbrev GoesOn : List Text → Type 0
  GoesOn words = (w : Walk) → w.stopped ≡ None → Behind words (after w words).stopped

  by_place : (words : List Text) (word : Text) (w : Walk) → w.stopped ≡ None → GoesOn words → (o : Option Rule) (h : Held)
      → Behind words (after (to_positional c o word w h) words).stopped
  by_place words word w going on None h = on (to_positional c None word w h) going
  by_place words word w going on (Some a) h = on (to_positional c (Some a) word w h) refl

  by_step : (words : List Text) (word : Text) (w : Walk) → w.stopped ≡ None → GoesOn words → (h : Held) (step : Step)
      → Behind words (after (after_step c word w h step) words).stopped
  by_step words word w going on h (next waiting) = on (after_step c word w h (next waiting)) going
  by_step words word w going on h (trailing position) = on (after_step c word w h (trailing position)) going
  by_step words word w going on h (subcommand name) =
      subst (λ (v : Walk). Behind words v.stopped) (walk_stopped c names (record w { held = h }) name [] words) ([], refl)
  by_step words word w going on h value = by_place words word w going on (arg_by_index c w.position) h

  walked_on : (words : List Text) (word : Text) (w : Walk) → w.stopped ≡ None → GoesOn words → Behind words (after (walked c names w word) words).stopped
  unfolding walked
  walked_on words word w going on =
      let met : Held × Step = word_met c names w.is_trailing w.waiting w.position word w.held in
      subst (λ (o : Option (Text × List Text)). Behind words (after (walked_from c names o w word) words).stopped) (sym going)
      (by_step words word w going on met.0 met.1)

  behind : (words : List Text) (word : Text) (w : Walk) → w.stopped ≡ None → Behind words (after (walked c names w word) words).stopped
  behind [] word w going = walked_on [] word w going (λ v none. rw none tt)
  behind (x ∷ xs) word w going = walked_on (x ∷ xs) word w going (λ v none. one_behind x xs _ (behind xs x v none))

-- ---- the commands

abbrev Built : App
Built = built program

each_of : {X : Type 0} (p : X → Bool) (xs : List X) → list_all p xs ≡ true → Each (λ x. p x ≡ true) xs
each_of p [] all = tt
each_of p (x ∷ xs) all = let parts = and_parts (p x) (list_all p xs) all in (parts.0, each_of p xs parts.1)

all_told : list_all (λ s. list_all is_told s.rules) Built.subs ≡ true
unfolding clap_on_literals
all_told = refl

abbrev IsTold : Shape → Type 0
IsTold s = list_all is_told s.rules ≡ true

entered_given : (words : List Text) (stop : Option (Text × List Text)) → Behind words stop → IfSome (entered Built stop) (λ found. AreGiven words found.1)
entered_given words None behind = tt
entered_given words (Some p) behind =
    go (find (λ s. answers_to p.0 (label_of s)) Built.subs) (find_has (λ s. answers_to p.0 (label_of s)) IsTold Built.subs (each_of (λ s. list_all is_told s.rules) Built.subs all_told))
  where
    go : (o : Option Shape) → IfSome o (λ s. (answers_to p.0 (label_of s) ≡ true) × (list_all is_told s.rules ≡ true))
        → IfSome (option_map (λ s. rows_at s p.1) o) (λ found. AreGiven words found.1)
    go None told = tt
    go (Some s) told = subst (λ (ws : List Text). AreGiven ws (rows_at s p.1).1) (sym behind.1)
        (given_in_more behind.0 p.1 (rows_at s p.1).1 (are_given s.rules told.1 p.1))

pub is_given : (words : List Text) → IsGiven words
unfolding clap_on_literals
is_given [] = tt
is_given (n ∷ []) = tt
is_given (n ∷ word ∷ words) = entered_given words _ (behind Built.top.rules (names_of Built) words word (walk_from nothing_held) refl)
