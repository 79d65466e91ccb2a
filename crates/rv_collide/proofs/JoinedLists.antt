-- What is joined, entry by entry of what stands behind.
use Rattle.std.proofs.Common.{◌≡◌, ℕ, ◌+◌, true, false, List, [], ◌∷◌, ◌++◌, length, Option, Some, None, map, refl, sym, ap, subst, ◌∙◌, arith, append_assoc, length-append}
use Rattle.std.specs.Prelude.{◌==◌, option_map}
use Rattle.std.specs.FinSet.{len, empty_of_len}
use Rattle.std.specs.List.{cons_option}
use Rattle.std.proofs.lemmas.Bool.Decides.{nat_tests}
use Rattle.std.proofs.lemmas.List.{append-nil, map-append}
use Rattle.rv_collide.specs.Armed.{Mention, armed, last_armed, mention_by, mentions}
use Rattle.rv_collide.specs.Entries.{places}
use Rattle.rv_collide.specs.Joined.{ListsJoin, ending_later}
use Rattle.rv_collide.specs.Pause.{openings}
use Rattle.rv_collide.specs.StateAt.{state_at}
use Rattle.rv_collide.specs.Verdict.{ending_at, endings}
use Rattle.rv_collide.specs.declared.ending.Ending.{Ending}
use Rattle.rv_collide.specs.declared.entry.Entry.{Entry}
use Rattle.rv_collide.specs.declared.entry.Entry.TheVariants.{Stepped, Paused, Resumed, Armed, Disarmed}
use Rattle.rv_hart.specs.State.{State}
use Rattle.rv_hart.specs.declared.access.Access.{Access}
use Rattle.rv_collide.proofs.ArmedLemmas.{armed_after, armed_push}
use Rattle.rv_collide.proofs.Behind.{ending_at_behind, made_behind, next_behind, openings_behind, state_behind}
use Rattle.rv_collide.proofs.Endings.{endings_push}

-- ---- lists, entry by entry from their ends

grow_on : (P : List Entry → Type 0) → ((zs : List Entry) (e : Entry) → P zs → P (zs ++ e ∷ [])) → (before ys : List Entry) → P before → P (before ++ ys)
grow_on P more before [] p = subst P (sym (append-nil before)) p
grow_on P more before (y ∷ ys) p = subst P (append_assoc before (y ∷ []) ys) (grow_on P more (before ++ y ∷ []) ys (more before y p))

pub grown : (P : List Entry → Type 0) → P [] → ((zs : List Entry) (e : Entry) → P zs → P (zs ++ e ∷ [])) → (ys : List Entry) → P ys
grown P begin more ys = grow_on P more [] ys begin

-- ---- armed addresses

none_of : (n : ℕ) → (n == 0) ≡ true → n ≡ 0
none_of n h = grind (arith, nat_tests)

pub nothing_armed : (start end : State) (xs : List Entry) → (len (armed start xs) == 0) ≡ true → armed start xs ≡ armed end []
unfolding armed mentions places last_armed
nothing_armed start end xs none = empty_of_len (armed start xs) (none_of (len (armed start xs)) none)

mention_behind : (start end : State) (xs : List Entry) → state_at start xs (length xs) ≡ Some end → (zs : List Entry) (i : ℕ) (e : Entry) → mention_by start (xs ++ zs) (length xs + i) e ≡ mention_by end zs i e
mention_behind start end xs leads zs i (Paused h slot) =
    ap (option_map (λ (access : Access). let m : Mention = record { address = access.pc; arms = false } in m)) (next_behind start end xs leads zs i h)
mention_behind start end xs leads zs i (Stepped h) = refl
mention_behind start end xs leads zs i (Resumed h) = refl
mention_behind start end xs leads zs i (Armed a) = refl
mention_behind start end xs leads zs i (Disarmed a) = refl

module _ (start end : State) (xs : List Entry) (leads : state_at start xs (length xs) ≡ Some end) where
  armed_more : (zs : List Entry) (e : Entry) → armed start (xs ++ zs) ≡ armed end zs → armed start (xs ++ (zs ++ e ∷ [])) ≡ armed end (zs ++ e ∷ [])
  armed_more zs e same =
      ap (armed start) (sym (append_assoc xs zs (e ∷ [])))
      ∙ armed_push start (xs ++ zs) e
      ∙ ap (λ i. armed_after (mention_by start (xs ++ zs) i e) (armed start (xs ++ zs))) (length-append xs zs)
      ∙ ap (λ m. armed_after m (armed start (xs ++ zs))) (mention_behind start end xs leads zs (length zs) e)
      ∙ ap (armed_after (mention_by end zs (length zs) e)) same
      ∙ sym (armed_push end zs e)

  pub armed_behind : (len (armed start xs) == 0) ≡ true → (ys : List Entry) → armed start (xs ++ ys) ≡ armed end ys
  armed_behind none =
      grown (λ zs. armed start (xs ++ zs) ≡ armed end zs) (ap (armed start) (append-nil xs) ∙ nothing_armed start end xs none) armed_more

  -- ---- endings

  module _ (none : openings xs ≡ []) where
    last_told : (zs : List Entry) (e : Entry) → ending_at start ((xs ++ zs) ++ e ∷ []) (length (xs ++ zs)) ≡ option_map (ending_later (length xs)) (ending_at end (zs ++ e ∷ []) (length zs))
    last_told zs e =
        ap (λ (ys : List Entry). ending_at start ys (length (xs ++ zs))) (append_assoc xs zs (e ∷ []))
        ∙ ap (ending_at start (xs ++ (zs ++ e ∷ []))) (length-append xs zs)
        ∙ ending_at_behind xs none start end leads (zs ++ e ∷ []) (length zs)

    told_more : (by : ℕ) (first later : List Ending) (o : Option Ending) → (first ++ map (ending_later by) later) ++ cons_option (option_map (ending_later by) o) [] ≡ first ++ map (ending_later by) (later ++ cons_option o [])
    told_more by first later None =
        append-nil (first ++ map (ending_later by) later) ∙ ap (λ es. first ++ map (ending_later by) es) (sym (append-nil later))
    told_more by first later (Some told) =
        append_assoc first (map (ending_later by) later) (ending_later by told ∷ []) ∙ ap (λ es. first ++ es) (sym (map-append (ending_later by) later (told ∷ [])))

    endings_more : (zs : List Entry) (e : Entry) → endings start (xs ++ zs) ≡ endings start xs ++ map (ending_later (length xs)) (endings end zs) → endings start (xs ++ (zs ++ e ∷ [])) ≡ endings start xs ++ map (ending_later (length xs)) (endings end (zs ++ e ∷ []))
    endings_more zs e same =
        ap (endings start) (sym (append_assoc xs zs (e ∷ [])))
        ∙ endings_push start (xs ++ zs) e
        ∙ ap (λ es. es ++ cons_option (ending_at start ((xs ++ zs) ++ e ∷ []) (length (xs ++ zs))) []) same
        ∙ ap (λ o. (endings start xs ++ map (ending_later (length xs)) (endings end zs)) ++ cons_option o []) (last_told zs e)
        ∙ told_more (length xs) (endings start xs) (endings end zs) (ending_at end (zs ++ e ∷ []) (length zs))
        ∙ ap (λ es. endings start xs ++ map (ending_later (length xs)) es) (sym (endings_push end zs e))

    endings_none : endings start (xs ++ []) ≡ endings start xs ++ map (ending_later (length xs)) (endings end [])
    unfolding endings places
    endings_none = ap (endings start) (append-nil xs) ∙ sym (append-nil (endings start xs))

    pub endings_behind : (ys : List Entry) → endings start (xs ++ ys) ≡ endings start xs ++ map (ending_later (length xs)) (endings end ys)
    endings_behind =
        grown (λ zs. endings start (xs ++ zs) ≡ endings start xs ++ map (ending_later (length xs)) (endings end zs)) endings_none endings_more

pub lists_join : ListsJoin
lists_join setting prefix own end is = record {
  states = λ place. state_behind setting.start end prefix is.leads own place;
  would = λ place hart. next_behind setting.start end prefix is.leads own place hart;
  did = λ place. made_behind setting.start end prefix is.leads own place;
  paused = openings_behind prefix own is.unwatched;
  armed_are = armed_behind setting.start end prefix is.leads is.unarmed own;
  endings_are = endings_behind setting.start end prefix is.leads is.unwatched own;
}
