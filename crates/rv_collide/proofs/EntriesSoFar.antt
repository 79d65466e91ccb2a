use Rattle.std.proofs.Common.{◌≡◌, ℕ, zero, suc, ◌+◌, ◌-◌, ◌<◌, ◌≤◌, inl, inr, Bool, true, false, Some, Result, Ok, Err, List, [], ◌∷◌, ◌++◌, length, drop, refl, ap, subst, ◌∙◌, append_assoc, append-nil, arith, sym, length-append, add-one}
use Rattle.std.specs.Prelude.{MatchBool, ⊤, IsSome, IsSomeAnd, slice_get}
use Rattle.std.proofs.lemmas.Bool.{cases_lt}
use Rattle.rv_text.specs.Pieces.{pieces_of}
use Rattle.rv_collide.specs.ScheduleRead.{AreEntriesTo, IsToldFault, entries_from, entry_of, is_of_text}
use Rattle.rv_collide.specs.internal.Before.{entries_before}
use Rattle.rv_collide.specs.declared.entry.Entry.{Entry}
use Rattle.rv_collide.specs.declared.schedule.fault.ScheduleFault.{ScheduleFault}
use Rattle.rv_collide.specs.declared.schedule.format.Format.{Format}

-- the entries of the whole text are those that were read and those of the text that is left
pub record EntriesSoFar (format : Format) (whole left : List ℕ) (room : ℕ) (entries : List Entry) : Type 0 where
  pub so_far : entries_from format 3 room (pieces_of 10 whole) ≡ entries_before entries (entries_from format (3 + length entries) (room - length entries) (pieces_of 10 left))
  pub few : length entries ≤ room
  pub left_are : drop (length entries) (pieces_of 10 whole) ≡ pieces_of 10 left
  pub said : (index : ℕ) → index < length entries → IsSomeAnd (slice_get (pieces_of 10 whole) index) (λ line. IsSome (entry_of format line))

nothing_before : (r : Result (List Entry) ScheduleFault) → r ≡ entries_before [] r
nothing_before (Ok rest) = refl
nothing_before (Err fault) = refl

before_more : (front : List Entry) (entry : Entry) (r : Result (List Entry) ScheduleFault) → entries_before front (entries_before (entry ∷ []) r) ≡ entries_before (front ++ entry ∷ []) r
before_more front entry (Ok rest) = ap Ok (sym (append_assoc front (entry ∷ []) rest))
before_more front entry (Err fault) = refl

pub so_far_first : (format : Format) (text : List ℕ) (room : ℕ) → EntriesSoFar format text text room []
so_far_first format text room =
    let all_room : room ≡ room - 0 = omega arith in
    record {
      so_far = nothing_before (entries_from format 3 room (pieces_of 10 text)) ∙ ap (λ r. entries_before [] (entries_from format 3 r (pieces_of 10 text))) all_room;
      few = omega arith;
      left_are = refl;
      said = λ index below. absurd (omega arith);
    }

-- the line at the front of what is left
get_there : (lines : List (List ℕ)) (n : ℕ) (line : List ℕ) (more : List (List ℕ)) → drop n lines ≡ line ∷ more → slice_get lines n ≡ Some line
get_there [] zero line more is = cc
get_there [] (suc n) line more is = cc
get_there (x ∷ lines) zero line more is = cc
get_there (x ∷ lines) (suc n) line more is = get_there lines n line more is

drop_next : (lines : List (List ℕ)) (n : ℕ) (line : List ℕ) (more : List (List ℕ)) → drop n lines ≡ line ∷ more → drop (suc n) lines ≡ more
drop_next [] zero line more is = cc
drop_next [] (suc n) line more is = cc
drop_next (x ∷ lines) zero line more is = cc
drop_next (x ∷ lines) (suc n) line more is = drop_next lines n line more is

one_said : (format : Format) (lines : List (List ℕ)) (n : ℕ) (line : List ℕ) (more : List (List ℕ)) (entry : Entry) → ((index : ℕ) → index < n → IsSomeAnd (slice_get lines index) (λ line. IsSome (entry_of format line)))
    → drop n lines ≡ line ∷ more → entry_of format line ≡ Some entry → (index : ℕ) → index < suc n → IsSomeAnd (slice_get lines index) (λ line. IsSome (entry_of format line))
one_said format lines n line more entry before is says index below =
    elim (cases_lt index n) [
      | inl lt ↦ before index lt
      | inr ge ↦ (
          let same : n ≡ index = omega arith in
          let there : slice_get lines index ≡ Some line = subst (λ (i : ℕ). slice_get lines i ≡ Some line) same (get_there lines n line more is) in
          rw there (rw says refl))
    ]

-- the line of one entry more says it, as those before it do
pub entry_line_is : (format : Format) (whole left after : List ℕ) (room : ℕ) (entries : List Entry) (entry : Entry) → EntriesSoFar format whole left room entries
    → (line : List ℕ) × (pieces_of 10 left ≡ line ∷ pieces_of 10 after) × (entry_of format line ≡ Some entry) → AreEntriesTo format (pieces_of 10 whole) (3 + length entries)
entry_line_is format whole left after room entries entry before next =
    let size : (3 + length entries) - 2 ≡ suc (length entries) = omega arith in
    record {
      after_plan = omega arith;
      each = λ index below. one_said format (pieces_of 10 whole) (length entries) next.0 (pieces_of 10 after) entry before.said (before.left_are ∙ next.1) next.2 index (omega arith);
    }

pub so_far_next : (format : Format) (whole left after : List ℕ) (room : ℕ) (entries : List Entry) (entry : Entry) → EntriesSoFar format whole left room entries
    → entries_from format (3 + length entries) (room - length entries) (pieces_of 10 left) ≡ entries_before (entry ∷ []) (entries_from format ((3 + length entries) + 1) ((room - length entries) - 1) (pieces_of 10 after))
    → 0 < room - length entries → (line : List ℕ) × (pieces_of 10 left ≡ line ∷ pieces_of 10 after) × (entry_of format line ≡ Some entry) → EntriesSoFar format whole after room (entries ++ entry ∷ [])
so_far_next format whole left after room entries entry before more some next =
    let longer : length (entries ++ entry ∷ []) ≡ length entries + 1 = length-append entries (entry ∷ []) in
    let number : (3 + length entries) + 1 ≡ 3 + length (entries ++ entry ∷ []) = omega (arith, longer) in
    let left_room : (room - length entries) - 1 ≡ room - length (entries ++ entry ∷ []) = omega (arith, longer) in
    let rest = ap (λ n. entries_from format n ((room - length entries) - 1) (pieces_of 10 after)) number ∙ ap (λ r. entries_from format (3 + length (entries ++ entry ∷ [])) r (pieces_of 10 after)) left_room in
    record {
      so_far = before.so_far ∙ ap (entries_before entries) more ∙ before_more entries entry _ ∙ ap (entries_before (entries ++ entry ∷ [])) rest;
      few = omega (arith, longer);
      left_are = ap (λ n. drop n (pieces_of 10 whole)) (longer ∙ add-one (length entries)) ∙ drop_next (pieces_of 10 whole) (length entries) next.0 (pieces_of 10 after) (before.left_are ∙ next.1);
      said = λ index below. one_said format (pieces_of 10 whole) (length entries) next.0 (pieces_of 10 after) entry before.said (before.left_are ∙ next.1) next.2 index (omega (arith, longer));
    }

pub so_far_end : (format : Format) (whole left : List ℕ) (room : ℕ) (entries : List Entry) → EntriesSoFar format whole left room entries → entries_from format (3 + length entries) (room - length entries) (pieces_of 10 left) ≡ Ok []
    → entries_from format 3 room (pieces_of 10 whole) ≡ Ok entries
so_far_end format whole left room entries before end = before.so_far ∙ ap (entries_before entries) end ∙ ap Ok (append-nil entries)

told : (b : Bool) (P : Type 0) → P → MatchBool b P ⊤
told true P p = p
told false P p = tt

pub so_far_fault : (format : Format) (whole left : List ℕ) (room : ℕ) (entries : List Entry) (fault : ScheduleFault) → EntriesSoFar format whole left room entries
    → entries_from format (3 + length entries) (room - length entries) (pieces_of 10 left) ≡ Err fault → IsToldFault (entries_from format 3 room (pieces_of 10 whole)) fault
so_far_fault format whole left room entries fault before is = told (is_of_text fault.kind) _ (before.so_far ∙ ap (entries_before entries) is)
