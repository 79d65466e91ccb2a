-- What the header, the plan and the entries say together.
use Rattle.std.proofs.Common.{◌≡◌, ℕ, inl, inr, Bool, true, false, Ok, Err, List, [], ◌∷◌, refl, ap, ◌∙◌, sym, drop}
use Rattle.std.specs.Prelude.{MatchBool, ⊤}
use Rattle.rv_text.specs.Pieces.{pieces_of}
use Rattle.rv_collide.specs.Plan.{Numbers, most_entries}
use Rattle.rv_collide.specs.ScheduleRead.{AreEntriesTo, IsBrokenOff, IsToldFault, entries_from, header_in, is_of_text, is_read, line_after, plan_in, schedule_in, schedule_of}
use Rattle.rv_collide.specs.declared.entry.Entry.{Entry}
use Rattle.rv_collide.specs.declared.schedule.fault.ScheduleFault.{ScheduleFault}
use Rattle.rv_collide.specs.declared.schedule.fault.ScheduleKind.{ScheduleKind}
use Rattle.rv_collide.specs.declared.schedule.fault.ScheduleKind.TheVariants as kind
use Rattle.rv_collide.specs.declared.schedule.format.Format.{Format}

pub told : (b : Bool) (P : Type 0) → P → MatchBool b P ⊤
told true P p = p
told false P p = tt

pub drop_twice : (lines : List (List ℕ)) → drop 1 (drop 1 lines) ≡ drop 2 lines
drop_twice [] = refl
drop_twice (first ∷ []) = refl
drop_twice (first ∷ next ∷ lines) = refl

pub header_fault : (text : List ℕ) (k : ScheduleKind) → header_in (pieces_of 10 text) ≡ Err k → schedule_of text ≡ Err (record { line = 1; kind = k })
unfolding schedule_of schedule_in
header_fault text k header = rw header refl

pub plan_fault : (format : Format) (text : List ℕ) (lines : List (List ℕ)) (k : ScheduleKind) → header_in (pieces_of 10 text) ≡ Ok format → lines ≡ drop 1 (pieces_of 10 text) → plan_in format lines ≡ Err k
    → schedule_of text ≡ Err (record { line = 2; kind = k })
unfolding schedule_of schedule_in
plan_fault format text lines k header rest plan =
    let at : plan_in format (drop 1 (pieces_of 10 text)) ≡ Err k = ap (plan_in format) (sym rest) ∙ plan in
    rw (header, at) refl

-- ---- where reading is broken off

pub of_text_there : (taken : List ℕ) (line : ℕ) (k : ScheduleKind) → is_of_text k ≡ true → IsBrokenOff taken line k
of_text_there taken line kind.Read of_text = cc
of_text_there taken line kind.NoMemory of_text = cc
of_text_there taken line _ of_text = tt

pub taking_there : (taken : List ℕ) (line : ℕ) (k : ScheduleKind) → line ≡ line_after taken → IsBrokenOff taken line k
taking_there taken line kind.Read is = is
taking_there taken line kind.NoMemory is = inl is
taking_there taken line _ is = tt

pub entry_there : (format : Format) (taken : List ℕ) (line : ℕ) (k : ScheduleKind) → header_in (pieces_of 10 taken) ≡ Ok format → is_read k ≡ false → (is_of_text k ≡ false → AreEntriesTo format (drop 2 (pieces_of 10 taken)) line) → IsBrokenOff taken line k
entry_there format taken line kind.Read header reads entries = cc
entry_there format taken line kind.NoMemory header reads entries = inr (record { format = format; of_format = header; entries = entries refl })
entry_there format taken line _ header reads entries = tt

-- the entries' lines after the plan's
pub after_plan : (text : List ℕ) (second third : List (List ℕ)) → second ≡ drop 1 (pieces_of 10 text) → third ≡ drop 1 second → third ≡ drop 2 (pieces_of 10 text)
after_plan text second third rest more = more ∙ ap (drop 1) rest ∙ drop_twice (pieces_of 10 text)

module _ (format : Format) (text : List ℕ) (second third : List (List ℕ)) (n : Numbers) (header : header_in (pieces_of 10 text) ≡ Ok format) (rest : second ≡ drop 1 (pieces_of 10 text)) (plan : plan_in format second ≡ Ok n)
    (more : third ≡ drop 1 second) where
  plan_at : plan_in format (drop 1 (pieces_of 10 text)) ≡ Ok n
  plan_at = ap (plan_in format) (sym rest) ∙ plan

  pub whole_fault : (room : ℕ) (fault : ScheduleFault) → room ≡ most_entries n → entries_from format 3 room third ≡ Err fault → schedule_of text ≡ Err fault
  unfolding schedule_of schedule_in
  whole_fault room fault is entries =
      let there : entries_from format 3 (most_entries n) (drop 2 (pieces_of 10 text)) ≡ Err fault =
      ap (λ r. entries_from format 3 r (drop 2 (pieces_of 10 text))) (sym is) ∙ ap (entries_from format 3 room) (sym (after_plan text second third rest more)) ∙ entries in
      rw (header, plan_at, there) refl

  pub whole_read : (room : ℕ) (entries : List Entry) → room ≡ most_entries n → entries_from format 3 room third ≡ Ok entries → schedule_of text ≡ Ok (record { numbers = n; entries = entries })
  unfolding schedule_of schedule_in
  whole_read room entries is read =
      let there : entries_from format 3 (most_entries n) (drop 2 (pieces_of 10 text)) ≡ Ok entries =
      ap (λ r. entries_from format 3 r (drop 2 (pieces_of 10 text))) (sym is) ∙ ap (entries_from format 3 room) (sym (after_plan text second third rest more)) ∙ read in
      rw (header, plan_at, there) refl

  -- a fault that is told of the entries is told of the whole
  pub whole_told : (room : ℕ) (fault : ScheduleFault) → room ≡ most_entries n → IsToldFault (entries_from format 3 room third) fault → IsToldFault (schedule_of text) fault
  whole_told room fault is entries = by_kind (is_of_text fault.kind) entries
    where
      by_kind : (b : Bool) → MatchBool b (entries_from format 3 room third ≡ Err fault) ⊤ → MatchBool b (schedule_of text ≡ Err fault) ⊤
      by_kind true entries = whole_fault room fault is entries
      by_kind false entries = tt
