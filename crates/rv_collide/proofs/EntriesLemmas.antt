-- What the first line says of the entries.
use Rattle.std.proofs.Common.{◌≡◌, ℕ, ◌+◌, ◌-◌, true, false, nat_lt, Some, None, Result, Ok, Err, List, [], ◌∷◌, refl, ap, ◌∙◌, subst}
use Rattle.std.specs.Str.{bytes_eq}
use Rattle.rv_memory.specs.Chain.{◌>>=◌}
use Rattle.rv_collide.specs.Grammar.{end_line}
use Rattle.rv_collide.specs.ScheduleRead.{entries_from, entry_of, first_line, is_over}
use Rattle.rv_collide.specs.internal.Before.{entries_before}
use Rattle.rv_collide.specs.declared.entry.Entry.{Entry}
use Rattle.rv_collide.specs.declared.schedule.fault.ScheduleFault.{ScheduleFault}
use Rattle.rv_collide.specs.declared.schedule.fault.ScheduleKind.{ScheduleKind}
use Rattle.rv_collide.specs.declared.schedule.fault.ScheduleKind.TheVariants as kind
use Rattle.rv_collide.specs.declared.schedule.format.Format.{Format}

-- the fault of a line
abbrev pub fault_at : ℕ → ScheduleKind → ScheduleFault
fault_at number k = record { line = number; kind = k }

abbrev fault_in : ℕ → Result (List ℕ) ScheduleKind → Result (List Entry) ScheduleFault
fault_in number (Ok line) = Ok []
fault_in number (Err k) = Err (fault_at number k)

pub no_line : (format : Format) (number room : ℕ) (lines : List (List ℕ)) (k : ScheduleKind) → first_line lines ≡ Err k → entries_from format number room lines ≡ Err (fault_at number k)
unfolding entries_from
no_line format number room [] k fault = ap (fault_in number) fault
no_line format number room (first ∷ lines) k fault = rw fault refl

then_before : (entry : Entry) (r : Result (List Entry) ScheduleFault) → (r >>= λ entries. Ok (entry ∷ entries)) ≡ entries_before (entry ∷ []) r
then_before entry (Ok entries) = refl
then_before entry (Err fault) = refl

module _ (format : Format) (number room : ℕ) (line : List ℕ) (more : List (List ℕ)) (is : first_line (line ∷ more) ≡ Ok line) where
  end_here : bytes_eq line end_line ≡ true → is_over more ≡ true → entries_from format number room (line ∷ more) ≡ Ok []
  unfolding entries_from
  end_here end over = rw (is, end, over) refl

  end_before : bytes_eq line end_line ≡ true → is_over more ≡ false → entries_from format number room (line ∷ more) ≡ Err (fault_at (number + 1) kind.AfterEnd)
  unfolding entries_from
  end_before end over = rw (is, end, over) refl

  entry_none : bytes_eq line end_line ≡ false → entry_of format line ≡ None → entries_from format number room (line ∷ more) ≡ Err (fault_at number kind.Entry)
  unfolding entries_from
  entry_none end entry = rw (is, end, entry) refl

  entry_many : (e : Entry) → bytes_eq line end_line ≡ false → entry_of format line ≡ Some e → nat_lt 0 room ≡ false → entries_from format number room (line ∷ more) ≡ Err (fault_at number kind.TooMany)
  unfolding entries_from
  entry_many e end entry full = rw (is, end, entry, full) refl

  entry_one : (e : Entry) → bytes_eq line end_line ≡ false → entry_of format line ≡ Some e → nat_lt 0 room ≡ true
      → entries_from format number room (line ∷ more) ≡ entries_before (e ∷ []) (entries_from format (number + 1) (room - 1) more)
  unfolding entries_from
  entry_one e end entry some = rw (is, end, entry, some) (then_before e (entries_from format (number + 1) (room - 1) more))

-- the same of lines that are cut into their first and the rest
module _ (format : Format) (number room : ℕ) (lines : List (List ℕ)) (line : List ℕ) (more : List (List ℕ)) (cut : lines ≡ line ∷ more) (is : first_line lines ≡ Ok line) where
  first : first_line (line ∷ more) ≡ Ok line
  first = subst (λ (l : List (List ℕ)). first_line l ≡ Ok line) cut is

  pub at_end : bytes_eq line end_line ≡ true → is_over more ≡ true → entries_from format number room lines ≡ Ok []
  at_end end over = ap (entries_from format number room) cut ∙ end_here format number room line more first end over

  pub after_end : bytes_eq line end_line ≡ true → is_over more ≡ false → entries_from format number room lines ≡ Err (fault_at (number + 1) kind.AfterEnd)
  after_end end over = ap (entries_from format number room) cut ∙ end_before format number room line more first end over

  pub no_entry : bytes_eq line end_line ≡ false → entry_of format line ≡ None → entries_from format number room lines ≡ Err (fault_at number kind.Entry)
  no_entry end entry = ap (entries_from format number room) cut ∙ entry_none format number room line more first end entry

  pub too_many : (e : Entry) → bytes_eq line end_line ≡ false → entry_of format line ≡ Some e → nat_lt 0 room ≡ false → entries_from format number room lines ≡ Err (fault_at number kind.TooMany)
  too_many e end entry full = ap (entries_from format number room) cut ∙ entry_many format number room line more first e end entry full

  pub one_more : (e : Entry) → bytes_eq line end_line ≡ false → entry_of format line ≡ Some e → nat_lt 0 room ≡ true
      → entries_from format number room lines ≡ entries_before (e ∷ []) (entries_from format (number + 1) (room - 1) more)
  one_more e end entry some = ap (entries_from format number room) cut ∙ entry_one format number room line more first e end entry some
