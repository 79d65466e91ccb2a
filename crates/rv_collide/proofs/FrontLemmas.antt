-- How much of a text was read.
use Rattle.std.proofs.Common.{◌≡◌, ℕ, ◌+◌, ◌≤◌, Bool, true, false, cond, inl, Option, Some, None, Result, Ok, Err, List, ◌++◌, length, take, subst, ◌<◌, ap, ◌∙◌, sym, append-nil, arith}
use Rattle.std.specs.Prelude.{◌==◌, IfErr, IfSome, count_by}
use Rattle.std.specs.Io.KnownBytes.{Consumes, IsAtEnd}
use Rattle.std.proofs.KnownBytes.{Consumes-trans}
use Rattle.std.proofs.lemmas.List.{take_all}
use Rattle.std.proofs.lemmas.List.Sums.{sum_by-append}
use Rattle.rv_collide.specs.ScheduleRead.{IsBrokenOff, line_after}
use Rattle.rv_collide.specs.declared.schedule.fault.ScheduleFault.{ScheduleFault}
use Rattle.rv_collide.specs.declared.schedule.fault.ScheduleKind.TheVariants.{NoMemory}

-- all of the text was read
pub front_at_end : (least : ℕ) (a b : Option (List ℕ)) (bytes : List ℕ) → Consumes a b bytes → IsAtEnd b → IfSome a (λ known. (n : ℕ) × (least ≤ n) × (bytes ≡ take n known))
front_at_end least None b bytes taken end = tt
front_at_end least (Some known) None bytes taken end = absurd taken
front_at_end least (Some known) (Some left) bytes taken end =
    let whole : known ≡ bytes = taken ∙ ap (λ rest. bytes ++ rest) end ∙ append-nil bytes in
    (least + length known, omega arith, sym whole ∙ sym (take_all (least + length known) known (omega arith)))

-- a read that gave nothing came at the end
pub read_at_end : (least count : ℕ) (a b d : Option (List ℕ)) (bytes buffer : List ℕ) → Consumes a b bytes → Consumes b d (take count buffer) × (count ≡ 0 → 0 < length buffer → IsAtEnd d) → count ≡ 0
    → 0 < length buffer → IfSome a (λ known. (n : ℕ) × (least ≤ n) × (bytes ≡ take n known))
read_at_end least count a b d bytes buffer before read none room =
    let nothing : bytes ++ take count buffer ≡ bytes = ap (λ k. bytes ++ take k buffer) none ∙ append-nil bytes in
    front_at_end least a d bytes (subst (Consumes a d) nothing (Consumes-trans a b d bytes (take count buffer) before read.0)) (read.1 none room)

-- ---- the line that was being taken

pub unchanged : (b : Bool) (new old more : List ℕ) → new ≡ cond b more old → b ≡ false → new ≡ old
unchanged true new old more is failed = cc
unchanged false new old more is failed = is

-- a part was taken that there was no room for
pub part_taken : (a b d : Option (List ℕ)) (front part : List ℕ) (feeds more : ℕ) → Consumes a b front → Consumes b d part → feeds ≡ count_by (λ byte. byte == 10) front → more ≡ count_by (λ byte. byte == 10) part
    → (taken : List ℕ) × Consumes a d taken × IsBrokenOff taken (1 + feeds + more) NoMemory
part_taken a b d front part feeds more before next in_front in_part =
    let sum : count_by (λ byte. byte == 10) (front ++ part) ≡ count_by (λ byte. byte == 10) front + count_by (λ byte. byte == 10) part = sum_by-append (λ byte. cond (byte == 10) 1 0) front part in
    let line : 1 + feeds + more ≡ line_after (front ++ part) = omega arith in
    (front ++ part, Consumes-trans a b d front part before next, inl line)

-- where the text that was taken is broken off
pub broken_of_text : {A : Type 0} → (a b : Option (List ℕ)) (front text : List ℕ) (r : Result A ScheduleFault) → Consumes a b front → text ≡ front → IfErr r (λ fault. IsBrokenOff text fault.line fault.kind)
    → IfErr r (λ fault. (taken : List ℕ) × Consumes a b taken × IsBrokenOff taken fault.line fault.kind)
broken_of_text a b front text (Ok said) taken is there = tt
broken_of_text a b front text (Err fault) taken is there = (front, taken, subst (λ (t : List ℕ). IsBrokenOff t fault.line fault.kind) is there)
