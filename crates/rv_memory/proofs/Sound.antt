-- Memory as a store makes it is sound, and stays so.
use Rattle.std.proofs.Common.{map, ap, length, sym, get_or, ◌<◌, subst, ◌≡◌, ℕ, ◌+◌, ◌-◌, ◌/◌, ◌%◌, zero, suc, true, false, cond, List, [], ◌∷◌, set, All, None, ◌∙◌, arith, length-append}
use Rattle.std.proofs.lemmas.List.{map-set, get_or-map, set-get_or, length-set, length-replicate}
use Rattle.std.proofs.lemmas.List.Elements.{All-cons, All-head, All-tail, All-map, All-set, All-weaker}
use Rattle.rv_memory.specs.Extent.{Extent, IsExtent, IsFull, filled, span}
use Rattle.rv_memory.specs.Memory.{Memory, covers, fault_of, set_byte, store, memory_of}
use Rattle.rv_memory.specs.Sound.{IsSound}
use Rattle.rv_memory.proofs.Spans.{same_fault, spans-set_byte, spans-memory_of}

full_set_byte : (m : Memory) (address value : ℕ) → All IsFull m → All IsFull (set_byte m address value)
full_set_byte [] address value full = full
full_set_byte (e ∷ es) address value full =
    let head = All-head IsFull e es full in
    let tail = All-tail IsFull e es full in
    elim (covers e address) as (λ b. All IsFull (cond b (record e { bytes = set e.bytes (address - e.start) value } ∷ es) (e ∷ set_byte es address value))) [
      | true ↦ All-cons IsFull _ es (record { some = head.some; whole = rw length-set head.whole }) tail
      | false ↦ All-cons IsFull e _ head (full_set_byte es address value tail)
    ]

sound_set_byte : (m : Memory) (address value : ℕ) → IsSound m → IsSound (set_byte m address value)
sound_set_byte m address value sound =
    record {
      full = full_set_byte m address value sound.full;
      no_fault = same_fault (set_byte m address value) m (spans-set_byte m address value) ∙ sound.no_fault;
    }

pub sound_store : (m : Memory) (address size value : ℕ) → IsSound m → IsSound (store m address size value)
sound_store m address zero value sound = sound
sound_store m address (suc size) value sound =
    sound_store (set_byte m address (value % 256)) (address + 1) size (value / 256) (sound_set_byte m address (value % 256) sound)

full_filled : (e : Extent) → IsExtent e → IsFull (filled e)
full_filled e h =
    record { some = h.some; whole = simp (length-append, length-replicate) (omega (arith, h.within)) }

pub sound_made : (es : List Extent) → All IsExtent es → fault_of es ≡ None → IsSound (memory_of es)
sound_made es extents sound =
    record {
      full = All-map IsFull filled es (All-weaker IsExtent (λ e. IsFull (filled e)) full_filled es extents);
      no_fault = same_fault (memory_of es) es (spans-memory_of es) ∙ sound;
    }

-- another extent of the same span in the place of one
pub spans_set : (m : Memory) (place : ℕ) (old new : Extent) → place < length m → old ≡ get_or m place old → span new ≡ span old → map span (set m place new) ≡ map span m
spans_set m place old new below is spans =
    map-set span m place new ∙ ap (λ e. set (map span m) place e) (spans ∙ ap span is ∙ sym (get_or-map span m place old (span old) below))
    ∙ set-get_or (map span m) place (span old)

-- other bytes, as many, in one of the extents
pub sound_set : (m : Memory) (place : ℕ) (old new : Extent) → IsSound m → place < length m → old ≡ get_or m place old → span new ≡ span old → length new.bytes ≡ length old.bytes → IsSound (set m place new)
sound_set m place old new sound below is spans lengths =
    let was : IsFull old = subst IsFull (sym is) (sound.full place old below) in
    let len : new.len ≡ old.len = ap (λ e. e.len) spans in
    let full : IsFull new = record { some = rw len was.some; whole = rw (lengths, len) was.whole } in
    let same : map span (set m place new) ≡ map span m = spans_set m place old new below is spans in
    record { full = All-set IsFull m place new full sound.full; no_fault = same_fault (set m place new) m same ∙ sound.no_fault }
