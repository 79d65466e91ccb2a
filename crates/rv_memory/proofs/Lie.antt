-- Where the bytes of an access lie in the pages of an extent, and what storing there leaves.
use Rattle.std.proofs.Common.{◌≡◌, ℕ, ◌+◌, ◌-◌, ◌/◌, ◌%◌, ◌^◌, ◌≤◌, ◌<◌, zero, suc, true, false, List, [], ◌∷◌, ◌++◌, length, set, get_or, refl, ap, sym, ◌∙◌, arith, subst, take, drop, HoldsAt, IsTrue, min, slice_index, leb, inl, inr, Some}
use Rattle.std.specs.Prelude.{◌&&◌, ◌||◌}
use Rattle.std.specs.List.{list_any}
use Rattle.std.proofs.lemmas.List.{get_or-take, get_or-drop, drop-set-add, length-set, length-map, length-take, length-drop, map-set, get_or-map, get_or_default, set-get_or, get_or-set_same, get_or-set_other, map-append, take_more}
use Rattle.std.proofs.lemmas.List.Folds.{list_any_at}
use Rattle.std.proofs.lemmas.List.Elements.{All-cons, All-head, All-tail}
use Rattle.std.proofs.lemmas.Bool.{and_parts, leb-true, false≢true, cases_eq}
use Rattle.std.proofs.lemmas.Bool.Decides.{nat_tests}
use Rattle.rv_memory.specs.Extent.{Extent, IsFull}
use Rattle.rv_memory.specs.Memory.{Memory, holds, allows, permits, load, load_permitted, store, meets, overlaps}
use Rattle.rv_memory.specs.Sound.{IsSound}
use Rattle.rv_memory.specs.Pages.{PagedExtent, KeptPage, bytes_of, gap, extent, memory_in, place_of, is_own, AreOwn, IsReady}
use Rattle.rv_memory.specs.internal.Flat.{IsFlat, number_at, put_at}
use Rattle.rv_memory.specs.internal.Index.{IsIndex}
use Rattle.rv_memory.specs.internal.Paged.{permits_in, LieIn, SkipsIn}
use Rattle.rv_memory.specs.declared.store.Need.{Need}
use Rattle.rv_memory.specs.declared.store.Need.TheVariants.{Nothing}
use Rattle.rv_memory.proofs.LookFrom.{skips, same_index}
use Rattle.rv_memory.proofs.Places.{load_found, store_found, meets_none, or_parts}
use Rattle.rv_memory.proofs.Sound.{sound_store}
use Rattle.rv_memory.proofs.Spans.{spans-store, no_overlap}

pub permits_is : (ts : List PagedExtent) (address size : ℕ) (need : Need) → permits (memory_in ts) address size need ≡ permits_in ts address size need
permits_is [] address size need = refl
permits_is (t ∷ ts) address size need =
    ap (λ b. (holds (extent t) address size && allows (extent t) need) || b) (permits_is ts address size need)

drop_map : (n : ℕ) (ts : List PagedExtent) → drop n (memory_in ts) ≡ memory_in (drop n ts)
drop_map zero ts = refl
drop_map (suc n) [] = refl
drop_map (suc n) (t ∷ ts) = drop_map n ts

pub skips_in : (ts : List PagedExtent) (firsts : List ℕ) (first address size : ℕ) (need : Need) → IsIndex (memory_in ts) firsts → address < 2 ^ 32 → first ≡ slice_index firsts (address / 65536) → SkipsIn ts first address size need
skips_in ts firsts first address size need index fits is =
    sym (permits_is (drop first ts) address size need) ∙ ap (λ m. permits m address size need) (sym (drop_map first ts))
    ∙ skips (memory_in ts) firsts first address size need index fits is ∙ permits_is ts address size need

pub permitted_in : (ts : List PagedExtent) (place : ℕ) (t : PagedExtent) (address size : ℕ) (n : Need) → place < length ts → holds (extent (get_or ts place t)) address size && allows (extent (get_or ts place t)) n ≡ true → permits_in ts address size n ≡ true
permitted_in ts place t address size n below h = list_any_at (λ x. holds (extent x) address size && allows (extent x) n) ts place t below h

number_taken : (xs : List ℕ) (len skip at place size : ℕ) → at + size ≤ len → place ≡ skip + at → number_at (take len (drop skip xs)) at size ≡ number_at xs place size
number_taken xs len skip at place zero within is = refl
number_taken xs len skip at place (suc size) within is =
    let first : get_or (take len (drop skip xs)) at 0 ≡ get_or xs place 0 =
    get_or-take len (drop skip xs) at 0 (omega arith) ∙ get_or-drop skip xs at 0 ∙ ap (λ n. get_or xs n 0) (sym is) in
    rw (first, number_taken xs len skip (at + 1) (place + 1) size (omega arith) (omega arith)) refl

set_take : (len at value : ℕ) (xs : List ℕ) → at < len → take len (set xs at value) ≡ set (take len xs) at value
set_take zero at value xs h = absurd (omega arith)
set_take (suc len) at value [] h = refl
set_take (suc len) zero value (x ∷ xs) h = refl
set_take (suc len) (suc at) value (x ∷ xs) h = ap (λ l. x ∷ l) (set_take len at value xs (omega arith))

put_taken : (xs : List ℕ) (len skip at place size value : ℕ) → at + size ≤ len → place ≡ skip + at → take len (drop skip (put_at xs place size value)) ≡ put_at (take len (drop skip xs)) at size value
put_taken xs len skip at place zero value within is = refl
put_taken xs len skip at place (suc size) value within is =
    let first : take len (drop skip (set xs place (value % 256))) ≡ set (take len (drop skip xs)) at (value % 256) =
    ap (λ n. take len (drop skip (set xs n (value % 256)))) is ∙ ap (take len) (drop-set-add skip xs at (value % 256))
    ∙ set_take len at (value % 256) (drop skip xs) (omega arith) in
    put_taken (set xs place (value % 256)) len skip (at + 1) (place + 1) size (value / 256) (omega arith) (omega arith)
    ∙ ap (λ l. put_at l (at + 1) size (value / 256)) first

-- what a place where the bytes lie says of its extent
record Held (t : PagedExtent) (address size : ℕ) : Type 0 where
  start : t.start ≤ address
  end : address + size ≤ t.start + t.len

held_in : (t : PagedExtent) (address size : ℕ) → holds (extent t) address size ≡ true → Held t address size
held_in t address size h =
    let parts = and_parts (leb t.start address) (leb (address + size) (t.start + t.len)) h in
    record { start = leb-true _ _ parts.0; end = leb-true _ _ parts.1 }

pub held_at : (ts : List PagedExtent) (place : ℕ) (t : PagedExtent) (address size : ℕ) → HoldsAt (λ x. IsTrue (holds (extent x) address size)) ts place → t ≡ get_or ts place t → holds (extent t) address size ≡ true
held_at ts place t address size h is = subst (λ x. holds (extent x) address size ≡ true) (sym is) (h t)

extent_at : (ts : List PagedExtent) (place : ℕ) (t : PagedExtent) → place < length ts → t ≡ get_or ts place t → extent t ≡ get_or (memory_in ts) place (extent t)
extent_at ts place t below is = ap extent is ∙ sym (get_or-map extent ts place t (extent t) below)

all_hold : (ts : List PagedExtent) (place : ℕ) (t : PagedExtent) (address size : ℕ) → place < length ts → t ≡ get_or ts place t → holds (extent t) address size ≡ true → HoldsAt (λ x. IsTrue (holds x address size)) (memory_in ts) place
all_hold ts place t address size below is h d =
    let there : place < length (memory_in ts) = rw length-map below in
    subst (λ x. holds x address size ≡ true) (extent_at ts place t below is ∙ get_or_default (memory_in ts) place (extent t) d there) h

-- the bytes stand within the pages
pub within_pages : (ts : List PagedExtent) (place : ℕ) (t : PagedExtent) (address size : ℕ) → IsSound (memory_in ts) → place < length ts → t ≡ get_or ts place t → holds (extent t) address size ≡ true → place_of t address + size ≤ length (bytes_of t.pages)
within_pages ts place t address size sound below is h =
    let lie = held_in t address size h in
    let there : place < length (memory_in ts) = rw length-map below in
    let full : IsFull (extent t) = subst IsFull (sym (extent_at ts place t below is)) (sound.full place (extent t) there) in
    let whole : min t.len (length (bytes_of t.pages) - gap t) ≡ t.len =
    ap (min t.len) (sym (length-drop (gap t) (bytes_of t.pages))) ∙ sym (length-take t.len (drop (gap t) (bytes_of t.pages))) ∙ full.whole in
    omega (arith, full.some, whole, lie.start, lie.end)

pub load_lies : (ts : List PagedExtent) (place : ℕ) (t : PagedExtent) (address size : ℕ) → IsSound (memory_in ts) → place < length ts → t ≡ get_or ts place t → holds (extent t) address size ≡ true → load (memory_in ts) address size ≡ number_at (bytes_of t.pages) (place_of t address) size
load_lies ts place t address size sound below is h =
    let lie = held_in t address size h in
    let there : place < length (memory_in ts) = rw length-map below in
    load_found (memory_in ts) place (extent t) address size sound there (all_hold ts place t address size below is h) (extent_at ts place t below is)
    ∙ number_taken (bytes_of t.pages) t.len (gap t) (address - t.start) (place_of t address) size (omega (arith, lie.start, lie.end)) (omega arith)

pub store_lies : (ts : List PagedExtent) (place : ℕ) (t : PagedExtent) (ps : List KeptPage) (address size value : ℕ) → IsSound (memory_in ts) → place < length ts → t ≡ get_or ts place t → holds (extent t) address size ≡ true → bytes_of ps ≡ put_at (bytes_of t.pages) (place_of t address) size value → memory_in (set ts place (record t { pages = ps })) ≡ store (memory_in ts) address size value
store_lies ts place t ps address size value sound below is h put =
    let lie = held_in t address size h in
    let there : place < length (memory_in ts) = rw length-map below in
    let bytes : take t.len (drop (gap t) (bytes_of ps)) ≡ put_at (extent t).bytes (address - t.start) size value =
    ap (λ l. take t.len (drop (gap t) l)) put ∙ put_taken (bytes_of t.pages) t.len (gap t) (address - t.start) (place_of t address) size value (omega (arith, lie.start, lie.end)) (omega arith) in
    map-set extent ts place (record t { pages = ps }) ∙ ap (λ l. set (memory_in ts) place (record (extent t) { bytes = l })) bytes
    ∙ store_found (memory_in ts) place (extent t) address size value sound there (all_hold ts place t address size below is h) (extent_at ts place t below is)

-- other pages of the same bytes change no memory
pub same_lies : (ts : List PagedExtent) (place : ℕ) (t : PagedExtent) (ps : List KeptPage) → place < length ts → t ≡ get_or ts place t → bytes_of ps ≡ bytes_of t.pages → memory_in (set ts place (record t { pages = ps })) ≡ memory_in ts
same_lies ts place t ps below is same =
    map-set extent ts place (record t { pages = ps }) ∙ ap (λ l. set (memory_in ts) place (record (extent t) { bytes = take t.len (drop (gap t) l) })) same
    ∙ ap (λ e. set (memory_in ts) place e) (extent_at ts place t below is) ∙ set-get_or (memory_in ts) place (extent t)

pub flat_store : (m : Memory) (firsts : List ℕ) (address size value : ℕ) → IsFlat m firsts → IsFlat (store m address size value) firsts
flat_store m firsts address size value flat =
    record {
      sound = sound_store m address size value flat.sound;
      index = same_index m (store m address size value) firsts (sym (spans-store m address size value)) flat.index;
    }

abbrev Ready : ℕ → ℕ → PagedExtent → Type 0
Ready address size t = IsTrue (holds (extent t) address size) → AreOwn t.pages (place_of t address) size

-- pages that are no less own leave ready what was
pub ready_kept : (ts : List PagedExtent) (place : ℕ) (t : PagedExtent) (ps : List KeptPage) (address size : ℕ) → place < length ts → t ≡ get_or ts place t → ((k : ℕ) → IsTrue (is_own t.pages k) → IsTrue (is_own ps k)) → IsReady ts address size → IsReady (set ts place (record t { pages = ps })) address size
ready_kept [] place t ps address size below is grows ready = absurd (omega arith)
ready_kept (x ∷ xs) zero t ps address size below is grows ready =
    All-cons (Ready address size) _ xs
    (λ h byte from to. grows (byte / 4096) (subst (Ready address size) (sym is) (All-head (Ready address size) x xs ready) h byte from to))
    (All-tail (Ready address size) x xs ready)
ready_kept (x ∷ xs) (suc place) t ps address size below is grows ready =
    All-cons (Ready address size) x _ (All-head (Ready address size) x xs ready)
    (ready_kept xs place t ps address size (omega arith) is grows (All-tail (Ready address size) x xs ready))

both_hold : (a b : Extent) (address size : ℕ) → meets a b ≡ false → holds a address (suc size) ≡ true → holds b address (suc size) ≡ true → ⊥
both_hold a b address size apart h k = grind (arith, nat_tests)

-- bytes lie in one extent at most
only_one : (m : Memory) (i k : ℕ) (d : Extent) (address size : ℕ) → overlaps m ≡ false → i < length m → k < length m → holds (get_or m i d) address (suc size) ≡ true → holds (get_or m k d) address (suc size) ≡ true → i ≡ k
only_one [] i k d address size apart below there h g = absurd (omega arith)
only_one (e ∷ es) zero zero d address size apart below there h g = refl
only_one (e ∷ es) zero (suc k) d address size apart below there h g =
    absurd (both_hold e (get_or es k d) address size (meets_none e d es k (or_parts (list_any (meets e) es) (overlaps es) apart).0 (omega arith)) h g)
only_one (e ∷ es) (suc i) zero d address size apart below there h g =
    absurd (both_hold e (get_or es i d) address size (meets_none e d es i (or_parts (list_any (meets e) es) (overlaps es) apart).0 (omega arith)) g h)
only_one (e ∷ es) (suc i) (suc k) d address size apart below there h g =
    ap suc (only_one es i k d address size (or_parts (list_any (meets e) es) (overlaps es) apart).1 (omega arith) (omega arith) h g)

-- bytes that lie nowhere are ready
pub ready_none : (ts : List PagedExtent) (address size : ℕ) → permits_in ts address size Nothing ≡ false → IsReady ts address size
ready_none ts address size none place t below h =
    absurd (false≢true (sym none ∙ list_any_at (λ x. holds (extent x) address size && true) ts place t below (rw h refl)))

pub lie_in : (ts : List PagedExtent) (place : ℕ) (t : PagedExtent) (address size : ℕ) → IsSound (memory_in ts) → place < length ts → t ≡ get_or ts place t → holds (extent t) address size ≡ true → LieIn t address size
lie_in ts place t address size sound below is h =
    record { start = (held_in t address size h).start; within = within_pages ts place t address size sound below is h }

pub permitted_lies : (ts : List PagedExtent) (place : ℕ) (t : PagedExtent) (address size loaded : ℕ) (need : Need) → IsSound (memory_in ts) → place < length ts → t ≡ get_or ts place t → holds (extent t) address size ≡ true → permits_in ts address size need ≡ true → loaded ≡ number_at (bytes_of t.pages) (place_of t address) size → load_permitted (memory_in ts) address size need ≡ Some loaded
permitted_lies ts place t address size loaded need sound below is h permitted read =
    let there : permits (memory_in ts) address size need ≡ true = permits_is ts address size need ∙ permitted in
    rw there (ap Some (load_lies ts place t address size sound below is h ∙ sym read))

pub new_stored : (ts : List PagedExtent) (place : ℕ) (t new : PagedExtent) (address size value : ℕ) → IsSound (memory_in ts) → place < length ts → t ≡ get_or ts place t → holds (extent t) address size ≡ true → new ≡ record t { pages = new.pages } → bytes_of new.pages ≡ put_at (bytes_of t.pages) (place_of t address) size value → memory_in (set ts place new) ≡ store (memory_in ts) address size value
new_stored ts place t new address size value sound below is h rest put =
    ap (λ x. memory_in (set ts place x)) rest ∙ store_lies ts place t new.pages address size value sound below is h put

pub new_same : (ts : List PagedExtent) (place : ℕ) (t new : PagedExtent) → place < length ts → t ≡ get_or ts place t → new ≡ record t { pages = new.pages } → bytes_of new.pages ≡ bytes_of t.pages → memory_in (set ts place new) ≡ memory_in ts
new_same ts place t new below is rest same =
    ap (λ x. memory_in (set ts place x)) rest ∙ same_lies ts place t new.pages below is same

pub new_kept : (ts : List PagedExtent) (place : ℕ) (t new : PagedExtent) (address size : ℕ) → place < length ts → t ≡ get_or ts place t → new ≡ record t { pages = new.pages } → ((k : ℕ) → IsTrue (is_own t.pages k) → IsTrue (is_own new.pages k)) → IsReady ts address size → IsReady (set ts place new) address size
new_kept ts place t new address size below is rest grows ready =
    subst (λ x. IsReady (set ts place x) address size) (sym rest) (ready_kept ts place t new.pages address size below is grows ready)

pub found_own : (ts : List PagedExtent) (place : ℕ) (t : PagedExtent) (address size : ℕ) → IsReady ts address size → place < length ts → t ≡ get_or ts place t → holds (extent t) address size ≡ true → AreOwn t.pages (place_of t address) size
found_own ts place t address size ready below is h = subst (Ready address size) (sym is) (ready place t below) h

none_own : (ps : List KeptPage) (at : ℕ) → AreOwn ps at 0
none_own ps at byte from to = absurd (omega arith)

-- where the bytes lie in one extent, its own pages make them ready
pub new_ready : (ts : List PagedExtent) (place : ℕ) (t new : PagedExtent) (address size : ℕ) → IsSound (memory_in ts) → place < length ts → t ≡ get_or ts place t → holds (extent t) address size ≡ true → new ≡ record t { pages = new.pages } → AreOwn new.pages (place_of t address) size → IsReady (set ts place new) address size
new_ready ts place t new address zero sound below is h rest own k d there held = none_own _ _
new_ready ts place t new address (suc size) sound below is h rest own k d there held =
    elim (cases_eq k place) [
      | inl e ↦
          let here : get_or (set ts place new) k d ≡ new = ap (λ j. get_or (set ts place new) j d) e ∙ get_or-set_same ts place new d below in
          let at : place_of t address ≡ place_of new address = ap (λ x. place_of x address) (sym rest) in
          let mine : AreOwn new.pages (place_of new address) (suc size) = subst (λ n. AreOwn new.pages n (suc size)) at own in
          subst (λ x. AreOwn x.pages (place_of x address) (suc size)) (sym here) mine
      | inr apart ↦
          let other : get_or (set ts place new) k d ≡ get_or ts k d = get_or-set_other ts place k new d apart in
          let within : k < length ts = rw length-set at there in
          let held_k : holds (extent (get_or ts k d)) address (suc size) ≡ true = subst (λ x. holds (extent x) address (suc size) ≡ true) other held in
          let first : holds (get_or (memory_in ts) place (extent t)) address (suc size) ≡ true =
          subst (λ x. holds x address (suc size) ≡ true) (extent_at ts place t below is) h in
          let second : holds (get_or (memory_in ts) k (extent t)) address (suc size) ≡ true =
          subst (λ x. holds x address (suc size) ≡ true) (sym (get_or-map extent ts k d (extent t) within)) held_k in
          absurd (apart (sym (only_one (memory_in ts) place k (extent t) address size (no_overlap (memory_in ts) sound.no_fault) (rw length-map below) (rw length-map within) first second)))
    ]

-- another extent that is the same memory
pub same_extent : (ts : List PagedExtent) (place : ℕ) (t new : PagedExtent) → place < length ts → t ≡ get_or ts place t → extent new ≡ extent t → memory_in (set ts place new) ≡ memory_in ts
same_extent ts place t new below is same =
    map-set extent ts place new ∙ ap (λ e. set (memory_in ts) place e) (same ∙ extent_at ts place t below is) ∙ set-get_or (memory_in ts) place (extent t)

-- one more extent that is the same memory
pub more_extents : (ts cs : List PagedExtent) (m : Memory) (k : ℕ) (t copy : PagedExtent) → k < length ts → t ≡ get_or ts k t → memory_in ts ≡ m → extent copy ≡ extent t → memory_in cs ≡ take k m → memory_in (cs ++ copy ∷ []) ≡ take (k + 1) m
more_extents ts cs m k t copy below is same equal so_far =
    let within : k < length m = omega (arith, length-map ts extent, ap length same) in
    let there : extent copy ≡ get_or m k (extent t) = equal ∙ extent_at ts k t below is ∙ ap (λ l. get_or l k (extent t)) same in
    map-append extent cs (copy ∷ []) ∙ ap (λ l. l ++ extent copy ∷ []) so_far ∙ ap (λ e. take k m ++ e ∷ []) there ∙ sym (take_more m k (extent t) within)
