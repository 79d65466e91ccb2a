-- The last writers of bytes, step by step, and what is shown of them.
use Rattle.std.proofs.Common.{◌≡◌, ℕ, suc, ◌+◌, ◌<◌, Bool, true, false, ◌&&◌, List, [], ◌∷◌, ◌++◌, Option, Some, None, get_or, slice_get, length, map, option_map, take, drop, refl, sym, ap, ◌∙◌, arith}
use Rattle.std.specs.Prelude.{if◌then◌else◌, option_and_then}
use Rattle.std.specs.Option.{unwrap_or}
use Rattle.std.proofs.Math.Seq.{take-append_seam}
use Rattle.std.proofs.lemmas.List.{length-map, map_more, map_push}
use Rattle.std.proofs.lemmas.Option.{slice_get-get_or, slice_get-map}
use Rattle.rv_collide.specs.Entries.{stepped_hart}
use Rattle.rv_collide.specs.StateAt.{state_at}
use Rattle.rv_collide.specs.declared.entry.Entry.{Entry}
use Rattle.rv_explain.specs.Meeting.{wrote}
use Rattle.rv_explain.specs.Stuck.{Does, does, does_after, shown_as}
use Rattle.rv_explain.specs.StuckReads.{access_at, access_by, bytes_read, last_below, ranges_in, read_bytes, reads_of, writer_at, writer_by, writes_at, written_by}
use Rattle.rv_explain.specs.internal.Writers.{noted, reads_unwritten, unwritten, with_writer}
use Rattle.rv_explain.specs.declared.stuck.ReadBytes.{ReadBytes}
use Rattle.rv_explain.specs.declared.stuck.StuckHart.{StuckHart}
use Rattle.rv_explain.specs.declared.stuck.Writer.{Writer}
use Rattle.rv_hart.specs.NextAccess.{access_of_step, accessed, next_access}
use Rattle.rv_hart.specs.State.{State}
use Rattle.rv_hart.specs.Step.{step_of}
use Rattle.rv_hart.specs.declared.access.Event.{Event}
use Rattle.rv_hart.specs.declared.access.Access.{Access}
use Rattle.rv_memory.specs.Memory.{Memory}
use Rattle.rv_stuck.specs.Acts.{Conduct, conduct_of}
use Rattle.rv_stuck.specs.declared.stuck.Doing.{Doing}
use Rattle.rv_waits.specs.declared.touched.Range.{Range}

-- ---- maps

map_map : {A B C : Type 0} (f : A → B) (g : B → C) (xs : List A) → map g (map f xs) ≡ map (λ x. g (f x)) xs
map_map f g [] = refl
map_map f g (x ∷ xs) = ap (λ ys. g (f x) ∷ ys) (map_map f g xs)

map_same : {A B : Type 0} (f g : A → B) → ((x : A) → f x ≡ g x) → (xs : List A) → map f xs ≡ map g xs
map_same f g same [] = refl
map_same f g same (x ∷ xs) = ap (λ y. y ∷ map f xs) (same x) ∙ ap (λ ys. g x ∷ ys) (map_same f g same xs)

map_none : {A : Type 0} (f : A → A) → ((x : A) → f x ≡ x) → (xs : List A) → map f xs ≡ xs
map_none f same [] = refl
map_none f same (x ∷ xs) = ap (λ y. y ∷ map f xs) (same x) ∙ ap (λ ys. x ∷ ys) (map_none f same xs)

-- ---- one step more

-- an access that writes none of the bytes leaves their writer
pub none_noted : (writer : Option Writer) (access : Option Access) → ((read : ReadBytes) → noted writer access read ≡ read) → (reads : List (List ReadBytes)) → reads ≡ map (map (noted writer access)) reads
none_noted writer access same reads = sym (map_none (map (noted writer access)) (λ xs. map_none (noted writer access) same xs) reads)

pub no_access : (writer : Option Writer) (access : Option Access) → access ≡ None → (read : ReadBytes) → noted writer access read ≡ read
no_access writer access none read = rw none refl

pub no_write : (writer : Option Writer) (access : Access) → access.write ≡ false → (read : ReadBytes) → noted writer (Some access) read ≡ read
no_write writer access reads read = rw reads refl

-- an entry that is no step makes no access
pub unstepped : (entry : Entry) (s : State) (place : ℕ) (reads : List (List ReadBytes)) → None ≡ stepped_hart entry → reads ≡ map (map (noted (writer_by place entry (access_by entry s)) (access_by entry s))) reads
unstepped entry s place reads none = rw (sym none) (none_noted None None (λ read. refl) reads)

pub as_entry : (entry : Entry) (s : State) (place hart : ℕ) (reads next : List (List ReadBytes)) → Some hart ≡ stepped_hart entry → next ≡ map (map (noted (written_by hart place (next_access s hart)) (next_access s hart))) reads
    → next ≡ map (map (noted (writer_by place entry (access_by entry s)) (access_by entry s))) reads
as_entry entry s place hart reads next is noted_are = rw (sym is) noted_are

accessed_is : (s t : State) (h : ℕ) (event : Event) → step_of s h ≡ Some (event, t) → next_access s h ≡ accessed event
unfolding next_access
accessed_is s t h event made = ap access_of_step made

pub as_step : (s t : State) (h place : ℕ) (event : Event) (access : Option Access) (reads next : List (List ReadBytes)) → step_of s h ≡ Some (event, t) → access ≡ accessed event → next ≡ map (map (noted (written_by h place access) access)) reads
    → next ≡ map (map (noted (written_by h place (next_access s h)) (next_access s h))) reads
as_step s t h place event access reads next made is noted_are = rw (accessed_is s t h event made ∙ sym is) noted_are

chosen : (start : State) (entries : List Entry) (place : ℕ) (read : ReadBytes) (b : Bool) (writer : Option Writer) → writes_at start entries (bytes_read read) place ≡ b → writer_at start entries place ≡ writer
    → (if b then record (with_writer start entries place read) { writer = writer } else with_writer start entries place read) ≡ with_writer start entries (suc place) read
chosen start entries place read true writer test is =
    sym (ap (λ c. record read { writer = option_and_then (writer_at start entries) (if c then Some place else last_below (writes_at start entries (bytes_read read)) place) }) test ∙ ap (λ w. record read { writer = w }) is)
chosen start entries place read false writer test is =
    sym (ap (λ c. record read { writer = option_and_then (writer_at start entries) (if c then Some place else last_below (writes_at start entries (bytes_read read)) place) }) test)

access_is : (start s : State) (entries : List Entry) (place : ℕ) (entry : Entry) → slice_get entries place ≡ Some entry → state_at start entries place ≡ Some s → access_at start entries place ≡ access_by entry s
access_is start s entries place entry at here =
    ap (λ (e : Option Entry). option_and_then (λ entry. option_and_then (access_by entry) (state_at start entries place)) e) at
    ∙ ap (λ (o : Option State). option_and_then (access_by entry) o) here

writer_is : (start s : State) (entries : List Entry) (place : ℕ) (entry : Entry) → slice_get entries place ≡ Some entry → state_at start entries place ≡ Some s → writer_at start entries place ≡ writer_by place entry (access_by entry s)
writer_is start s entries place entry at here =
    ap (λ (e : Option Entry). option_and_then (λ entry. writer_by place entry (access_at start entries place)) e) at
    ∙ ap (writer_by place entry) (access_is start s entries place entry at here)

noted_next : (start s : State) (entries : List Entry) (place : ℕ) (entry : Entry) → slice_get entries place ≡ Some entry → state_at start entries place ≡ Some s
    → (read : ReadBytes) → noted (writer_by place entry (access_by entry s)) (access_by entry s) (with_writer start entries place read) ≡ with_writer start entries (suc place) read
noted_next start s entries place entry at here read =
    chosen start entries place read (wrote (bytes_read read) (access_by entry s)) (writer_by place entry (access_by entry s))
    (ap (wrote (bytes_read read)) (access_is start s entries place entry at here)) (writer_is start s entries place entry at here)

pub written_more : (start s : State) (entries : List Entry) (place : ℕ) (other : Entry) (first now next : List (List ReadBytes)) → place < length entries → state_at start entries place ≡ Some s → now ≡ map (map (with_writer start entries place)) first
    → next ≡ map (map (noted (writer_by place (get_or entries place other) (access_by (get_or entries place other) s)) (access_by (get_or entries place other) s))) now → next ≡ map (map (with_writer start entries (place + 1))) first
written_more start s entries place other first now next below here so_far noted_are =
    let entry : Entry = get_or entries place other in
    let note : ReadBytes → ReadBytes = noted (writer_by place entry (access_by entry s)) (access_by entry s) in
    let step = noted_next start s entries place entry (slice_get-get_or entries place other below) here in
    let on : place + 1 ≡ suc place = omega arith in
    noted_are ∙ ap (map (map note)) so_far ∙ map_map (map (with_writer start entries place)) (map note) first
    ∙ map_same (λ xs. map note (map (with_writer start entries place) xs)) (map (with_writer start entries (suc place)))
    (λ xs. map_map (with_writer start entries place) note xs ∙ map_same (λ read. note (with_writer start entries place read)) (with_writer start entries (suc place)) step xs) first
    ∙ sym (ap (λ n. map (map (with_writer start entries n)) first) on)

-- ---- before the first step, and at the end

pub first_reads : (start : State) (entries : List Entry) (memory : Memory) (harts : List Conduct) (reads : List (List ReadBytes)) → reads ≡ map (reads_unwritten memory) harts → reads ≡ map (map (with_writer start entries 0)) reads
first_reads start entries memory harts reads are =
    are
    ∙ sym (map_map (reads_unwritten memory) (map (with_writer start entries 0)) harts ∙ map_same (λ conduct. map (with_writer start entries 0) (reads_unwritten memory conduct)) (reads_unwritten memory)
    (λ conduct. map_map (unwritten memory) (with_writer start entries 0) (ranges_in conduct) ∙ map_same (λ range. with_writer start entries 0 (unwritten memory range)) (unwritten memory) (λ range. refl) (ranges_in conduct)) harts)
    ∙ ap (map (map (with_writer start entries 0))) (sym are)

pub last_reads : (start : State) (entries : List Entry) (memory : Memory) (harts : List Doing) (conducts : List Conduct) (reads next : List (List ReadBytes)) → conducts ≡ map conduct_of harts → reads ≡ map (reads_unwritten memory) conducts
    → next ≡ map (map (with_writer start entries (length entries))) reads → next ≡ map (reads_of start entries memory) harts
last_reads start entries memory harts conducts reads next acts are written =
    let done : List ReadBytes → List ReadBytes = map (with_writer start entries (length entries)) in
    written ∙ ap (map done) (are ∙ ap (map (reads_unwritten memory)) acts ∙ map_map conduct_of (reads_unwritten memory) harts) ∙ map_map (λ doing. reads_unwritten memory (conduct_of doing)) done harts
    ∙ map_same (λ doing. done (reads_unwritten memory (conduct_of doing))) (reads_of start entries memory)
    (λ doing. map_map (unwritten memory) (with_writer start entries (length entries)) (ranges_in (conduct_of doing))
    ∙ map_same (λ range. with_writer start entries (length entries) (unwritten memory range)) (read_bytes start entries memory) (λ range. refl) (ranges_in (conduct_of doing))) harts

-- what was lent as a slice is back in its vector
pub lent_back : {X : Type 0} (f : X → X) (old new : List X) (len : ℕ) → len ≡ length old → new ≡ map f old → take len (new ++ drop (length new) old) ≡ new
lent_back f old new len size is =
    let count : len ≡ length new = size ∙ sym (ap length is ∙ length-map old f) in
    ap (λ n. take n (new ++ drop (length new) old)) count ∙ take-append_seam new (drop (length new) old)

-- ---- what is shown

pub shown_more : (of : Doing → List ReadBytes) (harts : List Doing) (reads : List (List ReadBytes)) (h : ℕ) (other : Doing) (shown : List StuckHart) (hart : StuckHart) → h < length harts → reads ≡ map of harts
    → map shown_as shown ≡ map (λ doing. does doing (of doing)) (take h harts) → shown_as hart ≡ does (get_or harts h other) (unwrap_or (slice_get reads h) [])
    → map shown_as (shown ++ hart ∷ []) ≡ map (λ doing. does doing (of doing)) (take (h + 1) harts)
shown_more of harts reads h other shown hart below are so_far is =
    let doing : Doing = get_or harts h other in
    let read : unwrap_or (slice_get reads h) [] ≡ of doing =
    ap (λ rs. unwrap_or (slice_get rs h) []) are ∙ ap (λ o. unwrap_or o []) (slice_get-map of harts h ∙ ap (λ o. option_map of o) (slice_get-get_or harts h other below)) in
    map_push shown_as shown hart ∙ ap (λ l. l ++ shown_as hart ∷ []) so_far ∙ ap (λ d. map (λ doing. does doing (of doing)) (take h harts) ++ d ∷ []) (is ∙ ap (does doing) read)
    ∙ sym (map_more (λ doing. does doing (of doing)) harts h other below)
