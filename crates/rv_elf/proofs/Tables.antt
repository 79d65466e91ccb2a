-- Steps of loops over tables and program headers.
use Rattle.std.proofs.Common.{◌≡◌, ℕ, zero, suc, ◌+◌, ◌-◌, ◌*◌, ◌<◌, ◌≤◌, Bool, true, false, cond, Option, Some, None, List, [], ◌∷◌, ◌++◌, length, get_or, drop, Ok, Err, refl, sym, ap, ◌∙◌, arith, append_assoc}
use Rattle.std.proofs.lemmas.List.{drop_more, drop_all, drop-drop}
use Rattle.std.specs.List.{find, slice_get}
use Rattle.rv_elf.specs.declared.fault.LoadFault.{LoadFault}
use Rattle.rv_elf.specs.declared.layout.ProgramHeader.{ProgramHeader}
use Rattle.rv_elf.specs.Layout.{records}
use Rattle.rv_memory.specs.Chain.{◌>>=◌}
use Rattle.rv_elf.specs.Loaded.{segment_test, each_segment_test}

-- one more record at the front of what is left
pub records_more : {A : Type 0} (one : List ℕ → A) (size count i : ℕ) (table : List ℕ) → i < count
    → records one size (count - i) table ≡ one table ∷ records one size (count - (i + 1)) (drop size table)
records_more one size count i table h =
    let k : count - i ≡ suc (count - (i + 1)) = omega arith in ap (λ n. records one size n table) k

-- the record that was read goes to the end of those so far
pub records_read : {A : Type 0} (one : List ℕ → A) (size count i : ℕ) (table rest : List ℕ) (so_far : List A) → i < count
    → so_far ++ records one size (count - i) rest ≡ records one size count table
    → (so_far ++ one rest ∷ []) ++ records one size (count - (i + 1)) (drop size rest) ≡ records one size count table
records_read one size count i table rest so_far h e =
    append_assoc so_far (one rest ∷ []) (records one size (count - (i + 1)) (drop size rest))
    ∙ ap (λ t. so_far ++ t) (sym (records_more one size count i rest h)) ∙ e

each_at : (bytes : List ℕ) (hs : List ProgramHeader) (i : ℕ) (d : ProgramHeader) → i < length hs
    → each_segment_test bytes (drop i hs) ≡ (segment_test bytes (get_or hs i d) >>= λ _. each_segment_test bytes (drop (i + 1) hs))
unfolding each_segment_test
each_at bytes hs i d h = rw (drop_more hs i d h) refl

-- a test that passes, one that fails, and no test left
pub each_passed : (bytes : List ℕ) (hs : List ProgramHeader) (i : ℕ) (d : ProgramHeader) → i < length hs
    → segment_test bytes (get_or hs i d) ≡ Ok tt → each_segment_test bytes (drop i hs) ≡ each_segment_test bytes hs → each_segment_test bytes (drop (i + 1) hs) ≡ each_segment_test bytes hs
each_passed bytes hs i d h passed so_far =
    sym (ap (λ r. r >>= λ _. each_segment_test bytes (drop (i + 1) hs)) passed) ∙ sym (each_at bytes hs i d h) ∙ so_far

pub each_failed : (bytes : List ℕ) (hs : List ProgramHeader) (i : ℕ) (d : ProgramHeader) (fault : LoadFault) → i < length hs
    → segment_test bytes (get_or hs i d) ≡ Err fault → each_segment_test bytes (drop i hs) ≡ each_segment_test bytes hs → Err fault ≡ each_segment_test bytes hs
each_failed bytes hs i d fault h failed so_far =
    sym (ap (λ r. r >>= λ _. each_segment_test bytes (drop (i + 1) hs)) failed) ∙ sym (each_at bytes hs i d h) ∙ so_far

pub each_done : (bytes : List ℕ) (hs : List ProgramHeader) (i : ℕ) → length hs ≤ i → each_segment_test bytes (drop i hs) ≡ each_segment_test bytes hs → Ok tt ≡ each_segment_test bytes hs
unfolding each_segment_test
each_done bytes hs i h so_far = sym (ap (each_segment_test bytes) (drop_all i hs h)) ∙ so_far

find_more : {A : Type 0} (p : A → Bool) (one : List ℕ → A) (size count i : ℕ) (rest : List ℕ) → i < count
    → find p (records one size (count - i) rest) ≡ cond (p (one rest)) (Some (one rest)) (find p (records one size (count - (i + 1)) (drop size rest)))
find_more p one size count i rest h = ap (find p) (records_more one size count i rest h)

-- the first record of what is left passes a test, or the rest is looked through
pub find_hit : {A : Type 0} (p : A → Bool) (one : List ℕ → A) (size count i : ℕ) (rest : List ℕ) (s : A) (all : Option A) → i < count
    → s ≡ one rest → p s ≡ true → find p (records one size (count - i) rest) ≡ all → Some s ≡ all
find_hit p one size count i rest s all h e hit so_far =
    ap (λ t. Some t) e ∙ sym (ap (λ b. cond b (Some (one rest)) (find p (records one size (count - (i + 1)) (drop size rest)))) (ap p (sym e) ∙ hit))
    ∙ sym (find_more p one size count i rest h) ∙ so_far

pub find_miss : {A : Type 0} (p : A → Bool) (one : List ℕ → A) (size count i : ℕ) (rest after : List ℕ) (s : A) (all : Option A) → i < count
    → s ≡ one rest → p s ≡ false → after ≡ drop size rest → find p (records one size (count - i) rest) ≡ all → find p (records one size (count - (i + 1)) after) ≡ all
find_miss p one size count i rest after s all h e miss after-is so_far =
    ap (λ t. find p (records one size (count - (i + 1)) t)) after-is
    ∙ sym (ap (λ b. cond b (Some (one rest)) (find p (records one size (count - (i + 1)) (drop size rest)))) (ap p (sym e) ∙ miss))
    ∙ sym (find_more p one size count i rest h) ∙ so_far

-- the record at a place, and none past the last
pub record_at : {A : Type 0} (one : List ℕ → A) (size count k : ℕ) (table : List ℕ) → k < count
    → slice_get (records one size count table) k ≡ Some (one (drop (size * k) table))
record_at one size zero k table h = absurd (omega arith)
record_at one size (suc count) zero table h = let e : 0 ≡ size * 0 = omega arith in ap (λ n. Some (one (drop n table))) e
record_at one size (suc count) (suc k) table h =
    let e : size * suc k ≡ size + size * k = omega arith in
    record_at one size count k (drop size table) (omega arith)
    ∙ ap (λ t. Some (one t)) (drop-drop (size * k) size table ∙ ap (λ n. drop n table) (sym e))

pub record_past : {A : Type 0} (one : List ℕ → A) (size count k : ℕ) (table : List ℕ) → count ≤ k
    → slice_get (records one size count table) k ≡ None
record_past one size zero k table h = refl
record_past one size (suc count) zero table h = absurd (omega arith)
record_past one size (suc count) (suc k) table h = record_past one size count k (drop size table) (omega arith)
