-- The bytes of an access, one by one.
use Rattle.std.proofs.Common.{◌≡◌, ℕ, ◌+◌, ◌*◌, cond, true, false, Some, None, inl, inr, sym, ap, ◌∙◌, arith, add-zero, add_assoc}
use Rattle.std.specs.Prelude.{unwrap_or}
use Rattle.rv_memory.specs.Memory.{Memory, byte, load, load_permitted, permits, IsSize}
use Rattle.rv_memory.specs.declared.store.Need.{Need}

-- what one look gives
pub load_at_once : (m : Memory) (a size r : ℕ) (need : Need) → Some r ≡ load_permitted m a size need → r ≡ load m a size
load_at_once m a size r need is =
    elim (permits m a size need) as (λ b. Some r ≡ cond b (Some (load m a size)) None → r ≡ load m a size) [ true ↦ λ e. cc | false ↦ λ e. cc ] is

three_on : (a : ℕ) → a + 3 ≡ a + 1 + 1 + 1
three_on a = omega arith

last_byte : (n : ℕ) → n ≡ n + 256 * 0
last_byte n = omega arith

pub load_one : (m : Memory) (a size r : ℕ) → size ≡ 1 → r ≡ unwrap_or (byte m (a + 0)) 0 → r ≡ load m a size
load_one m a size r is one =
    one ∙ ap (λ k. unwrap_or (byte m k) 0) (add-zero a) ∙ last_byte (unwrap_or (byte m a) 0) ∙ ap (load m a) (sym is)

pub load_two : (m : Memory) (a size r s : ℕ) → size ≡ 2 → r ≡ unwrap_or (byte m (a + 0)) 0 → s ≡ unwrap_or (byte m (a + 1)) 0 → r + 256 * s ≡ load m a size
load_two m a size r s is one two =
    ap (λ n. n + 256 * s) (one ∙ ap (λ k. unwrap_or (byte m k) 0) (add-zero a))
    ∙ ap (λ n. unwrap_or (byte m a) 0 + 256 * n) (two ∙ last_byte (unwrap_or (byte m (a + 1)) 0))
    ∙ ap (load m a) (sym is)

pub load_four : (m : Memory) (a size r s t u : ℕ) → size ≡ 4 → r ≡ unwrap_or (byte m (a + 0)) 0 → s ≡ unwrap_or (byte m (a + 1)) 0 → t ≡ unwrap_or (byte m (a + 2)) 0 → u ≡ unwrap_or (byte m (a + 3)) 0 → r + 256 * (s + 256 * (t + 256 * u)) ≡ load m a size
load_four m a size r s t u is one two three four =
    ap (λ n. n + 256 * (s + 256 * (t + 256 * u))) (one ∙ ap (λ k. unwrap_or (byte m k) 0) (add-zero a))
    ∙ ap (λ n. unwrap_or (byte m a) 0 + 256 * (n + 256 * (t + 256 * u))) two
    ∙ ap (λ n. unwrap_or (byte m a) 0 + 256 * (unwrap_or (byte m (a + 1)) 0 + 256 * (n + 256 * u))) (three ∙ ap (λ k. unwrap_or (byte m k) 0) (sym (add_assoc a 1 1)))
    ∙ ap (λ n. unwrap_or (byte m a) 0 + 256 * (unwrap_or (byte m (a + 1)) 0 + 256 * (unwrap_or (byte m (a + 1 + 1)) 0 + 256 * n))) (four ∙ ap (λ k. unwrap_or (byte m k) 0) (three_on a) ∙ last_byte (unwrap_or (byte m (a + 1 + 1 + 1)) 0))
    ∙ ap (load m a) (sym is)

pub size_four : (size : ℕ) → IsSize size → (size ≡ 1 → ⊥) → (size ≡ 2 → ⊥) → size ≡ 4
size_four size is one two = elim is [ inl e ↦ absurd (one e) | inr rest ↦ elim rest [ inl e ↦ absurd (two e) | inr e ↦ e ] ]
