-- A remainder by two products: with c * d ≡ W + e and e * n < W, where c * n ends within W, times d, has passed W as often
-- as n's remainder by d says.
use Rattle.std.proofs.Common.{◌≡◌, ℕ, zero, suc, ◌+◌, ◌-◌, ◌*◌, ◌/◌, ◌%◌, ◌^◌, ◌<◌, sym, ap, ◌∙◌, arith}
use Rattle.std.proofs.lemmas.Nat.{div-mul-add, mod-mul-add, mod_below, div-add-mod'}
use Rattle.std.proofs.Math.Nat.{add-mul, lt_of_mul-lt-mul_right, mod-eq_of_lt, mul-add, mul_assoc, mul_comm, mul_left_comm, mul_right_comm}
use Rattle.rv_drive.specs.internal.Picker.{part_of}

plus : (a b c : ℕ) → a + b + c ≡ a + (b + c)
plus a b c = omega arith

past : (a b c : ℕ) → a + (b + c) ≡ b + (a + c)
past a b c = omega arith

once : (n : ℕ) → n * 1 ≡ n
once n = omega arith

halved : (t k more s : ℕ) → t ≡ k * 2 + more → t + s ≡ 2 ^ 64 - 1 → k + 1 < 2 ^ 64
halved t k more s both whole = omega arith

rounded : (t d s : ℕ) → s < d → t + s ≡ 2 ^ 64 - 1 → t + 1 * d ≡ 2 ^ 64 + (d - 1 - s)
rounded t d s rest whole = omega arith

first_product : (W d e c q r : ℕ) → c * d ≡ W + e → c * (q * d + r) ≡ q * W + (e * q + c * r)
first_product W d e c q r parts =
    let whole : c * (q * d) ≡ q * W + e * q = mul_left_comm c q d ∙ ap (λ (m : ℕ). q * m) parts ∙ mul-add q W e ∙ ap (λ (m : ℕ). q * W + m) (mul_comm q e) in
    mul-add c (q * d) r ∙ ap (λ (m : ℕ). m + c * r) whole ∙ plus (q * W) (e * q) (c * r)

second_product : (W d e c q r : ℕ) → c * d ≡ W + e → (e * q + c * r) * d ≡ r * W + e * (q * d + r)
second_product W d e c q r parts =
    let rest : c * r * d ≡ r * W + e * r = mul_right_comm c r d ∙ ap (λ (m : ℕ). m * r) parts ∙ add-mul W e r ∙ ap (λ (m : ℕ). m + e * r) (mul_comm W r) in
    add-mul (e * q) (c * r) d ∙ ap (λ (m : ℕ). m + c * r * d) (mul_assoc e q d) ∙ ap (λ (m : ℕ). e * (q * d) + m) rest
    ∙ past (e * (q * d)) (r * W) (e * r) ∙ ap (λ (m : ℕ). r * W + m) (sym (mul-add e (q * d) r))

below : (t r w x y left : ℕ) → t ≡ r + x → x < w → y ≡ r + (w + left) → t < y
below t r w x y left is small whole = omega arith

-- where c * n ends within W
within : (W d t r x : ℕ) → t * d ≡ r * W + x → r < d → x < W → t < W
within W d t r x second few small =
    let left = d - (r + 1) in
    let harts : d ≡ r + (1 + left) = omega arith in
    let whole : W * d ≡ r * W + (W * 1 + W * left) = ap (λ (m : ℕ). W * m) harts ∙ mul-add W r (1 + left) ∙ ap (λ (m : ℕ). m + W * (1 + left)) (mul_comm W r) ∙ ap (λ (m : ℕ). r * W + m) (mul-add W 1 left) in
    lt_of_mul-lt-mul_right d (below (t * d) (r * W) W x (W * d) (W * left) second small (whole ∙ ap (λ (m : ℕ). r * W + (m + W * left)) (once W)))

by_products : (W d e c n q r : ℕ) → c * d ≡ W + e → n ≡ q * d + r → r < d → e * n < W → (c * n % W) * d / W ≡ r
by_products W d e c n q r parts whole few small =
    let first : c * n ≡ q * W + (e * q + c * r) = ap (λ (m : ℕ). c * m) whole ∙ first_product W d e c q r parts in
    let second : (e * q + c * r) * d ≡ r * W + e * n = second_product W d e c q r parts ∙ ap (λ (m : ℕ). r * W + e * m) (sym whole) in
    let ends = within W d (e * q + c * r) r (e * n) second few small in
    ap (λ (m : ℕ). (m % W) * d / W) first ∙ ap (λ (m : ℕ). m * d / W) (mod-mul-add q W (e * q + c * r) ends) ∙ ap (λ (m : ℕ). m / W) second ∙ div-mul-add r W (e * n) small

below_product : (a b : ℕ) → a < 2 ^ 32 → b < 2 ^ 32 → a * b < 2 ^ 64
below_product a b a_fits b_fits = grind arith

few_parts : (k d s : ℕ) → 1 < d → k * d + s ≡ 2 ^ 64 - 1 → k + 1 < 2 ^ 64
few_parts k d s many whole =
    let two : d ≡ 2 + (d - 2) = omega arith in
    let both : k * d ≡ k * 2 + k * (d - 2) = ap (λ (m : ℕ). k * m) two ∙ mul-add k 2 (d - 2) in
    halved (k * d) k (k * (d - 2)) s both whole

all_parts : (k d s : ℕ) → s < d → k * d + s ≡ 2 ^ 64 - 1 → (k + 1) * d ≡ 2 ^ 64 + (d - 1 - s)
all_parts k d s rest whole = add-mul k 1 d ∙ rounded (k * d) d s rest whole

several : (n d : ℕ) → 1 < d → d < 2 ^ 32 → n < 2 ^ 32 → (part_of d * n % 2 ^ 64) * d / 2 ^ 64 ≡ n % d
unfolding part_of
several n d many d_fits n_fits =
    let k = (2 ^ 64 - 1) / d in
    let s = (2 ^ 64 - 1) % d in
    let whole : k * d + s ≡ 2 ^ 64 - 1 = div-add-mod' (2 ^ 64 - 1) d in
    let rest : s < d = mod_below (2 ^ 64 - 1) d (omega arith) in
    let small : (d - 1 - s) * n < 2 ^ 64 = below_product (d - 1 - s) n (omega arith) n_fits in
    ap (λ (p : ℕ). (p * n % 2 ^ 64) * d / 2 ^ 64) (mod-eq_of_lt (few_parts k d s many whole))
    ∙ by_products (2 ^ 64) d (d - 1 - s) (k + 1) n (n / d) (n % d) (all_parts k d s rest whole) (sym (div-add-mod' n d)) (mod_below n d (omega arith)) small

single : (n : ℕ) → (part_of 1 * n % 2 ^ 64) * 1 / 2 ^ 64 ≡ n % 1
unfolding part_of
single n = omega arith

pub picks : (n d : ℕ) → 0 < d → d < 2 ^ 32 → n < 2 ^ 32 → (part_of d * n % 2 ^ 64) * d / 2 ^ 64 ≡ n % d
picks n zero some d_fits n_fits = absurd (omega arith)
picks n (suc zero) some d_fits n_fits = single n
picks n (suc (suc d)) some d_fits n_fits = several n (suc (suc d)) (omega arith) d_fits n_fits
