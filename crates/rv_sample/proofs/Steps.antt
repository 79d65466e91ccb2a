-- A step after any number of steps.
use Rattle.std.proofs.Common.{◌≡◌, ℕ, zero, suc, ◌+◌, refl, ap, ◌∙◌}
use Rattle.rand_pcg.proofs.LcgLemmas.{advance_more}
use Rattle.rand_pcg.specs.Lcg.{Lcg, advance, next, next_state, state_after}

last_step : (w m i n s : ℕ) → next_state w m i (state_after w m i n s) ≡ state_after w m i n (next_state w m i s)
unfolding state_after
last_step w m i zero s = refl
last_step w m i (suc n) s = last_step w m i n (next_state w m i s)

pub one_step_more : (w m n : ℕ) (g : Lcg) → next w m (advance w m n g) ≡ advance w m (n + 1) g
one_step_more w m n g = ap (λ (s : ℕ). record g { state = s }) (last_step w m g.increment n g.state) ∙ advance_more w m n g
