-- Numbers, one after the other.
use Rattle.std.proofs.Common.{refl, arith}
use Rattle.std.specs.Prelude.{◌≡◌, ◌+◌, ◌-◌, ◌<◌, ℕ, suc, ◌∷◌}
use Rattle.design_model.specs.Evaluation.{numbers_from}

pub numbers_step : (start at count : ℕ) → at < count → (start + at) ∷ numbers_from (start + (at + 1)) (count - (at + 1)) ≡ numbers_from (start + at) (count - at)
numbers_step start at count h =
    let more : count - at ≡ suc (count - (at + 1)) = omega (arith, h) in
    let on : start + (at + 1) ≡ (start + at) + 1 = omega arith in
    rw (more, on) refl
