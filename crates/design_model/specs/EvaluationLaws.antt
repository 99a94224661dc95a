-- How many parts are evaluated.
use Rattle.std.proofs.Common.{refl, ap}
use Rattle.std.specs.Prelude.{◌≡◌, ℕ, zero, suc, ◌+◌, length}
use Rattle.design_model.specs.Evaluation.{numbers_from}

pub many_numbers : (start n : ℕ) → length (numbers_from start n) ≡ n
many_numbers start zero = refl
many_numbers start (suc n) = ap suc (many_numbers (start + 1) n)
