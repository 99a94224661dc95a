-- Nets of one part, and constraints between numbers.
use Rattle.std.proofs.Common.{refl, sym, ap, ◌∙◌}
use Rattle.std.specs.Prelude.{◌≡◌, IsTrue, List, [], ◌∷◌, Option, Some}
use Rattle.design_model.specs.ExprLaws as laws
use Rattle.design_model.specs.ValueOf.{Reads, value_of, of_two, number_in}
use Rattle.design_model.specs.Wiring.{IsAtLeast}
use Rattle.design_model.specs.declared.expr.Expr.TheVariants as expr
use Rattle.design_model.specs.declared.expr.Expr.{Expr}
use Rattle.model_examples.proofs.NumberRowsLemmas.{number_leq, made_of_two}
use Rattle.model_examples.proofs.ShortRowsLemmas.{value_at_least, at_least_value}
use Rattle.model_examples.specs.Words.{no_types, numbers}
use Rattle.order_core.specs.Num as numeric
use Rattle.order_core.specs.Pointwise.{Pointwise}
use Rattle.order_core.specs.declared.num.Num.{Num as Number}
use Rattle.value_type.specs.Forms.{number_value}
use Rattle.value_type.specs.declared.value.Value.{Value}

-- The partner of the one part.
pub only_partner : {A B : Type 0} (R : A → B → Type 0) (x : A) (ys : List B) → Pointwise R (x ∷ []) ys → (y : B) × (ys ≡ y ∷ []) × R x y
only_partner R x [] h = absurd h
only_partner R x (y ∷ []) h = (y, refl, h.0)
only_partner R x (y ∷ z ∷ ys) h = absurd h.1

-- Of numbers, that one is at least another says so of the values.
pub number_at_least : (a b : Number) → IsAtLeast no_types (Some numbers) (Some (number_value a)) (Some (number_value b)) → IsTrue (numeric.number_leq b a)
number_at_least a b h = sym (number_leq b a) ∙ value_at_least no_types numbers (number_value a) (number_value b) h

pub at_least_number : (a b : Number) → IsTrue (numeric.number_leq b a) → IsAtLeast no_types (Some numbers) (Some (number_value a)) (Some (number_value b))
at_least_number a b h = at_least_value no_types numbers (number_value a) (number_value b) (number_leq b a ∙ h)

-- what a sum is worth
pub sum_worth : (a b : Expr) (reads : Reads) (m n : Number) → value_of a reads ≡ Some (number_value m) → value_of b reads ≡ Some (number_value n)
    → value_of (expr.Sum a b) reads ≡ Some (number_value (numeric.number_sum m n))
sum_worth a b reads m n e f =
    laws.value-Sum a b reads ∙ (ap (λ (o : Option Value). of_two numeric.number_sum (number_in o) (number_in (value_of b reads))) e
    ∙ (ap (λ (o : Option Value). of_two numeric.number_sum (number_in (Some (number_value m))) (number_in o)) f ∙ made_of_two numeric.number_sum m n))
