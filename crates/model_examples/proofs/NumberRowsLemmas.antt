-- Rows of numbers.
use Rattle.std.proofs.Common.{refl, sym, ap, ◌∙◌}
use Rattle.std.specs.Ordering.{nat_cmp}
use Rattle.std.specs.Prelude.{◌≡◌, ℕ, nat_le, ◌&&◌, IsTrue, List, [], ◌∷◌, map, Some}
use Rattle.design_model.specs.NumberLaws.{number_back}
use Rattle.design_model.specs.Rows.{Row}
use Rattle.design_model.specs.ValueOf.{number_in, of_two}
use Rattle.model_examples.proofs.ShortRowsLemmas as short
use Rattle.model_examples.specs.NumberRows.{IsNumber, IsOne, IsTwo, all_leq, all_valid}
use Rattle.model_examples.specs.Words.{no_types, no_dim, numbers, counts}
use Rattle.order_core.specs.MemberLaws.{first, second}
use Rattle.order_core.specs.Num as numeric
use Rattle.order_core.specs.declared.num.Num.TheVariants as number
use Rattle.order_core.specs.declared.num.Num.{Num as Number}
use Rattle.value_type.specs.Fits.{fits, row_fits}
use Rattle.value_type.specs.Forms.{number_value}
use Rattle.value_type.specs.KindLaws.{embeds-Num}
use Rattle.value_type.specs.Leq.{leq, row_leq}
use Rattle.value_type.specs.PrintOrder.{value_cmp}
use Rattle.value_type.specs.declared.value.Value.TheFolds.{fold_out-Value}
use Rattle.value_type.specs.declared.value.Value.TheVariants as value
use Rattle.value_type.specs.declared.value.Value.{Value}

pub number_fits : (n : Number) → fits no_types numbers (number_value n) ≡ numeric.is_number n
number_fits n = (embeds-Num no_types no_dim).value n

pub number_leq : (m n : Number) → leq no_types numbers (number_value m) (number_value n) ≡ numeric.number_leq m n
number_leq m n = (embeds-Num no_types no_dim).order m n

pub count_fits : (n : ℕ) → IsTrue (nat_le n 10000000000000000000) → IsTrue (fits no_types numbers (value.Num n))
count_fits n h = number_fits (number.Count n) ∙ h

pub count_leq : (m n : ℕ) → IsTrue (nat_le m n) → IsTrue (leq no_types numbers (value.Num m) (value.Num n))
count_leq m n h = number_leq (number.Count m) (number.Count n) ∙ h

pub as_number : (v : Value) → IsTrue (fits no_types numbers v) → IsNumber v
as_number v h =
    let n = (embeds-Num no_types no_dim).onto v h in
    record { number_is = n.0; value_is = n.1; valid = sym (number_fits n.0) ∙ (ap (fits no_types numbers) (sym n.1) ∙ h) }

pub as_one : (r : Row) → IsTrue (row_fits no_types (numbers ∷ []) r) → IsOne r
as_one r h =
    let one = short.as_one no_types numbers r h in
    let n = as_number one.only one.valid in
    record { only = n.number_is; row_is = one.row_is ∙ ap (λ (x : Value). x ∷ []) n.value_is; valid = n.valid }

-- Of two rows of one number, the numbers are in order where the rows are.
pub one_leq : (m n : Number) → IsTrue (row_leq no_types (numbers ∷ []) (number_value m ∷ []) (number_value n ∷ [])) → IsTrue (numeric.number_leq m n)
one_leq m n h = sym (number_leq m n) ∙ short.one_leq no_types numbers (number_value m) (number_value n) h

pub leq_one : (m n : Number) → IsTrue (numeric.number_leq m n) → IsTrue (row_leq no_types (numbers ∷ []) (number_value m ∷ []) (number_value n ∷ []))
leq_one m n h = short.leq_one no_types numbers (number_value m) (number_value n) (number_leq m n ∙ h)

-- what two numbers make
pub made_of_two : (op : Number → Number → Number) (m n : Number) → of_two op (number_in (Some (number_value m))) (number_in (Some (number_value n))) ≡ Some (number_value (op m n))
made_of_two op m n = rw (number_back m, number_back n) refl

pub counts_leq : (ms ns : List ℕ) → row_leq no_types (map (λ m. numbers) ms) (counts ms) (counts ns) ≡ all_leq ms ns
counts_leq [] [] = refl
counts_leq [] (n ∷ ns) = refl
counts_leq (m ∷ ms) [] = refl
counts_leq (m ∷ ms) (n ∷ ns) =
    ap (λ b. b && row_leq no_types (map (λ m. numbers) ms) (counts ms) (counts ns)) (number_leq (number.Count m) (number.Count n)) ∙ ap (λ b. nat_le m n && b) (counts_leq ms ns)

pub counts_fit : (ms : List ℕ) → row_fits no_types (map (λ m. numbers) ms) (counts ms) ≡ all_valid ms
counts_fit [] = refl
counts_fit (m ∷ ms) = ap (λ b. b && row_fits no_types (map (λ m. numbers) ms) (counts ms)) (number_fits (number.Count m)) ∙ ap (λ b. nat_le m 10000000000000000000 && b) (counts_fit ms)

pub counts_cmp : (m n : ℕ) → value_cmp (value.Num m) (value.Num n) ≡ nat_cmp m n
counts_cmp m n = rw (fold_out-Value, value.outs-Num, value.outs-Num) refl

pub as_two : (r : Row) → IsTrue (row_fits no_types (numbers ∷ numbers ∷ []) r) → IsTwo r
as_two r h =
    let two = short.as_two no_types numbers numbers r h in
    let a = as_number two.left two.left_valid in
    let b = as_number two.right two.right_valid in
    record { left = a.number_is; right = b.number_is; row_is = two.row_is ∙ (λ i. a.value_is i ∷ b.value_is i ∷ []); left_valid = a.valid; right_valid = b.valid }

-- Of two rows of two numbers in order, the second numbers are in order too.
pub two_leq : (m n p q : Number) → IsTrue (row_leq no_types (numbers ∷ numbers ∷ []) (number_value m ∷ number_value n ∷ []) (number_value p ∷ number_value q ∷ []))
    → IsTrue (numeric.number_leq m p) × IsTrue (numeric.number_leq n q)
two_leq m n p q h = (sym (number_leq m p) ∙ first _ _ h, one_leq n q (second (leq no_types numbers (number_value m) (number_value p)) _ h))
