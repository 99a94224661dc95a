-- When the successor is feasible in a number of rounds.
use Rattle.std.specs.Prelude.{◌≡◌, ℕ, suc, codes, IsTrue, List, [], ◌∷◌, slice_get, Option, Some}
use Rattle.std.proofs.Common.{refl, ap, subst, ◌∙◌, arith}
use Rattle.order_core.specs.declared.num.Num.{Num as Number}
use Rattle.order_core.specs.declared.num.Num.TheVariants as number
use Rattle.order_core.specs.MemberLaws.{both}
use Rattle.order_core.specs.Num as numeric
use Rattle.value_type.specs.declared.kind.Kind.{Kind}
use Rattle.value_type.specs.declared.kind.Kind.TheFolds.{fold_out-Kind}
use Rattle.value_type.specs.declared.kind.Kind.TheVariants as kind
use Rattle.value_type.specs.declared.port.PortUnit.TheVariants as unit
use Rattle.value_type.specs.declared.value.Value.{Value}
use Rattle.value_type.specs.declared.value.Value.TheVariants as value
use Rattle.value_type.specs.Forms.{number_value}
use Rattle.design_model.specs.declared.expr.Expr.TheVariants as expr
use Rattle.design_model.specs.declared.expr.Greater.TheVariants as greater
use Rattle.design_model.specs.declared.witness.Witness.TheVariants as witness
use Rattle.value_type.specs.SameFormLaws.{same_form_itself}
use Rattle.value_type.specs.SameForm.{same_form}
use Rattle.design_model.specs.ExprKinds.{PortTypes, is_of_kind, has_form, is_number_kind}
use Rattle.design_model.specs.ExprLaws as laws
use Rattle.design_model.specs.Holds.{Fit}
use Rattle.design_model.specs.HoldsLaws.{Holds-Net}
use Rattle.design_model.specs.Rounds.{IsFeasibleIn}
use Rattle.design_model.specs.RoundsLaws.{IsFeasibleIn-Net}
use Rattle.design_model.specs.Rows.{Row}
use Rattle.design_model.specs.Step.{step_reads}
use Rattle.design_model.specs.Typed.{IsTyped, is_port}
use Rattle.design_model.specs.TypedLaws.{IsTyped-Net}
use Rattle.design_model.specs.ValueOf.{Reads, value_of, reads_of}
use Rattle.design_model.specs.Wiring.{Wiring, IsAtLeast, wiring_of, readable}
use Rattle.model_examples.proofs.NumberRowsLemmas.{count_fits}
use Rattle.model_examples.proofs.OnePartLemmas.{number_at_least, at_least_number, sum_worth}
use Rattle.model_examples.specs.Successor.{successor, provides, requires_, constraints, one_more}
use Rattle.model_examples.specs.Words.{no_types, numbers, number_port}
use Rattle.model_laws.specs.FeasibleRoundsLaws.{holds_in_rounds}

numbers_are_numbers : IsTrue (is_number_kind numbers)
numbers_are_numbers = rw kind.outs-Num refl

pub numbers_form : IsTrue (same_form numbers numbers)
numbers_form = same_form_itself numbers

pub number_port_is : (name : List ℕ) → IsTrue (is_port no_types (number_port name))
number_port_is name = rw (fold_out-Kind, kind.outs-Num) (rw (fold_out-Kind, kind.outs-Num) (rw unit.outs-Nat refl))

more_typed : (ports : PortTypes) → ports.own 0 ≡ Some numbers → IsTrue (is_of_kind no_types ports one_more numbers)
more_typed ports e = laws.kind-Sum no_types ports (expr.Own 0) (expr.Constant (value.Num 1)) numbers ∙ both _ _ numbers_are_numbers (both _ _ own constant)
  where
    own : IsTrue (is_of_kind no_types ports (expr.Own 0) numbers)
    own = laws.kind-Own no_types ports 0 numbers ∙ (ap (λ (o : Option Kind). has_form o numbers) e ∙ numbers_form)

    constant : IsTrue (is_of_kind no_types ports (expr.Constant (value.Num 1)) numbers)
    constant = laws.kind-Constant no_types ports (value.Num 1) numbers ∙ count_fits 1 refl

pub successor_typed : IsTyped no_types successor
successor_typed = rw IsTyped-Net (record {
  provided_ports = record { few = omega arith; each = both _ _ (number_port_is (codes "a")) refl };
  required_ports = record { few = omega arith; each = both _ _ (number_port_is (codes "b")) refl };
  few_parts = omega arith;
  few_constraints = omega arith;
  each_constraint = (record { kind = numbers; greater = refl; lower = more_typed (readable (wiring_of (λ p. p) provides requires_ [] constraints)) refl }, tt);
  typed = tt;
})

-- what one more than the own port is worth
more_worth : (a : Number) (reads : Reads) → reads.own 0 ≡ Some (number_value a) → value_of one_more reads ≡ Some (number_value (numeric.number_sum a (number.Count 1)))
more_worth a reads e = sum_worth (expr.Own 0) (expr.Constant (value.Num 1)) reads a (number.Count 1) (laws.value-Own 0 reads ∙ e) (laws.value-Constant (value.Num 1) reads)

-- It is feasible where the required number is at least one more than the provided one.
pub succeeds : (n : ℕ) (a b : Number) → Fit no_types provides requires_ (number_value a ∷ []) (number_value b ∷ []) → IsTrue (numeric.number_leq (numeric.number_sum a (number.Count 1)) b)
    → IsFeasibleIn no_types n successor (number_value a ∷ []) (number_value b ∷ [])
succeeds n a b fit h = holds_in_rounds no_types n successor (number_value a ∷ []) (number_value b ∷ []) (witness.Inner []) successor_typed
    (rw Holds-Net (rw witness.outs-Inner (fit, record { parts = tt; constraints = (rw (more_worth a (reads_of (number_value a ∷ []) []) refl) (at_least_number b (numeric.number_sum a (number.Count 1)) h), tt) })))

-- And only there, in one round or more.
pub only_succeeds : (k : ℕ) (a b : Number) → IsFeasibleIn no_types (suc k) successor (number_value a ∷ []) (number_value b ∷ []) → IsTrue (numeric.number_leq (numeric.number_sum a (number.Count 1)) b)
only_succeeds k a b h =
    let some = (rw IsFeasibleIn-Net at h).1 in
    let by = some.ends.3.1 in
    let reads = step_reads net (number_value a ∷ []) some.ends.0 some.ends.3.0 (greater.Own 0) in
    let says : IsAtLeast no_types (Some numbers) (slice_get (number_value b ∷ []) 0) (value_of one_more reads) =
    subst (λ (r : Row). IsAtLeast no_types (Some numbers) (slice_get r 0) (value_of one_more reads)) some.own by.constraints.0 in
    number_at_least b (numeric.number_sum a (number.Count 1))
    (subst (λ (o : Option Value). IsAtLeast no_types (Some numbers) (Some (number_value b)) o) (more_worth a reads refl) says)
  where
    net : Wiring
    net = wiring_of (λ p. p) provides requires_ [] constraints
