-- A loop over the successor asks for one more in each step, in one round or more.
use Rattle.std.specs.Prelude.{◌≡◌, ℕ, zero, suc, true, nat_le, codes, IsTrue, List, [], ◌∷◌, Some, slice_get}
use Rattle.std.proofs.Common.{refl, subst, ◌∙◌, ap, add-one, arith}
use Rattle.std.proofs.lemmas.Bool.Decides.{nat_tests}
use Rattle.order_core.specs.declared.num.Num.{Num as Number}
use Rattle.order_core.specs.declared.num.Num.TheVariants as number
use Rattle.order_core.specs.MemberLaws.{both}
use Rattle.order_core.specs.Num as numeric
use Rattle.order_core.specs.NumLaws as numeric_laws
use Rattle.order_core.specs.NumLaws.{sum_number, sum_monotone}
use Rattle.value_type.specs.declared.port.Port.{Port}
use Rattle.value_type.specs.Forms.{number_value}
use Rattle.value_type.specs.PortKinds.{port_kinds}
use Rattle.design_model.specs.declared.expr.Expr.{Expr}
use Rattle.design_model.specs.declared.expr.Expr.TheVariants as expr
use Rattle.design_model.specs.ExprLaws as laws
use Rattle.design_model.specs.PartsLaws.{provided-Net, required-Net}
use Rattle.design_model.specs.Rows.{Row}
use Rattle.design_model.specs.SteadyLaws.{EndsIn}
use Rattle.design_model.specs.ValueOf.{Reads, value_of}
use Rattle.model_examples.proofs.NumberRowsLemmas.{counts_fit}
use Rattle.model_examples.specs.Successor as succeeding
use Rattle.model_examples.specs.Successor.{successor}
use Rattle.model_examples.proofs.SuccessorLaws.{succeeds, only_succeeds}
use Rattle.model_examples.specs.Words.{no_types, numbers}
use Rattle.model_examples.proofs.Loops as nets
use Rattle.model_examples.proofs.NumberLoops as loops

-- The successor is asked for what it requires.
abbrev pub asks : Number → Number
asks z = z

pub asks_is : (f : Row) (reads : Reads) (z : Number) → reads.own ≡ slice_get f → reads.inner 0 0 ≡ Some (number_value z) → value_of (expr.Inner 0 0) reads ≡ Some (number_value z)
asks_is f reads z own inner = laws.value-Inner 0 0 reads ∙ inner

pub one_more : (k : ℕ) → IsTrue (nat_le (suc k) 10000000000000000000) → numeric.number_sum (number.Count k) (number.Count 1) ≡ number.Count (suc k)
one_more k valid = let is : nat_le (suc k) 10000000000000000000 ≡ true = valid in rw (add-one, is) refl

pub one_less : (k : ℕ) → IsTrue (nat_le (suc k) 10000000000000000000) → IsTrue (nat_le k 10000000000000000000)
one_less k valid = grind (arith, nat_tests, valid)

pub itself : (k : ℕ) → IsTrue (nat_le k k)
itself k = grind (arith, nat_tests)

pub next : (k : ℕ) → IsTrue (nat_le k (suc k))
next k = grind (arith, nat_tests)

module _ (provides requires_ : List Port) (own : List (ℕ × Expr)) where
  abbrev pub loop : nets.Loop numbers
  loop = record {
    provides = provides;
    requires_ = requires_;
    name = codes "s";
    inner = successor;
    inner_provides = ap port_kinds (provided-Net succeeding.provides succeeding.requires_ [] succeeding.constraints);
    inner_requires = ap port_kinds (required-Net succeeding.provides succeeding.requires_ [] succeeding.constraints);
    asked = expr.Inner 0 0;
    asked_reads = λ test. laws.reads-Inner test 0 0;
    own = own;
  }

  module _ (f : Row) (n : ℕ) where
    -- From k on, k + 1 is needed.
    pub needs_more : (k : ℕ) (z y : Number) (row : Row) (given needed : Number) → IsTrue (nat_le (suc k) 10000000000000000000) → IsTrue (numeric.is_number z) → IsTrue (numeric.is_number given) → IsTrue (numeric.is_number needed)
        → IsTrue (numeric.number_leq (number.Count k) z) → loops.LoopStep loop f asks (asks_is f) (suc n) z y row given needed → IsTrue (numeric.number_leq (number.Count (suc k)) needed)
    needs_more k z y row given needed valid z_is given_is needed_is low step =
        let laws = numeric_laws.number_laws in
        let asked = laws.transitive (number.Count k) z given (one_less k valid) z_is given_is low step.asked in
        let more = sum_monotone (number.Count k) (number.Count 1) given (number.Count 1) asked refl in
        let up = laws.transitive (numeric.number_sum (number.Count k) (number.Count 1)) (numeric.number_sum given (number.Count 1)) needed (sum_number (number.Count k) (number.Count 1))
        (sum_number given (number.Count 1)) needed_is more (only_succeeds n given needed step.feasible) in
        subst (λ (m : Number). IsTrue (numeric.number_leq m needed)) (one_more k valid) up

    -- So k steps lead to k or more.
    pub climbs : (k : ℕ) → IsTrue (nat_le k 10000000000000000000) → (y : Number) (row : Row) → IsTrue (numeric.is_number y) → EndsIn no_types (suc n) (nets.loop_net loop) f k (number_value y ∷ row)
        → IsTrue (numeric.number_leq (number.Count k) y)
    climbs zero valid y row y_is chain = loops.zero_is_least y
    climbs (suc k) valid y row y_is chain =
        let last = loops.last_step loop f asks (asks_is f) (suc n) k y row chain in
        let before = climbs k (one_less k valid) last.cut last.before last.cut_valid last.ends in
        let more = needs_more k last.cut y row last.given last.needed valid last.cut_valid last.given_valid last.needed_valid before last.step in
        numeric_laws.number_laws.transitive (number.Count (suc k)) last.needed y valid last.needed_valid y_is more last.step.covered

    -- And a step leads from k to k + 1, where the own ports allow it.
    pub step_on : (k : ℕ) (row : Row) → IsTrue (nat_le (suc k) 10000000000000000000) → loops.OwnHold loop f asks (asks_is f) (suc n) row (number.Count (suc k))
        → loops.LoopStep loop f asks (asks_is f) (suc n) (number.Count k) (number.Count (suc k)) row (number.Count k) (number.Count (suc k))
    step_on k row valid own_hold = record {
      feasible = succeeds (suc n) (number.Count k) (number.Count (suc k)) (record { provided = counts_fit (k ∷ []) ∙ both _ _ (one_less k valid) refl; required = counts_fit (suc k ∷ []) ∙ both _ _ valid refl })
          (rw (one_more k valid) (itself (suc k)));
      asked = itself k;
      covered = itself (suc k);
      own_hold = own_hold;
    }
