-- Relations between rows that are monotone, and what is put together from such.
use Rattle.std.specs.Prelude.{ℕ, IsTrue, IsSomeAnd, List, ◌++◌, length, take, drop, slice_get}
use Rattle.std.proofs.Common.{sym}
use Rattle.std.proofs.lemmas.List.{take-append-drop}
use Rattle.order_core.specs.ChainLaws.{chain_between, ends_are_states, ends_rise}
use Rattle.order_core.specs.Chains as chains
use Rattle.order_core.specs.Pointwise.{Each}
use Rattle.value_type.specs.declared.kind.Kind.{Kind}
use Rattle.value_type.specs.declared.poset.Types.{Types}
use Rattle.value_type.specs.Fits.{row_fits}
use Rattle.value_type.specs.KindOrderLaws.{row_laws}
use Rattle.value_type.specs.Leq.{row_leq}
use Rattle.value_type.specs.RowLaws.{fits_together, fits_apart, leq_together, leq_apart, taken, dropped}
use Rattle.design_model.specs.Rows.{Row}
use Rattle.design_term.specs.FoundLaws.{each_found}
use Rattle.design_term.specs.Outcomes.{AreSideBySide}

-- From inputs of some types to outputs of some types: outputs fit, what fits and is above an output is one too, and a lesser input has all outputs of a greater one.
pub record IsMonotone (t : Types) (ins outs : List Kind) (R : Row → Row → Type 0) : Type 0 where
  pub fit : (x y : Row) → IsTrue (row_fits t ins x) → R x y → IsTrue (row_fits t outs y)
  pub upward : (x y z : Row) → IsTrue (row_fits t ins x) → IsTrue (row_fits t outs z) → IsTrue (row_leq t outs y z) → R x y → R x z
  pub falling : (x y z : Row) → IsTrue (row_fits t ins x) → IsTrue (row_fits t ins y) → IsTrue (row_leq t ins x y) → R y z → R x z

-- From inputs of these types:
module _ (t : Types) (ins : List Kind) where
  -- One monotone relation and then another is monotone.
  pub series_monotone : (middle outs : List Kind) (R S : Row → Row → Type 0) → IsMonotone t ins middle R → IsMonotone t middle outs S
      → IsMonotone t ins outs (λ x y. (z : Row) × R x z × S z y)
  series_monotone middle outs R S first second = record {
    fit = λ x y x_fits h. second.fit h.0 y (first.fit x h.0 x_fits h.1) h.2;
    upward = λ x y z x_fits z_fits more h. (h.0, h.1, second.upward h.0 y z (first.fit x h.0 x_fits h.1) z_fits more h.2);
    falling = λ x y z x_fits y_fits less h. (h.0, first.falling x y h.0 x_fits y_fits less h.1, h.2);
  }

  -- Two monotone relations side by side are monotone.
  pub par_monotone : (left right : List Kind) (R S : Row → Row → Type 0) → IsMonotone t ins left R → IsMonotone t ins right S
      → IsMonotone t ins (left ++ right) (λ x y. AreSideBySide (R x) (S x) y)
  par_monotone left right R S first second = record {
    fit = λ x y x_fits h. rw h.joined (fits_together t left right h.left h.right (first.fit x h.left x_fits h.first) (second.fit x h.right x_fits h.second));
    upward = λ x y z x_fits z_fits more h.
        let parts = fits_apart t left right z z_fits in
        let left_fits = first.fit x h.left x_fits h.first in
        let apart = leq_apart t left right (h.left ++ h.right) z (rw h.joined at more) in
        let more_left : IsTrue (row_leq t left h.left (take (length left) z)) = rw (taken t left h.left h.right left_fits) at apart.0 in
        let more_right : IsTrue (row_leq t right h.right (drop (length left) z)) = rw (dropped t left h.left h.right left_fits) at apart.1 in
        record {
          left = take (length left) z;
          right = drop (length left) z;
          first = first.upward x h.left (take (length left) z) x_fits parts.0 more_left h.first;
          second = second.upward x h.right (drop (length left) z) x_fits parts.1 more_right h.second;
          joined = sym (take-append-drop (length left) z);
        };
    falling = λ x y z x_fits y_fits less h. record {
      left = h.left;
      right = h.right;
      first = first.falling x y h.left x_fits y_fits less h.first;
      second = second.falling x y h.right x_fits y_fits less h.second;
      joined = h.joined;
    };
  }

  -- The choice between monotone relations, one for each item of a list, is monotone.
  pub alt_monotone : {A : Type 0} (outs : List Kind) (R : A → Row → Row → Type 0) (items : List A) → Each (λ item. IsMonotone t ins outs (R item)) items
      → IsMonotone t ins outs (λ x y. (number : ℕ) × IsSomeAnd (slice_get items number) (λ item. R item x y))
  alt_monotone outs R items each = record {
    fit = λ x y x_fits h.
        let found = each_found (λ item. IsMonotone t ins outs (R item)) (λ item. R item x y) items h.0 each h.1 in
        found.each.fit x y x_fits found.holds;
    upward = λ x y z x_fits z_fits more h.
        let found = each_found (λ item. IsMonotone t ins outs (R item)) (λ item. R item x y) items h.0 each h.1 in
        (h.0, rw found.is (found.each.upward x y z x_fits z_fits more found.holds));
    falling = λ x y z x_fits y_fits less h.
        let found = each_found (λ item. IsMonotone t ins outs (R item)) (λ item. R item y z) items h.0 each h.1 in
        (h.0, rw found.is (found.each.falling x y z x_fits y_fits less found.holds));
  }

  -- Of a monotone relation that leads from an input followed by a state to the next state:
  module _ (state : List Kind) (R : Row → Row → Type 0) (body : IsMonotone t (ins ++ state) state R) where
    -- At an input that fits, its steps from state to state are monotone.
    pub steps_monotone : (x : Row) → IsTrue (row_fits t ins x) → chains.IsMonotone (row_fits t state) (row_leq t state) (λ before after. R (x ++ before) after)
    steps_monotone x x_fits = record {
      states = λ u v u_fits step. body.fit (x ++ u) v (fits_together t ins state x u x_fits u_fits) step;
      falling = λ u v w u_fits v_fits less step.
          body.falling (x ++ u) (x ++ v) w (fits_together t ins state x u x_fits u_fits) (fits_together t ins state x v x_fits v_fits)
          (leq_together t ins state x u x v ((row_laws t ins).reflexive x x_fits) less) step;
      upward = λ u v w u_fits w_fits more step. body.upward (x ++ u) v w (fits_together t ins state x u x_fits u_fits) w_fits more step;
    }

    -- To relate each input to the ends of chains of n such steps is monotone.
    pub loop_monotone : (n : ℕ) → IsMonotone t ins state (λ x y. chains.EndsChain (row_fits t state) (row_leq t state) (λ before after. R (x ++ before) after) n y)
    loop_monotone n = record {
      fit = λ x y x_fits h. ends_are_states (row_fits t state) (row_leq t state) (λ before after. R (x ++ before) after) (steps_monotone x x_fits).states n y h;
      upward = λ x y z x_fits z_fits more h. ends_rise (row_fits t state) (row_leq t state) (λ before after. R (x ++ before) after) (row_laws t state) (steps_monotone x x_fits) n y z h z_fits more;
      falling = λ x y z x_fits y_fits less h.
          chain_between (row_fits t state) (row_leq t state) (λ before after. R (y ++ before) after) (steps_monotone y y_fits).states (λ before after. R (x ++ before) after)
          (λ u v u_fits v_fits step. body.falling (x ++ u) (y ++ u) v (fits_together t ins state x u x_fits u_fits) (fits_together t ins state y u y_fits u_fits)
          (leq_together t ins state x u y u less ((row_laws t state).reflexive u u_fits)) step) n z h;
    }
