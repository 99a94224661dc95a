-- Typed primitive terms are monotone.
use Rattle.std.specs.Prelude.{◌≡◌, ℕ, true, IsTrue, List, [], ◌∷◌, Option, Some, slice_get}
use Rattle.std.proofs.Common.{refl, sym, subst, ◌∙◌}
use Rattle.order_core.specs.MemberLaws.{both}
use Rattle.order_core.specs.Pointwise.{Each, Pointwise}
use Rattle.value_type.specs.declared.kind.Kind.{Kind}
use Rattle.value_type.specs.declared.poset.Types.{Types}
use Rattle.value_type.specs.declared.value.Value.{Value}
use Rattle.value_type.specs.Fits.{row_fits}
use Rattle.value_type.specs.KindOrderLaws.{kind_laws, row_laws}
use Rattle.value_type.specs.Leq.{leq, row_leq}
use Rattle.design_model.specs.declared.design.CatRow.{CatRow}
use Rattle.design_model.specs.ExprRisesLaws.{value_rises}
use Rattle.design_model.specs.Rows.{Row}
use Rattle.design_model.specs.ValueOf.{reads_of, value_of}
use Rattle.design_model.specs.ValuesInOrder.{ValuesLeq}
use Rattle.design_model.specs.ValuesInOrderLaws.{rows_at}
use Rattle.design_model.specs.Wiring.{IsAtLeast}
use Rattle.design_term.specs.declared.term.Primitive.{Primitive}
use Rattle.design_term.specs.declared.term.Primitive.TheVariants as prim
use Rattle.design_term.specs.declared.term.Target.{Target}
use Rattle.design_term.specs.FoundLaws.{each_found}
use Rattle.design_term.specs.MonotoneLaws.{IsMonotone}
use Rattle.design_term.specs.Outcomes.{Gives, Keeps, RowGives, RowsGive, IsAbove, Meets, values_at}
use Rattle.design_term.specs.TermTypes.{PrimIsTyped, TargetIsTyped, RowIsTyped, places_of}

-- Both rows are there and fit the types, and the first is at most the second.
pub record RowsLeq (t : Types) (kinds : List Kind) (a b : Option Row) : Type 0 where
  pub low : Row
  pub high : Row
  pub low_is : a ≡ Some low
  pub high_is : b ≡ Some high
  pub low_fits : IsTrue (row_fits t kinds low)
  pub high_fits : IsTrue (row_fits t kinds high)
  pub ordered : IsTrue (row_leq t kinds low high)

-- A port that carries at least a value still does where it carries no less, and where the value is no greater.
pub at_least_rises : (t : Types) (k : Kind) (port : Option Kind) (upper higher lower lesser : Option Value) → port ≡ Some k
    → ValuesLeq t k upper higher → ValuesLeq t k lesser lower → IsAtLeast t port upper lower → IsAtLeast t port higher lesser
at_least_rises t k port upper higher lower lesser port_is rises falls h =
    let kinds : h.kind ≡ k = let e : Some h.kind ≡ Some k = sym h.port_is ∙ port_is in cc in
    let below : h.below ≡ falls.high = let e : Some h.below ≡ Some falls.high = sym h.lower_is ∙ falls.high_is in cc in
    let above : h.above ≡ rises.low = let e : Some h.above ≡ Some rises.low = sym h.upper_is ∙ rises.low_is in cc in
    let held : IsTrue (leq t k falls.high rises.low) = rw (kinds, below, above) at h.at_least in
    let order = kind_laws t k in
    record {
      kind = k;
      above = rises.high;
      below = falls.low;
      port_is = port_is;
      upper_is = rises.high_is;
      lower_is = falls.low_is;
      at_least = order.transitive falls.low rises.low rises.high falls.low_fits rises.low_fits rises.high_fits
          (order.transitive falls.low falls.high rises.low falls.low_fits falls.high_fits rises.low_fits falls.ordered held) rises.ordered;
    }

-- Of two inputs that fit, the first at most the second:
module _ (t : Types) (ins : List Kind) (x y : Row) (x_fits : IsTrue (row_fits t ins x)) (y_fits : IsTrue (row_fits t ins y)) (less : IsTrue (row_leq t ins x y)) where
  -- The values at some places are in order.
  pub values_rise : (places : List ℕ) (kinds : List Kind) → Pointwise (λ place kind. slice_get ins place ≡ Some kind) places kinds → RowsLeq t kinds (values_at places x) (values_at places y)
  values_rise [] [] typed = record { low = []; high = []; low_is = refl; high_is = refl; low_fits = refl; high_fits = refl; ordered = refl }
  values_rise [] (k ∷ kinds) typed = absurd typed
  values_rise (place ∷ places) [] typed = absurd typed
  values_rise (place ∷ places) (k ∷ kinds) typed =
      let head = rows_at t ins x y place k x_fits y_fits less typed.0 in
      let tail = values_rise places kinds typed.1 in
      record {
        low = head.low ∷ tail.low;
        high = head.high ∷ tail.high;
        low_is = rw (head.low_is, tail.low_is) refl;
        high_is = rw (head.high_is, tail.high_is) refl;
        low_fits = both _ _ head.low_fits tail.low_fits;
        high_fits = both _ _ head.high_fits tail.high_fits;
        ordered = both _ _ head.ordered tail.ordered;
      }

  -- What a target's expression is worth at them is in order.
  pub lower_rises : (outs : List Kind) (target : Target) (typed : TargetIsTyped t ins outs target)
      → ValuesLeq t typed.kind (value_of target.lower (reads_of x [])) (value_of target.lower (reads_of y []))
  lower_rises outs target typed =
      value_rises t (places_of ins) (λ i j. true) (reads_of x []) (reads_of y []) (record {
        own = λ j k e. rows_at t ins x y j k x_fits y_fits less e;
        inner = λ i j k r e. absurd (cc);
      }) target.lower (λ i j r. refl) typed.kind typed.lower

  -- And of two outputs that fit, the first at most the second:
  module _ (outs : List Kind) (z w : Row) (z_fits : IsTrue (row_fits t outs z)) (w_fits : IsTrue (row_fits t outs w)) (more : IsTrue (row_leq t outs z w)) where
    -- A target that is met is met with the lesser input and the greater output.
    pub meets_rises : (target : Target) → TargetIsTyped t ins outs target → Meets t outs y z target → Meets t outs x w target
    meets_rises target typed h =
        at_least_rises t typed.kind (slice_get outs target.place) (slice_get z target.place) (slice_get w target.place)
        (value_of target.lower (reads_of y [])) (value_of target.lower (reads_of x [])) typed.place
        (rows_at t outs z w target.place typed.kind z_fits w_fits more typed.place) (lower_rises outs target typed) h

    -- The same of several targets.
    pub each_met : (targets : List Target) → Each (TargetIsTyped t ins outs) targets → Each (Meets t outs y z) targets → Each (Meets t outs x w) targets
    each_met [] typed h = tt
    each_met (target ∷ targets) typed h = (meets_rises target typed.0 h.0, each_met targets typed.1 h.1)

-- From inputs of these types:
module _ (t : Types) (ins : List Kind) where
  -- To be at least the values at some places is monotone.
  keep_monotone : (kinds : List Kind) (places : List ℕ) → Pointwise (λ place kind. slice_get ins place ≡ Some kind) places kinds → IsMonotone t ins kinds (Keeps t kinds places)
  keep_monotone kinds places typed = record {
    fit = λ x y x_fits h. h.fits;
    upward = λ x y z x_fits z_fits more h.
        let kept = values_rise t ins x x x_fits x_fits ((row_laws t ins).reflexive x x_fits) places kinds typed in
        let least : IsTrue (row_leq t kinds kept.low y) = rw kept.low_is at h.at_least in
        record { fits = z_fits; at_least = rw kept.low_is ((row_laws t kinds).transitive kept.low y z kept.low_fits h.fits z_fits least more) };
    falling = λ x y z x_fits y_fits less h.
        let kept = values_rise t ins x y x_fits y_fits less places kinds typed in
        let least : IsTrue (row_leq t kinds kept.high z) = rw kept.high_is at h.at_least in
        record { fits = h.fits; at_least = rw kept.low_is ((row_laws t kinds).transitive kept.low kept.high z kept.low_fits kept.high_fits h.fits kept.ordered least) };
  }

  -- To be at least what a row requires that provides at least the input is monotone.
  rows_monotone : (required : List Kind) (rows : List CatRow) → Each (RowIsTyped t ins required) rows → IsMonotone t ins required (RowsGive t ins required rows)
  rows_monotone required rows typed = record {
    fit = λ x y x_fits h. h.fits;
    upward = λ x y z x_fits z_fits more h.
        let found = each_found (RowIsTyped t ins required) (RowGives t ins required x y) rows h.some.0 typed h.some.1 in
        let within = (row_laws t required).transitive found.item.required y z found.each.requires_ h.fits z_fits found.holds.within more in
        record { fits = z_fits; some = (h.some.0, rw found.is (record { enough = found.holds.enough; within = within })) };
    falling = λ x y z x_fits y_fits less h.
        let found = each_found (RowIsTyped t ins required) (RowGives t ins required y z) rows h.some.0 typed h.some.1 in
        let enough = (row_laws t ins).transitive x y found.item.provided x_fits y_fits found.each.provides less found.holds.enough in
        record { fits = h.fits; some = (h.some.0, rw found.is (record { enough = enough; within = found.holds.within })) };
  }

  -- To meet each target is monotone.
  above_monotone : (outs : List Kind) (targets : List Target) → Each (TargetIsTyped t ins outs) targets → IsMonotone t ins outs (IsAbove t outs targets)
  above_monotone outs targets typed = record {
    fit = λ x y x_fits h. h.fits;
    upward = λ x y z x_fits z_fits more h. record {
      fits = z_fits;
      each = each_met t ins x x x_fits x_fits ((row_laws t ins).reflexive x x_fits) outs y z h.fits z_fits more targets typed h.each;
    };
    falling = λ x y z x_fits y_fits less h. record {
      fits = h.fits;
      each = each_met t ins x y x_fits y_fits less outs z z h.fits h.fits ((row_laws t outs).reflexive z h.fits) targets typed h.each;
    };
  }

-- Each typed primitive term is monotone.
pub prim_monotone : (t : Types) (ins outs : List Kind) (primitive : Primitive) → PrimIsTyped t primitive ins outs → IsMonotone t ins outs (Gives t primitive)
prim_monotone t ins outs (prim.Keep kinds places) typed = subst (λ (types : List Kind). IsMonotone t ins types (Keeps t kinds places)) (sym typed.0) (keep_monotone t ins kinds places typed.1)
prim_monotone t ins outs (prim.Rows provided required rows) typed =
    subst (λ (types : List Kind). IsMonotone t ins types (RowsGive t provided required rows)) (sym typed.1)
    (subst (λ (types : List Kind). IsMonotone t types required (RowsGive t provided required rows)) (sym typed.0) (rows_monotone t provided required rows typed.2))
prim_monotone t ins outs (prim.Above kinds targets) typed = subst (λ (types : List Kind). IsMonotone t ins types (IsAbove t kinds targets)) (sym typed.0) (above_monotone t ins kinds targets typed.1)
