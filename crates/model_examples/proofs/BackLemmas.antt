-- A part that has to provide what it requires itself. Of three elements a and b are incomparable, and both are at most t. The part provides a for b, b for a, and t for t.
use Rattle.std.proofs.Common.{refl, sym, ap, subst, ◌∙◌, inl, inr}
use Rattle.std.specs.Prelude.{◌≡◌, ℕ, zero, suc, Bool, false, codes, IsTrue, IsSomeAnd, List, [], ◌∷◌, map, slice_get}
use Rattle.antichain.specs.Basis.{Below}
use Rattle.design_model.specs.ExprLaws as laws
use Rattle.design_model.specs.Feasible.{AreMinima, IsFeasible, resources_leq}
use Rattle.design_model.specs.Holds.{Fit, Holds, RowHolds, PartHolds, carried_by, AllSatisfied}
use Rattle.design_model.specs.HoldsCaseLaws.{by_row, by_parts}
use Rattle.design_model.specs.HoldsLaws.{Holds-Cat, Holds-Net, holds_fits}
use Rattle.design_model.specs.PartsLaws.{provided-Cat, required-Cat, required-Net}
use Rattle.design_model.specs.Rows.{Row}
use Rattle.design_model.specs.Wiring.{Wiring, wiring_of, Carried}
use Rattle.design_model.specs.declared.witness.PartWitness.{PartWitness}
use Rattle.design_model.specs.declared.witness.Witness.TheVariants as witness
use Rattle.design_model.specs.declared.witness.Witness.{Witness}
use Rattle.model_examples.proofs.ElementsLemmas.{element_fits, element_leq}
use Rattle.model_examples.proofs.MinimaLemmas.{are_the_minima}
use Rattle.model_examples.proofs.OnePartLemmas.{only_partner}
use Rattle.model_examples.proofs.ShortRowsLemmas.{as_one, one_fits, one_leq, leq_one, value_at_least, at_least_value}
use Rattle.model_examples.specs.Back.{a, b, back, constraints, maker, maker_provides, maker_requires, maker_rows, parts, poset, requires_, t, types}
use Rattle.model_examples.specs.Elements.{elements}
use Rattle.model_examples.specs.Words.{part}
use Rattle.order_core.specs.Members.{IsMember}
use Rattle.value_type.specs.Fits.{fits}
use Rattle.value_type.specs.KindOrderLaws.{kind_laws}
use Rattle.value_type.specs.Leq.{leq, row_leq}
use Rattle.value_type.specs.declared.value.Value.{Value}

abbrev wired : Wiring
wired = record { provides = []; requires_ = elements ∷ []; provided = (elements ∷ []) ∷ []; required = (elements ∷ []) ∷ []; constraints = constraints }

wiring_is : wiring_of (λ p. p) [] requires_ parts constraints ≡ wired
wiring_is = rw (provided-Cat, required-Cat) refl

-- what the constraints say, where these values are carried
record ComesBack (r x y : Value) : Type 0 where
  returned : IsTrue (leq types elements y x)
  covered : IsTrue (leq types elements y r)

abbrev carried : Value → Value → Carried
carried x y = record { provided = x ∷ []; required = y ∷ [] }

comes_back : (r x y : Value) → AllSatisfied types wired [] (r ∷ []) (carried x y ∷ []) → ComesBack r x y
comes_back r x y h = record {
  returned = value_at_least types elements x y (rw laws.value-Inner at h.0);
  covered = value_at_least types elements r y (rw laws.value-Inner at h.1.0);
}

satisfied : (r x y : Value) → ComesBack r x y → AllSatisfied types wired [] (r ∷ []) (carried x y ∷ [])
satisfied r x y h = (rw laws.value-Inner (at_least_value types elements x y h.returned), (rw laws.value-Inner (at_least_value types elements r y h.covered), tt))

t_fits : IsTrue (fits types elements t)
t_fits = element_fits poset 2

t_below : IsTrue (leq types elements t t)
t_below = element_leq poset 2 2

-- the part with its row three
abbrev only_t : List PartWitness
only_t = record { provided = t ∷ []; required = t ∷ []; inner = witness.Row 2 } ∷ []

maker_holds : Holds types maker (t ∷ []) (t ∷ []) (witness.Row 2)
maker_holds = rw Holds-Cat (rw witness.outs-Row (
  record { provided = one_fits types elements t t_fits; required = one_fits types elements t t_fits },
  record { enough = leq_one types elements t t t_below; within = leq_one types elements t t t_below },
))

-- It is feasible at t.
pub feasible_at_t : IsFeasible types back [] (t ∷ [])
feasible_at_t = (
  witness.Inner only_t,
  rw Holds-Net (rw witness.outs-Inner (
    record { provided = refl; required = one_fits types elements t t_fits },
    record {
      parts = (maker_holds, tt);
      constraints = subst (λ (net : Wiring). AllSatisfied types net [] (t ∷ []) (map carried_by only_t)) (sym wiring_is)
          (satisfied t t t (record { returned = t_below; covered = t_below }));
    },
  )),
)

-- A row that provides `made` for `given`, and covers what it requires, provides at least that.
around : (given made x y : Value) → IsTrue (fits types elements given) → IsTrue (fits types elements made) → IsTrue (fits types elements x) → IsTrue (fits types elements y)
    → IsTrue (leq types elements x made) → IsTrue (leq types elements given y) → IsTrue (leq types elements y x) → IsTrue (leq types elements given made)
around given made x y given_is made_is x_is y_is enough within returned =
    let laws = kind_laws types elements in
    laws.transitive given x made given_is x_is made_is (laws.transitive given y x given_is y_is x_is within returned) enough

-- Of the part's rows, three alone covers what it requires, and it requires t.
row_requires_t : (x y : Value) → IsTrue (fits types elements x) → IsTrue (fits types elements y) → IsTrue (leq types elements y x) → (n : ℕ)
    → IsSomeAnd (slice_get maker_rows n) (RowHolds types maker_provides maker_requires (x ∷ []) (y ∷ [])) → IsTrue (leq types elements t y)
row_requires_t x y x_is y_is returned zero h = absurd (
    let wrong = around b a x y (element_fits poset 1) (element_fits poset 0) x_is y_is (one_leq types elements x a h.enough) (one_leq types elements b y h.within) returned in
    let never : leq types elements b a ≡ false = element_leq poset 1 0 in cc)
row_requires_t x y x_is y_is returned (suc zero) h = absurd (
    let wrong = around a b x y (element_fits poset 0) (element_fits poset 1) x_is y_is (one_leq types elements x b h.enough) (one_leq types elements a y h.within) returned in
    let never : leq types elements a b ≡ false = element_leq poset 0 1 in cc)
row_requires_t x y x_is y_is returned (suc (suc zero)) h = one_leq types elements t y h.within
row_requires_t x y x_is y_is returned (suc (suc (suc n))) h = absurd h

maker_requires_t : (provided required : Row) (x y : Value) → IsTrue (fits types elements x) → IsTrue (fits types elements y) → IsTrue (leq types elements y x) → (w : Witness)
    → provided ≡ x ∷ [] → required ≡ y ∷ [] → Holds types maker provided required w → IsTrue (leq types elements t y)
maker_requires_t provided required x y x_is y_is returned w e f h =
    let held : Holds types maker (x ∷ []) (y ∷ []) w =
    subst (λ (u : Row). Holds types maker u (y ∷ []) w) e (subst (λ (v : Row). Holds types maker provided v w) f h) in
    let made = by_row types maker_provides maker_requires maker_rows (x ∷ []) (y ∷ []) w (rw Holds-Cat at held).1 in
    row_requires_t x y x_is y_is returned made.0 made.2

-- what the constraints say, where the one part is witnessed to carry these values
witnessed : (ws : List PartWitness) (w : PartWitness) (r x y : Value) → ws ≡ w ∷ [] → w.provided ≡ x ∷ [] → w.required ≡ y ∷ []
    → AllSatisfied types (wiring_of (λ p. p) [] requires_ parts constraints) [] (r ∷ []) (map carried_by ws) → ComesBack r x y
witnessed ws w r x y is e f h =
    let same : map carried_by ws ≡ carried x y ∷ [] = ap (map carried_by) is ∙ λ i. record { provided = e i; required = f i } ∷ [] in
    comes_back r x y (subst (λ (cs : List Carried). AllSatisfied types wired [] (r ∷ []) cs) same
    (subst (λ (net : Wiring). AllSatisfied types net [] (r ∷ []) (map carried_by ws)) wiring_is h))

-- So much is required at least.
at_least_t : (r : Value) → IsTrue (fits types elements r) → (w : Witness) → Holds types back [] (r ∷ []) w → IsTrue (leq types elements t r)
at_least_t r r_is w h =
    let k = rw Holds-Net at h in
    let named = by_parts types [] requires_ parts constraints [] (r ∷ []) w k.1 in
    let one = only_partner (PartHolds (λ p. Holds types p.design)) (part (codes "c") maker) named.0 named.2.parts in
    let fit : Fit types maker_provides maker_requires one.0.provided one.0.required = rw (provided-Cat, required-Cat) at (holds_fits types maker one.0.provided one.0.required one.0.inner one.2) in
    let x = as_one types elements one.0.provided fit.provided in
    let y = as_one types elements one.0.required fit.required in
    let says = witnessed named.0 one.0 r x.only y.only one.1 x.row_is y.row_is named.2.constraints in
    let requires_t = maker_requires_t one.0.provided one.0.required x.only y.only x.valid y.valid says.returned one.0.inner x.row_is y.row_is one.2 in
    (kind_laws types elements).transitive t y.only r t_fits y.valid r_is requires_t says.covered

above : (r : Row) → IsFeasible types back [] r → Below (row_leq types (elements ∷ [])) ((t ∷ []) ∷ []) r
above r h =
    let fit = rw required-Net at (holds_fits types back [] r h.0 h.1).required in
    let one = as_one types elements r fit in
    (t ∷ [], inl refl, rw one.row_is (leq_one types elements t one.only (at_least_t one.only one.valid h.0 (rw one.row_is at h.1))))

resources : row_leq types (elements ∷ []) ≡ resources_leq types back
resources = rw required-Net refl

only_at_t : (r : Row) → IsMember r ((t ∷ []) ∷ []) → IsFeasible types back [] r
only_at_t r (inl e) = subst (IsFeasible types back []) (sym e) feasible_at_t
only_at_t r (inr m) = absurd m

-- t is the only minimum, since neither a nor b is provided for itself.
pub back_gives_t : AreMinima types back [] ((t ∷ []) ∷ [])
back_gives_t = are_the_minima types back [] ((t ∷ []) ∷ []) refl (record {
  elements = only_at_t;
  incomparable = refl;
  complete = subst (λ (leq : Row → Row → Bool). (r : Row) → IsFeasible types back [] r → Below leq ((t ∷ []) ∷ []) r) resources above;
})
