-- The minimal rows of those that provide enough are the minima of the catalogue.
use Rattle.std.proofs.Common.{◌≡◌, ◌∙◌, refl, ap, subst, ℕ, zero, suc, Bool, true, false, IsTrue, List, [], ◌∷◌, map, filter, cond, slice_get, IsSomeAnd, inl, inr}
use Rattle.std.specs.List.{list_all, list_any}
use Rattle.order_core.specs.Members.{IsMember}
use Rattle.order_core.specs.MemberLaws.{first, second, both, all_elim, any_elim, any_intro}
use Rattle.order_core.specs.Minimal.{IsMinimal}
use Rattle.order_core.specs.Order.{IsOrder}
use Rattle.value_type.specs.declared.port.Port.{Port}
use Rattle.value_type.specs.declared.poset.Types.{Types}
use Rattle.value_type.specs.declared.value.Value.{Value}
use Rattle.value_type.specs.Fits.{row_fits}
use Rattle.value_type.specs.KindOrderLaws.{row_laws}
use Rattle.value_type.specs.Leq.{row_leq}
use Rattle.value_type.specs.PortKinds.{port_kinds}
use Rattle.design_model.specs.declared.design.CatRow.{CatRow}
use Rattle.design_model.specs.declared.design.Design.{Design}
use Rattle.design_model.specs.declared.witness.Witness.{Witness, out-Witness}
use Rattle.design_model.specs.declared.witness.Witness.TheVariants as witness
use Rattle.design_model.specs.Feasible.{IsFeasible, AreMinima}
use Rattle.design_model.specs.Holds.{Fit, Holds, HoldsByRow, RowHolds}
use Rattle.design_model.specs.HoldsCaseLaws.{by_row, of_row}
use Rattle.design_model.specs.HoldsLaws.{Holds-Cat, holds_fits}
use Rattle.design_model.specs.Parts.{provided_ports, required_ports, rows_of, is_catalogue}
use Rattle.design_model.specs.PartsLaws.{catalogue_is}
use Rattle.design_model.specs.Typed.{row_is_typed, rows_fit}
use Rattle.catalogue_solve.specs.Enough.{required_by, AreSortedMinima}

module _ (t : Types) (provides requires_ : List Port) where
  abbrev f_leq : List Value → List Value → Bool
  f_leq = row_leq t (port_kinds provides)

  abbrev r_leq : List Value → List Value → Bool
  r_leq = row_leq t (port_kinds requires_)

  -- What a row that provides enough requires is found.
  found_at : (f r : List Value) (rows : List CatRow) (k : ℕ) → IsSomeAnd (slice_get rows k) (RowHolds t provides requires_ f r)
      → (q : List Value) × IsMember q (required_by t provides f rows) × IsTrue (r_leq q r)
  found_at f r [] k h = absurd h
  found_at f r (row ∷ rows) zero h = rw h.enough (row.required, inl refl, h.within)
  found_at f r (row ∷ rows) (suc k) h = go (f_leq f row.provided) (found_at f r rows k h)
    where
      go : (b : Bool) → (q : List Value) × IsMember q (required_by t provides f rows) × IsTrue (r_leq q r)
          → (q : List Value) × IsMember q (map (λ row. row.required) (cond b (row ∷ filter (λ row. f_leq f row.provided) rows) (filter (λ row. f_leq f row.provided) rows))) × IsTrue (r_leq q r)
      go true p = (p.0, inr p.1, p.2)
      go false p = p

  -- What is found is required by a row that provides enough.
  found_from : (f q : List Value) (rows : List CatRow) → IsTrue (r_leq q q)
      → IsMember q (required_by t provides f rows) → (k : ℕ) × IsSomeAnd (slice_get rows k) (RowHolds t provides requires_ f q)
  found_from f q [] self m = absurd m
  found_from f q (row ∷ rows) self m = go (f_leq f row.provided) refl (found_from f q rows self) m
    where
      later : (k : ℕ) × IsSomeAnd (slice_get rows k) (RowHolds t provides requires_ f q) → (k : ℕ) × IsSomeAnd (slice_get (row ∷ rows) k) (RowHolds t provides requires_ f q)
      later p = (suc p.0, p.1)

      go : (b : Bool) → f_leq f row.provided ≡ b → (IsMember q (required_by t provides f rows) → (k : ℕ) × IsSomeAnd (slice_get rows k) (RowHolds t provides requires_ f q))
          → IsMember q (map (λ row. row.required) (cond b (row ∷ filter (λ row. f_leq f row.provided) rows) (filter (λ row. f_leq f row.provided) rows)))
          → (k : ℕ) × IsSomeAnd (slice_get (row ∷ rows) k) (RowHolds t provides requires_ f q)
      go true e ih (inl same) = (zero, record { enough = e; within = subst (λ (z : List Value). IsTrue (r_leq z q)) same self })
      go true e ih (inr n) = later (ih n)
      go false e ih n = later (ih n)

  -- Each found row fits the required ports.
  pub found_fits : (f : List Value) (rows : List CatRow) → IsTrue (list_all (row_is_typed t provides requires_) rows) → IsTrue (list_all (row_fits t (port_kinds requires_)) (required_by t provides f rows))
  found_fits f [] h = refl
  found_fits f (row ∷ rows) h = go (f_leq f row.provided) (found_fits f rows (second (row_is_typed t provides requires_ row) _ h))
    where
      go : (b : Bool) → IsTrue (list_all (row_fits t (port_kinds requires_)) (required_by t provides f rows))
          → IsTrue (list_all (row_fits t (port_kinds requires_)) (map (λ row. row.required) (cond b (row ∷ filter (λ row. f_leq f row.provided) rows) (filter (λ row. f_leq f row.provided) rows))))
      go true ih = both _ _ (second (row_fits t (port_kinds provides) row.provided) _ (first _ _ h)) ih
      go false ih = ih

module _ (t : Types) (d : Design) (f : List Value) (catalogue : IsTrue (is_catalogue d)) (fit : IsTrue (rows_fit t d)) (f_fits : IsTrue (row_fits t (port_kinds (provided_ports d)) f)) (made : List (List Value))
    (h : AreSortedMinima (row_leq t (port_kinds (required_ports d))) (required_by t (provided_ports d) f (rows_of d)) made) where
  abbrev found : List (List Value)
  found = required_by t (provided_ports d) f (rows_of d)

  abbrev leq : List Value → List Value → Bool
  leq = row_leq t (port_kinds (required_ports d))

  laws : IsOrder (row_fits t (port_kinds (required_ports d))) leq
  laws = row_laws t (port_kinds (required_ports d))

  fits_found : (q : List Value) → IsMember q found → IsTrue (row_fits t (port_kinds (required_ports d)) q)
  fits_found q m = all_elim (row_fits t (port_kinds (required_ports d))) found q (found_fits t (provided_ports d) (required_ports d) f (rows_of d) fit) m

  by_rows : (r : List Value) (w : Witness)
      → Holds t d f r w ≡ (Fit t (provided_ports d) (required_ports d) f r × HoldsByRow t (provided_ports d) (required_ports d) (rows_of d) f r (out-Witness w))
  by_rows r w = ap (λ (x : Design). Holds t x f r w) (catalogue_is d catalogue) ∙ Holds-Cat t (provided_ports d) (required_ports d) (rows_of d) f r w

  feasible : (q : List Value) → IsMember q found → IsFeasible t d f q
  feasible q m =
      let fits = fits_found q m in
      let k = found_from t (provided_ports d) (required_ports d) f q (rows_of d) (laws.reflexive q fits) m in
      let holds = of_row t (provided_ports d) (required_ports d) (rows_of d) f q k.0 k.1 in
      (witness.Row k.0, rw (by_rows q (witness.Row k.0)) (record { provided = f_fits; required = fits }, holds))

  allowed : (r : List Value) (w : Witness) → Holds t d f r w → (k : ℕ) × IsSomeAnd (slice_get (rows_of d) k) (RowHolds t (provided_ports d) (required_ports d) f r)
  allowed r w p = let k = by_row t (provided_ports d) (required_ports d) (rows_of d) f r w (rw (by_rows r w) at p).1 in (k.0, k.2)

  fits_feasible : (r : List Value) → IsFeasible t d f r → IsTrue (row_fits t (port_kinds (required_ports d)) r)
  fits_feasible r p = (holds_fits t d f r p.0 p.1).required

  above_found : (r : List Value) → IsFeasible t d f r → (q : List Value) × IsMember q found × IsTrue (leq q r)
  above_found r p = let k = allowed r p.0 p.1 in found_at t (provided_ports d) (required_ports d) f r (rows_of d) k.0 k.1

  to : (r : List Value) → IsMinimal leq (λ y. IsMember y found) r → IsMinimal leq (IsFeasible t d f) r
  to r m = record { element = feasible r m.element; least = least }
    where
      least : (y : List Value) → IsFeasible t d f y → IsTrue (leq y r) → y ≡ r
      least y p l =
          let q = above_found y p in
          let fits_q = fits_found q.0 q.1 in
          let fits_y = fits_feasible y p in
          let fits_r = fits_found r m.element in
          let same : q.0 ≡ r = m.least q.0 q.1 (laws.transitive q.0 y r fits_q fits_y fits_r q.2 l) in
          laws.antisymmetric y r fits_y fits_r l (subst (λ (z : List Value). IsTrue (leq z y)) same q.2)

  from : (r : List Value) → IsMinimal leq (IsFeasible t d f) r → IsMinimal leq (λ y. IsMember y found) r
  from r m =
      let q = above_found r m.element in
      let same : q.0 ≡ r = m.least q.0 (feasible q.0 q.1) q.2 in
      record { element = subst (λ (z : List Value). IsMember z found) same q.1; least = λ y k l. m.least y (feasible y k) l }

  complete : (r : List Value) → IsFeasible t d f r → IsTrue (list_any (λ row. leq row r) made)
  complete r p =
      let q = above_found r p in
      let w = any_elim (λ row. leq row q.0) made (h.complete q.0 q.1) in
      let w_found = ((h.exact w.0).0 w.1).element in
      any_intro (λ row. leq row r) made w.0 w.1 (laws.transitive w.0 q.0 r (fits_found w.0 w_found) (fits_found q.0 q.1) (fits_feasible r p) w.2 q.2)

  pub are_minima : AreMinima t d f made
  are_minima = record {
    exact = λ r. ((λ k. to r ((h.exact r).0 k)), λ k. (h.exact r).1 (from r k));
    rising = h.rising;
    complete = complete;
  }
