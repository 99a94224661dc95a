-- In place of what the parts require stands what some of their rows require, where rows are known.
use Rattle.std.specs.Prelude.{◌≡◌, ℕ, zero, suc, IsTrue, List, [], ◌∷◌, map, filter_map, Option, Some, None, slice_get, option_map, option_and_then}
use Rattle.std.proofs.Common.{refl, sym, ap, subst, ◌∙◌}
use Rattle.order_core.specs.Members.{IsMember}
use Rattle.order_core.specs.Pointwise.{Each, Pointwise}
use Rattle.value_type.specs.declared.poset.Types.{Types}
use Rattle.value_type.specs.declared.value.Value.{Value}
use Rattle.value_type.specs.KindOrderLaws.{row_laws}
use Rattle.value_type.specs.Leq.{row_leq}
use Rattle.value_type.specs.PortKinds.{port_kinds}
use Rattle.design_model.specs.declared.design.CatRow.{CatRow}
use Rattle.design_model.specs.declared.design.Part.{Part}
use Rattle.design_model.specs.Cuts.{Signal}
use Rattle.design_model.specs.Heights.{Survey, survey, values_at}
use Rattle.design_model.specs.HeightsLaws.{of_part}
use Rattle.design_model.specs.Parts.{required_ports}
use Rattle.design_model.specs.Rounds.{IsFeasibleIn, EachFeasible}
use Rattle.design_model.specs.RoundsLaws.{feasible_in_fits}
use Rattle.design_model.specs.Rows.{Row}
use Rattle.design_model.specs.Typed.{IsTyped}
use Rattle.design_model.specs.ValueOf.{port_at}
use Rattle.design_model.specs.Wiring.{Carried, provided_rows, required_rows}
use Rattle.model_laws.specs.GatheredLaws.{CarriesAt}
use Rattle.round_laws.proofs.GradedKinds.{Occurs, OccurEach, filter_map-mem}
use Rattle.round_laws.proofs.LesserRequired.{AreRowsLeq}
use Rattle.round_laws.proofs.PlainRows.{row_serves}

-- One of these rows requires exactly this, if any are known.
abbrev pub IsRequiredBy : Option (List CatRow) → Row → Type 0
IsRequiredBy None r = Unit {0}
IsRequiredBy (Some rows) r = (row : CatRow) × IsMember row rows × (row.required ≡ r)

-- What each part requires is what one of its rows does.
abbrev pub AllOccur : Types → List Part → List Carried → Type 0
AllOccur t parts carried = Pointwise (λ (p : Part) (c : Carried). IsRequiredBy (survey t p.design).rows c.required) parts carried

-- The part at the same provided row, with no more required.
record Thinner (t : Types) (n : ℕ) (p : Part) (c : Carried) : Type 0 where
  row : Row
  feasible : IsFeasibleIn t n p.design c.provided row
  less : IsTrue (row_leq t (port_kinds (required_ports p.design)) row c.required)
  occurs : IsRequiredBy (survey t p.design).rows row

thinner : (t : Types) (n : ℕ) (p : Part) (c : Carried) → IsTyped t p.design → IsFeasibleIn t n p.design c.provided c.required → Thinner t n p c
thinner t n p c typed feasible = by_rows (survey t p.design).rows refl
  where
    by_rows : (o : Option (List CatRow)) → (survey t p.design).rows ≡ o → Thinner t n p c
    by_rows None e = record {
      row = c.required;
      feasible = feasible;
      less = (row_laws t (port_kinds (required_ports p.design))).reflexive c.required (feasible_in_fits t n p.design c.provided c.required feasible).required;
      occurs = subst (λ (o : Option (List CatRow)). IsRequiredBy o c.required) (sym e) tt;
    }
    by_rows (Some rows) e =
        let serves = row_serves t n p.design c.provided c.required rows typed e feasible in
        record {
          row = serves.row.required;
          feasible = serves.feasible;
          less = serves.less;
          occurs = subst (λ (o : Option (List CatRow)). IsRequiredBy o serves.row.required) (sym e) (serves.row, serves.member, refl);
        }

-- The parts at the same provided rows, with no more required, and what occurs at that.
pub record Thinned (t : Types) (n : ℕ) (parts : List Part) (carried : List Carried) : Type 0 where
  pub lesser : List Carried
  pub may : EachFeasible (λ p. IsFeasibleIn t n p.design) parts lesser
  pub same : provided_rows lesser ≡ provided_rows carried
  pub less : AreRowsLeq t (map (λ p. port_kinds (required_ports p.design)) parts) (required_rows lesser) (required_rows carried)
  pub occur : AllOccur t parts lesser

pub thinned : (t : Types) (n : ℕ) (parts : List Part) (carried : List Carried) → Each (λ p. IsTyped t p.design) parts → EachFeasible (λ p. IsFeasibleIn t n p.design) parts carried → Thinned t n parts carried
thinned t n [] [] typed feasible = record { lesser = []; may = tt; same = refl; less = tt; occur = tt }
thinned t n [] (c ∷ carried) typed feasible = absurd feasible
thinned t n (p ∷ parts) [] typed feasible = absurd feasible
thinned t n (p ∷ parts) (c ∷ carried) typed feasible =
    let here = thinner t n p c typed.0 feasible.0 in
    let rest = thinned t n parts carried typed.1 feasible.1 in
    record {
      lesser = record { provided = c.provided; required = here.row } ∷ rest.lesser;
      may = (here.feasible, rest.may);
      same = ap (λ (rows : List Row). c.provided ∷ rows) rest.same;
      less = (here.less, rest.less);
      occur = (here.occurs, rest.occur);
    }

-- At each port then stands a value that occurs there.
port_occurs : (t : Types) (parts : List Part) (carried : List Carried) (i port : ℕ) (v : Value) → AllOccur t parts carried → port_at (required_rows carried) i port ≡ Some v
    → Occurs (option_and_then (λ (part : Survey). option_map (λ rows. filter_map (λ (row : CatRow). slice_get row.required port) rows) part.rows) (slice_get (map (of_part t) parts) i)) v
port_occurs t [] [] i port v occur e = absurd (cc)
port_occurs t [] (c ∷ carried) i port v occur e = absurd occur
port_occurs t (p ∷ parts) [] i port v occur e = absurd occur
port_occurs t (p ∷ parts) (c ∷ carried) (suc i) port v occur e = port_occurs t parts carried i port v occur.1 e
port_occurs t (p ∷ parts) (c ∷ carried) zero port v occur e = by_rows (survey t p.design).rows occur.0
  where
    by_rows : (o : Option (List CatRow)) → IsRequiredBy o c.required → Occurs (option_map (λ rows. filter_map (λ (row : CatRow). slice_get row.required port) rows) o) v
    by_rows None k = tt
    by_rows (Some rows) k = filter_map-mem (λ (row : CatRow). slice_get row.required port) rows k.0 v k.1 (ap (λ (r : Row). slice_get r port) k.2 ∙ e)

pub signals_occur : (t : Types) (parts : List Part) (carried : List Carried) (signals : List Signal) (values : Row) → AllOccur t parts carried → Pointwise (CarriesAt (required_rows carried)) signals values
    → OccurEach (map (values_at (map (of_part t) parts)) signals) values
signals_occur t parts carried [] [] occur at = tt
signals_occur t parts carried [] (v ∷ values) occur at = absurd at
signals_occur t parts carried (s ∷ signals) [] occur at = absurd at
signals_occur t parts carried (s ∷ signals) (v ∷ values) occur at = (port_occurs t parts carried s.part s.port v occur at.0, signals_occur t parts carried signals values occur at.1)
