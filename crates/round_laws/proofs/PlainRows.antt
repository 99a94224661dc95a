-- What a part made of catalogues and choices alone requires is at least what one of its rows does.
use Rattle.std.specs.Prelude.{◌≡◌, ℕ, IsTrue, IsSomeAnd, List, [], ◌∷◌, ◌++◌, map, Option, Some, None, slice_get, option_map}
use Rattle.std.specs.List.{list_all}
use Rattle.std.proofs.Common.{refl, sym, ap, subst, ◌∙◌, inl, inr}
use Rattle.order_core.specs.Members.{IsMember}
use Rattle.order_core.specs.MemberLaws.{second, map-mem, mem-left, mem-right, all_elim, got_member}
use Rattle.order_core.specs.Pointwise.{Each}
use Rattle.order_core.specs.PointwiseLaws.{each_got}
use Rattle.value_type.specs.declared.port.Port.{Port}
use Rattle.value_type.specs.declared.poset.Types.{Types}
use Rattle.value_type.specs.Fits.{row_fits}
use Rattle.value_type.specs.KindOrderLaws.{row_laws}
use Rattle.value_type.specs.Leq.{row_leq}
use Rattle.value_type.specs.PortKinds.{port_kinds}
use Rattle.design_model.specs.declared.design.CatRow.{CatRow}
use Rattle.design_model.specs.declared.design.Design.{Design}
use Rattle.design_model.specs.declared.design.Design.TheVariants.{Cat, Choice, Net}
use Rattle.design_model.specs.declared.design.Part.{Part}
use Rattle.design_model.specs.declared.expr.Constraint.{Constraint}
use Rattle.design_model.specs.Heights.{Survey, survey, joined}
use Rattle.design_model.specs.HeightsLaws.{of_part, survey-Cat, survey-Choice, survey-Net}
use Rattle.design_model.specs.Holds.{Fit, RowHolds}
use Rattle.design_model.specs.Parts.{required_ports}
use Rattle.design_model.specs.PartsLaws.{required-Cat, required-Choice}
use Rattle.design_model.specs.Rounds.{IsFeasibleIn}
use Rattle.design_model.specs.RoundsLaws.{IsFeasibleIn-Cat, IsFeasibleIn-Choice, feasible_in_fits}
use Rattle.design_model.specs.Rows.{Row}
use Rattle.design_model.specs.Typed.{IsTyped, HasPorts, row_is_typed}
use Rattle.design_model.specs.TypedLaws.{IsTyped-Cat, IsTyped-Choice}
use Rattle.design_model.specs.DesignInductionLaws.{for_each_design}
use Rattle.round_laws.proofs.WithItem.{some_of}

-- One of the rows requires at most r, and the design is feasible at what it requires.
pub record RowServes (t : Types) (n : ℕ) (d : Design) (f r : Row) (rows : List CatRow) : Type 0 where
  pub row : CatRow
  pub member : IsMember row rows
  pub feasible : IsFeasibleIn t n d f row.required
  pub less : IsTrue (row_leq t (port_kinds (required_ports d)) row.required r)

-- Where all lists are joined each of them is there, and has no other items.
joined_has : (lists : List (Option (List CatRow))) (all : List CatRow) → joined lists ≡ Some all → (o : Option (List CatRow)) → IsMember o lists
    → (rows : List CatRow) × (o ≡ Some rows) × ((row : CatRow) → IsMember row rows → IsMember row all)
joined_has [] all e o m = absurd m
joined_has (None ∷ lists) all e o m = absurd (cc)
joined_has (Some here ∷ lists) all e o m = by_rest (joined lists) refl e m (joined_has lists)
  where
    by_rest : (q : Option (List CatRow)) → joined lists ≡ q → option_map (λ more. here ++ more) q ≡ Some all → IsMember o (Some here ∷ lists)
        → ((rest : List CatRow) → joined lists ≡ Some rest → (p : Option (List CatRow)) → IsMember p lists → (rows : List CatRow) × (p ≡ Some rows) × ((row : CatRow) → IsMember row rows → IsMember row rest))
        → (rows : List CatRow) × (o ≡ Some rows) × ((row : CatRow) → IsMember row rows → IsMember row all)
    by_rest None there whole k later = absurd (cc)
    by_rest (Some more) there whole (inl is) later = let all_is : here ++ more ≡ all = cc in (here, is, λ row i. subst (IsMember row) all_is (mem-left here more row i))
    by_rest (Some more) there whole (inr k) later =
        let all_is : here ++ more ≡ all = cc in
        let found = later more there o k in
        (found.0, found.1, λ row i. subst (IsMember row) all_is (mem-right here more row (found.2 row i)))

module _ (t : Types) (n : ℕ) where
  abbrev Claim : Design → Type 0
  Claim d = (f r : Row) (rows : List CatRow) → IsTyped t d → (survey t d).rows ≡ Some rows → IsFeasibleIn t n d f r → RowServes t n d f r rows

  catalogue_serves : (provides requires_ : List Port) (rows : List CatRow) → Claim (Cat provides requires_ rows)
  catalogue_serves provides requires_ rows f r all typed known feasible =
      let by = rw IsFeasibleIn-Cat at feasible in
      let is = rw IsTyped-Cat at typed in
      let all_is : Some rows ≡ Some all = sym (ap (λ (s : Survey). s.rows) (survey-Cat t provides requires_ rows)) ∙ known in
      let same : rows ≡ all = cc in
      by_row by.1.0 (slice_get rows by.1.0) refl same by.0 is.rows_fit by.1.1
    where
      by_row : (i : ℕ) (o : Option CatRow) → slice_get rows i ≡ o → rows ≡ all → Fit t provides requires_ f r → IsTrue (list_all (row_is_typed t provides requires_) rows) → IsSomeAnd o (RowHolds t provides requires_ f r)
          → RowServes t n (Cat provides requires_ rows) f r all
      by_row i None e same fit typed_rows there = absurd there
      by_row i (Some row) e same fit typed_rows there =
          let m = got_member rows i row e in
          let row_fit = second (row_fits t (port_kinds provides) row.provided) _ (all_elim (row_is_typed t provides requires_) rows row typed_rows m) in
          record {
            row = row;
            member = subst (λ (xs : List CatRow). IsMember row xs) same m;
            feasible = rw IsFeasibleIn-Cat (
              record { provided = fit.provided; required = row_fit },
              (i, some_of (RowHolds t provides requires_ f row.required) (slice_get rows i) row e (record { enough = there.enough; within = (row_laws t (port_kinds requires_)).reflexive row.required row_fit })),
            );
            less = rw required-Cat there.within;
          }

  choice_serves : (provides requires_ : List Port) (branches : List Part) → Each (λ b. Claim b.design) branches → Claim (Choice provides requires_ branches)
  choice_serves provides requires_ branches each f r all typed known feasible =
      let by = rw IsFeasibleIn-Choice at feasible in
      let is = rw IsTyped-Choice at typed in
      by_branch by.1.0 (slice_get branches by.1.0) refl (sym (ap (λ (s : Survey). s.rows) (survey-Choice t provides requires_ branches)) ∙ known) by.0 is.same is.typed by.1.1
    where
      by_branch : (i : ℕ) (o : Option Part) → slice_get branches i ≡ o → joined (map (λ (s : Survey). s.rows) (map (of_part t) branches)) ≡ Some all → Fit t provides requires_ f r
          → Each (HasPorts provides requires_) branches → Each (λ p. IsTyped t p.design) branches → IsSomeAnd o (λ b. IsFeasibleIn t n b.design f r) → RowServes t n (Choice provides requires_ branches) f r all
      by_branch i None e all_is fit same each_typed there = absurd there
      by_branch i (Some b) e all_is fit same each_typed there =
          let m = got_member branches i b e in
          let found = joined_has (map (λ (s : Survey). s.rows) (map (of_part t) branches)) all all_is (of_part t b).rows
          (map-mem (λ (s : Survey). s.rows) (map (of_part t) branches) (of_part t b) (map-mem (of_part t) branches b m)) in
          let serves = each_got (λ (p : Part). Claim p.design) branches b each m f r found.0 (each_got (λ (p : Part). IsTyped t p.design) branches b each_typed m) found.1 there in
          let ports = each_got (HasPorts provides requires_) branches b same m in
          let inner_fit = feasible_in_fits t n b.design f serves.row.required serves.feasible in
          record {
            row = serves.row;
            member = found.2 serves.row serves.member;
            feasible = rw IsFeasibleIn-Choice (
              record { provided = fit.provided; required = rw (← ports.required) inner_fit.required },
              (i, some_of (λ (p : Part). IsFeasibleIn t n p.design f serves.row.required) (slice_get branches i) b e serves.feasible),
            );
            less = rw (required-Choice, ← ports.required) serves.less;
          }

  -- The rows of a net aren't known.
  net_serves : (provides requires_ : List Port) (parts : List Part) (constraints : List Constraint) → Each (λ p. Claim p.design) parts → Claim (Net provides requires_ parts constraints)
  net_serves provides requires_ parts constraints each f r all typed known feasible =
      let wrong : None ≡ Some all = sym (ap (λ (s : Survey). s.rows) (survey-Net t provides requires_ parts constraints)) ∙ known in absurd (cc)

  pub row_serves : (d : Design) → Claim d
  row_serves = for_each_design Claim catalogue_serves choice_serves net_serves
