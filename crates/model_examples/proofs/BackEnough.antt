-- The loop over a poset is typed, and 4 rounds are enough for it.
use Rattle.std.specs.Prelude.{◌≡◌, ◌+◌, ℕ, codes, IsTrue, map, List, [], ◌∷◌, Option, Some, option_map}
use Rattle.std.proofs.Common.{refl, ap, ◌∙◌, arith, inl}
use Rattle.order_core.specs.Finite.{is_element}
use Rattle.order_core.specs.MemberLaws.{both}
use Rattle.value_type.specs.declared.kind.Kind.TheFolds.{fold_out-Kind}
use Rattle.value_type.specs.declared.kind.Kind.TheVariants as kind
use Rattle.value_type.specs.declared.port.PortUnit.TheVariants as unit
use Rattle.value_type.specs.declared.value.Value.TheVariants.{El}
use Rattle.value_type.specs.PortKinds.{port_kinds}
use Rattle.design_model.specs.declared.expr.Expr.TheVariants as expr
use Rattle.design_model.specs.ExprKinds.{has_form}
use Rattle.design_model.specs.ExprLaws as laws
use Rattle.design_model.specs.Feasible.{IsMinimum}
use Rattle.design_model.specs.Heights.{Survey, surveyed, greatest, net_height, values_at, sum_all, enough_rounds}
use Rattle.design_model.specs.HeightsLaws.{of_part, survey-Cat, survey-Net, surveyed_is}
use Rattle.design_model.specs.PartsLaws.{provided-Cat, required-Cat}
use Rattle.design_model.specs.Typed.{IsTyped, is_port, row_is_typed}
use Rattle.design_model.specs.TypedLaws.{IsTyped-Cat, IsTyped-Net}
use Rattle.design_model.specs.Wiring.{Wiring, readable}
use Rattle.design_model.specs.KindFoldLaws.{known-Fin, height-Fin}
use Rattle.value_type.specs.SameFormLaws.{same_form_itself}
use Rattle.model_examples.specs.Back.{poset, types, row, t, maker_provides, maker_requires, maker_rows, maker, requires_, parts, constraints, back}
use Rattle.model_examples.proofs.BackLemmas.{back_gives_t}
use Rattle.model_examples.specs.Elements.{elements, element_port}
use Rattle.model_examples.proofs.ElementsLemmas.{element_fits}
use Rattle.model_examples.proofs.Loops as nets

abbrev loop : nets.Loop elements
loop = record {
  provides = [];
  requires_ = requires_;
  name = codes "c";
  inner = maker;
  inner_provides = ap port_kinds (provided-Cat maker_provides maker_requires maker_rows);
  inner_requires = ap port_kinds (required-Cat maker_provides maker_requires maker_rows);
  asked = expr.Inner 0 0;
  asked_reads = λ test. laws.reads-Inner test 0 0;
  own = (0, expr.Inner 0 0) ∷ [];
}

-- Three elements rise twice at most.
height_is : net_height types (surveyed [] requires_ (map (of_part types) parts) constraints) (map (of_part types) parts) ≡ Some 2
height_is =
    ap (λ (net : Wiring). net_height types net (map (of_part types) parts)) (surveyed_is types [] requires_ parts constraints)
    ∙ (nets.height_is loop types ∙ ap (λ (o : Option ℕ). sum_all (o ∷ [])) (height-Fin types 0 (values_at (map (of_part types) parts) (nets.the_signal elements))))

pub enough_is : enough_rounds types back ≡ Some 4
enough_is =
    ap (λ (s : Survey). s.enough) (survey-Net types [] requires_ parts constraints)
    ∙ (ap (λ (h : Option ℕ). greatest 1 (option_map (λ n. n + 2) h ∷ map (λ (s : Survey). s.enough) (map (of_part types) parts))) height_is
    ∙ ap (λ (s : Survey). greatest 1 (Some 4 ∷ s.enough ∷ [])) (survey-Cat types maker_provides maker_requires maker_rows))

port_is : (name : List ℕ) → IsTrue (is_port types (element_port name))
port_is name = both _ _ (known-Fin types 0) (rw (fold_out-Kind, kind.outs-Fin) (rw unit.outs-Poset refl))

own_form : IsTrue (has_form (Some elements) elements)
own_form = same_form_itself elements

row_typed : (x y : ℕ) → IsTrue (is_element poset.order.table x) → IsTrue (is_element poset.order.table y) → IsTrue (row_is_typed types maker_provides maker_requires (row (codes "r") (El x) (El y)))
row_typed x y x_is y_is = both _ _ (both _ _ (element_fits poset x ∙ x_is) refl) (both _ _ (element_fits poset y ∙ y_is) refl)

maker_typed : IsTyped types maker
maker_typed = rw IsTyped-Cat (record {
  provided_ports = record { few = omega arith; each = both _ _ (port_is (codes "x")) refl };
  required_ports = record { few = omega arith; each = both _ _ (port_is (codes "y")) refl };
  few_rows = omega arith;
  rows_fit = both _ _ (row_typed 0 1 refl refl) (both _ _ (row_typed 1 0 refl refl) (both _ _ (row_typed 2 2 refl refl) refl));
})

pub back_typed : IsTyped types back
back_typed = rw IsTyped-Net (record {
  provided_ports = record { few = omega arith; each = refl };
  required_ports = record { few = omega arith; each = both _ _ (port_is (codes "out")) refl };
  few_parts = omega arith;
  few_constraints = omega arith;
  each_constraint = nets.constraints_typed loop types (
    record { kind = elements; greater = refl; lower = laws.kind-Inner types (readable (nets.wired loop)) 0 0 elements ∙ own_form },
    (record { kind = elements; greater = refl; lower = laws.kind-Inner types (readable (nets.wired loop)) 0 0 elements ∙ own_form }, tt),
  );
  typed = (maker_typed, tt);
})

pub minimum_is : IsMinimum types back [] (t ∷ [])
minimum_is = (back_gives_t.exact (t ∷ [])).0 (inl refl)
