-- The loop that climbs once: it is typed, its height is 1, and it isn't steady in 2 rounds.
use Rattle.std.specs.Prelude.{◌≡◌, ℕ, zero, suc, not, codes, IsTrue, IsSomeAnd, filter, filter_map, map, length, [], ◌∷◌, Option, Some, option_map, slice_get}
use Rattle.std.proofs.Common.{refl, ap, ◌∙◌, arith, inl, inr}
use Rattle.order_core.specs.declared.num.Num.{Num as Number}
use Rattle.order_core.specs.declared.num.Num.TheVariants as number
use Rattle.order_core.specs.MemberLaws.{both}
use Rattle.order_core.specs.Num as numeric
use Rattle.order_core.specs.NumLaws as numeric_laws
use Rattle.value_type.specs.declared.value.Value.TheVariants as value
use Rattle.value_type.specs.Forms.{number_value}
use Rattle.value_type.specs.PortKinds.{port_kinds}
use Rattle.design_model.specs.declared.design.CatRow.{CatRow}
use Rattle.design_model.specs.declared.expr.Expr.TheVariants as expr
use Rattle.design_model.specs.ExprLaws as laws
use Rattle.design_model.specs.Heights.{Survey, height, net_height, values_at, sum_all, count_numbers, different, is_zero}
use Rattle.design_model.specs.HeightsLaws.{of_part, survey-Cat}
use Rattle.design_model.specs.Holds.{RowHolds}
use Rattle.design_model.specs.NumberLaws.{number_back}
use Rattle.design_model.specs.PartsLaws.{provided-Cat, required-Cat}
use Rattle.design_model.specs.Rounds.{IsFeasibleIn}
use Rattle.design_model.specs.RoundsLaws.{IsFeasibleIn-Cat}
use Rattle.design_model.specs.Rows.{Row}
use Rattle.design_model.specs.Steady.{design_of, wiring}
use Rattle.design_model.specs.SteadyLaws.{EndsIn, IsSteadyIn}
use Rattle.design_model.specs.Typed.{IsTyped}
use Rattle.design_model.specs.TypedLaws.{IsTyped-Cat, IsTyped-Net}
use Rattle.design_model.specs.Wiring.{readable}
use Rattle.design_model.specs.ValueOf.{Reads, value_of}
use Rattle.design_model.specs.KindFoldLaws.{height-Num}
use Rattle.model_examples.proofs.NumberRowsLemmas.{counts_fit, counts_leq, one_leq}
use Rattle.model_examples.specs.Once.{maker_provides, maker_requires, maker_rows, maker, once}
use Rattle.model_examples.proofs.SuccessorLaws.{number_port_is, numbers_form}
use Rattle.model_examples.specs.Words.{no_types, no_dim, numbers, counts}
use Rattle.model_examples.proofs.Loops as nets
use Rattle.model_examples.proofs.NumberLoops as loops

abbrev loop : nets.Loop numbers
loop = record {
  provides = [];
  requires_ = [];
  name = codes "c";
  inner = maker;
  inner_provides = ap port_kinds (provided-Cat maker_provides maker_requires maker_rows);
  inner_requires = ap port_kinds (required-Cat maker_provides maker_requires maker_rows);
  asked = expr.Inner 0 0;
  asked_reads = λ test. laws.reads-Inner test 0 0;
  own = [];
}

abbrev asks : Number → Number
asks z = z

abbrev nothing : Row
nothing = []

asks_is : (reads : Reads) (z : Number) → reads.own ≡ slice_get nothing → reads.inner 0 0 ≡ Some (number_value z) → value_of (expr.Inner 0 0) reads ≡ Some (number_value z)
asks_is reads z own inner = laws.value-Inner 0 0 reads ∙ inner

zero_for_one : IsFeasibleIn no_types 2 maker (counts (0 ∷ [])) (counts (1 ∷ []))
zero_for_one = rw IsFeasibleIn-Cat (record { provided = counts_fit (0 ∷ []); required = counts_fit (1 ∷ []) }, (0, record { enough = counts_leq (0 ∷ []) (0 ∷ []); within = counts_leq (1 ∷ []) (1 ∷ []) }))

only_row : (x y : Number) (i : ℕ) → IsSomeAnd (slice_get maker_rows i) (RowHolds no_types maker_provides maker_requires (number_value x ∷ []) (number_value y ∷ []))
    → IsTrue (numeric.number_leq x (number.Count 0)) × IsTrue (numeric.number_leq (number.Count 1) y)
only_row x y zero h = (one_leq x (number.Count 0) h.enough, one_leq (number.Count 1) y h.within)
only_row x y (suc i) h = absurd h

makes : (x y : Number) → IsFeasibleIn no_types 2 maker (number_value x ∷ []) (number_value y ∷ []) → IsTrue (numeric.number_leq x (number.Count 0)) × IsTrue (numeric.number_leq (number.Count 1) y)
makes x y h = let made = (rw IsFeasibleIn-Cat at h).1 in only_row x y made.0 made.1

-- From 0 a step leads to 1.
one_ends : EndsIn no_types 2 once [] 1 (counts (1 ∷ []))
one_ends = loops.longer loop [] asks asks_is 2 0 (number.Count 0) (number.Count 1) [] [] (number.Count 0) (number.Count 1)
    (rw loops.states_are (counts_fit (0 ∷ []))) (counts_fit (0 ∷ [])) (counts_fit (1 ∷ [])) (counts_leq (0 ∷ []) (1 ∷ []))
    (record { feasible = zero_for_one; asked = refl; covered = refl; own_hold = tt })

-- A step leads to 1 or more, and from 0. So no chain has two steps.
no_two : EndsIn no_types 2 once [] 2 (counts (1 ∷ [])) → ⊥
no_two chain =
    let last = loops.last_step loop [] asks asks_is 2 1 (number.Count 1) [] chain in
    let before = loops.last_step loop [] asks asks_is 2 0 last.cut last.before last.ends in
    let high = (makes last.given last.needed last.step.feasible).0 in
    let low = (makes before.given before.needed before.step.feasible).1 in
    let laws = numeric_laws.number_laws in
    let from = laws.transitive last.cut last.given (number.Count 0) last.cut_valid last.given_valid refl last.step.asked high in
    let to = laws.transitive (number.Count 1) before.needed last.cut refl before.needed_valid last.cut_valid low before.step.covered in
    let wrong = laws.transitive (number.Count 1) last.cut (number.Count 0) refl last.cut_valid refl to from in
    cc

pub once_moves : IsSteadyIn no_types 2 once [] → ⊥
once_moves (inl none) = nets.is_cut_somewhere loop none
once_moves (inr last) = no_two (last (counts (1 ∷ [])) one_ends)

-- One number besides zero is required.
known_is : values_at (map (of_part no_types) once.parts) (nets.the_signal numbers) ≡ Some (value.Num 1 ∷ [])
known_is = ap (λ (s : Survey). option_map (λ rows. filter_map (λ (r : CatRow). slice_get r.required 0) rows) s.rows) (survey-Cat no_types maker_provides maker_requires maker_rows)

one_number : count_numbers (value.Num 1 ∷ []) ≡ 1
one_number = ap (λ (o : Option Number). length (different (filter (λ x. not (is_zero x)) (filter_map (λ (q : Option Number). q) (o ∷ []))))) (number_back (number.Count 1))

pub once_height : net_height no_types (wiring once) (map (of_part no_types) once.parts) ≡ Some 1
once_height =
    nets.height_is loop no_types
    ∙ ap (λ (o : Option ℕ). sum_all (o ∷ [])) (ap (height no_types numbers) known_is ∙ (height-Num no_types no_dim (Some (value.Num 1 ∷ [])) ∙ ap (λ (n : ℕ). Some n) one_number))

maker_typed : IsTyped no_types maker
maker_typed = rw IsTyped-Cat (record {
  provided_ports = record { few = omega arith; each = both _ _ (number_port_is (codes "x")) refl };
  required_ports = record { few = omega arith; each = both _ _ (number_port_is (codes "y")) refl };
  few_rows = omega arith;
  rows_fit = both _ _ (both _ _ (counts_fit (0 ∷ [])) (counts_fit (1 ∷ []))) refl;
})

pub once_typed : IsTyped no_types (design_of once)
once_typed = rw IsTyped-Net (record {
  provided_ports = record { few = omega arith; each = refl };
  required_ports = record { few = omega arith; each = refl };
  few_parts = omega arith;
  few_constraints = omega arith;
  each_constraint = nets.constraints_typed loop no_types (record { kind = numbers; greater = refl; lower = laws.kind-Inner no_types (readable (nets.wired loop)) 0 0 numbers ∙ numbers_form }, tt);
  typed = (maker_typed, tt);
})
