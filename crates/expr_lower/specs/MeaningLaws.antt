-- Expressions have meanings exactly where they have no faults.
use Rattle.std.proofs.Common.{refl, sym, subst, ℕ, Bool, true, false, List, [], ◌∷◌, ◌++◌}
use Rattle.std.specs.Prelude.{cond, map, not, Option, Some, None, option_and_then, option_map, slice_get}
use Rattle.design_lexer.specs.declared.tree.ConstantTree.{ConstantTree}
use Rattle.design_lexer.specs.declared.tree.ExprTree.{ExprTree, map-ExprTree, roll-ExprTree}
use Rattle.design_lexer.specs.declared.tree.ExprTree.TheFolds.{ind-ExprTree}
use Rattle.design_lexer.specs.declared.tree.ExprTree.TheOpen.{ExprTree-F}
use Rattle.design_lexer.specs.declared.tree.ExprTree.TheVariants as tree
use Rattle.design_lexer.specs.declared.tree.NameAt.{NameAt}
use Rattle.design_lexer.specs.declared.tree.PlaceTree.{PlaceTree}
use Rattle.design_model.specs.declared.expr.Expr.{Expr}
use Rattle.design_model.specs.declared.expr.Expr.TheVariants as expr
use Rattle.expr_lower.specs.Literals.{element_in, literal_faults, of_poset, unknown_names, upper_in}
use Rattle.expr_lower.specs.Meanings.{common_dim, dimension, dims_product, joining_of, lowered, times}
use Rattle.expr_lower.specs.Operands.{exponent_faults, joining_faults, mismatch, times_faults, unlike_dims}
use Rattle.expr_lower.specs.Reading.{Reading, constant_read, element_read, faults_of_both, joining_read, meaning_of_both, port_read, product_read, reading, tuple_of, tuple_read, upper_read}
use Rattle.expr_lower.specs.ReadingLaws.{reading-Constant, reading-Element, reading-Greatest, reading-Lesser, reading-Place, reading-Product, reading-Sum, reading-Tuple, reading-Upper}
use Rattle.expr_lower.specs.declared.meaning.Lower.{Lower}
use Rattle.expr_lower.specs.declared.meaning.Meaning.{Meaning}
use Rattle.expr_lower.specs.declared.meaning.Meaning.TheVariants as meaning
use Rattle.fault_list.specs.Faults.{fault_if, fault_unless}
use Rattle.fault_list.specs.FaultLaws.{none_left}
use Rattle.fault_list.specs.RestLaws.{none_right}
use Rattle.fault_list.specs.declared.fault.Fault.{Fault}
use Rattle.order_core.specs.Pointwise.{Each}
use Rattle.tree_units.specs.Constants.{constant_of, dim_product, product_of}
use Rattle.tree_units.specs.ConstantLaws.{constant_faultless, constant_meaning, product_faultless, product_meaning}
use Rattle.tree_units.specs.DecidedLaws.{IsDecided, all_decided, made, none_both, sure}
use Rattle.tree_units.specs.ElementLaws.{elements_decided}
use Rattle.tree_units.specs.Elements.{element_place, elements_named, unknown, unknown_elements}
use Rattle.tree_units.specs.Posets.{poset_place}
use Rattle.unit_core.specs.Dimension.{same_dim}
use Rattle.unit_core.specs.declared.dim.Dim.{Dim}
use Rattle.value_type.specs.declared.poset.Poset.{Poset}
use Rattle.value_type.specs.declared.poset.Types.{Types}

abbrev IsDecidedRead : Reading → Type 0
IsDecidedRead read = IsDecided read.faults read.meaning

constant_decided : (c : ConstantTree) → IsDecidedRead (constant_read c)
constant_decided c = made meaning.Constant _ (constant_of c) (record { there = constant_meaning c; faultless = constant_faultless c })

port_decided : (place : PlaceTree) (port : Option Lower) → IsDecidedRead (port_read place port)
port_decided place port = made meaning.Expression _ port (sure port _)

literal_decided : (types : Types) (poset : NameAt) (names : List NameAt) (value : ℕ → Poset → Option Lower) → ((k : ℕ) (p : Poset) → IsDecided (unknown_elements p names) (value k p))
    → IsDecided (literal_faults types poset names) (of_poset types poset.name value)
literal_decided types poset names value d = go (poset_place types poset.name)
  where
    at : (k : ℕ) (o : Option Poset) → IsDecided (unknown_names poset o names) (option_and_then (value k) o)
    at k (Some p) = d k p
    at k None = record { there = λ e. absurd (cc); faultless = λ y e. absurd (cc) }

    go : (o : Option ℕ) → IsDecided (unknown_names poset (option_and_then (slice_get types.posets) o) names) (option_and_then (λ k. option_and_then (value k) (slice_get types.posets k)) o)
    go (Some k) = at k (slice_get types.posets k)
    go None = record { there = λ e. absurd (cc); faultless = λ y e. absurd (cc) }

element_decided : (types : Types) (poset element : NameAt) → IsDecidedRead (element_read types poset element)
element_decided types poset element =
    made meaning.Expression _ _ (literal_decided types poset (element ∷ []) (element_in element.name) (λ k p. made _ _ (element_place p element.name) (go (element_place p element.name))))
  where
    go : (o : Option ℕ) → IsDecided (fault_unless o (unknown element) ++ []) o
    go (Some x) = record { there = λ e. (x, refl); faultless = λ y e. refl }
    go None = record { there = λ e. absurd (cc); faultless = λ y e. absurd (cc) }

upper_decided : (types : Types) (poset : NameAt) (elements : List NameAt) → IsDecidedRead (upper_read types poset elements)
upper_decided types poset elements = made meaning.Expression _ _ (literal_decided types poset elements (upper_in elements) (λ k p. made _ _ (elements_named p elements) (elements_decided p elements)))

-- An operator is decided where its operands are, and it is for operands that have a meaning.
operator_decided : (faults : Meaning → Meaning → List Fault) (value : Meaning → Meaning → Option Meaning) → ((a b : Meaning) → IsDecided (faults a b) (value a b))
    → (left right : List Fault) (x y : Option Meaning) → IsDecided left x → IsDecided right y → IsDecided (left ++ right ++ faults_of_both faults x y) (meaning_of_both value x y)
operator_decided faults value d left right (Some a) (Some b) dx dy = record {
  there = λ e. (d a b).there (none_right (left ++ right) (faults a b) e);
  faultless = λ m e. none_both (left ++ right) (faults a b) (none_both left right (dx.faultless a refl) (dy.faultless b refl)) ((d a b).faultless m e);
}
operator_decided faults value d left right (Some a) None dx dy = record {
  there = λ e. let none = dy.there (none_right left right (none_left (left ++ right) [] e)) in absurd (cc);
  faultless = λ m e. absurd (cc);
}
operator_decided faults value d left right None y dx dy = record {
  there = λ e. let none = dx.there (none_left left right (none_left (left ++ right) [] e)) in absurd (cc);
  faultless = λ m e. absurd (cc);
}

joining_decided : (left right : ℕ) (joined : Expr → Expr → Expr) (a b : Meaning) → IsDecided (joining_faults left right a b) (joining_of joined a b)
joining_decided left right joined a b = made _ _ (common_dim (dimension a) (dimension b)) (go (dimension a) (dimension b))
  where
    same : (x y : Dim) (t : Bool) → IsDecided (fault_if (not t) (mismatch right)) (cond t (Some x) None)
    same x y true = record { there = λ e. (x, refl); faultless = λ z e. refl }
    same x y false = record { there = λ e. absurd (cc); faultless = λ z e. absurd (cc) }

    go : (o q : Option Dim) → IsDecided (fault_unless o (mismatch left) ++ fault_unless q (mismatch right) ++ unlike_dims right o q) (common_dim o q)
    go (Some x) (Some y) = same x y (same_dim x y)
    go (Some x) None = record { there = λ e. absurd (cc); faultless = λ z e. absurd (cc) }
    go None q = record { there = λ e. absurd (cc); faultless = λ z e. absurd (cc) }

number_decided : (at left right : ℕ) (a b : Option Dim) → IsDecided (fault_unless a (mismatch left) ++ fault_unless b (mismatch right) ++ exponent_faults at a b) (dims_product a b)
number_decided at left right (Some x) (Some y) = sure (dim_product x y) _
number_decided at left right (Some x) None = record { there = λ e. absurd (cc); faultless = λ z e. absurd (cc) }
number_decided at left right None b = record { there = λ e. absurd (cc); faultless = λ z e. absurd (cc) }

times_decided : (at left right : ℕ) (a b : Meaning) → IsDecided (times_faults at left right a b) (times a b)
times_decided at left right (meaning.Constant a) (meaning.Constant b) = made meaning.Constant _ (product_of a b) (record { there = product_meaning at a b; faultless = product_faultless at a b })
times_decided at left right (meaning.Constant a) (meaning.Expression b) =
    made _ _ (dims_product (Some a.dim) (dimension (meaning.Expression b))) (number_decided at left right (Some a.dim) (dimension (meaning.Expression b)))
times_decided at left right (meaning.Expression a) (meaning.Constant b) =
    made _ _ (dims_product (dimension (meaning.Expression a)) (Some b.dim)) (number_decided at left right (dimension (meaning.Expression a)) (Some b.dim))
times_decided at left right (meaning.Expression a) (meaning.Expression b) =
    made _ _ (dims_product (dimension (meaning.Expression a)) (dimension (meaning.Expression b))) (number_decided at left right (dimension (meaning.Expression a)) (dimension (meaning.Expression b)))

module _ (types : Types) (ports : PlaceTree → Option Lower) where
  abbrev Claim : ExprTree → Type 0
  Claim tree = IsDecidedRead (reading types ports tree)

  abbrev Claimed : Type 0
  Claimed = (tree : ExprTree) × Claim tree

  joining_case : (joined : Expr → Expr → Expr) (at : ℕ) (a b : Claimed) → IsDecidedRead (joining_read joined at (reading types ports a.0) (reading types ports b.0))
  joining_case joined at a b = operator_decided _ (joining_of joined) (joining_decided _ _ joined) _ _ (reading types ports a.0).meaning (reading types ports b.0).meaning a.1 b.1

  product_case : (at : ℕ) (a b : Claimed) → IsDecidedRead (product_read at (reading types ports a.0) (reading types ports b.0))
  product_case at a b = operator_decided _ times (times_decided at _ _) _ _ (reading types ports a.0).meaning (reading types ports b.0).meaning a.1 b.1

  each_part : (es : List Claimed) → Each (λ (part : Reading). IsDecided part.faults (option_map lowered part.meaning)) (map (reading types ports) (map (λ e. e.0) es))
  each_part [] = tt
  each_part (e ∷ es) = (made lowered _ (reading types ports e.0).meaning e.1, each_part es)

  tuple_case : (es : List Claimed) (at : ℕ) → IsDecidedRead (tuple_read at (map (reading types ports) (map (λ e. e.0) es)))
  tuple_case es at = made (λ ls. meaning.Expression (tuple_of ls)) _ _ (all_decided (λ (part : Reading). part.faults) (λ part. option_map lowered part.meaning) (map (reading types ports) (map (λ e. e.0) es)) (each_part es))

  at_form : (y : ExprTree-F Claimed) → Claim (roll-ExprTree (map-ExprTree Claimed ExprTree (λ e. e.0) y))
  at_form (ExprTree-F.Constant c) = subst Claim (sym (tree.rolls-Constant c)) (subst IsDecidedRead (sym (reading-Constant types ports c)) (constant_decided c))
  at_form (ExprTree-F.Place place) = subst Claim (sym (tree.rolls-Place place)) (subst IsDecidedRead (sym (reading-Place types ports place)) (port_decided place (ports place)))
  at_form (ExprTree-F.Element poset element) =
      subst Claim (sym (tree.rolls-Element poset element)) (subst IsDecidedRead (sym (reading-Element types ports poset element)) (element_decided types poset element))
  at_form (ExprTree-F.Upper poset elements) = subst Claim (sym (tree.rolls-Upper poset elements)) (subst IsDecidedRead (sym (reading-Upper types ports poset elements)) (upper_decided types poset elements))
  at_form (ExprTree-F.Sum a b at) = subst Claim (sym (tree.rolls-Sum a.0 b.0 at)) (subst IsDecidedRead (sym (reading-Sum types ports a.0 b.0 at)) (joining_case expr.Sum at a b))
  at_form (ExprTree-F.Product a b at) = subst Claim (sym (tree.rolls-Product a.0 b.0 at)) (subst IsDecidedRead (sym (reading-Product types ports a.0 b.0 at)) (product_case at a b))
  at_form (ExprTree-F.Greatest a b at) = subst Claim (sym (tree.rolls-Greatest a.0 b.0 at)) (subst IsDecidedRead (sym (reading-Greatest types ports a.0 b.0 at)) (joining_case expr.Greatest at a b))
  at_form (ExprTree-F.Lesser a b at) = subst Claim (sym (tree.rolls-Lesser a.0 b.0 at)) (subst IsDecidedRead (sym (reading-Lesser types ports a.0 b.0 at)) (joining_case expr.Lesser at a b))
  at_form (ExprTree-F.Tuple es at) =
      subst Claim (sym (tree.rolls-Tuple (map (λ e. e.0) es) at)) (subst IsDecidedRead (sym (reading-Tuple types ports (map (λ e. e.0) es) at)) (tuple_case es at))

  pub reading_decided : (tree : ExprTree) → IsDecided (reading types ports tree).faults (reading types ports tree).meaning
  reading_decided = ind-ExprTree Claim (λ x y is. subst (λ z. Claim (roll-ExprTree z)) is (at_form y))
