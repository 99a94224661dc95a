-- An element that has a name is one of its poset, and names are elements exactly where none is unknown.
use Rattle.std.proofs.Common.{◌≡◌, refl, subst, arith, ℕ, List, [], ◌∷◌, length, IsTrue}
use Rattle.std.proofs.lemmas.Bool.{eqb-true, lt-ltb}
use Rattle.std.specs.List.{list_all}
use Rattle.std.specs.Prelude.{Option, Some, None}
use Rattle.std.specs.Str.{bytes_eq}
use Rattle.design_lexer.specs.declared.tree.NameAt.{NameAt}
use Rattle.fault_list.specs.Faults.{fault_unless}
use Rattle.name_index.specs.PlaceLaws.{position_below}
use Rattle.order_core.specs.Finite.{is_element}
use Rattle.order_core.specs.MemberLaws.{both}
use Rattle.order_core.specs.PointwiseLaws.{each_made}
use Rattle.tree_units.specs.DecidedLaws.{IsDecided, all_decided, sure}
use Rattle.tree_units.specs.Elements.{element_place, elements_named, unknown, unknown_elements}
use Rattle.tree_units.specs.Together.{with_first}
use Rattle.value_type.specs.Types.{has_names}
use Rattle.value_type.specs.declared.poset.Poset.{Poset}

module _ (poset : Poset) (named : IsTrue (has_names poset)) where
  pub element_is : (name : List ℕ) (x : ℕ) → element_place poset name ≡ Some x → IsTrue (is_element poset.order.table x)
  element_is name x e =
      let within = position_below (λ n. bytes_eq name n) 0 poset.elements x e in
      let same : length poset.elements ≡ length poset.order.table = eqb-true _ _ named in lt-ltb x (length poset.order.table) (omega arith)

  one_more : (name : List ℕ) (xs : List ℕ) (o : Option ℕ) (q : Option (List ℕ)) → element_place poset name ≡ o → ((ys : List ℕ) → q ≡ Some ys → IsTrue (list_all (is_element poset.order.table) ys))
      → with_first o q ≡ Some xs → IsTrue (list_all (is_element poset.order.table) xs)
  one_more name xs (Some y) (Some ys) e later h =
      let same : y ∷ ys ≡ xs = cc in
      subst (λ (zs : List ℕ). IsTrue (list_all (is_element poset.order.table) zs)) same (both _ _ (element_is name y e) (later ys refl))
  one_more name xs (Some y) None e later h = absurd (cc)
  one_more name xs None q e later h = absurd (cc)

  pub elements_are : (names : List NameAt) (xs : List ℕ) → elements_named poset names ≡ Some xs → IsTrue (list_all (is_element poset.order.table) xs)
  elements_are [] xs e = let same : [] ≡ xs = cc in subst (λ (zs : List ℕ). IsTrue (list_all (is_element poset.order.table) zs)) same refl
  elements_are (name ∷ names) xs e = one_more name.name xs (element_place poset name.name) (elements_named poset names) refl (elements_are names) e

-- Elements have numbers exactly where none of them is unknown.
pub elements_decided : (p : Poset) (elements : List NameAt) → IsDecided (unknown_elements p elements) (elements_named p elements)
elements_decided p elements =
    all_decided (λ name. fault_unless (element_place p name.name) (unknown name)) (λ name. element_place p name.name) elements
    (each_made _ elements (λ name m. sure (element_place p name.name) (unknown name)))
