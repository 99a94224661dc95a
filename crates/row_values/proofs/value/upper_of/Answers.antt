use Rattle.std.proofs.Common.{◌≡◌, ◌∙◌, ap, sym, subst, ℕ, List, IsTrue}
use Rattle.std.specs.List.{list_all}
use Rattle.std.specs.Prelude.{Some, None, option_and_then, option_map}
use Rattle.design_lexer.specs.declared.tree.ValueTree.{out-ValueTree}
use Rattle.design_lexer.specs.declared.tree.ValueTree.TheVariants.{outs-Upper}
use Rattle.tree_units.specs.ElementLaws.{elements_are}
use Rattle.tree_units.specs.Elements.{elements_named}
use Rattle.order_core.specs.Finite.{is_element}
use Rattle.order_core.specs.MinimalElements.{minimal_of}
use Rattle.row_values.proofs.ValueLemmas.{found_named, unnamed_at}
use Rattle.row_values.specs.Values.{poset_at, upper_meant}
use Rattle.value_type.specs.declared.poset.Poset.{Poset}
use Rattle.value_type.specs.declared.value.Value.TheVariants as value
use Rattle.row_values.proofs.value.upper_of.Goals as goal

pub elements_named-requires : goal.elements_named-requires
elements_named-requires c = found_named c.args.types.now c.args.number c.as_str.result.now c.in-Some.found.now c.requires.types (sym c.in-Some.ensures)

pub returns-in-Err-At : goal.returns-in-Err-At
returns-in-Err-At c =
    let types = c.args.types.now in
    let number = c.args.number in
    let elements = c.in-Upper.elements in
    let poset = c.in-Some.found.now in
    let found : poset_at types number c.in-Upper.poset.name ≡ Some poset = ap (poset_at types number) (sym c.as_str.ensures) ∙ sym c.in-Some.ensures in
    let none : elements_named poset elements ≡ None = ap (elements_named poset) (sym c.items.ensures) ∙ unnamed_at {A = List ℕ} (λ made. Some made ≡ elements_named poset c.items.result.now) poset c.items.result.now c.in-Err-At.field-0 c.in-Err-At.field-0-0 c.in-Err-At.field-0-is c.in-Err-At.ensures in
    ap (upper_meant types number) (ap out-ValueTree c.in-Upper.is ∙ outs-Upper c.in-Upper.poset elements)
    ∙ ap (option_and_then (λ (p : Poset). option_map (λ xs. value.Up (minimal_of p.order.table xs)) (elements_named p elements))) found
    ∙ ap (option_map (λ xs. value.Up (minimal_of poset.order.table xs))) none

pub minimal_of-requires : goal.minimal_of-requires
minimal_of-requires c =
    let poset = c.in-Some.found.now in
    let named = found_named c.args.types.now c.args.number c.as_str.result.now poset c.requires.types (sym c.in-Some.ensures) in
    subst (λ (xs : List ℕ). IsTrue (list_all (is_element poset.order.table) xs)) (sym c.items-2.ensures) (elements_are poset named c.items.result.now c.in-Ok.numbers (sym c.in-Ok.ensures.1))
