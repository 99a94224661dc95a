use Rattle.std.proofs.Common.{sym, subst, ℕ, List, IsTrue}
use Rattle.std.specs.List.{list_all}
use Rattle.order_core.specs.Finite.{is_element}
use Rattle.order_core.specs.MemberLaws.{all_got}
use Rattle.tree_units.specs.ElementLaws.{elements_are}
use Rattle.value_type.specs.Types.{has_names}
use Rattle.expr_lower.proofs.literal.upper_of.Goals as goal

pub elements_named-requires : goal.elements_named-requires
elements_named-requires c = all_got has_names c.args.types.now.posets c.in_ok-number.number c.in_ok-number.found.now c.in_ok-number.ensures.1.1 c.requires.types.names

pub minimal_of-requires : goal.minimal_of-requires
minimal_of-requires c =
    let named : IsTrue (has_names c.in_ok-number.found.now) =
    all_got has_names c.args.types.now.posets c.in_ok-number.number c.in_ok-number.found.now c.in_ok-number.ensures.1.1 c.requires.types.names in
    subst (λ (xs : List ℕ). IsTrue (list_all (is_element c.in_ok-number.found.now.order.table) xs)) (sym c.items.ensures)
    (elements_are c.in_ok-number.found.now named c.args.elements.now c.in_ok-numbers.numbers (sym c.in_ok-numbers.ensures.1))
