use Rattle.order_core.specs.MemberLaws.{all_got}
use Rattle.value_type.specs.Types.{has_names}
use Rattle.expr_lower.proofs.literal.element_of.Goals as goal

pub element_place-requires : goal.element_place-requires
element_place-requires c = all_got has_names c.args.types.now.posets c.in_ok-number.number c.in_ok-number.found.now c.in_ok-number.ensures.1.1 c.requires.types.names
