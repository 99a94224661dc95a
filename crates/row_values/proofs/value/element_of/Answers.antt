use Rattle.std.proofs.Common.{sym}
use Rattle.row_values.proofs.ValueLemmas.{found_named}
use Rattle.row_values.proofs.value.element_of.Goals as goal

pub element_place-requires : goal.element_place-requires
element_place-requires c = found_named c.args.types.now c.args.number c.as_str.result.now c.in-Some.found.now c.requires.types (sym c.in-Some.ensures)
