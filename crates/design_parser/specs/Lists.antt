-- The items that the lists of a net have.
use Rattle.design_parser.specs.declared.parts.NetLists.{NetLists}
use Rattle.design_parser.specs.Trees.{Items}

abbrev pub lists_of : NetLists → Items
lists_of l = record { ports = l.ports.items; parts = l.parts.items; rules = l.rules.items }
