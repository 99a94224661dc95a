use Rattle.std.proofs.Common.{◌≡◌, map, drop}
use Rattle.design_lexer.specs.declared.tree.ParamTree.{ParamTree}
use Rattle.fault_list.specs.Faults.{earlier, least}
use Rattle.name_rules.specs.Unknown.{unknown_names}
use Rattle.name_rules.proofs.unknown.file.note_unknown_interfaces.Given as goal

-- What is left decides.
abbrev pub invariant-loop-param : goal.invariant-loop-param
invariant-loop-param g l =
    earlier l.first (least (unknown_names (g.L.Library.known l.library).interface (map (λ (p : ParamTree). p.interface) (drop l.param-index l.params))))
    ≡ earlier l.initial.first (least (unknown_names (g.L.Library.known l.library).interface (map (λ (p : ParamTree). p.interface) l.params)))
