use Rattle.std.proofs.Common.{map}
use Rattle.design_lexer.specs.declared.tree.ParamTree.{ParamTree}
use Rattle.name_rules.specs.Unknown.{body_unknown, unknown_names}
use Rattle.order_core.specs.ResultLaws.{on_ok}
use Rattle.name_rules.proofs.NoteLemmas.{noted_both}
use Rattle.name_rules.proofs.unknown.file.note_unknown_in_file.Goals as goal

pub returns-in-Template : goal.returns-in-Template
returns-in-Template g c =
    let known = g.L.Library.known c.args.library.now in
    let interfaces = unknown_names known.interface (map (λ (p : ParamTree). p.interface) c.in-Template.params) in
    let of_params = rw c.items-in-Template.ensures at c.note_unknown_interfaces.ensures in
    let of_body = rw c.items-in-Template-2.ensures at c.note_unknown_in_body-in-Template.ensures in
    rw c.in-Template.is (on_ok _ _ c.note_unknown_in_body-in-Template.result
    (noted_both interfaces (body_unknown known c.in-Template.params c.in-Template.body) c.args.first.now c.note_unknown_interfaces.new.first c.note_unknown_in_body-in-Template.new.first of_params) of_body)
