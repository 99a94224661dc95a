use Rattle.std.proofs.Common.{[], map}
use Rattle.design_lexer.specs.declared.tree.ParamTree.{ParamTree}
use Rattle.name_rules.specs.Twice.{body_repeats, repeats}
use Rattle.order_core.specs.ResultLaws.{on_ok}
use Rattle.name_rules.proofs.NoteLemmas.{noted_both}
use Rattle.name_rules.proofs.file.note_twice_in_file.Goals as goal

pub returns-in_ok-note_twice-in-Template : goal.returns-in_ok-note_twice-in-Template
returns-in_ok-note_twice-in-Template c =
    let of_params = rw c.items-in-Template.ensures at c.in_ok-note_twice-in-Template.ensures in
    rw c.in-Template.is (on_ok _ _ c.note_twice_in_body-in-Template.result
    (noted_both (repeats [] (map (λ (p : ParamTree). p.name) c.in-Template.params)) (body_repeats c.in-Template.body) c.args.first.now c.note_twice-in-Template.new.first c.note_twice_in_body-in-Template.new.first of_params) c.note_twice_in_body-in-Template.ensures)
