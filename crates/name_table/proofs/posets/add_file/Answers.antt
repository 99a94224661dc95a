use Rattle.std.proofs.Common.{◌∙◌, ap}
use Rattle.design_lexer.specs.declared.tree.File.{File}
use Rattle.fault_list.specs.AnswersLaws.{passed_left}
use Rattle.fault_list.specs.Faults.{in_file}
use Rattle.name_table.proofs.PosetLemmas.{poset_added}
use Rattle.name_table.specs.NameFaults.{spelling_faults}
use Rattle.name_table.specs.Orders.{poset_faults}
use Rattle.name_table.specs.Stems.{known_by}
use Rattle.name_table.proofs.posets.add_file.Goals as goal

pub returns-in_ok-push-in-Poset : goal.returns-in_ok-push-in-Poset
returns-in_ok-push-in-Poset c = λ before h.
    let f = c.args.file.now in
    let spelled = in_file f.name (spelling_faults (known_by c.args.library.now) f) in (
      passed_left spelled (in_file f.name (poset_faults f.tree)) c.in_ok-check_spelling.ensures.0 ∙ ap (λ (t : File). in_file f.name (poset_faults t)) c.in-Poset.is ∙ c.in_ok-poset-in-Poset.ensures.0,
      rw c.in_ok-push-in-Poset.ensures.items (poset_added before f c.args.posets.now.items h c.in-Poset.tree c.in_ok-poset-in-Poset.poset c.in-Poset.is c.in_ok-poset-in-Poset.ensures.1),
    )
