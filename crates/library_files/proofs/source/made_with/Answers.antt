use Rattle.std.proofs.Common.{◌∙◌, ap, subst, Some, Err, List, ℕ}
use Rattle.design_lexer.specs.declared.tree.File.{File}
use Rattle.fault_list.specs.FirstBad.{AnswersBy}
use Rattle.library_files.specs.Parsed.{HasFault, Writes}
use Rattle.library_files.proofs.ParsedLemmas.{fault_in_file, made_source, made_table}
use Rattle.library_files.proofs.source.made_with.Goals as goal

pub returns-in-Ok : goal.returns-in-Ok
returns-in-Ok c =
    made_source c.args.file.name c.args.file.bytes c.args.stem c.in-Tree.kind c.in-Ok.tree c.requires.stem (c.requires.ending ∙ ap (λ e. Some e) c.in-Tree.is)
    (subst (λ (bytes : List ℕ). Writes c.in-Tree.kind bytes c.in-Ok.tree) c.items.ensures c.in-Ok.ensures)

pub returns-in-Err : goal.returns-in-Err
returns-in-Err c =
    fault_in_file c.args.file.name c.args.file.bytes c.in-Tree.kind c.in-Err.stop c.in_file.result (c.requires.ending ∙ ap (λ e. Some e) c.in-Tree.is)
    (subst (λ (bytes : List ℕ). AnswersBy {A = File} (Writes c.in-Tree.kind bytes) (HasFault c.in-Tree.kind bytes) (Err c.in-Err.stop)) c.items.ensures c.in-Err.ensures) c.in_file.ensures

pub returns-in-Table : goal.returns-in-Table
returns-in-Table c = made_table c.args.file.name c.args.file.bytes c.args.stem c.requires.stem (c.requires.ending ∙ ap (λ e. Some e) c.in-Table.is)
