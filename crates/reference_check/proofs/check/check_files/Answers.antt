use Rattle.std.proofs.Common.{◌≡◌, ◌<◌, ◌∙◌, ◌+◌, ap, drop, get_or, length, map, List, subst}
use Rattle.std.proofs.lemmas.Result.{err_from_is_err_and}
use Rattle.std.specs.List.{flat_map}
use Rattle.fault_list.specs.AnswersLaws.{stopped_left}
use Rattle.fault_list.specs.Faults.{in_file}
use Rattle.fault_list.specs.RestLaws.{rest_next}
use Rattle.name_table.specs.declared.source.SourceFile.{SourceFile}
use Rattle.reference_check.specs.LibraryFronts.{front_of, library_faults, tree_faults, wanted_of}
use Rattle.unit_check.specs.Declaring.{params_of}
use Rattle.reference_check.proofs.check.check_files.Goals as goal

pub returns-in_err-check_file : goal.returns-in_err-check_file
returns-in_err-check_file c =
    let files = c.args.names.now.files in
    let types = c.args.names.now.types in
    let k = c.loop-number.number in
    let f = c.file-item.result in
    let inside = subst (λ (fs : List SourceFile). k < length fs) c.items-file-items.ensures c.loop-number-test.true in
    let is : f ≡ get_or files k f = c.file-item.is ∙ ap (λ (fs : List SourceFile). get_or fs k f) c.items-file-items.ensures in
    let p = err_from_is_err_and c.from_residual.result c.from_residual.ensures.1 in
    rw (p.1, p.2) (stopped_left {A = Unit {0}} {B = Unit {0}} (in_file f.name (tree_faults (front_of files types) (map (wanted_of files types) (params_of f.tree)) f.tree))
    (flat_map (λ f. in_file f.name (tree_faults (front_of files types) (map (wanted_of files types) (params_of f.tree)) f.tree)) (drop (k + 1) files)) (library_faults files types) (λ _. Unit {0}) (λ _. Unit {0}) c.in_err-check_file.field-0.0
    (rest_next (λ f. in_file f.name (tree_faults (front_of files types) (map (wanted_of files types) (params_of f.tree)) f.tree)) files k f inside is (library_faults files types) c.loop-number.invariant) c.in_err-check_file.ensures)
