use Rattle.std.proofs.Common.{◌≡◌, ◌∙◌, ◌<◌, ◌^◌, ap, subst, sym, List, [], length, map}
use Rattle.std.proofs.lemmas.Result.{err_from_is_err_and}
use Rattle.std.specs.List.{flat_map}
use Rattle.std.specs.Prelude.{slice_index_or}
use Rattle.name_table.specs.declared.source.SourceFile.{SourceFile}
use Rattle.design_lexer.specs.declared.tree.BranchTree.{BranchTree}
use Rattle.design_lexer.specs.declared.tree.ParamTree.{ParamTree}
use Rattle.fault_list.specs.AnswersLaws.{stopped_same}
use Rattle.name_index.specs.Places.{place_of}
use Rattle.side_ports.specs.Held.{sides_held}
use Rattle.unit_check.proofs.ScopeLemmas.{file_small, parts_numbered, same_file, scope_is, scope_rest}
use Rattle.unit_check.specs.Declaring.{params_of, parts_of}
use Rattle.unit_check.specs.Held.{part_held, ports_held}
use Rattle.unit_check.specs.PortLaws.{params_few, parts_few}
use Rattle.unit_check.specs.Scopes.{part_scope, scope_at}
use Rattle.unit_check.specs.TypeFaults.{part_faults, scope_faults}
use Rattle.unit_check.specs.declared.scope.Scope.{Scope}
use Rattle.unit_check.specs.declared.scope.ScopePart.{ScopePart}
use Rattle.unit_check.proofs.table.PortTable.scope.Goals as goal

pub invariant_of-result : goal.invariant_of-result
invariant_of-result c =
    let names = c.args.names.now in
    record {
      numbered = parts_numbered names.files names.types c.in_ok-params.params.trees.now c.parts_of.result.now c.in_ok-parts.parts c.in_ok-numbers.numbers c.in_ok-parts.ensures.answer.1
          (λ name. c.in_ok-numbers.ensures name ∙ ap (λ (branches : List BranchTree). place_of (λ (b : BranchTree). b.name.name) branches name) (c.parts_of-2.ensures ∙ sym c.parts_of.ensures));
    }

pub returns-clause-answer : goal.returns-clause-answer
returns-clause-answer c =
    let names = c.args.names.now in
    let i = c.args.file in
    let g = c.index-items-file.result in
    let own = c.in_ok-own.ensures.answer in
    let parts = c.in_ok-parts.ensures.answer in
    let tree = sym (ap (λ (h : SourceFile). h.tree) c.index-items-file.is) in
    let params = c.in_ok-params.ensures ∙ c.params_of.ensures ∙ ap params_of tree in
    let branches = c.parts_of.ensures ∙ ap parts_of tree in
    λ f got.
    let same : g ≡ f = same_file names.files i f g got (c.index-items-file.is ∙ ap (λ (fs : List SourceFile). slice_index_or fs i g) c.items.ensures) c.requires.file in
    subst (λ (h : SourceFile). (scope_faults names.files names.types i h.tree ≡ []) × (record { own = sides_held c.in_ok-own.own; parts = map part_held c.in_ok-parts.parts } ≡ scope_at names.files names.types i h.tree)) same (
      scope_rest names.files names.types i g.tree c.in_ok-params.params.trees.now c.parts_of.result.now params branches own.0 ∙ parts.0,
      scope_is names.files names.types i g.tree c.in_ok-params.params.trees.now c.parts_of.result.now params branches c.in_ok-own.own c.in_ok-parts.parts own.1 parts.1,
    )

pub of-requires : goal.of-requires
of-requires c =
    let names = c.args.names.now in
    let g = c.index-items-file.result in
    let is = c.index-items-file.is ∙ ap (λ (fs : List SourceFile). slice_index_or fs c.args.file g) c.items.ensures in
    let small = file_small names.files c.args.file g names.small is c.requires.file in
    let params = c.params_of.ensures ∙ ap params_of (sym (ap (λ (h : SourceFile). h.tree) c.index-items-file.is)) in
    record { few = subst (λ (trees : List ParamTree). length trees < 2 ^ 32) (sym params) (params_few g.tree small) }

pub places_of-requires : goal.places_of-requires
places_of-requires c =
    let names = c.args.names.now in
    let g = c.index-items-file.result in
    let is = c.index-items-file.is ∙ ap (λ (fs : List SourceFile). slice_index_or fs c.args.file g) c.items.ensures in
    let small = file_small names.files c.args.file g names.small is c.requires.file in
    let branches = c.parts_of-2.ensures ∙ ap parts_of (sym (ap (λ (h : SourceFile). h.tree) c.index-items-file.is)) in
    record { few = subst (λ (trees : List BranchTree). length trees < 2 ^ 32) (sym branches) (parts_few g.tree small) }

pub returns-in_err-parts-clause-answer : goal.returns-in_err-parts-clause-answer
returns-in_err-parts-clause-answer c =
    let names = c.args.names.now in
    let i = c.args.file in
    let g = c.index-items-file.result in
    let trees = c.in_ok-params.params.trees.now in
    let tree = sym (ap (λ (h : SourceFile). h.tree) c.index-items-file.is) in
    let params = c.in_ok-params.ensures ∙ c.params_of.ensures ∙ ap params_of tree in
    let branches = c.parts_of.ensures ∙ ap parts_of tree in
    let faults = flat_map (part_faults names.files names.types trees) c.parts_of.result.now in
    let p = err_from_is_err_and c.from_residual-in_err-parts.result c.from_residual-in_err-parts.ensures.1 in
    λ f got.
    let same : g ≡ f = same_file names.files i f g got (c.index-items-file.is ∙ ap (λ (fs : List SourceFile). slice_index_or fs i g) c.items.ensures) c.requires.file in
    let whole : scope_faults names.files names.types i f.tree ≡ faults
    = ap (λ (h : SourceFile). scope_faults names.files names.types i h.tree) (sym same) ∙ scope_rest names.files names.types i g.tree trees c.parts_of.result.now params branches c.in_ok-own.ensures.answer.0 in
    rw (p.1, p.2) (stopped_same {A = List ScopePart} {B = Scope} faults (scope_faults names.files names.types i f.tree) (λ made. map part_held made ≡ map (part_scope names.files names.types trees) c.parts_of.result.now)
    (λ scope. ports_held scope ≡ scope_at names.files names.types i f.tree) c.in_err-parts.field-0.0 whole c.in_err-parts.ensures.answer)
