use Rattle.std.proofs.Common.{◌∙◌, ◌∷◌, ◌+◌, ap, sym, drop, cond, Bool, List, ℕ}
use Rattle.std.proofs.lemmas.List.{drop_more}
use Rattle.std.specs.Prelude.{Some}
use Rattle.std.specs.Str.{bytes_eq}
use Rattle.design_lexer.specs.declared.tree.ParamTree.{ParamTree}
use Rattle.name_index.specs.Places.{named_item}
use Rattle.name_index.specs.PlaceLaws.{named_item_next}
use Rattle.unit_check.specs.Declaring.{file_of, named_file}
use Rattle.unit_check.proofs.declared.named_file.Goals as goal

pub loop-param-preserved : goal.loop-param-preserved
loop-param-preserved c =
    let files = c.args.names.now.files in
    let name = c.args.name.now in
    let i = c.loop-param.param-index in
    let p = c.param-item.result in
    let rest = drop (i + 1) c.args.params.now in
    let front = drop_more c.args.params.now i p c.loop-param-test.true ∙ ap (λ (q : ParamTree). q ∷ rest) (sym c.param-item.is) in
    let other = ap (λ (t : List ℕ). bytes_eq name t) (sym c.as_str.ensures) ∙ sym c.eq.ensures ∙ c.if-eq.false in
    c.loop-param.invariant ∙ ap (λ (ps : List ParamTree). named_file files ps name) front
    ∙ ap (file_of files name) (named_item_next (λ (q : ParamTree). q.name.name) p rest name ∙ ap (λ (t : Bool). cond t (Some p) (named_item (λ (q : ParamTree). q.name.name) rest name)) other)
