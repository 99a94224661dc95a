use Rattle.std.proofs.Common.{rules, ◌∙◌, ap, subst, sym, map, List}
use Rattle.std.proofs.lemmas.Result.{err_from_is_err_and}
use Rattle.std.specs.Prelude.{Option, Err, option_and_then, option_map, slice_get}
use Rattle.design_lexer.specs.declared.tree.ArgTree.{ArgTree}
use Rattle.design_lexer.specs.declared.tree.ParamTree.{ParamTree}
use Rattle.module_link.proofs.FindLemmas.{found_next, found_none, found_stopped}
use Rattle.module_link.proofs.GivenLemmas.{filled_absent, filled_found, place_read}
use Rattle.module_link.proofs.ResolveLemmas.{finds_stopped, resolved_file, resolved_nowhere, resolved_parameter, spelled}
use Rattle.module_link.specs.Contents.{bare_sources}
use Rattle.module_link.specs.Links.{Finds}
use Rattle.name_index.specs.PlaceLaws.{place_below}
use Rattle.name_index.specs.Places.{place_of}
use Rattle.name_table.specs.Files.{is_design, stem_place}
use Rattle.reference_meaning.specs.Linking.{filled}
use Rattle.reference_meaning.specs.LinkingLaws.{fill}
use Rattle.reference_meaning.specs.Sources.{parameter_of}
use Rattle.reference_meaning.specs.declared.module.Resolved.{Resolved}
use Rattle.reference_meaning.specs.declared.module.Resolved.TheVariants as resolved
use Rattle.tree_units.specs.Together.{together}
use Rattle.module_link.proofs.linking.+resolve.Goals as goal

pub resolve-returns-in-Some : goal.resolve-returns-in-Some
resolve-returns-in-Some t c =
    resolved_parameter c.args.names.now.files c.args.params.now.trees.now c.args.reference.now c.in-Some.number
    (ap (place_of (λ (p : ParamTree). p.name.name) c.args.params.now.trees.now) (sym c.as_str-name.ensures) ∙ sym c.in-Some.ensures)

pub resolve-returns-in-None-design : goal.resolve-returns-in-None-design
resolve-returns-in-None-design t c =
    resolved_nowhere c.args.names.now.files c.args.params.now.trees.now c.args.reference.now
    (ap (place_of (λ (p : ParamTree). p.name.name) c.args.params.now.trees.now) (sym c.as_str-name.ensures) ∙ sym c.in-None.ensures)
    (ap (stem_place is_design c.args.names.now.files) (sym c.as_str-name.ensures) ∙ sym c.in-None-design.ensures)

pub resolve-returns-in_err-arguments-in-Some-design : goal.resolve-returns-in_err-arguments-in-Some-design
resolve-returns-in_err-arguments-in-Some-design t c =
    let files = c.args.names.now.files in
    let params = c.args.params.now.trees.now in
    let wanted = c.params_at-wanted.result.now in
    let i = c.in-Some-design.number in
    let found = λ (xs : List ArgTree). together (map (λ (p : ParamTree). filled (map (fill (bare_sources files) (spelled params)) xs) p.name.name) wanted) in
    let is = resolved_file files params c.args.reference.now i wanted
    (ap (place_of (λ (p : ParamTree). p.name.name) params) (sym c.as_str-name.ensures) ∙ sym c.in-None.ensures)
    (ap (stem_place is_design files) (sym c.as_str-name.ensures) ∙ sym c.in-Some-design.ensures) c.params_at-wanted.ensures in
    let p = err_from_is_err_and c.from_residual.result c.from_residual.ensures.1 in
    rw (p.1, p.2) (finds_stopped {A = List Resolved} {B = Resolved} (resolved.Module i) (found c.items-arguments.result.now) _ (is ∙ ap (λ (xs : List ArgTree). option_map (resolved.Module i) (found xs)) (sym c.items-arguments.ensures)) c.in_err-arguments-in-Some-design.field-0.0
    c.in_err-arguments-in-Some-design.ensures)

pub resolve-returns-in_ok-arguments-in-Some-design : goal.resolve-returns-in_ok-arguments-in-Some-design
resolve-returns-in_ok-arguments-in-Some-design t c =
    let files = c.args.names.now.files in
    let params = c.args.params.now.trees.now in
    let wanted = c.params_at-wanted.result.now in
    let i = c.in-Some-design.number in
    let found = λ (xs : List ArgTree). together (map (λ (p : ParamTree). filled (map (fill (bare_sources files) (spelled params)) xs) p.name.name) wanted) in
    let is = resolved_file files params c.args.reference.now i wanted
    (ap (place_of (λ (p : ParamTree). p.name.name) params) (sym c.as_str-name.ensures) ∙ sym c.in-None.ensures)
    (ap (stem_place is_design files) (sym c.as_str-name.ensures) ∙ sym c.in-Some-design.ensures) c.params_at-wanted.ensures in
    is ∙ ap (λ (xs : List ArgTree). option_map (resolved.Module i) (found xs)) (sym c.items-arguments.ensures) ∙ ap (option_map (resolved.Module i)) c.in_ok-arguments-in-Some-design.ensures

pub resolve_arguments-resolve_argument-requires : goal.resolve_arguments-resolve_argument-requires
resolve_arguments-resolve_argument-requires t c =
    let n = c.as_str.result.now in
    (search rules, place_below parameter_of c.args.arguments.now n c.in-Some.place (sym (c.in_ok-places.ensures n) ∙ sym c.in-Some.ensures))

pub resolve_arguments-returns-in_default : goal.resolve_arguments-returns-in_default
resolve_arguments-returns-in_default t c =
    let args = c.args.arguments.now in
    let params = spelled c.args.params.now.trees.now in
    let n = c.as_str.result.now in
    let absent = filled_absent c.args.names.now.files params args n (ap (option_and_then (slice_get args)) (sym (c.in_ok-places.ensures n) ∙ sym c.in_default.ensures)) in
    found_none (λ (p : ParamTree). filled (map (fill (bare_sources c.args.names.now.files) params) args) p.name.name) c.args.wanted.now c.loop-parameter.parameter-index c.parameter-item.result c.loop-parameter-test.true c.parameter-item.is
    c.loop-parameter.made.items _ c.loop-parameter.invariant (ap (filled (map (fill (bare_sources c.args.names.now.files) params) args)) (sym c.as_str.ensures) ∙ absent)

pub resolve_arguments-returns-in_err-resolve_argument : goal.resolve_arguments-returns-in_err-resolve_argument
resolve_arguments-returns-in_err-resolve_argument t c =
    let files = c.args.names.now.files in
    let args = c.args.arguments.now in
    let params = spelled c.args.params.now.trees.now in
    let n = c.as_str.result.now in
    let there = place_read args c.in-Some.place n (sym (c.in_ok-places.ensures n) ∙ sym c.in-Some.ensures) in
    let is = ap (filled (map (fill (bare_sources files) params) args)) (sym c.as_str.ensures) ∙ filled_found files params args n there.0 there.2 in
    let p = err_from_is_err_and c.from_residual-in_err-resolve_argument.result c.from_residual-in_err-resolve_argument.ensures.1 in
    rw (p.1, p.2) (found_stopped (λ (p : ParamTree). filled (map (fill (bare_sources files) params) args) p.name.name) c.args.wanted.now c.loop-parameter.parameter-index c.parameter-item.result c.loop-parameter-test.true c.parameter-item.is
    c.loop-parameter.made.items _ c.loop-parameter.invariant c.in_err-resolve_argument.field-0.0 (subst (λ (o : Option Resolved). Finds {A = Resolved} o (Err c.in_err-resolve_argument.field-0.0)) (sym is) (c.in_err-resolve_argument.ensures there.0 there.1)))

pub resolve_arguments-loop-parameter-preserved : goal.resolve_arguments-loop-parameter-preserved
resolve_arguments-loop-parameter-preserved t c =
    let files = c.args.names.now.files in
    let args = c.args.arguments.now in
    let params = spelled c.args.params.now.trees.now in
    let n = c.as_str.result.now in
    let there = place_read args c.in-Some.place n (sym (c.in_ok-places.ensures n) ∙ sym c.in-Some.ensures) in
    let is = ap (filled (map (fill (bare_sources files) params) args)) (sym c.as_str.ensures) ∙ filled_found files params args n there.0 there.2 in
    found_next (λ (p : ParamTree). filled (map (fill (bare_sources files) params) args) p.name.name) c.args.wanted.now c.loop-parameter.parameter-index c.parameter-item.result c.loop-parameter-test.true c.parameter-item.is
    c.loop-parameter.made.items _ c.loop-parameter.invariant c.in_ok-resolve_argument.field-0 _ (is ∙ c.in_ok-resolve_argument.ensures there.0 there.1) c.in_ok-push.ensures.items
