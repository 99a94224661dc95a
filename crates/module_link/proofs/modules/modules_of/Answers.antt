use Rattle.std.proofs.Common.{◌≡◌, ◌∙◌, ◌<◌, ◌+◌, ◌∷◌, [], ap, arith, length, refl, subst, sym, ℕ, List}
use Rattle.std.proofs.lemmas.Iterator.Adapters.{YieldsList-from_vec}
use Rattle.std.proofs.lemmas.Iterator.Consumers.{YieldsList-end, YieldsList-turn}
use Rattle.std.proofs.lemmas.List.{length-append, map-id}
use Rattle.std.proofs.lemmas.Option.{slice_get_read}
use Rattle.std.proofs.lemmas.Result.{err_from_is_err_and}
use Rattle.std.specs.Prelude.{Err, get_or, slice_get}
use Rattle.catalogue_read.specs.Catalogues.{HasRows}
use Rattle.module_link.proofs.ModuleLemmas.{AreMade, all_made, made_next, none_made}
use Rattle.module_link.specs.Links.{IsModuleAt}
use Rattle.module_link.specs.declared.fault.LinkFault.{LinkFault}
use Rattle.module_link.specs.declared.fault.LinkFault.TheVariants.{Unresolved}
use Rattle.name_table.specs.declared.source.SourceFile.{SourceFile}
use Rattle.order_core.specs.MemberLaws.{got_member}
use Rattle.order_core.specs.PointwiseLaws.{pointwise_length}
use Rattle.reference_meaning.specs.Sources.{body_of}
use Rattle.module_link.proofs.modules.modules_of.Goals as goal

pub loop-rows-init : goal.loop-rows-init
loop-rows-init c =
    let names = c.args.names.now in
    let empty = c.new-made.ensures.items in (
      c.requires.table,
      ap length empty,
      subst (AreMade names.files names.types c.args.rows) (sym empty) (none_made names.files names.types c.args.rows),
    )

pub offset_bounds-items-number : goal.offset_bounds-items-number
offset_bounds-items-number c =
    let into = c.into_iter-rows-iterator.ensures.into_iter_gives in
    let same : c.into_iter-rows-iterator.result.rest.items ≡ c.args.rows = into.0 ∙ c.into_vec-rows-items.ensures in
    let turn = YieldsList-turn (YieldsList-from_vec {s = c.into_iter-rows-iterator.result} c.args.rows same (into.1 ∙ c.into_vec-rows-items.result.ok.0 ∙ ap length c.into_vec-rows-items.ensures)) c.loop-rows.yielded c.loop-rows.rows-iterator c.loop-rows.yielded_by c.next.result c.next.new.self c.in-Some.rows c.in-Some.is c.next.ensures.steps in
    let names = c.args.names.now in
    let files = pointwise_length (HasRows names.tables names.types) names.files c.args.rows c.requires.rows in
    let at : c.len-number.result ≡ length c.loop-rows.yielded = c.len-number.ensures ∙ c.loop-rows.made.ok.0 ∙ c.loop-rows.invariant.1 in
    let inside : c.len-number.result < length names.files = omega (arith, turn.0, files, at) in
    let size = ap length c.items.ensures in let fits = c.items.type_inv.1 in
    omega arith

pub bounds-items-number : goal.bounds-items-number
bounds-items-number c =
    let into = c.into_iter-rows-iterator.ensures.into_iter_gives in
    let same : c.into_iter-rows-iterator.result.rest.items ≡ c.args.rows = into.0 ∙ c.into_vec-rows-items.ensures in
    let turn = YieldsList-turn (YieldsList-from_vec {s = c.into_iter-rows-iterator.result} c.args.rows same (into.1 ∙ c.into_vec-rows-items.result.ok.0 ∙ ap length c.into_vec-rows-items.ensures)) c.loop-rows.yielded c.loop-rows.rows-iterator c.loop-rows.yielded_by c.next.result c.next.new.self c.in-Some.rows c.in-Some.is c.next.ensures.steps in
    let names = c.args.names.now in
    let files = pointwise_length (HasRows names.tables names.types) names.files c.args.rows c.requires.rows in
    let at : c.len-number.result ≡ length c.loop-rows.yielded = c.len-number.ensures ∙ c.loop-rows.made.ok.0 ∙ c.loop-rows.invariant.1 in
    let inside : c.len-number.result < length names.files = omega (arith, turn.0, files, at) in
    let size = ap length c.items.ensures in
    omega arith

pub overflow_cast-number : goal.overflow_cast-number
overflow_cast-number c =
    let into = c.into_iter-rows-iterator.ensures.into_iter_gives in
    let same : c.into_iter-rows-iterator.result.rest.items ≡ c.args.rows = into.0 ∙ c.into_vec-rows-items.ensures in
    let turn = YieldsList-turn (YieldsList-from_vec {s = c.into_iter-rows-iterator.result} c.args.rows same (into.1 ∙ c.into_vec-rows-items.result.ok.0 ∙ ap length c.into_vec-rows-items.ensures)) c.loop-rows.yielded c.loop-rows.rows-iterator c.loop-rows.yielded_by c.next.result c.next.new.self c.in-Some.rows c.in-Some.is c.next.ensures.steps in
    let names = c.args.names.now in
    let files = pointwise_length (HasRows names.tables names.types) names.files c.args.rows c.requires.rows in
    let at : c.len-number.result ≡ length c.loop-rows.yielded = c.len-number.ensures ∙ c.loop-rows.made.ok.0 ∙ c.loop-rows.invariant.1 in
    let inside : c.len-number.result < length names.files = omega (arith, turn.0, files, at) in
    let few = names.in_order.few_files in
    omega arith

pub module_of-requires-clause-number : goal.module_of-requires-clause-number
module_of-requires-clause-number c =
    let into = c.into_iter-rows-iterator.ensures.into_iter_gives in
    let same : c.into_iter-rows-iterator.result.rest.items ≡ c.args.rows = into.0 ∙ c.into_vec-rows-items.ensures in
    let turn = YieldsList-turn (YieldsList-from_vec {s = c.into_iter-rows-iterator.result} c.args.rows same (into.1 ∙ c.into_vec-rows-items.result.ok.0 ∙ ap length c.into_vec-rows-items.ensures)) c.loop-rows.yielded c.loop-rows.rows-iterator c.loop-rows.yielded_by c.next.result c.next.new.self c.in-Some.rows c.in-Some.is c.next.ensures.steps in
    let names = c.args.names.now in
    let files = pointwise_length (HasRows names.tables names.types) names.files c.args.rows c.requires.rows in
    let at : c.len-number.result ≡ length c.loop-rows.yielded = c.len-number.ensures ∙ c.loop-rows.made.ok.0 ∙ c.loop-rows.invariant.1 in
    let inside : c.len-number.result < length names.files = omega (arith, turn.0, files, at) in
    let file : c.index-items-number.result ≡ get_or names.files c.len-number.result c.index-items-number.result = c.index-items-number.is ∙ ap (λ (fs : List SourceFile). get_or fs c.len-number.result c.index-items-number.result) c.items.ensures in
    let there = slice_get_read names.files (length names.files) c.len-number.result c.index-items-number.result refl inside file in
    there

pub returns-in_err-named-clause-unresolved : goal.returns-in_err-named-clause-unresolved
returns-in_err-named-clause-unresolved c =
    let into = c.into_iter-rows-iterator.ensures.into_iter_gives in
    let same : c.into_iter-rows-iterator.result.rest.items ≡ c.args.rows = into.0 ∙ c.into_vec-rows-items.ensures in
    let turn = YieldsList-turn (YieldsList-from_vec {s = c.into_iter-rows-iterator.result} c.args.rows same (into.1 ∙ c.into_vec-rows-items.result.ok.0 ∙ ap length c.into_vec-rows-items.ensures)) c.loop-rows.yielded c.loop-rows.rows-iterator c.loop-rows.yielded_by c.next.result c.next.new.self c.in-Some.rows c.in-Some.is c.next.ensures.steps in
    let names = c.args.names.now in
    let files = pointwise_length (HasRows names.tables names.types) names.files c.args.rows c.requires.rows in
    let at : c.len-number.result ≡ length c.loop-rows.yielded = c.len-number.ensures ∙ c.loop-rows.made.ok.0 ∙ c.loop-rows.invariant.1 in
    let inside : c.len-number.result < length names.files = omega (arith, turn.0, files, at) in
    let file : c.index-items-number.result ≡ get_or names.files c.len-number.result c.index-items-number.result = c.index-items-number.is ∙ ap (λ (fs : List SourceFile). get_or fs c.len-number.result c.index-items-number.result) c.items.ensures in
    let there = slice_get_read names.files (length names.files) c.len-number.result c.index-items-number.result refl inside file in
    let p = err_from_is_err_and c.from_residual.result c.from_residual.ensures.1 in
    rw (p.1, p.2) (λ h. let same : c.in_err-named.field-0.0 ≡ Unresolved = cc in let bad = c.in_err-named.ensures.unresolved (ap (λ (s : LinkFault). Err s) same) in (c.index-items-number.result, got_member names.files c.len-number.result c.index-items-number.result there, bad))

pub loop-rows-preserved : goal.loop-rows-preserved
loop-rows-preserved c =
    let into = c.into_iter-rows-iterator.ensures.into_iter_gives in
    let same : c.into_iter-rows-iterator.result.rest.items ≡ c.args.rows = into.0 ∙ c.into_vec-rows-items.ensures in
    let turn = YieldsList-turn (YieldsList-from_vec {s = c.into_iter-rows-iterator.result} c.args.rows same (into.1 ∙ c.into_vec-rows-items.result.ok.0 ∙ ap length c.into_vec-rows-items.ensures)) c.loop-rows.yielded c.loop-rows.rows-iterator c.loop-rows.yielded_by c.next.result c.next.new.self c.in-Some.rows c.in-Some.is c.next.ensures.steps in
    let names = c.args.names.now in
    let files = pointwise_length (HasRows names.tables names.types) names.files c.args.rows c.requires.rows in
    let at : c.len-number.result ≡ length c.loop-rows.yielded = c.len-number.ensures ∙ c.loop-rows.made.ok.0 ∙ c.loop-rows.invariant.1 in
    let inside : c.len-number.result < length names.files = omega (arith, turn.0, files, at) in
    let file : c.index-items-number.result ≡ get_or names.files c.len-number.result c.index-items-number.result = c.index-items-number.is ∙ ap (λ (fs : List SourceFile). get_or fs c.len-number.result c.index-items-number.result) c.items.ensures in
    let there = slice_get_read names.files (length names.files) c.len-number.result c.index-items-number.result refl inside file in
    let pushed = c.in_ok-push.ensures.items in
    let last : length c.loop-rows.made.items ≡ c.len-number.result = c.loop-rows.invariant.1 ∙ sym at in
    let row = slice_get_read c.args.rows (length c.args.rows) (length c.loop-rows.made.items) c.in-Some.rows refl (omega (arith, turn.0, c.loop-rows.invariant.1)) (turn.1 ∙ ap (λ (k : ℕ). get_or c.args.rows k c.in-Some.rows) (sym c.loop-rows.invariant.1)) in (
      c.in_ok-named.ensures.table,
      ap length pushed ∙ length-append c.loop-rows.made.items _ ∙ ap (λ (k : ℕ). k + 1) c.loop-rows.invariant.1 ∙ sym (length-append c.loop-rows.yielded (c.in-Some.rows ∷ [])),
      subst (AreMade names.files names.types c.args.rows) (sym pushed) (made_next names.files names.types c.args.rows c.loop-rows.made.items c.in_ok-named.named c.index-items-number.result c.in-Some.rows c.loop-rows.invariant.2
          (ap (slice_get names.files) last ∙ there) row (subst (λ (k : ℕ). IsModuleAt names.files names.types k c.index-items-number.result c.in-Some.rows (body_of c.index-items-number.result.tree) c.in_ok-named.named) (sym last) c.in_ok-named.ensures.named)),
    )

pub returns-clause-modules : goal.returns-clause-modules
returns-clause-modules c =
    let into = c.into_iter-rows-iterator.ensures.into_iter_gives in
    let same : c.into_iter-rows-iterator.result.rest.items ≡ c.args.rows = into.0 ∙ c.into_vec-rows-items.ensures in
    let end = YieldsList-end (YieldsList-from_vec {s = c.into_iter-rows-iterator.result} c.args.rows same (into.1 ∙ c.into_vec-rows-items.result.ok.0 ∙ ap length c.into_vec-rows-items.ensures)) c.loop-rows.yielded c.loop-rows.rows-iterator c.loop-rows.yielded_by c.next.result c.next.new.self c.in-None.is c.next.ensures.steps in
    let all : c.loop-rows.yielded ≡ c.args.rows = sym (map-id c.loop-rows.yielded) ∙ end.0 in
    let names = c.args.names.now in
    rw c.of.ensures (all_made names.files names.types c.args.rows names.tables c.requires.rows c.loop-rows.made.items c.loop-rows.invariant.2 (c.loop-rows.invariant.1 ∙ ap length all))
