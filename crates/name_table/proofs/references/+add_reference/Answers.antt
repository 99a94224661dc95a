use Rattle.std.proofs.Common.{List}
use Rattle.std.specs.List.{flat_map}
use Rattle.std.specs.Prelude.{is_some}
use Rattle.design_lexer.specs.declared.tree.ArgTree.{ArgTree, out-ArgTree}
use Rattle.design_lexer.specs.declared.tree.RefTree.{out-RefTree}
use Rattle.name_index.specs.Names.{number_of}
use Rattle.name_rules.specs.ReferenceNamesLaws.{reference_names_is}
use Rattle.name_rules.specs.References.{reference_names}
use Rattle.name_table.proofs.PairLemmas.{name_added, names_added}
use Rattle.name_table.proofs.references.+add_reference.Goals as goal

pub loop-argument-init : goal.loop-argument-init
loop-argument-init t c =
    let r = c.args.reference.now in
    let names = λ (xs : List ArgTree). flat_map (λ a. reference_names (out-ArgTree a).reference) xs in
    rw c.items-argument-items.ensures (name_added (number_of c.args.designs.now) (λ name. is_some (number_of c.args.hidden.now name)) c.args.number c.args.pairs.now.items c.add_name.new.pairs.items (out-RefTree r).name
    (names (out-RefTree r).arguments) (reference_names r) (reference_names_is r) c.in_ok-add_name.ensures)

pub loop-argument-preserved : goal.loop-argument-preserved
loop-argument-preserved t c =
    names_added (number_of c.args.designs.now) (λ name. is_some (number_of c.args.hidden.now name)) c.args.number (λ (a : ArgTree). reference_names (out-ArgTree a).reference) c.items-argument-items.result.now c.loop-argument.argument-index
    c.argument-item.result c.loop-argument-test.true c.argument-item.is c.loop-argument.pairs.items c.add_reference.new.pairs.items _ c.loop-argument.invariant c.in_ok-add_reference.ensures
