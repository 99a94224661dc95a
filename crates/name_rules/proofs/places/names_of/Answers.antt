use Rattle.std.proofs.Common.{◌≡◌, ◌∙◌, ap}
use Rattle.design_lexer.specs.declared.tree.NameAt.{NameAt}
use Rattle.name_rules.proofs.UnknownLemmas.{listed_next}
use Rattle.name_rules.proofs.places.names_of.Goals as goal

pub loop-item-preserved : goal.loop-item-preserved
loop-item-preserved g c =
    let named = g.T.Named.named in
    let x = c.item-item.result in
    let text : c.as_str.result.now ≡ (named x).name = c.as_str.ensures ∙ ap (λ (n : NameAt). n.name) c.name.ensures in
    λ name. rw (c.in_ok-add.ensures.names, text) (listed_next named c.args.items.now c.loop-item.item-index x c.loop-item-test.true c.item-item.is c.loop-item.names c.loop-item.invariant name)
