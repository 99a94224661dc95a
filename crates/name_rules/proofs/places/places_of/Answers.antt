use Rattle.std.proofs.Common.{◌≡◌, ◌∙◌, ap}
use Rattle.design_lexer.specs.declared.tree.NameAt.{NameAt}
use Rattle.name_index.specs.PlaceLaws.{places_more}
use Rattle.name_rules.proofs.places.places_of.Goals as goal

pub loop-at-preserved : goal.loop-at-preserved
loop-at-preserved g c =
    let named = g.T.Named.named in
    let x = c.index-items-at.result in
    let text : c.as_str.result.now ≡ (named x).name = c.as_str.ensures ∙ ap (λ (n : NameAt). n.name) c.name.ensures in
    λ name. rw (c.in_ok-add.ensures.names, text) (places_more (λ y. (named y).name) c.args.items.now c.loop-at.at x c.loop-at-test.true c.index-items-at.is c.loop-at.names c.loop-at.invariant name)
