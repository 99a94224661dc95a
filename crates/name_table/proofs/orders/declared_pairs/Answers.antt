use Rattle.std.proofs.Common.{◌∙◌, ap, List}
use Rattle.design_lexer.specs.declared.tree.NameAt.{NameAt}
use Rattle.name_rules.specs.Places.{place_of}
use Rattle.name_table.specs.Orders.{chain_pairs}
use Rattle.order_core.specs.ResultLaws.{if_ok}
use Rattle.name_table.proofs.orders.declared_pairs.Goals as goal

pub returns : goal.returns
returns c =
    let chains = c.args.tree.now.chains in
    if_ok _ _ c.chain_pairs.result (λ pairs e.
    e ∙ (λ i. chain_pairs (λ name. c.in_ok-places.ensures name i) (c.items-2.ensures i)) ∙ ap (λ (names : List NameAt). chain_pairs (place_of (λ n. n) names) chains) c.items.ensures) c.chain_pairs.ensures
