use Rattle.std.proofs.Common.{rules, tests, ℕ, List, length, subst}
use Rattle.std.proofs.lemmas.Fn.{always_returns_same}
use Rattle.std.specs.List.Sorted.{IsPermutation}
use Rattle.std.specs.Prelude.{slice_index}
use Rattle.library_load.proofs.NamedLemmas.{modules_fall}
use Rattle.library_load.proofs.OrderLemmas.{all_below, sorted_order}
use Rattle.library_load.proofs.order.order_of.Goals as goal

pub returns : goal.returns
returns c =
    let names = c.args.names.now in
    let modules = c.args.modules.now in
    let rank = slice_index names.ranks in
    let falls = modules_fall names.files names.tables names.types modules c.requires names.ranks c.references_fall.ensures in
    let permuted = subst (λ (xs : List ℕ). IsPermutation xs c.sort_unstable_by_key.new.self.items) c.in_ok-order.ensures c.sort_unstable_by_key.ensures.permutation in
    sorted_order modules rank (length names.files) falls c.sort_unstable_by_key.new.self.items (subst (λ (n : ℕ). IsPermutation (all_below n) c.sort_unstable_by_key.new.self.items) c.requires.size permuted) c.requires.size
    (c.sort_unstable_by_key.ensures.sorted rank (always_returns_same _ _ _ (λ a r g k. search (rules, tests))))
