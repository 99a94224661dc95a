use Rattle.std.proofs.Common.{◌∙◌, ap, sym, subst, ℕ, IsTrue, List, length}
use Rattle.std.specs.List.{list_all}
use Rattle.name_table.proofs.OrderLemmas.{declared_below, first_order_fault, no_order_faults}
use Rattle.name_table.specs.Orders.{declared_pairs}
use Rattle.order_core.specs.Walk.{IsClosure, IsFirstCycle, is_pair_below}
use Rattle.name_table.proofs.orders.order_of.Goals as goal

pub close-requires-clause-pairs : goal.close-requires-clause-pairs
close-requires-clause-pairs c =
    let size = ap length c.items-size.ensures in
    subst (λ (pairs : List (ℕ × ℕ)). IsTrue (list_all (is_pair_below (length c.items-size.result.now)) pairs)) (sym (c.as_slice.ensures.value ∙ c.in_ok-pairs.ensures))
    (subst (λ (n : ℕ). IsTrue (list_all (is_pair_below n) (declared_pairs c.args.tree.now))) (sym size) (declared_below c.args.tree.now))

pub returns-in-Ok : goal.returns-in-Ok
returns-in-Ok c =
    let tree = c.args.tree.now in
    let table = c.in-Ok.order.table in
    let size = ap length c.items-size.ensures in
    let closure = subst (λ (n : ℕ). IsClosure n (declared_pairs tree) table) size (subst (λ (pairs : List (ℕ × ℕ)). IsClosure (length c.items-size.result.now) pairs table) (c.as_slice.ensures.value ∙ c.in_ok-pairs.ensures) c.in-Ok.ensures) in
    (no_order_faults tree (λ e. c.if-size-eq0.false (size ∙ e)) (rw size at c.if-size-gt-MAX_ELEMENTS.false) table closure c.in-Ok.order.is_table, closure)

pub returns-in-Err-Cycle : goal.returns-in-Err-Cycle
returns-in-Err-Cycle c =
    let tree = c.args.tree.now in
    let a = c.in-Err-Cycle.field-0-0 in
    let b = c.in-Err-Cycle.field-0-1 in
    let size = ap length c.items-size.ensures in
    let told = rw c.in-Err-Cycle.field-0-is at c.in-Err-Cycle.ensures in
    let cycle = subst (λ (n : ℕ). IsFirstCycle n (declared_pairs tree) a b) size (subst (λ (pairs : List (ℕ × ℕ)). IsFirstCycle (length c.items-size.result.now) pairs a b) (c.as_slice.ensures.value ∙ c.in_ok-pairs.ensures) told) in
    rw c.at_start-in-Err-Cycle.ensures (first_order_fault tree (λ e. c.if-size-eq0.false (size ∙ e)) (rw size at c.if-size-gt-MAX_ELEMENTS.false) a b cycle)
