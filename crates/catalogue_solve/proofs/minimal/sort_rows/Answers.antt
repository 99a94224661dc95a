use Rattle.std.proofs.Common.{rules, tests}
use Rattle.std.proofs.lemmas.List.Sorted.{answers_always}
use Rattle.order_core.specs.TotalOrderLaws.{weak}
use Rattle.value_type.specs.PrintLaws.{row_total}
use Rattle.value_type.specs.PrintOrder.{row_cmp, is_before}
use Rattle.catalogue_solve.proofs.minimal.sort_rows.Goals as goal

pub returns-clause-sorted : goal.returns-clause-sorted
returns-clause-sorted c =
    c.sort_unstable_by.ensures.sorted is_before (weak row_cmp row_total) (answers_always _ _ _ (λ f a r g k. search (rules, tests)))
