use Rattle.std.proofs.Common.{rules, tests}
use Rattle.std.proofs.lemmas.Cmp.{nat_list_cmp_total}
use Rattle.std.proofs.lemmas.List.Sorted.{answers_always}
use Rattle.std.specs.Cmp.Lexicographic.{slice_cmp}
use Rattle.std.specs.Ordering.{nat_cmp}
use Rattle.library_files.specs.Taken.{is_before}
use Rattle.order_core.specs.TotalOrderLaws.{weak}
use Rattle.library_files.proofs.folder.sort_names.Goals as goal

pub returns-clause-ordered : goal.returns-clause-ordered
returns-clause-ordered c =
    c.sort_unstable_by.ensures.sorted is_before (weak (slice_cmp nat_cmp) nat_list_cmp_total) (answers_always _ _ _ (λ f a r g k. search (rules, tests)))
