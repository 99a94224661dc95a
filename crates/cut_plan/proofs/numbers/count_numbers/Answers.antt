use Rattle.std.proofs.Common.{◌≡◌, ℕ, cond, length, arith, rules}
use Rattle.std.specs.List.{list_any, Contains}
use Rattle.std.specs.List.Sorted.{IsStrictlyIncreasing}
use Rattle.std.proofs.lemmas.List.Filters.{dedup_is}
use Rattle.std.proofs.lemmas.List.Kept.{Contains-dedup_nat, Contains-from_dedup}
use Rattle.std.proofs.lemmas.List.Sorted.{Contains-permutation, IsPermutation-sym}
use Rattle.std.proofs.lemmas.Map.Keys.{IsStrictlyIncreasing-dedup}
use Rattle.value_type.specs.declared.value.Value.{out-Value}
use Rattle.cut_plan.specs.Different.{counts, is_top}
use Rattle.cut_plan.proofs.DifferentLemmas.{counted}
use Rattle.cut_plan.proofs.numbers.count_numbers.Goals as goal

pub returns : goal.returns
returns c =
    let values = c.args.values.now in
    let rising = c.dedup.new.self.items in
    let is = dedup_is _ _ _ c.dedup.ensures.filtered in
    let moved = c.sort_unstable.ensures.permutation in
    let rises : IsStrictlyIncreasing rising = rw is (IsStrictlyIncreasing-dedup _ c.sort_unstable.ensures.sorted) in
    let keeps : (p : ℕ) → Contains (counts values) p → Contains rising p
    = λ p h. rw is (Contains-dedup_nat _ p (Contains-permutation _ _ p moved (rw c.in_ok-counts.ensures h))) in
    let adds : (p : ℕ) → Contains rising p → Contains (counts values) p
    = λ p h. rw (← c.in_ok-counts.ensures) (Contains-permutation _ _ p (IsPermutation-sym _ _ moved) (Contains-from_dedup _ _ p (rw is at h))) in
    let all = counted values rising rises keeps adds in
    let top : c.from.result ≡ cond (list_any (λ v. is_top (out-Value v)) values) 1 0 = search rules in
    let many : c.len.result ≡ length rising = search rules in
    omega (arith, all, top, many)
