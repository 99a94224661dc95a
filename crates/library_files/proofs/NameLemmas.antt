-- How a file's name is cut at its first dot.
use Rattle.std.proofs.Common.{◌≡◌, IsTrue, true, false, sym, ap, arith, ℕ, ◌+◌, ◌≤◌, lit<, List, [], length, Option, Some, None, Bor}
use Rattle.std.specs.Prelude.{MatchOption}
use Rattle.std.specs.List.{after_first, position_or_len}
use Rattle.std.proofs.lemmas.List.{drop_all}
use Rattle.std.proofs.lemmas.Str.Pattern.{IsSplitOnceResult, split_once_first}
use Rattle.library_files.specs.Names.{ending_named, ending_of, is_dot, is_name, is_recognised, stem_of}
use Rattle.std.specs.Option.{is_some}
use Rattle.order_core.specs.MemberLaws.{second}

nothing_after : (name : List ℕ) → position_or_len is_dot name ≡ length name → after_first is_dot name ≡ []
nothing_after name e = let l : length name ≤ position_or_len is_dot name + 1 = omega arith in drop_all (position_or_len is_dot name + 1) name l

pub parts_split : (name : List ℕ) (r : Option (Bor (List ℕ) × Bor (List ℕ))) → IsSplitOnceResult 46 name r → MatchOption r (ending_of name ≡ None) (λ x. (x.0.now ≡ stem_of name) × (ending_of name ≡ ending_named x.1.now))
unfolding ending_of stem_of
parts_split name None h = ap ending_named (nothing_after name (split_once_first 46 name None h (lit< tt)))
parts_split name (Some x) h = let k = split_once_first 46 name (Some x) h (lit< tt) in (k.1, ap ending_named (sym k.2))

-- A recognised name has an ending.
pub recognised_ends : (name : List ℕ) → IsTrue (is_recognised name) → ending_of name ≡ None → ⊥
unfolding is_recognised
recognised_ends name h e = let some : is_some (ending_of name) ≡ true = second (is_name (stem_of name)) (is_some (ending_of name)) h in let none : is_some (ending_of name) ≡ false = ap is_some e in cc
