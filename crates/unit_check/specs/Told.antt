-- What an index of named ports tells of the rules of a net.
use Rattle.std.specs.Prelude.{◌≡◌, ℕ, List, [], Some, is_some, slice_index_or}
use Rattle.design_lexer.specs.declared.tree.BranchTree.{BranchTree}
use Rattle.design_lexer.specs.declared.tree.RuleTree.{RuleTree}
use Rattle.name_index.specs.Names.{number_of}
use Rattle.name_rules.specs.Places.{place_of}
use Rattle.unit_check.specs.Connection.{is_of_part, is_own, is_placed, is_read}
use Rattle.unit_check.specs.declared.named.NamedPorts.{NamedPorts}

-- The parts have their first places, and each port is there exactly where a rule places it, or reads or ignores it.
pub record Tells (parts : List BranchTree) (rules : List RuleTree) (named : NamedPorts) : Type 0 where
  pub own : (name : List ℕ) → is_some (number_of named.own name) ≡ is_placed rules (is_own name)
  pub found : (name : List ℕ) → number_of named.parts name ≡ place_of (λ b. b.name) parts name
  pub placed : (part : List ℕ) (k : ℕ) → number_of named.parts part ≡ Some k → (port : List ℕ) → is_some (number_of (slice_index_or named.placed k []) port) ≡ is_placed rules (is_of_part part port)
  pub read : (part : List ℕ) (k : ℕ) → number_of named.parts part ≡ Some k → (port : List ℕ) → is_some (number_of (slice_index_or named.read k []) port) ≡ is_read rules (is_of_part part port)
