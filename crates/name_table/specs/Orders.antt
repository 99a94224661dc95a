-- The orders of posets, and what is wrong with them.
use Rattle.std.specs.Prelude.{◌≡◌, ℕ, Bool, true, ◌&&◌, nat_eq, nat_lt, List, [], ◌∷◌, ◌++◌, length, map, Option, Some, None}
use Rattle.std.specs.List.{flat_map, list_any}
use Rattle.design_lexer.specs.declared.tree.File.{File}
use Rattle.design_lexer.specs.declared.tree.File.TheVariants as file
use Rattle.design_lexer.specs.declared.tree.NameAt.{NameAt}
use Rattle.design_lexer.specs.declared.tree.PosetTree.{PosetTree}
use Rattle.fault_list.specs.Faults.{fault_if}
use Rattle.fault_list.specs.declared.fault.Fault.{Fault}
use Rattle.fault_list.specs.declared.fault.FaultKind.{FaultKind}
use Rattle.fault_list.specs.declared.fault.FaultKind.TheVariants.{EmptyPoset, LargePoset, NotAnOrder}
use Rattle.name_rules.specs.Places.{place_of}
use Rattle.order_core.specs.NumbersBelow.{numbers_below}
use Rattle.order_core.specs.Walk.{IsClosure}
use Rattle.reachability.specs.Leads.{leads_through}
use Rattle.value_type.specs.declared.poset.Poset.{Poset}

-- a pair of two places, if both are there
abbrev pub linked : Option ℕ → Option ℕ → List (ℕ × ℕ)
linked (Some a) (Some b) = (a, b) ∷ []
linked _ _ = []

-- the pairs of the places of neighbours in a chain whose next name follows one at this place
abbrev pub chain_after : (List ℕ → Option ℕ) → Option ℕ → List NameAt → List (ℕ × ℕ)
chain_after place before [] = []
chain_after place before (name ∷ chain) = linked before (place name.name) ++ chain_after place (place name.name) chain

-- the pairs of neighbours of all chains
abbrev pub chain_pairs : (List ℕ → Option ℕ) → List (List NameAt) → List (ℕ × ℕ)
chain_pairs place chains = flat_map (chain_after place None) chains

-- the pairs that a poset declares, by the places of its elements
abbrev pub declared_pairs : PosetTree → List (ℕ × ℕ)
declared_pairs poset = chain_pairs (place_of (λ name. name) poset.elements) poset.chains

abbrev pub all_below : ℕ → List ℕ
all_below n = numbers_below n (λ x. true)

-- Chains of pairs lead from a to b and back.
abbrev pub are_mutual : ℕ → List (ℕ × ℕ) → ℕ → ℕ → Bool
are_mutual n pairs a b = nat_lt a b && (leads_through pairs n a b && leads_through pairs n b a)

-- Of the numbers below n, two different ones are related both ways.
abbrev pub has_cycle : ℕ → List (ℕ × ℕ) → Bool
has_cycle n pairs = list_any (λ a. list_any (are_mutual n pairs a) (all_below n)) (all_below n)

-- a fault of a whole file
abbrev pub at_start : FaultKind → Fault
at_start kind = record { kind = kind; at = 0 }

-- no element, more than 64, or no order
abbrev pub order_faults : PosetTree → List Fault
order_faults poset =
    fault_if (nat_eq (length poset.elements) 0) (at_start EmptyPoset)
    ++ fault_if (nat_lt 64 (length poset.elements)) (at_start LargePoset)
    ++ fault_if (has_cycle (length poset.elements) (declared_pairs poset)) (at_start NotAnOrder)

abbrev pub poset_faults : File → List Fault
poset_faults (file.Poset poset) = order_faults poset
poset_faults _ = []

-- The poset has the elements of the tree, and its order is the closure of the pairs that it declares.
pub record IsPosetOf (name : List ℕ) (tree : PosetTree) (poset : Poset) : Type 0 where
  pub name_is : poset.name ≡ name
  pub elements : poset.elements ≡ map (λ e. e.name) tree.elements
  pub order : IsClosure (length tree.elements) (declared_pairs tree) poset.order.table
