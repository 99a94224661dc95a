-- The pairs of a poset's chains, and whether their closure is an order.
use Rattle.std.proofs.Common.{◌≡◌, ◌≢◌, ◌∙◌, ◌<◌, ◌≤◌, arith, refl, ap, ℕ, Bool, true, false, IsTrue, List, [], ◌∷◌, ◌⊎◌, inl, inr, length}
use Rattle.std.proofs.lemmas.Bool.{lt-ltb, ltb-true}
use Rattle.std.proofs.lemmas.Bool.Decides.{nat_tests}
use Rattle.std.proofs.lemmas.List.Folds.{list_all-append}
use Rattle.std.specs.List.{list_all, list_any}
use Rattle.std.specs.Prelude.{Option, Some, None, nat_eq, nat_lt}
use Rattle.design_lexer.specs.declared.tree.NameAt.{NameAt}
use Rattle.design_lexer.specs.declared.tree.PosetTree.{PosetTree}
use Rattle.fault_list.specs.Faults.{fault_if, first_fault}
use Rattle.fault_list.specs.declared.fault.FaultKind.TheVariants.{NotAnOrder}
use Rattle.name_index.specs.PlaceLaws.{place_below}
use Rattle.name_rules.specs.Places.{place_of}
use Rattle.name_table.specs.Orders.{all_below, are_mutual, at_start, chain_after, chain_pairs, declared_pairs, has_cycle, linked, order_faults}
use Rattle.order_core.specs.Finite.{IsTable}
use Rattle.order_core.specs.MemberLaws.{any_elim, any_intro, both, decide, first, second}
use Rattle.order_core.specs.NumbersBelowLaws.{number_passes, passing_number}
use Rattle.order_core.specs.Walk.{BothWays, IsClosure, IsFirstCycle, Walk, WalksAlong, is_pair_below}
use Rattle.reachability.specs.Leads.{leads_through}
use Rattle.reachability.specs.LeadsLaws.{leads_reaches}
use Rattle.reachability.specs.Reaches.{Reaches}

-- Where each place is below n, so are the pairs.
module _ (n : ℕ) (place : List ℕ → Option ℕ) (within : (name : List ℕ) (k : ℕ) → place name ≡ Some k → k < n) where
  linked_below : (a b : Option ℕ) → ((k : ℕ) → a ≡ Some k → k < n) → ((k : ℕ) → b ≡ Some k → k < n) → IsTrue (list_all (is_pair_below n) (linked a b))
  linked_below (Some a) (Some b) f g = both _ _ (both _ _ (lt-ltb a n (f a refl)) (lt-ltb b n (g b refl))) refl
  linked_below (Some a) None f g = refl
  linked_below None b f g = refl

  chain_below : (before : Option ℕ) (chain : List NameAt) → ((k : ℕ) → before ≡ Some k → k < n) → IsTrue (list_all (is_pair_below n) (chain_after place before chain))
  chain_below before [] f = refl
  chain_below before (name ∷ chain) f =
      list_all-append (is_pair_below n) (linked before (place name.name)) (chain_after place (place name.name) chain)
      ∙ both _ _ (linked_below before (place name.name) f (within name.name)) (chain_below (place name.name) chain (within name.name))

  pub chains_below : (chains : List (List NameAt)) → IsTrue (list_all (is_pair_below n) (chain_pairs place chains))
  chains_below [] = refl
  chains_below (chain ∷ chains) =
      list_all-append (is_pair_below n) (chain_after place None chain) (chain_pairs place chains)
      ∙ both _ _ (chain_below None chain (λ k e. absurd (cc))) (chains_below chains)

-- A walk that leads to another number is a chain of one pair at least, and such a chain is a walk.
walk_reaches : (pairs : List (ℕ × ℕ)) (a b : ℕ) → a ≢ b → Walk pairs a b → Reaches pairs a b
walk_reaches pairs a b differ w = go w.0 w.1
  where
    go : (steps : List ℕ) → WalksAlong pairs a steps b → Reaches pairs a b
    go [] e = absurd (differ e)
    go (x ∷ steps) h = (x, h.0, (steps, h.1))

reaches_walk : (pairs : List (ℕ × ℕ)) (a b : ℕ) → Reaches pairs a b → Walk pairs a b
reaches_walk pairs a b r = (r.0 ∷ r.2.0, (r.1, r.2.1))

module _ (n : ℕ) (pairs : List (ℕ × ℕ)) (below : IsTrue (list_all (is_pair_below n) pairs)) where
  pub mutual_found : (a b : ℕ) → a < b → b < n → BothWays pairs a b → has_cycle n pairs ≡ true
  mutual_found a b l k ways =
      any_intro (λ x. list_any (are_mutual n pairs x) (all_below n)) (all_below n) a (passing_number (λ x. true) n a (omega (arith, l, k)) refl)
      (any_intro (are_mutual n pairs a) (all_below n) b (passing_number (λ x. true) n b k refl)
      (both _ _ (lt-ltb a b l) (both _ _ ((leads_reaches pairs n below a b).1 (walk_reaches pairs a b (λ e. omega (arith, l, e)) ways.0)) ((leads_reaches pairs n below b a).1 (walk_reaches pairs b a (λ e. omega (arith, l, e)) ways.1)))))

  pub cycle_found : (a b : ℕ) → IsFirstCycle n pairs a b → has_cycle n pairs ≡ true
  cycle_found a b cycle = mutual_found a b cycle.different cycle.within cycle.both_ways

  pub found_mutual : IsTrue (has_cycle n pairs) → (a : ℕ) × (b : ℕ) × (a < b) × (b < n) × BothWays pairs a b
  found_mutual h =
      let v = any_elim (λ x. list_any (are_mutual n pairs x) (all_below n)) (all_below n) h in
      let w = any_elim (are_mutual n pairs v.0) (all_below n) v.2 in
      let ways = second (nat_lt v.0 w.0) _ w.2 in (
        v.0,
        w.0,
        ltb-true v.0 w.0 (first _ _ w.2),
        (number_passes (λ x. true) n w.0 w.1).0,
        (reaches_walk pairs v.0 w.0 ((leads_reaches pairs n below v.0 w.0).0 (first _ _ ways)), reaches_walk pairs w.0 v.0 ((leads_reaches pairs n below w.0 v.0).0 (second (leads_through pairs n v.0 w.0) _ ways))),
      )

  module _ (table : List ℕ) (closure : IsClosure n pairs table) (is_table : IsTable table) where
    pub no_cycle : has_cycle n pairs ≡ false
    no_cycle = go (decide (has_cycle n pairs))
      where
        go : IsTrue (has_cycle n pairs) ⊎ (has_cycle n pairs ≡ false) → has_cycle n pairs ≡ false
        go (inr e) = e
        go (inl h) =
            let w = found_mutual h in
            let a_in : w.0 < n = omega (arith, w.2, w.3) in
            let same : w.0 ≡ w.1 = is_table.order.antisymmetric w.0 w.1 (lt-ltb w.0 (length table) (omega (arith, closure.size, a_in))) (lt-ltb w.1 (length table) (omega (arith, closure.size, w.3))) ((closure.walks w.0 w.1 a_in).1 w.4.0) ((closure.walks w.1 w.0 w.3).1 w.4.1) in
            absurd (omega (arith, w.2, same))

module _ (tree : PosetTree) where
  pub declared_below : IsTrue (list_all (is_pair_below (length tree.elements)) (declared_pairs tree))
  declared_below = chains_below (length tree.elements) (place_of (λ (n : NameAt). n) tree.elements) (λ name k e. place_below (λ (n : NameAt). n.name) tree.elements name k e) tree.chains

  module _ (some : length tree.elements ≡ 0 → ⊥) (few : length tree.elements ≤ 64) where
    faults_are : (t : Bool) → has_cycle (length tree.elements) (declared_pairs tree) ≡ t → order_faults tree ≡ fault_if t (at_start NotAnOrder)
    faults_are t e = rw (not_empty, not_large, e) refl
      where
        not_empty : nat_eq (length tree.elements) 0 ≡ false
        not_empty = grind (arith, nat_tests, some)

        not_large : nat_lt 64 (length tree.elements) ≡ false
        not_large = grind (arith, nat_tests, few)

    pub no_order_faults : (table : List ℕ) → IsClosure (length tree.elements) (declared_pairs tree) table → IsTable table → order_faults tree ≡ []
    no_order_faults table closure is_table = faults_are false (no_cycle (length tree.elements) (declared_pairs tree) declared_below table closure is_table)

    pub first_order_fault : (a b : ℕ) → IsFirstCycle (length tree.elements) (declared_pairs tree) a b → first_fault (order_faults tree) ≡ Some (at_start NotAnOrder)
    first_order_fault a b cycle = ap first_fault (faults_are true (cycle_found (length tree.elements) (declared_pairs tree) declared_below a b cycle))
