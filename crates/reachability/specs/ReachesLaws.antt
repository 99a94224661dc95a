-- Chains one pair longer, and where chains of pairs below n lead.
use Rattle.std.proofs.Common.{◌<◌, ℕ, IsTrue, List, ◌∷◌}
use Rattle.std.specs.List.{list_all}
use Rattle.order_core.specs.Members.{IsMember}
use Rattle.order_core.specs.Walk.{is_pair_below}
use Rattle.reachability.specs.Reaches.{Reaches}
use Rattle.order_core.specs.WalkLaws.{pair_within, walk_within}

pub pair_reaches : (pairs : List (ℕ × ℕ)) (a b c : ℕ) → IsMember {A = ℕ × ℕ} (a, b) pairs → Reaches pairs b c → Reaches pairs a c
pair_reaches pairs a b c m r = (b, m, (r.0 ∷ r.2.0, (r.1, r.2.1)))

module _ (n : ℕ) (pairs : List (ℕ × ℕ)) (below : IsTrue (list_all (is_pair_below n) pairs)) where
  pub reaches_within : (a b : ℕ) → Reaches pairs a b → (a < n) × (b < n)
  reaches_within a b r = let pair = pair_within n pairs below a r.0 r.1 in (pair.0, walk_within n pairs below r.0 r.2.0 b pair.1 r.2.1)
