-- What a table tells of chains: where they lead, who comes back first, and that ranks fall along pairs where none does.
use Rattle.std.proofs.Common.{◌≡◌, ◌<◌, ◌≤◌, refl, sym, subst, ℕ, false, IsTrue, List, [], ◌⊎◌, inl, inr}
use Rattle.std.specs.List.{list_all}
use Rattle.order_core.specs.MemberLaws.{decide}
use Rattle.order_core.specs.Members.{IsMember}
use Rattle.order_core.specs.Walk.{is_pair_below}
use Rattle.reachability.specs.declared.reach.Reachability.{Reachability}
use Rattle.order_core.specs.CountLaws.{count_at_most, more_pass}
use Rattle.reachability.specs.Reach.{reach, rank, IsReach, IsFirstItself, NoneItself}
use Rattle.reachability.specs.Reaches.{IsFirstBack, NoneBack}
use Rattle.reachability.specs.ReachesLaws.{pair_reaches, reaches_within}

module _ (n : ℕ) (pairs : List (ℕ × ℕ)) (made : Reachability) (is_reach : IsReach n pairs made) where
  pub reach_within : IsTrue (list_all (is_pair_below n) pairs) → (a b : ℕ) → IsTrue (reach made a b) → (a < n) × (b < n)
  reach_within below a b h = reaches_within n pairs below a b ((is_reach.reaches a b).0 h)

  pub first_comes_back : (i : ℕ) → IsFirstItself made i → IsFirstBack n pairs i
  first_comes_back i found = record {
    within = subst (λ (z : ℕ). i < z) is_reach.size found.within;
    back = (is_reach.reaches i i).0 found.itself;
    first = λ j l r. found.first j l ((is_reach.reaches j j).1 r);
  }

  pub none_comes_back : NoneItself made → NoneBack n pairs
  none_comes_back none = λ i l r. none i (subst (λ (z : ℕ). i < z) (sym is_reach.size) l) ((is_reach.reaches i i).1 r)

  pub rank_at_most : (a : ℕ) → rank made a ≤ n
  rank_at_most a = subst (λ (z : ℕ). rank made a ≤ z) is_reach.size (count_at_most made.size (reach made a))

  pub rank_falls : NoneBack n pairs → (a b : ℕ) → IsMember {A = ℕ × ℕ} (a, b) pairs → b < n → rank made b < rank made a
  rank_falls none a b m l = more_pass (reach made b) (reach made a) made.size b part (subst (λ (z : ℕ). b < z) (sym is_reach.size) l) (itself (decide (reach made b b))) yes
    where
      part : (x : ℕ) → x < made.size → IsTrue (reach made b x) → IsTrue (reach made a x)
      part x k h = (is_reach.reaches a x).1 (pair_reaches pairs a b x m ((is_reach.reaches b x).0 h))

      yes : IsTrue (reach made a b)
      yes = (is_reach.reaches a b).1 (b, m, ([], refl))

      itself : IsTrue (reach made b b) ⊎ (reach made b b ≡ false) → reach made b b ≡ false
      itself (inl h) = absurd (none b l ((is_reach.reaches b b).0 h))
      itself (inr e) = e
