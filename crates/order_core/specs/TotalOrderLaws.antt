-- Total orders, as sorting wants them.
use Rattle.std.proofs.Common.{◌≡◌, ◌∙◌, refl, sym, ap, true, false}
use Rattle.std.specs.Cmp.{IsTotalOrder, IsStrictWeakOrder}
use Rattle.std.specs.Ordering.{is_lt, ordering_reverse}
use Rattle.std.specs.declared.cmp.Ordering.TheVariants.{Less, Equal, Greater}
use Rattle.std.specs.declared.cmp.Ordering.{Ordering}

reverse_lt : (o : Ordering) → is_lt o ≡ true → is_lt (ordering_reverse o) ≡ false
reverse_lt Less h = refl
reverse_lt Equal h = absurd (cc)
reverse_lt Greater h = absurd (cc)

-- the test of a total order is that of a strict weak order
pub weak : {K : Type 0} (cmp : K → K → Ordering) → IsTotalOrder cmp → IsStrictWeakOrder (λ x y. is_lt (cmp x y))
weak cmp o = record { one_way = one_way; chain = chain }
  where
    one_way : (x y : _) → is_lt (cmp x y) ≡ true → is_lt (cmp y x) ≡ false
    one_way x y h = rw (o.antisymm y x) (reverse_lt (cmp x y) h)

    chain : (x y z : _) → is_lt (cmp x y) ≡ false → is_lt (cmp y z) ≡ false → is_lt (cmp x z) ≡ false
    chain x y z p q = go (cmp x y) refl (cmp y z) refl
      where
        back : cmp z x ≡ Less → is_lt (cmp x z) ≡ false
        back h = rw (o.antisymm x z) (ap (λ r. is_lt (ordering_reverse r)) h)

        above : cmp x y ≡ Greater → cmp y x ≡ Less
        above h = o.antisymm y x ∙ ap ordering_reverse h

        go : (a : Ordering) → cmp x y ≡ a → (b : Ordering) → cmp y z ≡ b → is_lt (cmp x z) ≡ false
        go Less e b f = absurd (let yes : is_lt (cmp x y) ≡ true = ap is_lt e in cc)
        go Equal e b f = ap is_lt (o.congr x y z e) ∙ q
        go Greater e Less f = absurd (let yes : is_lt (cmp y z) ≡ true = ap is_lt f in cc)
        go Greater e Equal f = back (sym (o.congr y z x f) ∙ above e)
        go Greater e Greater f = back (o.trans z y x (o.antisymm z y ∙ ap ordering_reverse f) (above e))
