-- Values at places of rows that fit and are in order.
use Rattle.std.specs.Prelude.{◌≡◌, ℕ, zero, suc, IsTrue, List, [], ◌∷◌, Option, Some, slice_get}
use Rattle.std.proofs.Common.{refl, subst}
use Rattle.order_core.specs.MemberLaws.{first, second}
use Rattle.order_core.specs.Pointwise.{Pointwise}
use Rattle.value_type.specs.declared.kind.Kind.{Kind}
use Rattle.value_type.specs.declared.poset.Types.{Types}
use Rattle.value_type.specs.declared.value.Value.{Value}
use Rattle.value_type.specs.Fits.{fits, row_fits}
use Rattle.value_type.specs.KindOrderLaws.{kind_laws}
use Rattle.value_type.specs.Leq.{leq, row_leq}
use Rattle.design_model.specs.Rows.{Row}
use Rattle.design_model.specs.ValueOf.{port_at}
use Rattle.design_model.specs.Wiring.{kind_at}
use Rattle.design_model.specs.ValuesInOrder.{ValuesLeq, FitsAt}

pub itself : (t : Types) (k : Kind) (a : Option Value) → FitsAt t k a → ValuesLeq t k a a
itself t k a h = record {
  low = h.value;
  high = h.value;
  low_is = h.is;
  high_is = h.is;
  low_fits = h.fits_kind;
  high_fits = h.fits_kind;
  ordered = (kind_laws t k).reflexive h.value h.fits_kind;
}

-- the value at a place of a row
pub row_at : (t : Types) (kinds : List Kind) (xs : Row) (j : ℕ) (k : Kind) → IsTrue (row_fits t kinds xs) → slice_get kinds j ≡ Some k → FitsAt t k (slice_get xs j)
row_at t [] xs j k h e = absurd (cc)
row_at t (kind ∷ kinds) [] j k h e = absurd (cc)
row_at t (kind ∷ kinds) (x ∷ xs) zero k h e =
    let same : kind ≡ k = cc in record { value = x; is = refl; fits_kind = subst (λ (z : Kind). IsTrue (fits t z x)) same (first _ _ h) }
row_at t (kind ∷ kinds) (x ∷ xs) (suc j) k h e = row_at t kinds xs j k (second (fits t kind x) _ h) e

-- the values at a place of two rows
pub rows_at : (t : Types) (kinds : List Kind) (xs ys : Row) (j : ℕ) (k : Kind) → IsTrue (row_fits t kinds xs) → IsTrue (row_fits t kinds ys) → IsTrue (row_leq t kinds xs ys)
    → slice_get kinds j ≡ Some k → ValuesLeq t k (slice_get xs j) (slice_get ys j)
rows_at t [] xs ys j k h g l e = absurd (cc)
rows_at t (kind ∷ kinds) [] ys j k h g l e = absurd (cc)
rows_at t (kind ∷ kinds) (x ∷ xs) [] j k h g l e = absurd (cc)
rows_at t (kind ∷ kinds) (x ∷ xs) (y ∷ ys) zero k h g l e =
    let same : kind ≡ k = cc in
    record {
      low = x;
      high = y;
      low_is = refl;
      high_is = refl;
      low_fits = subst (λ (z : Kind). IsTrue (fits t z x)) same (first _ _ h);
      high_fits = subst (λ (z : Kind). IsTrue (fits t z y)) same (first _ _ g);
      ordered = subst (λ (z : Kind). IsTrue (leq t z x y)) same (first _ _ l);
    }
rows_at t (kind ∷ kinds) (x ∷ xs) (y ∷ ys) (suc j) k h g l e =
    rows_at t kinds xs ys j k (second (fits t kind x) _ h) (second (fits t kind y) _ g) (second (leq t kind x y) _ l) e

-- the value at a port of one of the rows
pub part_row_at : (t : Types) (kinds : List (List Kind)) (rows : List Row) (i j : ℕ) (k : Kind) → Pointwise (λ ks row. IsTrue (row_fits t ks row)) kinds rows → kind_at kinds i j ≡ Some k
    → FitsAt t k (port_at rows i j)
part_row_at t [] rows i j k h e = absurd (cc)
part_row_at t (ks ∷ kinds) [] i j k h e = absurd h
part_row_at t (ks ∷ kinds) (row ∷ rows) zero j k h e = row_at t ks row j k h.0 e
part_row_at t (ks ∷ kinds) (row ∷ rows) (suc i) j k h e = part_row_at t kinds rows i j k h.1 e
