-- A poset file has one poset.
use Rattle.std.proofs.Common.{◌≡◌, ◌∙◌, ◌<◌, arith, refl, sym, ℕ, suc, Bool, true, false, IsTrue, List, [], ◌∷◌, length}
use Rattle.std.proofs.lemmas.Bool.{eqb-true, eqb-false}
use Rattle.std.proofs.lemmas.Nat.Bits.{bit_at-lt, same_from_bits}
use Rattle.std.specs.Coded.{Coded-set, coded_bool, coded_ℕ, le_prop}
use Rattle.std.specs.Int.{bit_at}
use Rattle.std.specs.Prelude.{nat_eq, slice_index}
use Rattle.design_lexer.specs.declared.tree.File.{File}
use Rattle.design_lexer.specs.declared.tree.File.TheVariants as file
use Rattle.design_lexer.specs.declared.tree.PosetTree.{PosetTree}
use Rattle.name_table.specs.Files.{poset_files}
use Rattle.name_table.specs.Library.{ArePosets, IsPosetIn}
use Rattle.name_table.specs.Orders.{IsPosetOf}
use Rattle.name_table.specs.PartnerLaws.{partners_same}
use Rattle.name_table.specs.declared.source.SourceFile.{SourceFile}
use Rattle.order_core.specs.Finite.{IsTable, is_below, is_element}
use Rattle.order_core.specs.Order.{IsOrder}
use Rattle.order_core.specs.Walk.{IsClosure}
use Rattle.order_core.specs.declared.finite.FiniteOrder.{FiniteOrder}
use Rattle.value_type.specs.declared.poset.Poset.{Poset}
use mathlib.Core.HLevel.{is_prop→PathP}

-- ---- words

bit_same : (p q : ℕ) → p < 2 → q < 2 → (IsTrue (nat_eq p 1) → IsTrue (nat_eq q 1)) → (IsTrue (nat_eq q 1) → IsTrue (nat_eq p 1)) → p ≡ q
bit_same p q l m f g = go (nat_eq p 1) (nat_eq q 1) refl refl
  where
    go : (s t : Bool) → nat_eq p 1 ≡ s → nat_eq q 1 ≡ t → p ≡ q
    go true true e h = eqb-true p 1 e ∙ sym (eqb-true q 1 h)
    go true false e h = let yes = f e in absurd (cc)
    go false true e h = let yes = g h in absurd (cc)
    go false false e h = let p_not = eqb-false p 1 e in let q_not = eqb-false q 1 h in omega (arith, l, m, p_not, q_not)

words_same : (xs ys : List ℕ) → length xs ≡ length ys → ((a : ℕ) → a < length xs → slice_index xs a ≡ slice_index ys a) → xs ≡ ys
words_same [] [] e same = refl
words_same [] (y ∷ ys) e same = absurd (omega (arith, e))
words_same (x ∷ xs) [] e same = absurd (omega (arith, e))
words_same (x ∷ xs) (y ∷ ys) e same =
    let first : x ≡ y = same 0 (omega arith) in
    let rest : xs ≡ ys = words_same xs ys (omega (arith, e)) (λ a l. same (suc a) (omega (arith, l))) in
    λ i. first i ∷ rest i

-- Pairs have one closure.
closures_same : (n : ℕ) (pairs : List (ℕ × ℕ)) (s t : List ℕ) → IsClosure n pairs s → IsClosure n pairs t → s ≡ t
closures_same n pairs s t h k = words_same s t (h.size ∙ sym k.size) word
  where
    word : (a : ℕ) → a < length s → slice_index s a ≡ slice_index t a
    word a l =
        let size = h.size in
        let below : a < n = omega (arith, l, size) in
        same_from_bits (slice_index s a) (slice_index t a) (λ b.
        bit_same (bit_at (slice_index s a) b) (bit_at (slice_index t a) b) (bit_at-lt (slice_index s a) b) (bit_at-lt (slice_index t a) b)
        (λ is. (k.walks a b below).1 ((h.walks a b below).0 is))
        (λ is. (h.walks a b below).1 ((k.walks a b below).0 is)))

-- ---- posets

order_is_one : (table : List ℕ) (a b : IsOrder (is_element table) (is_below table)) → a ≡ b
order_is_one table a b = λ i. record {
  reflexive = λ x p. Coded-set coded_bool (is_below table x x) true (a.reflexive x p) (b.reflexive x p) i;
  transitive = λ x y z p q r s t. Coded-set coded_bool (is_below table x z) true (a.transitive x y z p q r s t) (b.transitive x y z p q r s t) i;
  antisymmetric = λ x y p q r s. Coded-set coded_ℕ x y (a.antisymmetric x y p q r s) (b.antisymmetric x y p q r s) i;
}

table_is_one : (table : List ℕ) (a b : IsTable table) → a ≡ b
table_is_one table a b = λ i. record {
  some = le_prop a.some b.some i;
  few = le_prop a.few b.few i;
  order = order_is_one table a.order b.order i;
  within = λ x y p q. Coded-set coded_bool (is_element table y) true (a.within x y p q) (b.within x y p q) i;
}

orders_same : (a b : FiniteOrder) → a.table ≡ b.table → a ≡ b
orders_same a b e = λ i. record { table = e i; is_table = is_prop→PathP (λ j. IsTable (e j)) (λ j. table_is_one (e j)) a.is_table b.is_table i }

tree_poset_same : (name : List ℕ) (tree : PosetTree) (a b : Poset) → IsPosetOf name tree a → IsPosetOf name tree b → a ≡ b
tree_poset_same name tree a b h k =
    let order : a.order ≡ b.order = orders_same a.order b.order (closures_same _ _ a.order.table b.order.table h.order k.order) in
    λ i. record { name = (h.name_is ∙ sym k.name_is) i; elements = (h.elements ∙ sym k.elements) i; order = order i }

poset_same : (stem : List ℕ) (tree : File) (a b : Poset) → IsPosetIn stem tree a → IsPosetIn stem tree b → a ≡ b
poset_same stem (file.Poset tree) a b h k = tree_poset_same stem tree a b h k
poset_same stem (file.Interface ports) a b h k = absurd h
poset_same stem (file.Design body) a b h k = absurd h
poset_same stem (file.Template params body) a b h k = absurd h

pub posets_same : (files : List SourceFile) (a b : List Poset) → ArePosets files a → ArePosets files b → a ≡ b
posets_same files = partners_same (λ f poset. IsPosetIn f.stem f.tree poset) (λ f. poset_same f.stem f.tree) (poset_files files)
