-- A text writes one row at most, and none where it is refused.
use Rattle.std.proofs.Common.{◌≡◌, ◌∙◌, ◌<◌, ◌+◌, refl, sym, ap, subst, ℕ, zero, suc, List, [], ◌∷◌, ◌++◌, get_or, length, map, take, inl, inr}
use Rattle.std.proofs.lemmas.List.{take_more}
use Rattle.std.proofs.lemmas.Option.{slice_get_read}
use Rattle.std.specs.Prelude.{Option, Some, None, Err, slice_get}
use Rattle.design_lexer.specs.CutLaws.{never_both, tokens_same}
use Rattle.design_lexer.specs.Syntax.Classes.{lexemes_of}
use Rattle.design_lexer.specs.declared.token.Token.{Token}
use Rattle.design_lexer.specs.declared.tree.ValueTree.{ValueTree}
use Rattle.design_parser.specs.Grammar.{Query}
use Rattle.query_read.specs.Queries.{IsKind, IsRow, IsRowFault, IsTextFault, IsTreeFault, WritesValues}
use Rattle.query_read.specs.declared.row.RowFault.{RowFault}
use Rattle.query_read.specs.declared.row.RowFault.TheVariants as cause
use Rattle.row_values.proofs.CellLemmas.{queries_same}
use Rattle.row_values.proofs.ValueLemmas.{each_unequal}
use Rattle.row_values.specs.Rows.{cells_meant}
use Rattle.row_values.specs.Values.{Gives, each_meant, value_meant}
use Rattle.row_values.specs.declared.value.CellFault.{CellFault}
use Rattle.row_values.specs.declared.value.CellFault.TheVariants as fault
use Rattle.row_values.specs.declared.value.Rounding.{Rounding}
use Rattle.tree_units.specs.Together.{with_first}
use Rattle.value_type.specs.declared.port.Port.{Port}
use Rattle.value_type.specs.declared.poset.Types.{Types}
use Rattle.value_type.specs.declared.value.Value.{Value}

-- ---- values one by one

with_more : {B : Type 0} (f : Option B) (o q : Option (List B)) (made : List B) (v : B) → ((before : List B) → o ≡ Some before → q ≡ Some (before ++ v ∷ [])) → with_first f o ≡ Some made → with_first f q ≡ Some (made ++ v ∷ [])
with_more (Some x) (Some before) q made v more h =
    let same : x ∷ before ≡ made = cc in
    ap (with_first (Some x)) (more before refl) ∙ ap (λ ys. Some (ys ++ v ∷ [])) same
with_more (Some x) None q made v more h = absurd (cc)
with_more None o q made v more h = absurd (cc)

-- One value more is meant.
each_last : {K A B : Type 0} (f : K → A → Option B) (ks : List K) (xs : List A) (k : K) (x : A) (made : List B) (v : B) → each_meant (map f ks) xs ≡ Some made → f k x ≡ Some v → each_meant (map f (ks ++ k ∷ [])) (xs ++ x ∷ []) ≡ Some (made ++ v ∷ [])
each_last f [] [] k x made v h e = let same : [] ≡ made = cc in rw (e, ← same) refl
each_last f [] (y ∷ ys) k x made v h e = absurd (cc)
each_last f (j ∷ js) [] k x made v h e = absurd (cc)
each_last f (j ∷ js) (y ∷ ys) k x made v h e = with_more (f j y) (each_meant (map f js) ys) (each_meant (map f (js ++ k ∷ [])) (ys ++ x ∷ [])) made v (λ before is. each_last f js ys k x before v is e) h

pub each_more : {K A B : Type 0} (f : K → A → Option B) (ks : List K) (xs : List A) (i : ℕ) (k : K) (x : A) → i < length ks → i < length xs → k ≡ get_or ks i k → x ≡ get_or xs i x → (made : List B) (v : B) → each_meant (map f (take i ks)) (take i xs) ≡ Some made → f k x ≡ Some v
    → each_meant (map f (take (i + 1) ks)) (take (i + 1) xs) ≡ Some (made ++ v ∷ [])
each_more f ks xs i k x inside within k-is x-is made v h e =
    rw (take_more ks i k inside, take_more xs i x within, ← k-is, ← x-is) (each_last f (take i ks) (take i xs) k x made v h e)

-- The first value that means nothing.
pub first_bad : (types : Types) (rounding : Rounding) (ports : List Port) (trees : List ValueTree) (index : ℕ) (port : Port) (tree : ValueTree) (before : List Value) → length trees ≡ length ports → index < length trees → port ≡ get_or ports index port → tree ≡ get_or trees index tree
    → cells_meant types rounding (take index ports) (take index trees) ≡ Some before → (e : CellFault) → e ≡ fault.Bad → Gives (value_meant types rounding (get_or ports index port).kind tree) (Err e) → IsKind types rounding ports trees index
first_bad types rounding ports trees index port tree before width inside port-is tree-is good e e-is given = record {
  width = width;
  before = before;
  good = good;
  port = port;
  is_port = slice_get_read ports (length trees) index port width inside port-is;
  tree = tree;
  is_tree = slice_get_read trees (length trees) index tree refl inside tree-is;
  bad = ap (λ (p : Port). value_meant types rounding p.kind tree) port-is ∙ subst (λ (f : CellFault). Gives (value_meant types rounding (get_or ports index port).kind tree) (Err f)) e-is given;
}

-- Where one means nothing, there is nothing of all.
each_none : {K A B : Type 0} (f : K → A → Option B) (ks : List K) (xs : List A) (i : ℕ) (k : K) (x : A) → slice_get ks i ≡ Some k → slice_get xs i ≡ Some x → f k x ≡ None → each_meant (map f ks) xs ≡ None
each_none f [] xs i k x k-is x-is e = absurd (cc)
each_none f (j ∷ js) [] i k x k-is x-is e = absurd (cc)
each_none f (j ∷ js) (y ∷ ys) zero k x k-is x-is e =
    let one : j ≡ k = cc in
    let two : y ≡ x = cc in
    rw (one, two, e) refl
each_none {B = B} f (j ∷ js) (y ∷ ys) (suc i) k x k-is x-is e = ap (with_first (f j y)) (each_none f js ys i k x k-is x-is e) ∙ none_with (f j y)
  where
    none_with : (o : Option B) → with_first o None ≡ None
    none_with (Some v) = refl
    none_with None = refl

-- ---- texts

pub trees_same : (text : List ℕ) (a b : List ValueTree) → WritesValues text a → WritesValues text b → a ≡ b
trees_same text a b h k =
    let same : k.tokens ≡ h.tokens = tokens_same text k.tokens h.tokens k.cut h.cut in
    queries_same (lexemes_of text h.tokens) a b h.written (subst (λ (ts : List Token). Query (lexemes_of text ts) b) same k.written)

pub no_values : (text : List ℕ) (why : RowFault) (trees : List ValueTree) → IsTextFault text why → WritesValues text trees → ⊥
no_values text (cause.Syntax at) trees (inl bad) w = never_both text w.tokens at w.cut bad
no_values text (cause.Syntax at) trees (inr none) w =
    let same : w.tokens ≡ none.tokens = tokens_same text w.tokens none.tokens w.cut none.cut in
    none.fails.never trees (subst (λ (ts : List Token). Query (lexemes_of text ts) trees) same w.written)
no_values text (cause.Width found wanted) trees h w = h
no_values text (cause.Kind index) trees h w = h

-- ---- rows

module _ (types : Types) (rounding : Rounding) (ports : List Port) where
  no_row : (trees : List ValueTree) (why : RowFault) → IsTreeFault types rounding ports trees why → cells_meant types rounding ports trees ≡ None
  no_row trees (cause.Syntax at) h = absurd h
  no_row trees (cause.Width found wanted) h = each_unequal (λ (p : Port). value_meant types rounding p.kind) ports trees (λ e. h.differ (h.is_found ∙ e ∙ sym h.is_wanted))
  no_row trees (cause.Kind index) h = each_none (λ (p : Port). value_meant types rounding p.kind) ports trees index h.port h.tree h.is_port h.is_tree h.bad

  pub rows_same : (text : List ℕ) (row other : List Value) → IsRow types rounding ports text row → IsRow types rounding ports text other → row ≡ other
  rows_same text row other h k =
      let same : h.trees ≡ k.trees = trees_same text h.trees k.trees h.writes k.writes in
      let both = sym h.means ∙ ap (cells_meant types rounding ports) same ∙ k.means in
      cc

  pub never_row : (text : List ℕ) (why : RowFault) (row : List Value) → IsRowFault types rounding ports text why → IsRow types rounding ports text row → ⊥
  never_row text why row (inl bad) h = no_values text why h.trees bad h.writes
  never_row text why row (inr bad) h =
      let same : bad.trees ≡ h.trees = trees_same text bad.trees h.trees bad.writes h.writes in
      let none = sym (no_row bad.trees why bad.bad) ∙ ap (cells_meant types rounding ports) same ∙ h.means in
      cc
