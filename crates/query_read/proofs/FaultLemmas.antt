-- A text has one fault at most.
use Rattle.std.proofs.Common.{◌≡◌, ◌∙◌, ◌<◌, ◌⊎◌, refl, sym, ap, subst, arith, ℕ, zero, suc, List, [], ◌∷◌, inl, inr, length, map, take}
use Rattle.std.proofs.lemmas.Bool.{cases_order}
use Rattle.std.specs.Prelude.{Option, Some, None, slice_get}
use Rattle.design_lexer.specs.CutLaws.{first_bad_same, never_both, tokens_same, tokens_stand}
use Rattle.design_lexer.specs.Syntax.Classes.{lexemes_of}
use Rattle.design_lexer.specs.Syntax.FaultLaws.{fails_same, lexemes_proper}
use Rattle.design_lexer.specs.Syntax.Faults.{FailsAt}
use Rattle.design_lexer.specs.declared.token.Token.{Token}
use Rattle.design_lexer.specs.declared.tree.ValueTree.{ValueTree}
use Rattle.design_model.specs.Parts.{provided_ports, required_ports}
use Rattle.design_model.specs.declared.design.Design.{Design}
use Rattle.design_parser.specs.Grammar.{Query}
use Rattle.query_read.proofs.RowLemmas.{no_values, trees_same}
use Rattle.query_read.specs.Queries.{IsKind, IsQueryFault, IsRowFault, IsSyntax, IsTextFault, IsTreeFault, IsTupleFault, WritesBad, fault_of_query, fault_of_tuple}
use Rattle.query_read.specs.declared.query.QueryFault.{QueryFault}
use Rattle.query_read.specs.declared.row.RowFault.{RowFault}
use Rattle.query_read.specs.declared.row.RowFault.TheVariants as cause
use Rattle.row_values.specs.Values.{each_meant, value_meant}
use Rattle.row_values.specs.declared.value.Rounding.{Rounding}
use Rattle.row_values.specs.declared.value.Rounding.TheVariants as rounding
use Rattle.tree_units.specs.Together.{with_first}
use Rattle.value_type.specs.declared.port.Port.{Port}
use Rattle.value_type.specs.declared.poset.Types.{Types}

-- ---- texts

syntax_same : (text : List ℕ) (a b : ℕ) → IsSyntax text a → IsSyntax text b → a ≡ b
syntax_same text a b (inl h) (inl k) = first_bad_same text a b h k
syntax_same text a b (inl h) (inr k) = absurd (never_both text k.tokens a k.cut h)
syntax_same text a b (inr h) (inl k) = absurd (never_both text h.tokens b h.cut k)
syntax_same text a b (inr h) (inr k) =
    let tokens : k.tokens ≡ h.tokens = tokens_same text k.tokens h.tokens k.cut h.cut in
    let other = subst (λ (ts : List Token). FailsAt Query (length text) (lexemes_of text ts) b) tokens k.fails in
    fails_same Query (length text) (lexemes_of text h.tokens) a b (lexemes_proper text h.tokens (tokens_stand text h.tokens h.cut)) h.fails other

text_same : (text : List ℕ) (a b : RowFault) → IsTextFault text a → IsTextFault text b → a ≡ b
text_same text (cause.Syntax at) (cause.Syntax other) h k = ap cause.Syntax (syntax_same text at other h k)
text_same text (cause.Syntax at) (cause.Width found wanted) h k = absurd k
text_same text (cause.Syntax at) (cause.Kind index) h k = absurd k
text_same text (cause.Width found wanted) b h k = absurd h
text_same text (cause.Kind index) b h k = absurd h

-- ---- values

-- Where so many mean something, none of them means nothing.
means_nothing : {K A B : Type 0} (f : K → A → Option B) (ks : List K) (xs : List A) (i j : ℕ) (k : K) (x : A) (made : List B) → i < j → slice_get ks i ≡ Some k → slice_get xs i ≡ Some x → f k x ≡ None → each_meant (map f (take j ks)) (take j xs) ≡ Some made → ⊥
means_nothing f [] xs i j k x made l k-is x-is none all = absurd (cc)
means_nothing f (y ∷ ks) [] i j k x made l k-is x-is none all = absurd (cc)
means_nothing f (y ∷ ks) (z ∷ xs) i zero k x made l k-is x-is none all = absurd (omega (arith, l))
means_nothing f (y ∷ ks) (z ∷ xs) zero (suc j) k x made l k-is x-is none all =
    let one : y ≡ k = cc in
    let two : z ≡ x = cc in
    let nothing : f y z ≡ None = ap (λ q. f q z) one ∙ ap (f k) two ∙ none in
    let none_all = sym (ap (λ o. with_first o (each_meant (map f (take j ks)) (take j xs))) nothing) ∙ all in
    cc
means_nothing {B = B} f (y ∷ ks) (z ∷ xs) (suc i) (suc j) k x made l k-is x-is none all = go (f y z) (each_meant (map f (take j ks)) (take j xs)) refl all (λ made rest. means_nothing f ks xs i j k x made (omega (arith, l)) k-is x-is none rest)
  where
    go : (o : Option B) (p : Option (List B)) → each_meant (map f (take j ks)) (take j xs) ≡ p → with_first o p ≡ Some made → ((made : List B) → each_meant (map f (take j ks)) (take j xs) ≡ Some made → ⊥) → ⊥
    go (Some v) (Some rest) e h later = later rest e
    go (Some v) None e h later = cc
    go None p e h later = cc

module _ (types : Types) (r : Rounding) (ports : List Port) where
  not_before : (trees : List ValueTree) (i j : ℕ) → IsKind types r ports trees i → IsKind types r ports trees j → i < j → ⊥
  not_before trees i j h k l = means_nothing (λ (p : Port). value_meant types r p.kind) ports trees i j h.port h.tree k.before l h.is_port h.is_tree h.bad k.good

  kind_same : (trees : List ValueTree) (i j : ℕ) → IsKind types r ports trees i → IsKind types r ports trees j → i ≡ j
  kind_same trees i j h k = go (cases_order i j)
    where
      go : (i ≡ j) ⊎ ((i < j) ⊎ (j < i)) → i ≡ j
      go (inl e) = e
      go (inr (inl l)) = absurd (not_before trees i j h k l)
      go (inr (inr l)) = absurd (not_before trees j i k h l)

  tree_same : (trees : List ValueTree) (a b : RowFault) → IsTreeFault types r ports trees a → IsTreeFault types r ports trees b → a ≡ b
  tree_same trees (cause.Syntax at) b h k = absurd h
  tree_same trees (cause.Width found wanted) (cause.Syntax at) h k = absurd k
  tree_same trees (cause.Width found wanted) (cause.Width other more) h k =
      let found_same : found ≡ other = h.is_found ∙ sym k.is_found in
      let wanted_same : wanted ≡ more = h.is_wanted ∙ sym k.is_wanted in
      λ i. cause.Width (found_same i) (wanted_same i)
  tree_same trees (cause.Width found wanted) (cause.Kind index) h k = absurd (h.differ (h.is_found ∙ k.width ∙ sym h.is_wanted))
  tree_same trees (cause.Kind index) (cause.Syntax at) h k = absurd k
  tree_same trees (cause.Kind index) (cause.Width found wanted) h k = absurd (k.differ (k.is_found ∙ h.width ∙ sym k.is_wanted))
  tree_same trees (cause.Kind index) (cause.Kind other) h k = ap cause.Kind (kind_same trees index other h k)

  -- ---- rows

  no_values_bad : (text : List ℕ) (a b : RowFault) → IsTextFault text a → WritesBad types r ports text b → ⊥
  no_values_bad text a b h k = no_values text a k.trees h k.writes

  pub row_fault_same : (text : List ℕ) (a b : RowFault) → IsRowFault types r ports text a → IsRowFault types r ports text b → a ≡ b
  row_fault_same text a b (inl h) (inl k) = text_same text a b h k
  row_fault_same text a b (inl h) (inr k) = absurd (no_values_bad text a b h k)
  row_fault_same text a b (inr h) (inl k) = absurd (no_values_bad text b a k h)
  row_fault_same text a b (inr h) (inr k) =
      let trees = trees_same text k.trees h.trees k.writes h.writes in
      tree_same h.trees a b h.bad (subst (λ (ts : List ValueTree). IsTreeFault types r ports ts b) trees k.bad)

pub query_fault_same : (types : Types) (design : Design) (text : List ℕ) (a b : QueryFault) → IsQueryFault types design text a → IsQueryFault types design text b → a ≡ b
query_fault_same types design text a b h k = h.is ∙ ap fault_of_query (row_fault_same types rounding.Up (provided_ports design) text h.why k.why h.bad k.bad) ∙ sym k.is

pub tuple_fault_same : (types : Types) (design : Design) (text : List ℕ) (a b : QueryFault) → IsTupleFault types design text a → IsTupleFault types design text b → a ≡ b
tuple_fault_same types design text a b h k = h.is ∙ ap fault_of_tuple (row_fault_same types rounding.Down (required_ports design) text h.why k.why h.bad k.bad) ∙ sym k.is
