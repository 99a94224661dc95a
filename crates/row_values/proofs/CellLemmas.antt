-- A cell means at most one thing.
use Rattle.std.proofs.Common.{◌≡◌, ◌∙◌, ℕ, List, [], ◌∷◌, Some, None, sym, ap, subst}
use Rattle.value_type.specs.declared.kind.Kind.{Kind}
use Rattle.value_type.specs.declared.poset.Types.{Types}
use Rattle.value_type.specs.declared.value.Value.{Value}
use Rattle.design_lexer.specs.declared.token.Token.{Token}
use Rattle.design_lexer.specs.declared.tree.ValueTree.{ValueTree}
use Rattle.design_lexer.specs.CutLaws.{tokens_same}
use Rattle.design_lexer.specs.Syntax.Classes.{Lexeme, lexemes_of, one_of}
use Rattle.design_lexer.specs.Syntax.FaultLaws.{written_once}
use Rattle.design_parser.specs.Grammar.{Query}
use Rattle.design_parser.specs.Readers.{maybe_cells_at}
use Rattle.design_parser.proofs.BodyParts.{query_part}
use Rattle.design_parser.proofs.ValueParts.{cells_on}
use Rattle.row_values.specs.declared.value.Rounding.{Rounding}
use Rattle.std.specs.Prelude.{Result, Ok, Err}
use Rattle.row_values.specs.declared.value.CellFault.{CellFault}
use Rattle.row_values.specs.declared.value.CellFault.TheVariants as fault
use Rattle.row_values.specs.Cells.{Writes, CellIs, Finds}
use Rattle.row_values.specs.Values.{Gives, value_meant}

pub queries_same : (ts : List Lexeme) (a b : List ValueTree) → Query ts a → Query ts b → a ≡ b
queries_same ts a b h k = written_once (one_of cells_on) Query maybe_cells_at query_part ts a b h k

pub tree_same : (cell : List ℕ) (a b : ValueTree) → Writes cell a → Writes cell b → a ≡ b
tree_same cell a b h k =
    let tokens : k.tokens ≡ h.tokens = tokens_same cell k.tokens h.tokens k.cut.cut h.cut.cut in
    let there : Query (lexemes_of cell h.tokens) (b ∷ []) = subst (λ (ts : List Token). Query (lexemes_of cell ts) (b ∷ [])) tokens k.written in
    let lists : a ∷ [] ≡ b ∷ [] = queries_same (lexemes_of cell h.tokens) (a ∷ []) (b ∷ []) h.written there in
    cc

-- A tree that means nothing leaves its cell without a value.
pub one_tree : (t : Types) (r : Rounding) (kind : Kind) (cell : List ℕ) (tree : ValueTree) → Writes cell tree → value_meant t r kind tree ≡ None → (v : Value) → CellIs t r kind cell v → ⊥
one_tree t r kind cell tree w none v h =
    let same : h.tree ≡ tree = tree_same cell h.tree tree h.writes w in
    let bad : None ≡ Some v = sym none ∙ ap (value_meant t r kind) (sym same) ∙ h.means in
    cc

-- What the tree of a cell means, the cell means.
pub value_found : (t : Types) (r : Rounding) (kind : Kind) (cell : List ℕ) (tree : ValueTree) → Writes cell tree → (result : Result Value CellFault)
    → Gives (value_meant t r kind tree) result → Finds (CellIs t r kind cell) result
value_found t r kind cell tree w (Ok v) g = record { tree = tree; writes = w; means = g }
value_found t r kind cell tree w (Err fault.Bad) g = one_tree t r kind cell tree w g
value_found t r kind cell tree w (Err fault.Memory) g = tt
