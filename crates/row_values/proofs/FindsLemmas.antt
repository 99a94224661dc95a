-- Where nothing is found, nothing that needs it is.
use Rattle.std.proofs.Common.{◌≡◌, ◌∙◌, ℕ, List, [], ◌∷◌, Err, Ok, refl, sym, ap, subst, length, true, false, IsTrue, ◌<◌, arith}
use Rattle.std.specs.Prelude.{Result}
use Rattle.std.specs.Result.{is_ok}
use Rattle.design_lexer.specs.declared.token.Token.{Token}
use Rattle.design_lexer.specs.declared.tree.NameAt.{NameAt}
use Rattle.design_lexer.specs.declared.tree.ValueTree.{ValueTree}
use Rattle.design_lexer.specs.Cut.{IsFirstBad, IsRefused}
use Rattle.design_lexer.specs.declared.scan.LexFault.{LexFault}
use Rattle.design_lexer.specs.declared.scan.LexFault.TheVariants as lex
use Rattle.design_lexer.specs.declared.syntax.fault.ReadFault.{ReadFault}
use Rattle.design_lexer.specs.declared.syntax.fault.ReadFault.TheVariants as read
use Rattle.design_lexer.specs.Syntax.Gives.{FaultIs}
use Rattle.design_lexer.specs.CutLaws.{tokens_same, never_both}
use Rattle.design_lexer.specs.declared.syntax.class.Class.TheVariants as class
use Rattle.design_lexer.specs.Syntax.Classes.{Lexeme, is, lexemes_of}
use Rattle.design_lexer.specs.Syntax.Faults.{FailsAt}
use Rattle.design_lexer.specs.Syntax.Spelled.{name_at, name_of}
use Rattle.design_parser.specs.Grammar.{Name, Query}
use Rattle.row_values.proofs.CellLemmas.{queries_same}
use Rattle.row_values.specs.declared.value.CellFault.{CellFault}
use Rattle.row_values.specs.declared.value.CellFault.TheVariants as fault
use Rattle.row_values.specs.Cells.{Finds, IsCut, IsName, Writes}

pub refused : {A B : Type 0} (P : A → Type 0) (Q : B → Type 0) (e : CellFault) → ((y : B) → Q y → (x : A) × P x) → Finds P (Err e) → Finds Q (Err e)
refused P Q fault.Bad f h = λ y q. let r = f y q in h r.0 r.1
refused P Q fault.Memory f h = tt

-- Where Bad is the answer, nothing has the property.
pub never_at : {A : Type 0} (P : A → Type 0) (e : CellFault) → e ≡ fault.Bad → Finds P (Err e) → (x : A) → P x → ⊥
never_at P e is h = subst (λ (f : CellFault). Finds P (Err f)) is h

-- the one token of a name, as it is read
pub name_read : (ts : List Lexeme) (n : NameAt) → Name ts n → name_at ts ≡ Ok (n, [])
name_read ts n w = by w.value w.written.is w.written.passes w.is
  where
    by : (t : Lexeme) → ts ≡ t ∷ [] → IsTrue (is class.Name t) → n ≡ name_of t → name_at ts ≡ Ok (n, [])
    by t e p q = let passes : is class.Name t ≡ true = p in rw (e, q, passes) refl

pub never_written : (W : List Lexeme → List ValueTree → Type 0) (end : ℕ) (ts : List Lexeme) (at : ℕ) → FailsAt W end ts at → (x : List ValueTree) → W ts x → ⊥
never_written W end ts at h = h.never

pub no_tokens : (cell : List ℕ) (at : ℕ) → IsFirstBad cell at → (ts : List Token) → IsCut cell ts → ⊥
no_tokens cell at bad ts h = never_both cell ts at h.cut bad

-- Tokens that write nothing leave the cell without a tree.
pub no_tree : (cell : List ℕ) (ts : List Token) → IsCut cell ts → ((x : List ValueTree) → Query (lexemes_of cell ts) x → ⊥) → (tree : ValueTree) → Writes cell tree → ⊥
no_tree cell ts cut never tree w =
    let same : w.tokens ≡ ts = tokens_same cell w.tokens ts w.cut.cut cut.cut in
    never (tree ∷ []) (subst (λ (us : List Token). Query (lexemes_of cell us) (tree ∷ [])) same w.written)

pub name_here : (cell : List ℕ) (ts : List Token) → IsCut cell ts → (name : List ℕ) (h : IsName cell name) → name_at (lexemes_of cell ts) ≡ Ok (h.spelled, [])
name_here cell ts cut name h =
    let same : h.tokens ≡ ts = tokens_same cell h.tokens ts h.cut.cut cut.cut in
    name_read (lexemes_of cell ts) h.spelled (subst (λ (us : List Token). Name (lexemes_of cell us) h.spelled) same h.written)

pub tree_found : (cell : List ℕ) (ts : List Token) (values : List ValueTree) (result : Result ValueTree CellFault) → IsCut cell ts → Query (lexemes_of cell ts) values
    → Finds (λ (tree : ValueTree). values ≡ tree ∷ []) result → Finds (Writes cell) result
tree_found cell ts values (Ok tree) cut written is = record { tokens = ts; cut = cut; written = subst (Query (lexemes_of cell ts)) is written }
tree_found cell ts values (Err fault.Memory) cut written is = tt
tree_found cell ts values (Err fault.Bad) cut written is = λ tree w.
    let same : w.tokens ≡ ts = tokens_same cell w.tokens ts w.cut.cut cut.cut in
    is tree (queries_same (lexemes_of cell ts) values (tree ∷ []) written (subst (λ (us : List Token). Query (lexemes_of cell us) (tree ∷ [])) same w.written))

-- Where the values that are written are found, the tree is.
pub no_values : (cell : List ℕ) (ts : List Token) (e : CellFault) → IsCut cell ts → Finds (Query (lexemes_of cell ts)) (Err e) → Finds (Writes cell) (Err e)
no_values cell ts fault.Bad cut h = no_tree cell ts cut h
no_values cell ts fault.Memory cut h = tt

pub never_cut : (cell : List ℕ) (e : LexFault) (at : ℕ) → e ≡ lex.BadToken at → IsRefused cell e → (ts : List Token) → IsCut cell ts → ⊥
never_cut cell e at is refused ts h = let bad : IsRefused cell (lex.BadToken at) = subst (IsRefused cell) is refused in never_both cell ts at h.cut bad.1

abbrev pub rest_in : Result (NameAt × List Lexeme) ℕ → List Lexeme
rest_in (Ok p) = p.1
rest_in (Err e) = []

-- A name is read from the tokens of its cell, and nothing is left.
pub name_left : (cell : List ℕ) (ts : List Token) (ls : List Lexeme) (n : NameAt) (rest : List Lexeme) → IsCut cell ts → ls ≡ lexemes_of cell ts → name_at ls ≡ Ok (n, rest) → 0 < length rest → (name : List ℕ) → IsName cell name → ⊥
name_left cell ts ls n rest cut ls-is given some name h =
    let none : [] ≡ rest = ap rest_in (sym (name_here cell ts cut name h) ∙ ap name_at (sym ls-is) ∙ given) in
    let nothing : 0 ≡ length rest = ap length none in
    omega arith

pub name_missing : (cell : List ℕ) (ts : List Token) (ls : List Lexeme) (e : ReadFault) (left : ℕ) → IsCut cell ts → ls ≡ lexemes_of cell ts → e ≡ read.Left left → FaultIs e (name_at ls) → (name : List ℕ) → IsName cell name → ⊥
name_missing cell ts ls e left cut ls-is is given name h =
    let refusal : name_at ls ≡ Err left = subst (λ (d : ReadFault). FaultIs d (name_at ls)) is given in
    let bad : true ≡ false = ap is_ok (sym (name_here cell ts cut name h) ∙ ap name_at (sym ls-is) ∙ refusal) in
    absurd (cc)

abbrev spelled_in : NameAt → Result (NameAt × List Lexeme) ℕ → NameAt
spelled_in other (Ok p) = p.0
spelled_in other (Err e) = other

-- A cell is one name at most.
pub name_same : (cell a b : List ℕ) → IsName cell a → IsName cell b → a ≡ b
name_same cell a b h k =
    let one = name_here cell h.tokens h.cut a h in
    let two = name_here cell h.tokens h.cut b k in
    let same : h.spelled ≡ k.spelled = ap (spelled_in h.spelled) (sym one ∙ two) in
    h.is ∙ ap (λ (n : NameAt). n.name) same ∙ sym k.is
