-- No type, value or reference is deeper than the brackets that may be opened allow.
use Rattle.std.specs.Prelude.{max}
use Rattle.std.proofs.Common.{◌≡◌, ◌≤◌, ℕ, zero, suc, ◌+◌, List, [], map, refl, sym, ap, subst, ◌∙◌, arith, inl, inr}
use Rattle.design_lexer.specs.declared.tree.ConstantTree.{ConstantTree}
use Rattle.design_lexer.specs.declared.tree.FactorTree.{FactorTree}
use Rattle.design_lexer.specs.declared.tree.NameAt.{NameAt}
use Rattle.design_lexer.specs.declared.tree.TypeTree.{TypeTree, fold_out-TypeTree}
use Rattle.design_lexer.specs.declared.tree.TypeTree.TheVariants as type
use Rattle.design_lexer.specs.declared.tree.ValueTree.{ValueTree, fold_out-ValueTree}
use Rattle.design_lexer.specs.declared.tree.ValueTree.TheVariants as value
use Rattle.design_lexer.specs.declared.tree.RefTree.{RefTree, fold_out-RefTree, out-roll-RefTree}
use Rattle.design_lexer.specs.declared.tree.ArgTree.{ArgTree, fold-ArgTree, fold_out-ArgTree, out-roll-ArgTree}
use Rattle.design_parser.specs.declared.parts.Literal.{Literal}
use Rattle.design_parser.specs.declared.parts.Literal.TheVariants as literal
use Rattle.design_lexer.specs.declared.syntax.class.Class.TheVariants as class
use Rattle.design_lexer.specs.Syntax.Classes.{Lexeme}
use Rattle.design_lexer.specs.Syntax.Words.{Nothing, Then, Sym, Else, Listed}
use Rattle.design_parser.specs.Depth.{most, type_depth, value_depth, reference_depth}
use Rattle.design_parser.specs.Grammar.{PlainType, Type_, PlainValue, Value, Arg, Ref}
use Rattle.design_parser.specs.Trees.{literal_value, reference, argument}
use Rattle.design_parser.proofs.Depths.{listed_most}

-- ---- types

type-Nat : type_depth type.Nat ≡ 1
unfolding type_depth
type-Nat = rw (fold_out-TypeTree, type.outs-Nat) refl

type-Unit : (fs : List FactorTree) → type_depth (type.Unit fs) ≡ 1
unfolding type_depth
type-Unit fs = rw (fold_out-TypeTree, type.outs-Unit) refl

type-Poset : (n : NameAt) → type_depth (type.Poset n) ≡ 1
unfolding type_depth
type-Poset n = rw (fold_out-TypeTree, type.outs-Poset) refl

type-Up : (n : NameAt) → type_depth (type.Up n) ≡ 1
unfolding type_depth
type-Up n = rw (fold_out-TypeTree, type.outs-Up) refl

type-Product : (parts : List TypeTree) → type_depth (type.Product parts) ≡ 1 + most (map type_depth parts)
unfolding type_depth
type-Product parts = rw (fold_out-TypeTree, type.outs-Product) refl

plain_type : (n : ℕ) (ts : List Lexeme) (x : TypeTree) → PlainType ts x → type_depth x ≤ 1 + n
plain_type n ts x (inl w) = omega (arith, ap type_depth w.second.same, type-Nat)
plain_type n ts x (inr (inl w)) = omega (arith, ap type_depth w.is, type-Unit w.value)
plain_type n ts x (inr (inr (inl w))) = omega (arith, ap type_depth w.second.is, type-Poset w.second.value)
plain_type n ts x (inr (inr (inr w))) = omega (arith, ap type_depth w.second.is, type-Up w.second.value)

pub type_bounded : (room : ℕ) (ts : List Lexeme) (x : TypeTree) → Type_ room ts x → type_depth x ≤ 1 + room
unfolding Type_
type_bounded zero ts x w = plain_type 0 ts x w
type_bounded (suc room) ts x (inl w) = plain_type (suc room) ts x w
type_bounded (suc room) ts x (inr w) =
    let l = w.second.second in
    let deep = listed_most type_depth (1 + room) (Type_ room) l.front l.value (λ us y v k. type_bounded room us y v) l.first in
    omega (arith, ap type_depth l.second.second.same, type-Product l.value, deep)

-- ---- values

value-Top : (at : ℕ) → value_depth (value.Top at) ≡ 1
unfolding value_depth
value-Top at = rw (fold_out-ValueTree, value.outs-Top) refl

value-Constant : (c : ConstantTree) → value_depth (value.Constant c) ≡ 1
unfolding value_depth
value-Constant c = rw (fold_out-ValueTree, value.outs-Constant) refl

value-literal : (l : Literal) → value_depth (literal_value l) ≡ 1
unfolding value_depth
value-literal (literal.Element poset element) = rw (fold_out-ValueTree, value.outs-Element) refl
value-literal (literal.Upper poset elements) = rw (fold_out-ValueTree, value.outs-Upper) refl

value-Tuple : (at : ℕ) (parts : List ValueTree) → value_depth (value.Tuple at parts) ≡ 1 + most (map value_depth parts)
unfolding value_depth
value-Tuple at parts = rw (fold_out-ValueTree, value.outs-Tuple) refl

plain_value : (n : ℕ) (ts : List Lexeme) (x : ValueTree) → PlainValue ts x → value_depth x ≤ 1 + n
plain_value n ts x (inl w) = omega (arith, ap value_depth w.is, value-Top w.value)
plain_value n ts x (inr (inl w)) = omega (arith, ap value_depth w.is, value-Constant w.value)
plain_value n ts x (inr (inr w)) = omega (arith, ap value_depth w.is, value-literal w.value)

pub value_bounded : (room : ℕ) (ts : List Lexeme) (x : ValueTree) → Value room ts x → value_depth x ≤ 1 + room
unfolding Value
value_bounded zero ts x w = plain_value 0 ts x w
value_bounded (suc room) ts x (inl w) = plain_value (suc room) ts x w
value_bounded (suc room) ts x (inr w) =
    let l = w.written.second in
    let deep = listed_most value_depth (1 + room) (Value room) l.front l.value (λ us y v k. value_bounded room us y v) l.first in
    let same : most (map value_depth w.value.1) ≡ most (map value_depth l.value) = ap (λ z. most (map value_depth z.1)) l.second.second.same in
    omega (arith, ap value_depth w.is, value-Tuple w.value.0 w.value.1, same, deep)

-- ---- references

-- the depth of an argument is that of its reference
of_argument : ArgTree → ℕ
unfolding reference_depth
of_argument = fold-ArgTree ℕ ℕ (λ a. a.reference) (λ r. 1 + most r.arguments)

argument-depth : (n : NameAt) (r : RefTree) → of_argument (argument n r) ≡ reference_depth r
unfolding reference_depth of_argument
argument-depth n r = fold_out-ArgTree ℕ ℕ (λ a. a.reference) (λ r. 1 + most r.arguments) (argument n r) ∙ ap (λ a. reference_depth a.reference) (out-roll-ArgTree (record { name = n; reference = r }))

reference-depth : (n : NameAt) (arguments : List ArgTree) → reference_depth (reference n arguments) ≡ 1 + most (map of_argument arguments)
unfolding reference_depth of_argument
reference-depth n arguments = fold_out-RefTree ℕ ℕ (λ a. a.reference) (λ r. 1 + most r.arguments) (reference n arguments) ∙ ap (λ r. 1 + most (map of_argument r.arguments)) (out-roll-RefTree (record { name = n; arguments = arguments }))

argument_bounded : (n : ℕ) (R : List Lexeme → RefTree → Type 0) → ((ts : List Lexeme) (x : RefTree) → R ts x → reference_depth x ≤ n) → (ts : List Lexeme) (x : ArgTree) → Arg R ts x → of_argument x ≤ n
argument_bounded n R h ts x w =
    let r = w.second.second in
    omega (arith, ap of_argument r.is, argument-depth w.value r.value, h w.second.back r.value r.written)

arguments_bounded : (n : ℕ) (R : List Lexeme → RefTree → Type 0) → ((ts : List Lexeme) (x : RefTree) → R ts x → reference_depth x ≤ n)
    → (ts : List Lexeme) (xs : List ArgTree) → Else [] (Sym class.Less (Then (Listed class.Comma (Arg R)) (λ arguments. Sym class.Greater (Nothing arguments)))) ts xs → most (map of_argument xs) ≤ n
arguments_bounded n R h ts xs (inl w) =
    let l = w.second in
    subst (λ z. most (map of_argument z) ≤ n) (sym l.second.second.same) (listed_most of_argument n (Arg R) l.front l.value (λ us y v k. argument_bounded n R h us y v) l.first)
arguments_bounded n R h ts xs (inr w) = subst (λ z. most (map of_argument z) ≤ n) (sym w.same) (omega arith)

pub reference_bounded : (room : ℕ) (ts : List Lexeme) (x : RefTree) → Ref room ts x → reference_depth x ≤ 1 + room
unfolding Ref
reference_bounded zero ts x w = omega (arith, ap reference_depth w.is, reference-depth w.value [])
reference_bounded (suc room) ts x w =
    let deep = arguments_bounded (1 + room) (Ref room) (λ us y v. reference_bounded room us y v) w.back w.second.value w.second.written in
    omega (arith, ap reference_depth w.second.is, reference-depth w.value w.second.value, deep)
