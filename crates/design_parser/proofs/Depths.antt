-- No expression is deeper than its signs and the brackets that may be opened allow.
use Rattle.std.specs.Prelude.{max}
use Rattle.std.proofs.Common.{◌≡◌, ◌≤◌, ℕ, zero, suc, ◌+◌, Bool, true, false, cond, List, [], ◌∷◌, ◌++◌, map, Result, Ok, IsTrue, refl, sym, ap, subst, ◌∙◌, arith, inl, inr}
use Rattle.design_lexer.specs.declared.tree.ConstantTree.{ConstantTree}
use Rattle.design_lexer.specs.declared.tree.NameAt.{NameAt}
use Rattle.design_lexer.specs.declared.tree.PlaceTree.{PlaceTree}
use Rattle.design_lexer.specs.declared.tree.RuleTree.TheVariants as rule
use Rattle.design_lexer.specs.declared.tree.ExprTree.{ExprTree, fold_out-ExprTree}
use Rattle.design_lexer.specs.declared.tree.ExprTree.TheVariants.{Constant, Place, Element, Upper, Sum, Product, Greatest, Lesser, Tuple, outs-Constant, outs-Place, outs-Element, outs-Upper, outs-Sum, outs-Product, outs-Greatest, outs-Lesser, outs-Tuple}
use Rattle.design_parser.specs.declared.parts.Literal.{Literal}
use Rattle.design_parser.specs.declared.parts.Literal.TheVariants as literal
use Rattle.design_lexer.specs.declared.syntax.class.Class.{Class}
use Rattle.design_lexer.specs.declared.syntax.class.Class.TheVariants as class
use Rattle.design_lexer.specs.Syntax.Classes.{Lexeme, is, one_of, has}
use Rattle.design_lexer.specs.Syntax.ClassLaws.{found}
use Rattle.design_lexer.specs.Syntax.FewLaws.{few_over}
use Rattle.design_lexer.specs.Syntax.PartLaws.{cases_bool}
use Rattle.design_lexer.specs.Syntax.Reading.{over}
use Rattle.design_lexer.specs.Syntax.Words.{Then, Made, Either, Many, Sym, Joined, Listed, fold, at_end, is_sign, signs}
use Rattle.design_parser.specs.Depth.{depth, most}
use Rattle.design_parser.specs.Grammar.{PlainItem, Round, Call, Operands, Bracketed, Term, Sums, Item, Expr, Rule, RuleOf}
use Rattle.design_parser.specs.Readers.{expr_at}
use Rattle.design_parser.specs.Trees.{place_of, sum, product, greatest, lesser, literal_expr}
use Rattle.design_parser.proofs.ExprParts.{expr_part}
use Rattle.design_parser.proofs.Statements.{item_no_end, sums_no_end}

-- ---- one level

depth-Constant : (c : ConstantTree) → depth (Constant c) ≡ 1
unfolding depth
depth-Constant c = rw (fold_out-ExprTree, outs-Constant) refl

depth-Place : (p : PlaceTree) → depth (Place p) ≡ 1
unfolding depth
depth-Place p = rw (fold_out-ExprTree, outs-Place) refl

depth-literal : (l : Literal) → depth (literal_expr l) ≡ 1
unfolding depth
depth-literal (literal.Element poset element) = rw (fold_out-ExprTree, outs-Element) refl
depth-literal (literal.Upper poset elements) = rw (fold_out-ExprTree, outs-Upper) refl

depth-Sum : (l r : ExprTree) (at : ℕ) → depth (Sum l r at) ≡ 1 + max (depth l) (depth r)
unfolding depth
depth-Sum l r at = rw (fold_out-ExprTree, outs-Sum) refl

depth-Product : (l r : ExprTree) (at : ℕ) → depth (Product l r at) ≡ 1 + max (depth l) (depth r)
unfolding depth
depth-Product l r at = rw (fold_out-ExprTree, outs-Product) refl

depth-Greatest : (l r : ExprTree) (at : ℕ) → depth (Greatest l r at) ≡ 1 + max (depth l) (depth r)
unfolding depth
depth-Greatest l r at = rw (fold_out-ExprTree, outs-Greatest) refl

depth-Lesser : (l r : ExprTree) (at : ℕ) → depth (Lesser l r at) ≡ 1 + max (depth l) (depth r)
unfolding depth
depth-Lesser l r at = rw (fold_out-ExprTree, outs-Lesser) refl

depth-Tuple : (parts : List ExprTree) (at : ℕ) → depth (Tuple parts at) ≡ 1 + most (map depth parts)
unfolding depth
depth-Tuple parts at = rw (fold_out-ExprTree, outs-Tuple) refl

-- ---- signs and the deepest of some

signs_append : (a b : List Lexeme) → signs (a ++ b) ≡ signs a + signs b
signs_append [] b = omega arith
signs_append (t ∷ a) b = elim (cases_bool (is_sign t)) [ inl s ↦ rw s (omega (arith, signs_append a b)) | inr s ↦ rw s (signs_append a b) ]

max_within : (a b n : ℕ) → a ≤ n → b ≤ n → max a b ≤ n
max_within a b n h k = omega (arith, h, k)

most_end : {A : Type 0} (d : A → ℕ) (n : ℕ) (xs : List A) (x : A) → most (map d xs) ≤ n → d x ≤ n → most (map d (xs ++ x ∷ [])) ≤ n
most_end d n [] x h k = max_within (d x) 0 n k (omega arith)
most_end d n (y ∷ xs) x h k = max_within (d y) (most (map d (xs ++ x ∷ []))) n (omega (arith, h)) (most_end d n xs x (omega (arith, h)) k)

after : (ts front back : List Lexeme) → ts ≡ front ++ back → signs back ≤ signs ts
after ts front back e = omega (arith, ap signs e, signs_append front back)

before : (ts front back : List Lexeme) → ts ≡ front ++ back → signs front ≤ signs ts
before ts front back e = omega (arith, ap signs e, signs_append front back)

listed_many : {A : Type 0} (d : A → ℕ) (n total : ℕ) (W : List Lexeme → A → Type 0) → ((ts : List Lexeme) (x : A) → W ts x → signs ts ≤ total → d x ≤ n)
    → (xs ys : List A) (ts : List Lexeme) → signs ts ≤ total → most (map d ys) ≤ n → Many (Sym class.Comma W) ts xs → most (map d (fold at_end ys xs)) ≤ n
listed_many d n total W h [] ys ts l k m = k
listed_many d n total W h (x ∷ xs) ys ts l k m =
    let w = m.3 in
    let within : signs w.back ≤ total = omega (arith, after m.0 w.front w.back w.parts, before ts m.0 m.1 m.2, l) in
    listed_many d n total W h xs (ys ++ x ∷ []) m.1 (omega (arith, after ts m.0 m.1 m.2, l)) (most_end d n ys x k (h w.back x w.second within)) m.4

-- the greatest of a list's parts, each of which has no more signs than the list
pub listed_most : {A : Type 0} (d : A → ℕ) (n : ℕ) (W : List Lexeme → A → Type 0) (ts : List Lexeme) (xs : List A) → ((us : List Lexeme) (x : A) → W us x → signs us ≤ signs ts → d x ≤ n) → Listed class.Comma W ts xs → most (map d xs) ≤ n
listed_most d n W ts xs h w =
    let first : d w.value ≤ n = h w.front w.value w.first (before ts w.front w.back w.parts) in
    let all = listed_many d n (signs ts) W h w.second.value (w.value ∷ []) w.back (after ts w.front w.back w.parts) (max_within (d w.value) 0 n first (omega arith)) w.second.written in
    subst (λ z. most (map d z) ≤ n) (sym w.second.is) all

-- What is written is at most so deep, and deeper by at most one for each sign.
abbrev Bounded : ℕ → (List Lexeme → ExprTree → Type 0) → Type 0
Bounded n W = (ts : List Lexeme) (x : ExprTree) → W ts x → depth x ≤ n + signs ts

-- ---- joined by a sign

-- joining is one deeper than the deeper operand
abbrev Joins : (ExprTree → ExprTree → ExprTree) → Type 0
Joins f = (y x : ExprTree) → depth (f y x) ≡ 1 + max (depth y) (depth x)

sign_front : (c : Class) → has c (class.Plus ∷ class.Star ∷ []) ≡ true → (ts front back : List Lexeme) (t : Lexeme) → ts ≡ front ++ back → front ≡ t ∷ [] → IsTrue (is c t) → signs ts ≡ 1 + signs back
sign_front c k ts front back t e o i =
    let s : is_sign t ≡ true = found c (class.Plus ∷ class.Star ∷ []) k t i in
    rw (e, o, s) (omega arith)

joined_many : (n : ℕ) (f : ExprTree → ExprTree → ExprTree) → Joins f → (c : Class) → has c (class.Plus ∷ class.Star ∷ []) ≡ true → (W : List Lexeme → ExprTree → Type 0) → Bounded n W
    → (xs : List ExprTree) (y : ExprTree) (k : ℕ) (ts : List Lexeme) → depth y ≤ n + k → Many (Sym c W) ts xs → depth (fold f y xs) ≤ n + (k + signs ts)
joined_many n f j c s W h [] y k ts d m = rw m (omega (arith, d))
joined_many n f j c s W h (x ∷ xs) y k ts d m =
    let w = m.3 in
    let one : signs m.0 ≡ 1 + signs w.back = sign_front c s m.0 w.front w.back w.value w.parts w.first.is w.first.passes in
    let all : signs ts ≡ signs m.0 + signs m.1 = ap signs m.2 ∙ signs_append m.0 m.1 in
    let deep : depth (f y x) ≤ n + (k + signs m.0) = omega (arith, j y x, max_within (depth y) (depth x) (n + (k + signs w.back)) (omega (arith, d)) (omega (arith, h w.back x w.second)), one) in
    omega (arith, joined_many n f j c s W h xs (f y x) (k + signs m.0) m.1 deep m.4, all)

joined_bounded : (n : ℕ) (f : ExprTree → ExprTree → ExprTree) → Joins f → (c : Class) → has c (class.Plus ∷ class.Star ∷ []) ≡ true → (W : List Lexeme → ExprTree → Type 0) → Bounded n W → Bounded n (Joined f c W)
joined_bounded n f j c s W h ts x w =
    let all : signs ts ≡ signs w.front + signs w.back = ap signs w.parts ∙ signs_append w.front w.back in
    let deep = joined_many n f j c s W h w.second.value w.value (signs w.front) w.back (h w.front w.value w.first) w.second.written in
    omega (arith, ap depth w.second.is, deep, all)

sums_bounded : (n : ℕ) (I : List Lexeme → ExprTree → Type 0) → Bounded n I → Bounded n (Sums I)
sums_bounded n I h = joined_bounded n sum (λ y x. depth-Sum y x (place_of y)) class.Plus refl (Term I) (joined_bounded n product (λ y x. depth-Product y x (place_of y)) class.Star refl I h)

-- ---- in brackets

plain_bounded : (n : ℕ) → Bounded (1 + n) PlainItem
plain_bounded n ts x (inl c) = omega (arith, ap depth c.is, depth-Constant c.value)
plain_bounded n ts x (inr (inl l)) = omega (arith, ap depth l.is, depth-literal l.value)
plain_bounded n ts x (inr (inr p)) = omega (arith, ap depth p.is, depth-Place p.value)

round_bounded : (n : ℕ) (E : List Lexeme → ExprTree → Type 0) → Bounded n E → Bounded n (Round E)
round_bounded n E h ts x w =
    let e = w.second in
    let close = e.second.second in
    omega (arith, ap depth close.same, h e.front e.value e.first, after ts w.front w.back w.parts, before w.back e.front e.back e.parts)

operands_bounded : (n : ℕ) (E : List Lexeme → ExprTree → Type 0) → Bounded n E → (ts : List Lexeme) (o : ExprTree × ExprTree) → Operands E ts o → max (depth o.0) (depth o.1) ≤ n + signs ts
operands_bounded n E h ts o w =
    let l = w.second in
    let comma = l.second in
    let r = comma.second in
    let close = r.second.second in
    let inner : signs w.back ≤ signs ts = after ts w.front w.back w.parts in
    let left : depth l.value ≤ n + signs ts = omega (arith, h l.front l.value l.first, before w.back l.front l.back l.parts, inner) in
    let right : depth r.value ≤ n + signs ts =
    omega (arith, h r.front r.value r.first, before comma.back r.front r.back r.parts, after l.back comma.front comma.back comma.parts, after w.back l.front l.back l.parts, inner) in
    subst (λ z. max (depth z.0) (depth z.1) ≤ n + signs ts) (sym close.same) (max_within (depth l.value) (depth r.value) (n + signs ts) left right)

call_bounded : (n : ℕ) (E : List Lexeme → ExprTree → Type 0) → Bounded n E → Bounded (1 + n) (Call E)
call_bounded n E h ts x (inl w) =
    let o = w.second.value in
    omega (arith, ap depth w.second.is, depth-Greatest o.0 o.1 w.value, operands_bounded n E h w.back o w.second.written, after ts w.front w.back w.parts)
call_bounded n E h ts x (inr w) =
    let o = w.second.value in
    omega (arith, ap depth w.second.is, depth-Lesser o.0 o.1 w.value, operands_bounded n E h w.back o w.second.written, after ts w.front w.back w.parts)

tuple_bounded : (n : ℕ) (E : List Lexeme → ExprTree → Type 0) → Bounded n E → Bounded (1 + n) (Made (λ t. Tuple t.1 t.0) (Bracketed E))
tuple_bounded n E h ts x w =
    let b = w.written in
    let l = b.second in
    let parts : w.value.1 ≡ l.value = ap (λ z. z.1) l.second.second.same in
    let deep : most (map depth w.value.1) ≤ n + signs ts =
    subst (λ z. most (map depth z) ≤ n + signs ts) (sym parts) (omega (arith, listed_most depth (n + signs l.front) E l.front l.value (λ us y v k. omega (arith, h us y v, k)) l.first, before b.back l.front l.back l.parts, after ts b.front b.back b.parts)) in
    omega (arith, ap depth w.is, depth-Tuple w.value.1 w.value.0, deep)

item_by : (m : ℕ) (E : List Lexeme → ExprTree → Type 0) → Bounded m E → Bounded (1 + m) (Either PlainItem (Either (Round E) (Either (Call E) (Made (λ t. Tuple t.1 t.0) (Bracketed E)))))
item_by m E h ts x (inl p) = plain_bounded m ts x p
item_by m E h ts x (inr (inl r)) = omega (arith, round_bounded m E h ts x r)
item_by m E h ts x (inr (inr (inl c))) = call_bounded m E h ts x c
item_by m E h ts x (inr (inr (inr t))) = tuple_bounded m E h ts x t

item_bounded : (room : ℕ) → Bounded (1 + room) (Item room)
unfolding Item
item_bounded zero = plain_bounded 0
item_bounded (suc room) = deeper room (item_by (1 + room) (Sums (Item room)) (sums_bounded (1 + room) (Item room) (item_bounded room)))
  where
    deeper : (room : ℕ) {W : List Lexeme → ExprTree → Type 0} → Bounded (1 + (1 + room)) W → Bounded (1 + suc room) W
    deeper room h ts x w = omega (arith, h ts x w)

pub expr_bounded : (room : ℕ) → Bounded (1 + room) (Expr room)
expr_bounded room = sums_bounded (1 + room) (Item room) (item_bounded room)

-- ---- the laws

pub rule_depth : (ts : List Lexeme) (p : PlaceTree) (e : ExprTree) → Rule ts (rule.Above p e) → depth e ≤ 1065
rule_depth ts p e w = of w.written
  where
    same : (q : PlaceTree) (d : ExprTree) → rule.Above p e ≡ rule.Above q d → e ≡ d
    same q d h = cc

    other : (q : PlaceTree) → rule.Above p e ≡ rule.Ignore q → ⊥
    other q h = cc

    of : RuleOf ts (rule.Above p e) → depth e ≤ 1065
    of (inl a) =
        let above = a.second in
        let lower = above.second in
        let deep = expr_bounded 64 lower.front lower.value lower.first in
        omega (arith, ap depth (same a.value lower.value lower.second.second.same), deep, w.few, before above.back lower.front lower.back lower.parts, after a.back above.front above.back above.parts, after ts a.front a.back a.parts)
    of (inr i) = absurd (other i.second.value i.second.second.second.same)

pub read_depth : (room : ℕ) (ts rest : List Lexeme) (x : ExprTree) → over 1000 ts ≡ 0 → expr_at room ts ≡ Ok (x, rest) → depth x ≤ 1 + room + 1000
read_depth room ts rest x h e =
    let t = (expr_part room).reads.took ts x rest e in
    let few = few_over 1000 t.front rest (sums_no_end (Item room) (item_no_end room) t.front x t.written) (ap (over 1000) (sym t.parts) ∙ h) in
    omega (arith, expr_bounded room t.front x t.written, few)
