-- Reading by how many brackets may still be opened.
use Rattle.std.proofs.Common.{◌≡◌, ℕ, zero, suc, ◌-◌, ◌<◌, Bool, true, false, List, refl, sym, ◌∙◌, arith}
use Rattle.design_lexer.specs.declared.syntax.class.Class.TheVariants as class
use Rattle.design_lexer.specs.Syntax.Classes.{Lexeme, is, one_of, starts}
use Rattle.design_parser.specs.Readers.{plain_value_at, tuple_value_at, value_at, plain_type_at, product_at, type_at, plain_starts, plain_item_at, opened_at, item_at, expr_at, plain_ref_at, full_ref_at, ref_at}

less : (room : ℕ) → suc room - 1 ≡ room
less room = omega arith

pub value_none : (room : ℕ) (ts : List Lexeme) → room ≡ 0 → value_at room ts ≡ plain_value_at ts
unfolding value_at
value_none zero ts h = refl
value_none (suc room) ts h = absurd (omega (arith, h))

pub value_open : (room : ℕ) (ts : List Lexeme) (b : Bool) → 0 < room → b ≡ starts (is class.Less) ts → b ≡ true → value_at room ts ≡ tuple_value_at (value_at (room - 1)) ts
unfolding value_at
value_open zero ts b h s t = absurd (omega (arith, h))
value_open (suc room) ts b h s t = rw (less room, sym s ∙ t) refl

pub value_plain : (room : ℕ) (ts : List Lexeme) (b : Bool) → b ≡ starts (is class.Less) ts → b ≡ false → value_at room ts ≡ plain_value_at ts
unfolding value_at
value_plain zero ts b s t = refl
value_plain (suc room) ts b s t = rw (sym s ∙ t) refl

pub type_none : (room : ℕ) (ts : List Lexeme) → room ≡ 0 → type_at room ts ≡ plain_type_at ts
unfolding type_at
type_none zero ts h = refl
type_none (suc room) ts h = absurd (omega (arith, h))

pub type_open : (room : ℕ) (ts : List Lexeme) (b : Bool) → 0 < room → b ≡ starts (is class.Product) ts → b ≡ true → type_at room ts ≡ product_at (type_at (room - 1)) ts
unfolding type_at
type_open zero ts b h s t = absurd (omega (arith, h))
type_open (suc room) ts b h s t = rw (less room, sym s ∙ t) refl

pub type_plain : (room : ℕ) (ts : List Lexeme) (b : Bool) → b ≡ starts (is class.Product) ts → b ≡ false → type_at room ts ≡ plain_type_at ts
unfolding type_at
type_plain zero ts b s t = refl
type_plain (suc room) ts b s t = rw (sym s ∙ t) refl

pub item_none : (room : ℕ) (ts : List Lexeme) → room ≡ 0 → item_at room ts ≡ plain_item_at ts
unfolding item_at
item_none zero ts h = refl
item_none (suc room) ts h = absurd (omega (arith, h))

pub item_plain : (room : ℕ) (ts : List Lexeme) (b : Bool) → b ≡ starts (one_of plain_starts) ts → b ≡ true → item_at room ts ≡ plain_item_at ts
unfolding item_at
item_plain zero ts b s t = refl
item_plain (suc room) ts b s t = rw (sym s ∙ t) refl

pub item_open : (room : ℕ) (ts : List Lexeme) (b : Bool) → 0 < room → b ≡ starts (one_of plain_starts) ts → b ≡ false → item_at room ts ≡ opened_at (expr_at (room - 1)) ts
unfolding item_at
item_open zero ts b h s t = absurd (omega (arith, h))
item_open (suc room) ts b h s t = rw (less room, sym s ∙ t) refl

pub ref_none : (room : ℕ) (ts : List Lexeme) → room ≡ 0 → ref_at room ts ≡ plain_ref_at ts
unfolding ref_at
ref_none zero ts h = refl
ref_none (suc room) ts h = absurd (omega (arith, h))

pub ref_open : (room : ℕ) (ts : List Lexeme) → 0 < room → ref_at room ts ≡ full_ref_at (ref_at (room - 1)) ts
unfolding ref_at
ref_open zero ts h = absurd (omega (arith, h))
ref_open (suc room) ts h = rw (less room) refl
