-- What an expression of each form is worth, reads, and is typed by.
use Rattle.std.specs.Prelude.{◌≡◌, ℕ, Bool, false, ◌||◌, ◌&&◌, List, [], ◌∷◌, Some, map}
use Rattle.std.specs.List.{list_any}
use Rattle.std.proofs.Common.{refl, ap}
use Rattle.order_core.specs.Num.{number_sum, number_product, greater_of, lesser_of}
use Rattle.unit_core.specs.declared.fraction.Fraction.{Fraction}
use Rattle.unit_core.specs.Ratio.{ratio}
use Rattle.value_type.specs.declared.kind.Kind.{Kind, out-Kind}
use Rattle.value_type.specs.declared.poset.Types.{Types}
use Rattle.value_type.specs.declared.value.Value.{Value}
use Rattle.value_type.specs.Fits.{fits}
use Rattle.value_type.specs.Scale.{scaled}
use Rattle.design_model.specs.declared.expr.Expr.{Expr, fold_out-Expr}
use Rattle.design_model.specs.declared.expr.Expr.TheVariants.{Own, Inner, Constant, Scale, Sum, Product, Greatest, Lesser, Tuple, outs-Own, outs-Inner, outs-Constant, outs-Scale, outs-Sum, outs-Product, outs-Greatest, outs-Lesser, outs-Tuple}
use Rattle.design_model.specs.ExprKinds.{PortTypes, is_of_kind, has_form, is_number_kind, parts_are}
use Rattle.design_model.specs.Reading.{reads_some}
use Rattle.design_model.specs.ValueOf.{Reads, value_of, number_in, of_one, of_two, together, tuple_of}

pub value-Own : (j : ℕ) (reads : Reads) → value_of (Own j) reads ≡ reads.own j
value-Own j reads = rw (fold_out-Expr, outs-Own) refl

pub value-Inner : (i j : ℕ) (reads : Reads) → value_of (Inner i j) reads ≡ reads.inner i j
value-Inner i j reads = rw (fold_out-Expr, outs-Inner) refl

pub value-Constant : (v : Value) (reads : Reads) → value_of (Constant v) reads ≡ Some v
value-Constant v reads = rw (fold_out-Expr, outs-Constant) refl

pub value-Scale : (by : Fraction) (a : Expr) (reads : Reads) → value_of (Scale by a) reads ≡ of_one (scaled (ratio by)) (number_in (value_of a reads))
value-Scale by a reads = rw (fold_out-Expr, outs-Scale) refl

pub value-Sum : (a b : Expr) (reads : Reads) → value_of (Sum a b) reads ≡ of_two number_sum (number_in (value_of a reads)) (number_in (value_of b reads))
value-Sum a b reads = rw (fold_out-Expr, outs-Sum) refl

pub value-Product : (a b : Expr) (reads : Reads) → value_of (Product a b) reads ≡ of_two number_product (number_in (value_of a reads)) (number_in (value_of b reads))
value-Product a b reads = rw (fold_out-Expr, outs-Product) refl

pub value-Greatest : (a b : Expr) (reads : Reads) → value_of (Greatest a b) reads ≡ of_two greater_of (number_in (value_of a reads)) (number_in (value_of b reads))
value-Greatest a b reads = rw (fold_out-Expr, outs-Greatest) refl

pub value-Lesser : (a b : Expr) (reads : Reads) → value_of (Lesser a b) reads ≡ of_two lesser_of (number_in (value_of a reads)) (number_in (value_of b reads))
value-Lesser a b reads = rw (fold_out-Expr, outs-Lesser) refl

pub value-Tuple : (parts : List Expr) (reads : Reads) → value_of (Tuple parts) reads ≡ tuple_of (together (map value_of parts) reads)
value-Tuple parts reads = rw (fold_out-Expr, outs-Tuple) refl

any_map : (test : ℕ → ℕ → Bool) (parts : List Expr) → list_any (λ part. part) (map (reads_some test) parts) ≡ list_any (reads_some test) parts
any_map test [] = refl
any_map test (part ∷ parts) = ap (λ b. reads_some test part || b) (any_map test parts)

pub reads-Own : (test : ℕ → ℕ → Bool) (j : ℕ) → reads_some test (Own j) ≡ false
reads-Own test j = rw (fold_out-Expr, outs-Own) refl

pub reads-Inner : (test : ℕ → ℕ → Bool) (i j : ℕ) → reads_some test (Inner i j) ≡ test i j
reads-Inner test i j = rw (fold_out-Expr, outs-Inner) refl

pub reads-Constant : (test : ℕ → ℕ → Bool) (v : Value) → reads_some test (Constant v) ≡ false
reads-Constant test v = rw (fold_out-Expr, outs-Constant) refl

pub reads-Scale : (test : ℕ → ℕ → Bool) (by : Fraction) (a : Expr) → reads_some test (Scale by a) ≡ reads_some test a
reads-Scale test by a = rw (fold_out-Expr, outs-Scale) refl

pub reads-Sum : (test : ℕ → ℕ → Bool) (a b : Expr) → reads_some test (Sum a b) ≡ (reads_some test a || reads_some test b)
reads-Sum test a b = rw (fold_out-Expr, outs-Sum) refl

pub reads-Product : (test : ℕ → ℕ → Bool) (a b : Expr) → reads_some test (Product a b) ≡ (reads_some test a || reads_some test b)
reads-Product test a b = rw (fold_out-Expr, outs-Product) refl

pub reads-Greatest : (test : ℕ → ℕ → Bool) (a b : Expr) → reads_some test (Greatest a b) ≡ (reads_some test a || reads_some test b)
reads-Greatest test a b = rw (fold_out-Expr, outs-Greatest) refl

pub reads-Lesser : (test : ℕ → ℕ → Bool) (a b : Expr) → reads_some test (Lesser a b) ≡ (reads_some test a || reads_some test b)
reads-Lesser test a b = rw (fold_out-Expr, outs-Lesser) refl

pub reads-Tuple : (test : ℕ → ℕ → Bool) (parts : List Expr) → reads_some test (Tuple parts) ≡ list_any (reads_some test) parts
reads-Tuple test parts = rw (fold_out-Expr, outs-Tuple) (any_map test parts)

pub kind-Own : (t : Types) (ports : PortTypes) (j : ℕ) (k : Kind) → is_of_kind t ports (Own j) k ≡ has_form (ports.own j) k
kind-Own t ports j k = rw (fold_out-Expr, outs-Own) refl

pub kind-Inner : (t : Types) (ports : PortTypes) (i j : ℕ) (k : Kind) → is_of_kind t ports (Inner i j) k ≡ has_form (ports.inner i j) k
kind-Inner t ports i j k = rw (fold_out-Expr, outs-Inner) refl

pub kind-Constant : (t : Types) (ports : PortTypes) (v : Value) (k : Kind) → is_of_kind t ports (Constant v) k ≡ fits t k v
kind-Constant t ports v k = rw (fold_out-Expr, outs-Constant) refl

pub kind-Scale : (t : Types) (ports : PortTypes) (by : Fraction) (a : Expr) (k : Kind) → is_of_kind t ports (Scale by a) k ≡ (is_number_kind k && is_of_kind t ports a k)
kind-Scale t ports by a k = rw (fold_out-Expr, outs-Scale) refl

pub kind-Sum : (t : Types) (ports : PortTypes) (a b : Expr) (k : Kind) → is_of_kind t ports (Sum a b) k ≡ (is_number_kind k && (is_of_kind t ports a k && is_of_kind t ports b k))
kind-Sum t ports a b k = rw (fold_out-Expr, outs-Sum) refl

pub kind-Product : (t : Types) (ports : PortTypes) (a b : Expr) (k : Kind) → is_of_kind t ports (Product a b) k ≡ (is_number_kind k && (is_of_kind t ports a k && is_of_kind t ports b k))
kind-Product t ports a b k = rw (fold_out-Expr, outs-Product) refl

pub kind-Greatest : (t : Types) (ports : PortTypes) (a b : Expr) (k : Kind) → is_of_kind t ports (Greatest a b) k ≡ (is_number_kind k && (is_of_kind t ports a k && is_of_kind t ports b k))
kind-Greatest t ports a b k = rw (fold_out-Expr, outs-Greatest) refl

pub kind-Lesser : (t : Types) (ports : PortTypes) (a b : Expr) (k : Kind) → is_of_kind t ports (Lesser a b) k ≡ (is_number_kind k && (is_of_kind t ports a k && is_of_kind t ports b k))
kind-Lesser t ports a b k = rw (fold_out-Expr, outs-Lesser) refl

pub kind-Tuple : (t : Types) (ports : PortTypes) (parts : List Expr) (k : Kind) → is_of_kind t ports (Tuple parts) k ≡ parts_are (map (is_of_kind t ports) parts) (out-Kind k)
kind-Tuple t ports parts k = rw (fold_out-Expr, outs-Tuple) refl
