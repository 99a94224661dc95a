-- What waits after a part is of the types that it was, and worth the same, where the part's required ports are carried by wires.
use Rattle.std.proofs.Common.{refl, sym, ap, ◌∙◌}
use Rattle.std.specs.Prelude.{◌≡◌, ◌+◌, ◌<◌, ◌++◌, ◌&&◌, ◌==◌, ℕ, Bool, true, false, cond, IsTrue, List, [], ◌∷◌, length, Option, Some, None}
use Rattle.order_core.specs.MemberLaws.{first}
use Rattle.order_core.specs.Pointwise.{Each, Pointwise}
use Rattle.value_type.specs.declared.kind.Kind.{Kind}
use Rattle.value_type.specs.declared.poset.Types.{Types}
use Rattle.design_model.specs.ExprKinds.{PortTypes, is_of_kind}
use Rattle.design_model.specs.Reading.{reads_port, reads_part}
use Rattle.design_model.specs.ValueOf.{Reads, value_of}
use Rattle.design_model.specs.declared.expr.Constraint.{Constraint}
use Rattle.design_model.specs.declared.expr.Expr.{Expr}
use Rattle.design_model.specs.declared.expr.Greater.TheVariants as greater
use Rattle.design_model.specs.declared.expr.Greater.{Greater}
use Rattle.model_laws.specs.ReadingLaws.{reads_weaker}
use Rattle.expr_residual.specs.MovedLaws.{read_same}
use Rattle.expr_residual.specs.Plain.{plain}
use Rattle.expr_residual.specs.Residual.{Left, residual}
use Rattle.expr_residual.specs.ResidualGrowthLaws.{residual_back}
use Rattle.expr_residual.specs.ResidualTypeLaws as types
use Rattle.expr_residual.specs.ResidualValueLaws as values
use Rattle.expr_residual.specs.declared.frame.Frame.{Frame}
use Rattle.compiled_term.specs.Stages.{read_on, all_read_on}
use Rattle.compiled_term.proofs.WireLemmas.{equal}

-- What reads no port of a part reads ports of others alone.
pub other_part : (e : Expr) (p i j : ℕ) → reads_part e p ≡ false → IsTrue (reads_port e i j) → (i == p) ≡ false
other_part e p i j none reads = go (i == p) refl
  where
    go : (b : Bool) → (i == p) ≡ b → b ≡ false
    go false same = refl
    go true same = absurd (
        let read : IsTrue (reads_part e p) = reads_weaker (λ a b. (a == i) && (b == j)) (λ a b. a == p) (λ a b h. ap (λ m. m == p) (equal a i (first _ _ h)) ∙ same) e reads in
        let no : false ≡ true = sym none ∙ read in cc)

-- Each new wire is as the expression says, or a constraint read on adds none.
module _ (frame : Frame) (Holds : List Expr → Type 0) (fewer : (made : List Expr) (e : Expr) → Holds (made ++ e ∷ []) → Holds made) where
  pub read_back : (c : Constraint) (made : List Expr) → Holds (read_on frame c made).made → Holds made
  read_back c made = go (reads_part c.lower frame.part)
    where
      go : (b : Bool) → Holds (cond {A = Left} b (residual frame c.lower made) (record { expr = c.lower; made = made })).made → Holds made
      go true h = residual_back frame Holds fewer c.lower made h
      go false h = h

  pub all_read_back : (cs : List Constraint) (made : List Expr) → Holds (all_read_on frame cs made).made → Holds made
  all_read_back [] made h = h
  all_read_back (c ∷ cs) made h = read_back c made (all_read_back cs (read_on frame c made).made h)

-- The types of the wires that are known at the part, and of all wires after it; and for each constraint, those of the ports of parts that it may read after the part.
module _ (t : Types) (frame : Frame) (own_known own_after : ℕ → Option Kind) (more : (j : ℕ) (k : Kind) → own_known j ≡ Some k → own_after j ≡ Some k) (opened : Greater → ℕ → ℕ → Option Kind) where
  abbrev pub known : PortTypes
  known = record { own = own_known; inner = λ i j. None }

  abbrev pub after : Greater → PortTypes
  after into = record { own = own_after; inner = opened into }

  pub alone : (i j : ℕ) → known.inner i j ≡ None
  alone i j = refl

  -- the types of what the constraint reads before
  abbrev pub before : Greater → PortTypes
  before into = types.before t frame known (after into) more alone

  abbrev pub HasWires : List Expr → Type 0
  HasWires made = (i : ℕ) → i < length made → own_after (frame.next + i) ≡ Some plain

  abbrev pub AreNumbers : List Expr → Type 0
  AreNumbers made = Each (λ e. IsTrue (is_of_kind t known e plain)) made

  -- The constraint is typed over the wires and ports that it may read.
  abbrev pub IsTypedBefore : Constraint → Type 0
  IsTypedBefore c = (k : Kind) × IsTrue (is_of_kind t (before c.greater) c.lower k)

  fewer_wires : (made : List Expr) (e : Expr) → HasWires (made ++ e ∷ []) → HasWires made
  fewer_wires = types.fewer t frame known (after (greater.Own 0)) more alone

  read_typed : (c : Constraint) (made : List Expr) (k : Kind) → IsTrue (is_of_kind t (before c.greater) c.lower k) → HasWires (read_on frame c made).made → IsTrue (is_of_kind t (after c.greater) (read_on frame c made).expr k)
  read_typed c made k h = go (reads_part c.lower frame.part) refl
    where
      nothing : Reads
      nothing = record { own = λ j. None; inner = λ i j. None }

      stays : reads_part c.lower frame.part ≡ false → IsTrue (is_of_kind t (after c.greater) c.lower k)
      stays none = (read_same t (before c.greater) (after c.greater) nothing nothing c.lower (λ j r kind is. (more j kind is, refl))
          (λ i j r kind is. (ap (λ b. types.kind_by t frame known (after c.greater) more alone (cond b (Some (frame.from + j)) None) (opened c.greater i j)) (sym (other_part c.lower frame.part i j none r)) ∙ is, refl)) k h).0

      go : (b : Bool) → reads_part c.lower frame.part ≡ b → HasWires (cond {A = Left} b (residual frame c.lower made) (record { expr = c.lower; made = made })).made
          → IsTrue (is_of_kind t (after c.greater) (cond {A = Left} b (residual frame c.lower made) (record { expr = c.lower; made = made })).expr k)
      go true e wires = types.residual_typed t frame known (after c.greater) more alone c.lower made k h wires
      go false e wires = stays e

  read_numbers : (c : Constraint) (made : List Expr) (k : Kind) → IsTrue (is_of_kind t (before c.greater) c.lower k) → HasWires (read_on frame c made).made → AreNumbers made → AreNumbers (read_on frame c made).made
  read_numbers c made k h = go (reads_part c.lower frame.part)
    where
      go : (b : Bool) → HasWires (cond {A = Left} b (residual frame c.lower made) (record { expr = c.lower; made = made })).made → AreNumbers made
          → AreNumbers (cond {A = Left} b (residual frame c.lower made) (record { expr = c.lower; made = made })).made
      go true wires numbers = types.residual_numbers t frame known (after c.greater) more alone c.lower made k h wires numbers
      go false wires numbers = numbers

  pub all_numbers : (cs : List Constraint) (made : List Expr) → Each IsTypedBefore cs → HasWires (all_read_on frame cs made).made → AreNumbers made → AreNumbers (all_read_on frame cs made).made
  all_numbers [] made typed wires numbers = numbers
  all_numbers (c ∷ cs) made typed wires numbers =
      all_numbers cs (read_on frame c made).made typed.1 wires
      (read_numbers c made typed.0.0 typed.0.1 (all_read_back frame HasWires fewer_wires cs (read_on frame c made).made wires) numbers)

  -- A constraint that has been read on: it is on the same port, and of the types that it was.
  pub record IsReadOn (c later : Constraint) : Type 0 where
    pub greater : later.greater ≡ c.greater
    pub typed : (k : Kind) → IsTrue (is_of_kind t (before c.greater) c.lower k) → IsTrue (is_of_kind t (after c.greater) later.lower k)

  pub all_typed : (cs : List Constraint) (made : List Expr) → HasWires (all_read_on frame cs made).made → Pointwise IsReadOn cs (all_read_on frame cs made).waiting
  all_typed [] made wires = tt
  all_typed (c ∷ cs) made wires = (
    record { greater = refl; typed = λ k h. read_typed c made k h (all_read_back frame HasWires fewer_wires cs (read_on frame c made).made wires) },
    all_typed cs (read_on frame c made).made wires,
  )

  -- It is worth the same, where new wires carry the values of their expressions.
  module _ (reads : Reads) where
    abbrev pub before_reads : Reads
    before_reads = values.before frame reads

    abbrev pub Carry : List Expr → Type 0
    Carry made = values.Carry frame reads made

    read_worth : (c : Constraint) (made : List Expr) (k : Kind) → IsTrue (is_of_kind t (before c.greater) c.lower k) → Carry (read_on frame c made).made → value_of (read_on frame c made).expr reads ≡ value_of c.lower before_reads
    read_worth c made k h = go (reads_part c.lower frame.part) refl
      where
        stays : reads_part c.lower frame.part ≡ false → value_of c.lower reads ≡ value_of c.lower before_reads
        stays none = sym (read_same t (before c.greater) (after c.greater) before_reads reads c.lower (λ j r kind is. (more j kind is, refl))
            (λ i j r kind is. (
              ap (λ b. types.kind_by t frame known (after c.greater) more alone (cond b (Some (frame.from + j)) None) (opened c.greater i j)) (sym (other_part c.lower frame.part i j none r)) ∙ is,
              ap (λ b. values.read_by frame reads (cond b (Some (frame.from + j)) None) (reads.inner i j)) (other_part c.lower frame.part i j none r),
            )) k h).1

        go : (b : Bool) → reads_part c.lower frame.part ≡ b → Carry (cond {A = Left} b (residual frame c.lower made) (record { expr = c.lower; made = made })).made
            → value_of (cond {A = Left} b (residual frame c.lower made) (record { expr = c.lower; made = made })).expr reads ≡ value_of c.lower before_reads
        go true e carry = values.residual_worth frame reads c.lower made carry
        go false e carry = stays e

    pub all_worth : (cs : List Constraint) (made : List Expr) → Each IsTypedBefore cs → Carry (all_read_on frame cs made).made
        → Pointwise (λ c later. value_of later.lower reads ≡ value_of c.lower before_reads) cs (all_read_on frame cs made).waiting
    all_worth [] made typed carry = tt
    all_worth (c ∷ cs) made typed carry = (
      read_worth c made typed.0.0 typed.0.1 (all_read_back frame Carry (values.fewer frame reads) cs (read_on frame c made).made carry),
      all_worth cs (read_on frame c made).made typed.1 carry,
    )
