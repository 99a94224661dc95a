-- What waits after a part is worth what waited before it, where the part carries these rows.
use Rattle.std.proofs.Common.{refl, sym, ap, subst, ◌∙◌, arith, inl, inr}
use Rattle.std.proofs.lemmas.Bool.Decides.{nat_tests}
use Rattle.std.specs.Prelude.{◌≡◌, ◌+◌, ◌<◌, ◌++◌, ◌==◌, ℕ, Bool, true, false, cond, IsTrue, List, [], ◌∷◌, length, map, Option, Some, None, slice_get}
use Rattle.order_core.specs.MemberLaws.{got_member}
use Rattle.order_core.specs.Members.{IsMember}
use Rattle.order_core.specs.Pointwise.{Each, Pointwise}
use Rattle.order_core.specs.PointwiseLaws.{each_got}
use Rattle.value_type.specs.Fits.{row_fits}
use Rattle.value_type.specs.RowLaws.{fits_together}
use Rattle.value_type.specs.declared.kind.Kind.{Kind}
use Rattle.value_type.specs.declared.poset.Types.{Types}
use Rattle.value_type.specs.declared.value.Value.{Value}
use Rattle.design_model.specs.ExprKinds.{is_of_kind}
use Rattle.design_model.specs.Rows.{Row}
use Rattle.design_model.specs.ValueOf.{Reads, reads_of, value_of}
use Rattle.design_model.specs.Wiring.{kind_at}
use Rattle.design_model.specs.declared.expr.Constraint.{Constraint}
use Rattle.design_model.specs.declared.expr.Expr.{Expr}
use Rattle.design_term.specs.TermTypes.{TermIsTyped}
use Rattle.expr_residual.specs.MovedLaws.{read_same}
use Rattle.expr_residual.specs.Plain.{plain}
use Rattle.expr_residual.specs.ResidualValueLaws as values
use Rattle.compiled_term.specs.Stages.{Compiled, Standing, carried_on, new_wires, passed_on}
use Rattle.compiled_term.specs.Wires.{wire_kinds, wires_from}
use Rattle.compiled_term.proofs.CarriedLemmas.{AreValues, carried_value, kept_value, made_value, passed_number, passed_on_value, passed_wires, value_carried}
use Rattle.compiled_term.proofs.ReadLemmas as reading
use Rattle.compiled_term.proofs.StandingLemmas as standing
use Rattle.compiled_term.proofs.StandingLemmas.{IsStanding, IsWaiting, is_open, opened, opened_is, part_at, required_at}
use Rattle.compiled_term.proofs.StageTypeLemmas.{wide_kinds}
use Rattle.compiled_term.proofs.TargetLemmas.{placed_worth}
use Rattle.compiled_term.proofs.WireLemmas.{Fit, appended_kind, appended_value, equal, none_below, passed_value, value_from, wire_kind, wire_value}

-- A part, by its number, and what it carries.
pub record Item : Type 0 where
  pub part : ℕ
  pub provided : Row
  pub required : Row

-- what the parts carry at their required ports
abbrev pub port_in : List Item → ℕ → ℕ → Option Value
port_in [] i j = None
port_in (item ∷ items) i j = cond (item.part == i) (slice_get item.required j) (port_in items i j)

turned : (m n : ℕ) (b : Bool) → (m == n) ≡ b → (n == m) ≡ b
turned m n true e = grind (arith, nat_tests)
turned m n false e = grind (arith, nat_tests)

module _ (t : Types) (start : ℕ) (state : List Kind) (parts : List Compiled) (terms : Each (λ p. TermIsTyped t p.term p.provided p.required) parts)
    (now : Standing) (p : ℕ) (left : List ℕ) (within : p < length parts) (stands : IsStanding t start state parts now (p ∷ left)) where
  abbrev part : Compiled
  part = part_at t start state parts p

  abbrev then : Standing
  then = standing.then t start state parts now p left within stands

  -- The wires carry w, and the part requires r.
  module _ (w : Row) (fit : Fit t now.wires w) (r : Row) (r_fit : IsTrue (row_fits t part.required r)) where
    abbrev pub both_rows : Row
    both_rows = w ++ r

    pub wide_fit : Fit t (standing.wide t start state parts now p left within stands) both_rows
    wide_fit = subst (λ (ks : List Kind). IsTrue (row_fits t ks both_rows)) (sym (wide_kinds t start state parts terms now p left within stands)) (fits_together t (wire_kinds now.wires) part.required w r fit r_fit)

  -- The part provides x, and the parts that are left carry these.
  module _ (w : Row) (fit : Fit t now.wires w) (r : Row) (r_fit : IsTrue (row_fits t part.required r)) (x : Row) (items : List Item) where
    abbrev pub item : Item
    item = record { part = p; provided = x; required = r }

    abbrev pub now_reads : Reads
    now_reads = record { own = wire_value now.wires w; inner = port_in (item ∷ items) }

    abbrev rows : Row
    rows = both_rows w fit r r_fit

    abbrev rows_fit : Fit t (standing.wide t start state parts now p left within stands) rows
    rows_fit = wide_fit w fit r r_fit

    abbrev wide_kind : ℕ → Option Kind
    wide_kind = wire_kind (standing.wide t start state parts now p left within stands)

    abbrev pub known_reads : Reads
    known_reads = reads_of rows []

    abbrev known_value : ℕ → Option Value
    known_value = carried_value (standing.all_known t start state parts now p left within stands) known_reads

    -- what is read over all that is known after the part
    abbrev all_reads : Reads
    all_reads = record { own = known_value; inner = port_in items }

    old_value : (j : ℕ) (k : Kind) → wide_kind j ≡ Some k → known_value j ≡ wire_value (standing.wide t start state parts now p left within stands) rows j
    old_value j k e = passed_on_value t (standing.wide t start state parts now p left within stands) [] rows (new_wires (standing.wide t start state parts now p left within stands) (standing.first_new t start state parts now p left within stands) (standing.made t start state parts now p left within stands)) j k rows_fit e

    now_value : (j : ℕ) (k : Kind) → wire_kind now.wires j ≡ Some k → wire_value now.wires w j ≡ known_value j
    now_value j k e =
        sym (appended_value t now.wires (wires_from now.next part.required) w r j k fit e)
        ∙ sym (old_value j k (appended_kind now.wires (wires_from now.next part.required) j k e))

    port_value : (j : ℕ) (k : Kind) → slice_get part.required j ≡ Some k → slice_get r j ≡ known_value (now.next + j)
    port_value j k e =
        sym (value_from t now.next part.required r j r_fit)
        ∙ (sym (passed_value t now.wires (wires_from now.next part.required) w r (now.next + j) fit (none_below now.wires now.next (now.next + j) stands.below (omega arith)))
        ∙ sym (old_value (now.next + j) k (standing.port_kind t start state parts now p left within stands j ∙ e)))

    -- The new wires carry the values of their expressions.
    carries : values.Carry (standing.frame t start state parts now p left within stands) all_reads (standing.made t start state parts now p left within stands)
    carries i e at =
        let typed = each_got_at (standing.made t start state parts now p left within stands) i e at (standing.numbers t start state parts now p left within stands) in
        passed_number (passed_on 0 (standing.wide t start state parts now p left within stands)) (new_wires (standing.wide t start state parts now p left within stands) (standing.first_new t start state parts now p left within stands) (standing.made t start state parts now p left within stands)) known_reads
        (standing.first_new t start state parts now p left within stands + i)
        (ap (λ ws. wire_kind ws (standing.first_new t start state parts now p left within stands + i)) (passed_wires 0 (standing.wide t start state parts now p left within stands))
        ∙ none_below (standing.wide t start state parts now p left within stands) (standing.first_new t start state parts now p left within stands) (standing.first_new t start state parts now p left within stands + i)
        (standing.wide_below t start state parts now p left within stands) (omega arith))
        ∙ (made_value (standing.wide t start state parts now p left within stands) (standing.first_new t start state parts now p left within stands) (standing.made t start state parts now p left within stands) known_reads i e at
        ∙ (placed_worth t (standing.wide t start state parts now p left within stands) (λ a b. None) (λ a b. refl) e plain typed rows (port_in items) rows_fit
        ∙ (read_same t (record { own = wide_kind; inner = λ a b. None }) (record { own = wide_kind; inner = λ a b. None })
        (record { own = wire_value (standing.wide t start state parts now p left within stands) rows; inner = port_in items }) all_reads e
        (λ j reads k is. (is, sym (old_value j k is))) (λ a b reads k is. absurd (no_kind k is)) plain typed).1))
      where
        no_kind : (k : Kind) → None ≡ Some k → ⊥
        no_kind k e = absurd (cc)

        each_got_at : (es : List Expr) (m : ℕ) (e : Expr) → slice_get es m ≡ Some e → Each (λ e. IsTrue (is_of_kind t (record { own = wide_kind; inner = λ i j. None }) e plain)) es
            → IsTrue (is_of_kind t (record { own = wide_kind; inner = λ i j. None }) e plain)
        each_got_at es m e found each = each_got (λ e. IsTrue (is_of_kind t (record { own = wide_kind; inner = λ i j. None }) e plain)) es e each (got_member es m e found)

    -- A constraint that is read on is worth over all that is known what it was worth before the part.
    worth_before : (c : Constraint) → IsWaiting t start state parts now.wires (p ∷ left) c → value_of c.lower (values.before (standing.frame t start state parts now p left within stands) all_reads) ≡ value_of c.lower now_reads
    worth_before c waits =
        sym (read_same t (record { own = wire_kind now.wires; inner = opened t start state parts (p ∷ left) c.greater }) (record { own = wire_kind now.wires; inner = opened t start state parts (p ∷ left) c.greater })
        now_reads (values.before (standing.frame t start state parts now p left within stands) all_reads) c.lower
        (λ j reads k is. (is, now_value j k is)) (λ i j reads k is. (is, inner_value i j k is (turned p i))) waits.kind waits.lower).1
      where
        inner_value : (i j : ℕ) (k : Kind) → opened t start state parts (p ∷ left) c.greater i j ≡ Some k → ((b : Bool) → (p == i) ≡ b → (i == p) ≡ b)
            → port_in (item ∷ items) i j ≡ values.read_by (standing.frame t start state parts now p left within stands) all_reads (cond (i == p) (Some (now.next + j)) None) (port_in items i j)
        inner_value i j k is turn = go (p == i) refl
          where
            go : (b : Bool) → (p == i) ≡ b → cond b (slice_get r j) (port_in items i j) ≡ values.read_by (standing.frame t start state parts now p left within stands) all_reads (cond (i == p) (Some (now.next + j)) None) (port_in items i j)
            go true same = rw (turn true same)
                (port_value j k (sym (required_at t start state parts p j within) ∙ (ap (λ m. kind_at (map (λ c. c.required) parts) m j) (equal p i same) ∙ opened_is (is_open (p ∷ left) c.greater i) (kind_at (map (λ c. c.required) parts) i j) k is)))
            go false other = rw (turn false other) refl

    pub worth_after : Pointwise (λ c later. value_of later.lower all_reads ≡ value_of c.lower (values.before (standing.frame t start state parts now p left within stands) all_reads))
        (standing.others t start state parts now p left within stands) then.waiting
    worth_after = reading.all_worth t (standing.frame t start state parts now p left within stands) wide_kind (standing.own_after t start state parts now p left within stands) (standing.more t start state parts now p left within stands)
        (opened t start state parts left) all_reads (standing.others t start state parts now p left within stands) [] (standing.others_typed t start state parts now p left within stands) carries

    -- The wires after the part carry w'.
    module _ (w' : Row) (are : AreValues (carried_on start state now p part) known_reads w') where
      abbrev pub then_reads : Reads
      then_reads = record { own = wire_value then.wires w'; inner = port_in items }

      kept_worth : (later : Constraint) → IsMember later then.waiting → IsWaiting t start state parts then.wires left later → value_of later.lower then_reads ≡ value_of later.lower all_reads
      kept_worth later m waits =
          (read_same t (record { own = wire_kind then.wires; inner = opened t start state parts left later.greater }) (record { own = wire_kind then.wires; inner = opened t start state parts left later.greater }) then_reads all_reads later.lower
          (λ j reads k is. (
            is,
            value_carried (carried_on start state now p part) known_reads w' j are
                ∙ kept_value (standing.live t start state parts now p left within stands) (standing.all_known t start state parts now p left within stands) known_reads j (standing.read_is_live t start state parts now p left within stands later j m reads),
          ))
          (λ i j reads k is. (is, refl)) waits.kind waits.lower).1

      -- What waits after the part is on the same ports, and worth the same, as what waited on other ports before it.
      pub record IsSame (c later : Constraint) : Type 0 where
        pub greater : later.greater ≡ c.greater
        pub worth : value_of later.lower then_reads ≡ value_of c.lower now_reads

      all_same : (cs laters : List Constraint) → ((c : Constraint) → IsMember c cs → IsWaiting t start state parts now.wires (p ∷ left) c) → ((later : Constraint) → IsMember later laters → IsMember later then.waiting)
          → Each (IsWaiting t start state parts then.wires left) laters
          → Pointwise (reading.IsReadOn t (standing.frame t start state parts now p left within stands) wide_kind (standing.own_after t start state parts now p left within stands) (standing.more t start state parts now p left within stands) (opened t start state parts left)) cs laters
          → Pointwise (λ c later. value_of later.lower all_reads ≡ value_of c.lower (values.before (standing.frame t start state parts now p left within stands) all_reads)) cs laters → Pointwise IsSame cs laters
      all_same [] [] waits among later_waits on worth = tt
      all_same [] (later ∷ laters) waits among later_waits on worth = absurd on
      all_same (c ∷ cs) [] waits among later_waits on worth = absurd on
      all_same (c ∷ cs) (later ∷ laters) waits among later_waits on worth = (
        record { greater = on.0.greater; worth = kept_worth later (among later (inl refl)) later_waits.0 ∙ (worth.0 ∙ worth_before c (waits c (inl refl))) },
        all_same cs laters (λ z m. waits z (inr m)) (λ z m. among z (inr m)) later_waits.1 on.1 worth.1,
      )

      pub waiting_same : Pointwise IsSame (standing.others t start state parts now p left within stands) then.waiting
      waiting_same = all_same (standing.others t start state parts now p left within stands) then.waiting (λ c m. (standing.other_is t start state parts now p left within stands c m).1) (λ later m. m)
          (standing.still_standing t start state parts now p left within stands).waiting (standing.read_on_is t start state parts now p left within stands) worth_after
