-- The wires after a part, by a table of marks.
use Rattle.std.proofs.Common.{refl, sym, ap, subst, ◌∙◌, arith}
use Rattle.std.specs.Prelude.{◌≡◌, ℕ, ◌+◌, ◌<◌, ◌≤◌, Bool, true, false, cond, not, nat_le, ◌||◌, List, [], ◌∷◌, ◌++◌, length, map, filter}
use Rattle.compiled_term.specs.Stages.{Compiled, Standing, ReadOn, after, all_read_on, carried_on, carry, is_live, known_after, new_wires, not_into, passed_on, read_at, targets_from, widened}
use Rattle.compiled_term.specs.Wires.{wire_kinds, wires_from}
use Rattle.compiled_term.specs.declared.wire.Wire.{Wire}
use Rattle.compiled_term.specs.declared.wire.WireValue.{WireValue}
use Rattle.design_model.specs.declared.expr.Constraint.{Constraint}
use Rattle.design_model.specs.declared.expr.Expr.{Expr}
use Rattle.design_term.specs.declared.term.Primitive.TheVariants as prim
use Rattle.design_term.specs.declared.term.Target.{Target}
use Rattle.design_term.specs.declared.term.Term.TheVariants as term
use Rattle.order_core.specs.Pointwise.{Each}
use Rattle.term_compile.specs.Marks.{AreMarks, value_stays}
use Rattle.term_compile.specs.Stands.{AreBelow}
use Rattle.value_type.specs.declared.kind.Kind.{Kind}

abbrev ValuesBelow : ℕ → List WireValue → Type 0
ValuesBelow next values = Each (λ c. c.wire.number < next) values

same_stay : (start : ℕ) (marks : List Bool) (waiting : List Constraint) → AreMarks waiting marks → (values : List WireValue) → ValuesBelow (length marks) values
    → filter (value_stays start marks) values ≡ filter (λ c. is_live start waiting c.wire.number) values
same_stay start marks waiting are [] h = refl
same_stay start marks waiting are (c ∷ values) h = λ i.
    cond (not (nat_le start c.wire.number) || are c.wire.number h.0 i) (c ∷ same_stay start marks waiting are values h.1 i) (same_stay start marks waiting are values h.1 i)

each_append : {A : Type 0} (P : A → Type 0) (xs ys : List A) → Each P xs → Each P ys → Each P (xs ++ ys)
each_append P [] ys h k = k
each_append P (x ∷ xs) ys h k = (h.0, each_append P xs ys h.1 k)

each_filter : {A : Type 0} (P : A → Type 0) (test : A → Bool) (xs : List A) → Each P xs → Each P (filter test xs)
each_filter P test [] h = tt
each_filter P test (x ∷ xs) h = at (test x) (each_filter P test xs h.1)
  where
    at : (b : Bool) → Each P (filter test xs) → Each P (cond b (x ∷ filter test xs) (filter test xs))
    at true rest = (h.0, rest)
    at false rest = rest

wires_of_values : (next : ℕ) (values : List WireValue) → ValuesBelow next values → AreBelow next (map (λ c. c.wire) values)
wires_of_values next [] h = tt
wires_of_values next (c ∷ values) h = (h.0, wires_of_values next values h.1)

more_below : (n m : ℕ) (wires : List Wire) → n ≤ m → AreBelow n wires → AreBelow m wires
more_below n m [] l h = tt
more_below n m (w ∷ wires) l h = let first = h.0 in (omega (arith, first, l), more_below n m wires l h.1)

pub wires_below : (next number : ℕ) (kinds : List Kind) → number + length kinds ≤ next → AreBelow next (wires_from number kinds)
wires_below next number [] h = tt
wires_below next number (k ∷ kinds) h = (omega (arith, h), wires_below next (number + 1) kinds (omega (arith, h)))

passed_below : (next at : ℕ) (wires : List Wire) → AreBelow next wires → ValuesBelow next (passed_on at wires)
passed_below next at [] h = tt
passed_below next at (w ∷ wires) h = (h.0, passed_below next (at + 1) wires h.1)

new_below : (next number : ℕ) (wires : List Wire) (made : List Expr) → number + length made ≤ next → ValuesBelow next (new_wires wires number made)
new_below next number wires [] h = tt
new_below next number wires (e ∷ made) h = (omega (arith, h), new_below next (number + 1) wires made (omega (arith, h)))

module _ (start p : ℕ) (now : Standing) (part : Compiled) (below : AreBelow now.next now.wires) where
  abbrev then : Standing
  then = after start [] now p part

  known_below : ValuesBelow then.next (known_after start [] now p part)
  known_below =
      let wide = each_append (λ w. w.number < then.next) now.wires (wires_from now.next part.required)
      (more_below now.next then.next now.wires (omega arith) below) (wires_below then.next now.next part.required (omega arith)) in
      each_append (λ c. c.wire.number < then.next) (passed_on 0 (widened start [] now part)) (new_wires (widened start [] now part) (now.next + length part.required) (read_at start [] now p part).made)
      (passed_below then.next 0 (widened start [] now part) wide)
      (new_below then.next (now.next + length part.required) (widened start [] now part) (read_at start [] now p part).made (omega arith))

  -- What stays by the marks is what is carried on.
  pub carried_same : (marks : List Bool) → AreMarks then.waiting marks → length marks ≡ then.next → filter (value_stays start marks) (known_after start [] now p part) ≡ carried_on start [] now p part
  carried_same marks are many = same_stay start marks then.waiting are (known_after start [] now p part) (rw many known_below)

  pub then_below : AreBelow then.next then.wires
  then_below = wires_of_values then.next (carried_on start [] now p part)
      (each_filter (λ c. c.wire.number < then.next) (λ c. is_live start (read_at start [] now p part).waiting c.wire.number) (known_after start [] now p part) known_below)

  abbrev wires_in : List WireValue → List Wire
  wires_in values = map (λ c. c.wire) values

  -- These are the wires before the part and its required ports, the next number after them, and what is read on with these.
  module _ (wide : List Wire) (next : ℕ) (on : ReadOn) (wide_is : wide ≡ widened start [] now part) (next_is : next ≡ now.next + length part.required)
      (on_is : all_read_on (record { start = start; part = p; from = now.next; next = next }) (not_into p now.waiting) [] ≡ on) where
    read_is : on ≡ read_at start [] now p part
    read_is = sym on_is ∙ (λ i. all_read_on (record { start = start; part = p; from = now.next; next = next_is i }) (not_into p now.waiting) [])

    pub carried_is : (marks : List Bool) (values : List WireValue) → AreMarks on.waiting marks → length marks ≡ next + length on.made
        → values ≡ filter (value_stays start marks) (passed_on 0 wide ++ new_wires wide next on.made) → values ≡ carried_on start [] now p part
    carried_is marks values are many is =
        is
        ∙ ((λ i. filter (value_stays start marks) (passed_on 0 (wide_is i) ++ new_wires (wide_is i) (next_is i) (read_is i).made))
        ∙ carried_same marks (subst (λ (r : ReadOn). AreMarks r.waiting marks) read_is are) (many ∙ (λ i. next_is i + length (read_is i).made)))

    pub then_is : (values : List WireValue) (wires : List Wire) (last : ℕ) → values ≡ carried_on start [] now p part → wires ≡ wires_in values → last ≡ next + length on.made
        → record { wires = wires; next = last; waiting = on.waiting } ≡ then
    then_is values wires last carried wires_are last_is = λ i. record {
      wires = (wires_are ∙ ap wires_in carried) i;
      next = (last_is ∙ (λ j. next_is j + length (read_is j).made)) i;
      waiting = (read_is i).waiting;
    }

    pub carry_is : (values : List WireValue) (kinds : List Kind) (targets : List Target) → values ≡ carried_on start [] now p part → kinds ≡ wire_kinds (wires_in values) → targets ≡ targets_from 0 values
        → term.Prim (prim.Above kinds targets) ≡ carry start [] now p part
    carry_is values kinds targets carried kinds_are targets_are = λ i.
        term.Prim (prim.Above ((kinds_are ∙ ap (λ v. wire_kinds (wires_in v)) carried) i) ((targets_are ∙ ap (targets_from 0) carried) i))
