-- The stages of a net lead from w to y exactly where the parts that are left may carry rows that meet all that waits.
use Rattle.std.proofs.Common.{refl, sym, ap, subst, ◌∙◌, inl, inr, arith}
use Rattle.std.proofs.lemmas.Bool.Decides.{nat_tests}
use Rattle.std.specs.List.{flat_map}
use Rattle.std.specs.Prelude.{◌≡◌, ◌<◌, ◌++◌, ◌==◌, ℕ, Bool, true, false, not, cond, IsTrue, List, [], ◌∷◌, length, map, Option, None, slice_get}
use Rattle.order_core.specs.MemberLaws.{filter-mem, flat_map-mem, mem-flat_map}
use Rattle.order_core.specs.Members.{IsMember}
use Rattle.order_core.specs.Pointwise.{Each, Pointwise}
use Rattle.order_core.specs.PointwiseLaws.{each_got, each_made}
use Rattle.value_type.specs.Fits.{row_fits}
use Rattle.value_type.specs.KindOrderLaws.{row_laws}
use Rattle.value_type.specs.Leq.{row_leq}
use Rattle.value_type.specs.RowLaws.{fits_together, leq_together}
use Rattle.value_type.specs.declared.kind.Kind.{Kind}
use Rattle.value_type.specs.declared.poset.Types.{Types}
use Rattle.value_type.specs.declared.value.Value.{Value}
use Rattle.design_model.specs.Evaluation.{is_into}
use Rattle.design_model.specs.ExprRisesLaws.{typed_value}
use Rattle.design_model.specs.Rows.{Row}
use Rattle.design_model.specs.ValueOf.{reads_of, value_of}
use Rattle.design_model.specs.ValuesInOrder.{FitsAt}
use Rattle.design_model.specs.Wiring.{Carried, IsAtLeast, kind_at}
use Rattle.design_model.specs.declared.expr.Constraint.{Constraint}
use Rattle.design_model.specs.declared.expr.Greater.TheVariants as greater
use Rattle.design_model.specs.declared.expr.Greater.{Greater}
use Rattle.design_term.specs.Outcomes.{Meets, Relates}
use Rattle.design_term.specs.OutcomesLaws.{Relates-Par, Relates-Prim, Relates-Series, Relates-Sub}
use Rattle.design_term.specs.TermLaws.{term_monotone}
use Rattle.design_term.specs.TermTypes.{TermIsTyped}
use Rattle.design_term.specs.declared.term.Target.{Target}
use Rattle.design_term.specs.declared.term.Term.TheVariants as term
use Rattle.design_term.specs.declared.term.Term.{Term}
use Rattle.compiled_term.specs.Stages.{Compiled, Standing, after, asked_of, asked_of_state, carried_on, carry, keep_all, stages, through, to_state}
use Rattle.compiled_term.specs.declared.wire.Wire.{Wire}
use Rattle.compiled_term.specs.declared.wire.WireValue.{WireValue}
use Rattle.compiled_term.specs.Wires.{placed, wire_kinds}
use Rattle.compiled_term.proofs.CarriedLemmas.{AreValues, row_carried, wires_of}
use Rattle.compiled_term.proofs.JoinLemmas.{Through}
use Rattle.compiled_term.proofs.StageTypeLemmas as stage_types
use Rattle.compiled_term.proofs.StageTypeLemmas.{closed, filtered_each, stages_typed, term_typed}
use Rattle.compiled_term.proofs.StandingLemmas as standing
use Rattle.compiled_term.proofs.StandingLemmas.{IsStanding, IsWaiting, opened, part_at, provided_at, target_kind}
use Rattle.compiled_term.proofs.TargetLemmas.{IsCarried, all_kept, kept_all, placed_worth, values_least, values_meet}
use Rattle.compiled_term.proofs.WireLemmas.{Fit, equal, wire_value}
use Rattle.compiled_term.proofs.WorthLemmas as worth
use Rattle.compiled_term.proofs.WorthLemmas.{Item, port_in}

-- what the parts carry at their provided ports
abbrev pub provided_in : List Item → ℕ → ℕ → Option Value
provided_in [] i j = None
provided_in (item ∷ items) i j = cond (item.part == i) (slice_get item.provided j) (provided_in items i j)

abbrev pub target_value : List Item → Row → Greater → Option Value
target_value items y (greater.Own j) = slice_get y j
target_value items y (greater.Inner i j) = provided_in items i j

-- parts with what they carry
abbrev pub items_of : List ℕ → List Carried → List Item
items_of [] carried = []
items_of (p ∷ left) [] = []
items_of (p ∷ left) (c ∷ carried) = record { part = p; provided = c.provided; required = c.required } ∷ items_of left carried

pub at_least_same : (t : Types) (port other : Option Kind) (upper higher lower below : Option Value) → port ≡ other → upper ≡ higher → lower ≡ below → IsAtLeast t port upper lower → IsAtLeast t other higher below
at_least_same t port other upper higher lower below e f g h =
    subst (λ (o : Option Kind). IsAtLeast t o higher below) e (subst (λ (v : Option Value). IsAtLeast t port v below) f (subst (λ (v : Option Value). IsAtLeast t port upper v) g h))

-- What holds of each item of one list holds of each partner.
across : {A B : Type 0} (R : A → B → Type 0) (P : A → Type 0) (Q : B → Type 0) (xs : List A) (ys : List B) → ((x : A) (y : B) → IsMember x xs → R x y → P x → Q y) → Pointwise R xs ys → Each P xs → Each Q ys
across R P Q [] [] turn r h = tt
across R P Q [] (y ∷ ys) turn r h = absurd r
across R P Q (x ∷ xs) [] turn r h = absurd r
across R P Q (x ∷ xs) (y ∷ ys) turn r h = (turn x y (inl refl) r.0 h.0, across R P Q xs ys (λ a b m. turn a b (inr m)) r.1 h.1)

back : {A B : Type 0} (R : A → B → Type 0) (P : A → Type 0) (Q : B → Type 0) (xs : List A) (ys : List B) → ((x : A) (y : B) → IsMember x xs → R x y → Q y → P x) → Pointwise R xs ys → Each Q ys → Each P xs
back R P Q [] [] turn r h = tt
back R P Q [] (y ∷ ys) turn r h = absurd r
back R P Q (x ∷ xs) [] turn r h = absurd r
back R P Q (x ∷ xs) (y ∷ ys) turn r h = (turn x y (inl refl) r.0 h.0, back R P Q xs ys (λ a b m. turn a b (inr m)) r.1 h.1)

module _ (t : Types) (n : ℕ) where
  -- The part's term relates what it provides to what it requires.
  pub record Works (part : Compiled) (c : Carried) : Type 0 where
    pub fit : IsTrue (row_fits t part.provided c.provided)
    pub relates : Relates t n part.term c.provided c.required

  -- A lesser row leads wherever a greater one does.
  through_falls : (terms : List Term) (ins outs : List Kind) (x y z : Row) → 0 < length terms → Through (TermIsTyped t) terms ins outs → IsTrue (row_fits t ins x) → IsTrue (row_fits t ins y) → IsTrue (row_leq t ins x y)
      → Through (Relates t n) terms y z → Through (Relates t n) terms x z
  through_falls [] ins outs x y z some typed x_fits y_fits less h = absurd (omega (arith, some))
  through_falls (a ∷ rest) ins outs x y z some typed x_fits y_fits less h = (h.0, (term_monotone t n a ins typed.0 typed.1).falling x y h.0 x_fits y_fits less h.1, h.2)

module _ (t : Types) (n : ℕ) (start : ℕ) (state : List Kind) (parts : List Compiled) (terms : Each (λ p. TermIsTyped t p.term p.provided p.required) parts) where
  abbrev Part : ℕ → Compiled
  Part p = part_at t start state parts p

  -- What the constraint asks is met, where the wires carry w, the parts these rows, and the next state is y.
  abbrev pub IsMet : List Wire → Row → List Item → Row → Constraint → Type 0
  IsMet wires w items y c = IsAtLeast t (target_kind t start state parts c.greater) (target_value items y c.greater) (value_of c.lower (record { own = wire_value wires w; inner = port_in items }))

  -- The parts that are left may carry these rows, and all that waits is met.
  pub record AreCarried (now : Standing) (left : List ℕ) (w y : Row) (carried : List Carried) : Type 0 where
    pub works : Pointwise (λ p c. Works t n (Part p) c) left carried
    pub fits : IsTrue (row_fits t state y)
    pub met : Each (IsMet now.wires w (items_of left carried) y) now.waiting

  module _ (now : Standing) (w : Row) (fit : Fit t now.wires w) where
    -- At the end what waits asks the next state.
    module _ (stands : IsStanding t start state parts now []) (y : Row) where
      abbrev targets : List Target
      targets = flat_map (λ c. asked_of_state now.wires c.greater c.lower) now.waiting

      worth_here : (c : Constraint) (waits : IsWaiting t start state parts now.wires [] c) (j : ℕ) → c.greater ≡ greater.Own j → value_of (placed now.wires c.lower) (reads_of w []) ≡ value_of c.lower (record { own = wire_value now.wires w; inner = port_in [] })
      worth_here c waits j is = placed_worth t now.wires (opened t start state parts [] c.greater) (λ i port. ap (λ g. opened t start state parts [] g i port) is) c.lower waits.kind waits.lower w (port_in []) fit

      asks : (c : Constraint) → IsWaiting t start state parts now.wires [] c → IsMet now.wires w [] y c → (into : Greater) → c.greater ≡ into → Each (Meets t state w y) (asked_of_state now.wires into c.lower)
      asks c waits met (greater.Own j) is = (
        at_least_same t (target_kind t start state parts c.greater) (slice_get state j) (target_value [] y c.greater) (slice_get y j) _ _ (ap (target_kind t start state parts) is) (ap (target_value [] y) is) (sym (worth_here c waits j is)) met,
        tt,
      )
      asks c waits met (greater.Inner i j) is = tt

      asked : (c : Constraint) → IsWaiting t start state parts now.wires [] c → (into : Greater) → c.greater ≡ into → Each (Meets t state w y) (asked_of_state now.wires into c.lower) → IsMet now.wires w [] y c
      asked c waits (greater.Own j) is h =
          at_least_same t (slice_get state j) (target_kind t start state parts c.greater) (slice_get y j) (target_value [] y c.greater) _ _ (sym (ap (target_kind t start state parts) is)) (sym (ap (target_value [] y) is)) (worth_here c waits j is) h.0
      asked c waits (greater.Inner i j) is h = absurd (let there = subst (λ (g : Greater). IsTrue (standing.is_left [] g)) is waits.there in cc)

      waits_at : (c : Constraint) → IsMember c now.waiting → IsWaiting t start state parts now.wires [] c
      waits_at c m = each_got (IsWaiting t start state parts now.wires []) now.waiting c stands.waiting m

      pub last_from : AreCarried now [] w y [] → Relates t n (to_state start state now) w y
      last_from h = rw Relates-Prim (record {
        fits = h.fits;
        each = each_made (Meets t state w y) targets (λ target m.
            let from = mem-flat_map (λ c. asked_of_state now.wires c.greater c.lower) now.waiting target m in
            each_got (Meets t state w y) (asked_of_state now.wires from.0.greater from.0.lower) target
            (asks from.0 (waits_at from.0 from.1) (each_got (IsMet now.wires w [] y) now.waiting from.0 h.met from.1) from.0.greater refl) from.2);
      })

      pub last_to : Relates t n (to_state start state now) w y → AreCarried now [] w y []
      last_to rel =
          let h = rw Relates-Prim at rel in
          record {
            works = tt;
            fits = h.fits;
            met = each_made (IsMet now.wires w [] y) now.waiting (λ c m.
                asked c (waits_at c m) c.greater refl (each_made (Meets t state w y) (asked_of_state now.wires c.greater c.lower)
                (λ target found. each_got (Meets t state w y) targets target h.each (flat_map-mem (λ c. asked_of_state now.wires c.greater c.lower) now.waiting c target m found))));
          }

    -- A part is worked out.
    module _ (p : ℕ) (left : List ℕ) (within : p < length parts) (stands : IsStanding t start state parts now (p ∷ left)) (c : Carried) (works : Works t n (Part p) c) where
      abbrev part : Compiled
      part = Part p

      pub r_fit : IsTrue (row_fits t part.required c.required)
      r_fit = (term_monotone t n part.term part.provided part.required (term_typed t start state parts terms p within)).fit c.provided c.required works.fit works.relates

      abbrev then : Standing
      then = after start state now p part

      abbrev z : Row
      z = w ++ c.required

      z_fit : Fit t (standing.wide t start state parts now p left within stands) z
      z_fit = worth.wide_fit t start state parts terms now p left within stands w fit c.required r_fit

      each_has_value : (kinds : List Kind) (x : Row) → IsTrue (row_fits t kinds x) → (values : List WireValue) → Each (IsCarried t kinds) values → Each (λ v. FitsAt t v.wire.kind (value_of v.lower (reads_of x []))) values
      each_has_value kinds x x_fits [] typed = tt
      each_has_value kinds x x_fits (v ∷ values) typed = (
        typed_value t x [] v.lower v.wire.kind (record { own_kinds = kinds; inner_kinds = []; own_fits = x_fits; inner_fit = tt; typed = typed.0 }),
        each_has_value kinds x x_fits values typed.1,
      )

      -- what is carried on
      pub row_then : (x : Row) × AreValues (carried_on start state now p part) (reads_of z []) x × Fit t (wires_of (carried_on start state now p part)) x
      row_then = row_carried t (carried_on start state now p part) (reads_of z [])
          (each_has_value (wire_kinds (standing.wide t start state parts now p left within stands)) z z_fit (carried_on start state now p part)
          (filtered_each (IsCarried t (wire_kinds (standing.wide t start state parts now p left within stands))) (λ v. standing.live t start state parts now p left within stands v.wire.number) (standing.all_known t start state parts now p left within stands)
          (stage_types.known_typed t start state parts terms now p left within stands)))

      pub carry_from : Relates t n (carry start state now p part) z row_then.0
      carry_from = rw Relates-Prim (record { fits = row_then.2; each = values_meet t z [] row_then.0 [] (carried_on start state now p part) refl row_then.2 row_then.1 })

      pub least_then : (u : Row) → Relates t n (carry start state now p part) z u → IsTrue (row_leq t (wire_kinds then.wires) row_then.0 u) × Fit t then.wires u
      least_then u rel =
          let h = rw Relates-Prim at rel in
          (values_least t z [] row_then.0 u [] (carried_on start state now p part) refl row_then.2 h.fits row_then.1 h.each, h.fits)

      -- The parts that are left carry these, and the next state is y.
      module _ (carried : List Carried) (y : Row) where
        abbrev items : List Item
        items = items_of left carried

        abbrev Met : Constraint → Type 0
        Met d = IsMet now.wires w (record { part = p; provided = c.provided; required = c.required } ∷ items) y d

        same : Pointwise (worth.IsSame t start state parts terms now p left within stands w fit c.required r_fit c.provided items row_then.0 row_then.1) (standing.others t start state parts now p left within stands) then.waiting
        same = worth.waiting_same t start state parts terms now p left within stands w fit c.required r_fit c.provided items row_then.0 row_then.1

        -- A constraint on another part, or on the next state, asks what it asked.
        asks_same : (into : Greater) → is_into p into ≡ false → target_value (record { part = p; provided = c.provided; required = c.required } ∷ items) y into ≡ target_value items y into
        asks_same (greater.Own j) out = refl
        asks_same (greater.Inner q j) out = let other : (p == q) ≡ false = grind (arith, nat_tests) in rw other refl

        pub met_then : Each Met now.waiting → Each (IsMet then.wires row_then.0 items y) then.waiting
        met_then met = across (worth.IsSame t start state parts terms now p left within stands w fit c.required r_fit c.provided items row_then.0 row_then.1) Met (IsMet then.wires row_then.0 items y)
            (standing.others t start state parts now p left within stands) then.waiting (λ d later m is h.
            at_least_same t _ _ _ _ _ _ (ap (target_kind t start state parts) (sym is.greater)) (asks_same d.greater (standing.other_is t start state parts now p left within stands d m).0 ∙ ap (target_value items y) (sym is.greater)) (sym is.worth) h)
            same (filtered_each Met (λ d. not (is_into p d.greater)) now.waiting met)

        met_others : Each (IsMet then.wires row_then.0 items y) then.waiting → Each Met (standing.others t start state parts now p left within stands)
        met_others met = back (worth.IsSame t start state parts terms now p left within stands w fit c.required r_fit c.provided items row_then.0 row_then.1) Met (IsMet then.wires row_then.0 items y)
            (standing.others t start state parts now p left within stands) then.waiting (λ d later m is h.
            at_least_same t _ _ _ _ _ _ (ap (target_kind t start state parts) is.greater) (ap (target_value items y) is.greater ∙ sym (asks_same d.greater (standing.other_is t start state parts now p left within stands d m).0)) is.worth h)
            same met

        waits_at_part : (d : Constraint) → IsMember d now.waiting → IsWaiting t start state parts now.wires (p ∷ left) d
        waits_at_part d m = each_got (IsWaiting t start state parts now.wires (p ∷ left)) now.waiting d stands.waiting m

        abbrev part_targets : List Target
        part_targets = flat_map (λ d. asked_of p now.wires d.greater d.lower) now.waiting

        worth_at_part : (d : Constraint) (waits : IsWaiting t start state parts now.wires (p ∷ left) d) (q j : ℕ) → d.greater ≡ greater.Inner q j → (q == p) ≡ true
            → value_of (placed now.wires d.lower) (reads_of w []) ≡ value_of d.lower (record { own = wire_value now.wires w; inner = port_in (record { part = p; provided = c.provided; required = c.required } ∷ items) })
        worth_at_part d waits q j is into =
            placed_worth t now.wires (opened t start state parts (p ∷ left) d.greater) (λ a b. ap (λ g. opened t start state parts (p ∷ left) g a b) is ∙ closed t start state parts terms p q left j a b into) d.lower waits.kind waits.lower w
            (port_in (record { part = p; provided = c.provided; required = c.required } ∷ items)) fit

        ports_same : (d : Constraint) (q j : ℕ) → d.greater ≡ greater.Inner q j → (q == p) ≡ true → target_kind t start state parts d.greater ≡ slice_get part.provided j
        ports_same d q j is into = ap (target_kind t start state parts) is ∙ (ap (λ m. kind_at (map (λ c. c.provided) parts) m j) (equal q p into) ∙ provided_at t start state parts p j within)

        values_same : (d : Constraint) (q j : ℕ) → d.greater ≡ greater.Inner q j → (q == p) ≡ true → target_value (record { part = p; provided = c.provided; required = c.required } ∷ items) y d.greater ≡ slice_get c.provided j
        values_same d q j is into =
            let turned : (p == q) ≡ true = grind (arith, nat_tests) in
            ap (target_value (record { part = p; provided = c.provided; required = c.required } ∷ items) y) is ∙ ap (λ b. cond b (slice_get c.provided j) (provided_in items q j)) turned

        asks_part : (d : Constraint) → IsWaiting t start state parts now.wires (p ∷ left) d → Met d → (into : Greater) → d.greater ≡ into → Each (Meets t part.provided w c.provided) (asked_of p now.wires into d.lower)
        asks_part d waits met (greater.Own j) is = tt
        asks_part d waits met (greater.Inner q j) is = go (q == p) refl
          where
            go : (b : Bool) → (q == p) ≡ b → Each (Meets t (part_at t start state parts p).provided w c.provided) (cond b (record { place = j; lower = placed now.wires d.lower } ∷ []) [])
            go false other = tt
            go true into = (at_least_same t _ _ _ _ _ _ (ports_same d q j is into) (values_same d q j is into) (sym (worth_at_part d waits q j is into)) met, tt)

        asked_part : (d : Constraint) → IsWaiting t start state parts now.wires (p ∷ left) d → (into : Greater) → d.greater ≡ into → IsTrue (is_into p into) → Each (Meets t part.provided w c.provided) (asked_of p now.wires into d.lower) → Met d
        asked_part d waits (greater.Own j) is inside h = absurd (cc)
        asked_part d waits (greater.Inner q j) is inside h =
            let one : Each (Meets t (part_at t start state parts p).provided w c.provided) (cond true (record { place = j; lower = placed now.wires d.lower } ∷ []) []) =
            subst (λ (b : Bool). Each (Meets t (part_at t start state parts p).provided w c.provided) (cond b (record { place = j; lower = placed now.wires d.lower } ∷ []) [])) inside h in
            at_least_same t _ _ _ _ _ _ (sym (ports_same d q j is inside)) (sym (values_same d q j is inside)) (worth_at_part d waits q j is inside) one.0

        pub targets_from_met : Each Met now.waiting → Each (Meets t part.provided w c.provided) part_targets
        targets_from_met met = each_made (Meets t part.provided w c.provided) part_targets (λ target m.
            let from = mem-flat_map (λ d. asked_of p now.wires d.greater d.lower) now.waiting target m in
            each_got (Meets t part.provided w c.provided) (asked_of p now.wires from.0.greater from.0.lower) target
            (asks_part from.0 (waits_at_part from.0 from.1) (each_got Met now.waiting from.0 met from.1) from.0.greater refl) from.2)

        pub met_from : Each (Meets t part.provided w c.provided) part_targets → Each (IsMet then.wires row_then.0 items y) then.waiting → Each Met now.waiting
        met_from targets met = each_made Met now.waiting (λ d m. go d m (is_into p d.greater) refl)
          where
            go : (d : Constraint) → IsMember d now.waiting → (b : Bool) → is_into p d.greater ≡ b
                → IsMet now.wires w (record { part = p; provided = c.provided; required = c.required } ∷ items_of left carried) y d
            go d m true inside = asked_part d (waits_at_part d m) d.greater refl inside (each_made (Meets t (part_at t start state parts p).provided w c.provided) (asked_of p now.wires d.greater d.lower)
                (λ target found. each_got (Meets t (part_at t start state parts p).provided w c.provided) part_targets target targets (flat_map-mem (λ d. asked_of p now.wires d.greater d.lower) now.waiting d target m found)))
            go d m false outside = each_got Met (standing.others t start state parts now p left within stands) d (met_others met)
                (filter-mem (λ (d : Constraint). not (is_into p d.greater)) now.waiting d m (ap not outside))

        -- The part carries its rows: its targets are met, and the wires and its required values are those that it gives.
        pub part_from : Each Met now.waiting → Relates t n (term.Par (keep_all (wire_kinds now.wires)) (through start state now p part)) w z
        part_from met = rw Relates-Par (record {
          left = w;
          right = c.required;
          first = rw Relates-Prim (kept_all t (wire_kinds now.wires) w w fit fit ((row_laws t (wire_kinds now.wires)).reflexive w fit));
          second = rw Relates-Series (c.provided, rw Relates-Prim (record { fits = works.fit; each = targets_from_met met }), rw Relates-Sub works.relates);
          joined = refl;
        })

  -- What follows from greater wires follows from the wires themselves.
  lower_wires : (now : Standing) (w : Row) (fit : Fit t now.wires w) (p : ℕ) (left : List ℕ) (within : p < length parts) (stands : IsStanding t start state parts now (p ∷ left)) (c : Carried) (works : Works t n (Part p) c)
      → (z kept : Row) → z ≡ kept ++ c.required → Fit t now.wires kept → IsTrue (row_leq t (wire_kinds now.wires) w kept) → (u : Row)
      → Relates t n (carry start state now p (Part p)) z u → Relates t n (carry start state now p (Part p)) (w ++ c.required) u
  lower_wires now w fit p left within stands c works z kept joined kept_fit more u rel =
      let ins = wire_kinds now.wires in
      let r_fits = r_fit now w fit p left within stands c works in
      let wide = standing.wide t start state parts now p left within stands in
      let kinds = stage_types.wide_kinds t start state parts terms now p left within stands in
      let low_fit : Fit t wide (w ++ c.required) = subst (λ (ks : List Kind). IsTrue (row_fits t ks (w ++ c.required))) (sym kinds) (fits_together t ins (Part p).required w c.required fit r_fits) in
      let high_fit : Fit t wide z = subst (λ (ks : List Kind). IsTrue (row_fits t ks z)) (sym kinds) (subst (λ (r : Row). IsTrue (row_fits t (ins ++ (Part p).required) r)) (sym joined) (fits_together t ins (Part p).required kept c.required kept_fit r_fits)) in
      let less : IsTrue (row_leq t (wire_kinds wide) (w ++ c.required) z) = subst (λ (ks : List Kind). IsTrue (row_leq t ks (w ++ c.required) z)) (sym kinds)
      (subst (λ (r : Row). IsTrue (row_leq t (ins ++ (Part p).required) (w ++ c.required) r)) (sym joined)
      (leq_together t ins (Part p).required w c.required kept c.required more ((row_laws t (Part p).required).reflexive c.required r_fits))) in
      (term_monotone t n (carry start state now p (Part p)) (wire_kinds wide) (wire_kinds (after start state now p (Part p)).wires) (stage_types.carry_typed t start state parts terms now p left within stands)).falling
      (w ++ c.required) z u low_fit high_fit less rel

  pub runs_from : (now : Standing) (left : List ℕ) → Each (λ p. p < length parts) left → IsStanding t start state parts now left → (w y : Row) → Fit t now.wires w → (carried : List Carried)
      → AreCarried now left w y carried → Through (Relates t n) (stages start state parts now left) w y
  runs_from now [] within stands w y fit [] h = (y, last_from now w fit stands y h, refl)
  runs_from now [] within stands w y fit (c ∷ carried) h = absurd h.works
  runs_from now (p ∷ left) within stands w y fit [] h = absurd h.works
  runs_from now (p ∷ left) within stands w y fit (c ∷ carried) h =
      let works = h.works.0 in
      let row = row_then now w fit p left within.0 stands c works in (
        w ++ c.required,
        part_from now w fit p left within.0 stands c works carried y h.met,
        (
          row.0,
          carry_from now w fit p left within.0 stands c works,
          runs_from (after start state now p (part_at t start state parts p)) left within.1 (standing.still_standing t start state parts now p left within.0 stands) row.0 y row.2 carried
              (record { works = h.works.1; fits = h.fits; met = met_then now w fit p left within.0 stands c works carried y h.met }),
        ),
      )

  pub some_stages : (now : Standing) (left : List ℕ) → 0 < length (stages start state parts now left)
  some_stages now [] = omega arith
  some_stages now (p ∷ left) = omega arith

  pub runs_to : (now : Standing) (left : List ℕ) → Each (λ p. p < length parts) left → IsStanding t start state parts now left → (w y : Row) → Fit t now.wires w
      → Through (Relates t n) (stages start state parts now left) w y → (carried : List Carried) × AreCarried now left w y carried
  runs_to now [] within stands w y fit h = ([], subst (λ (x : Row). AreCarried now [] w x []) h.2 (last_to now w fit stands h.0 h.1))
  runs_to now (p ∷ left) within stands w y fit h =
      let sides = rw Relates-Par at h.1 in
      let kept = all_kept t (wire_kinds now.wires) w sides.left fit (rw Relates-Prim at sides.first) in
      let keeps = rw Relates-Prim at sides.first in
      let inner = rw Relates-Series at sides.second in
      let above = rw Relates-Prim at inner.1 in
      let relates = rw Relates-Sub at inner.2 in
      let c : Carried = record { provided = inner.0; required = sides.right } in
      let works : Works t n (part_at t start state parts p) c = record { fit = above.fits; relates = relates } in
      let then = after start state now p (part_at t start state parts p) in
      let stands_then = standing.still_standing t start state parts now p left within.0 stands in
      let row = row_then now w fit p left within.0 stands c works in
      let lowered = lower_wires now w fit p left within.0 stands c works h.0 sides.left sides.joined keeps.fits kept h.2.0 h.2.1 in
      let least = least_then now w fit p left within.0 stands c works h.2.0 lowered in
      let rest = runs_to then left within.1 stands_then row.0 y row.2
      (through_falls t n (stages start state parts then left) (wire_kinds then.wires) state row.0 h.2.0 y (some_stages then left) (stages_typed t start state parts terms then left within.1 stands_then) row.2 least.1 least.0 h.2.2) in (
        c ∷ rest.0,
        record {
          works = (works, rest.1.works);
          fits = rest.1.fits;
          met = met_from now w fit p left within.0 stands c works rest.0 y above.each rest.1.met;
        },
      )
