-- The stages of a net are typed, from what is given to the next state.
use Rattle.std.proofs.Common.{refl, sym, ap, ◌∙◌, arith}
use Rattle.std.proofs.lemmas.Bool.Decides.{nat_tests}
use Rattle.std.proofs.lemmas.List.{map-append}
use Rattle.std.specs.List.{flat_map}
use Rattle.std.specs.Prelude.{◌≡◌, ◌<◌, ◌++◌, ◌||◌, ◌==◌, ℕ, Bool, true, false, cond, List, [], ◌∷◌, length, map, filter, None}
use Rattle.order_core.specs.MemberLaws.{mem-filter, mem-flat_map, member_at}
use Rattle.order_core.specs.Pointwise.{Each}
use Rattle.order_core.specs.PointwiseLaws.{each_got, each_made}
use Rattle.value_type.specs.declared.kind.Kind.{Kind}
use Rattle.value_type.specs.declared.poset.Types.{Types}
use Rattle.design_model.specs.Wiring.{kind_at}
use Rattle.design_model.specs.declared.expr.Constraint.{Constraint}
use Rattle.design_model.specs.declared.expr.Greater.TheVariants as greater
use Rattle.design_model.specs.declared.expr.Greater.{Greater}
use Rattle.design_term.specs.TermTypes.{TargetIsTyped, TermIsTyped}
use Rattle.design_term.specs.TermTypesLaws.{typed-Par, typed-Prim, typed-Series, typed-Sub}
use Rattle.design_term.specs.declared.term.Term.TheVariants as term
use Rattle.compiled_term.specs.Stages.{Compiled, Standing, after, asked_of, asked_of_state, carried_on, carry, keep_all, known_after, nothing, passed_on, stages, through, to_state, widened}
use Rattle.compiled_term.specs.declared.wire.Wire.{Wire}
use Rattle.compiled_term.specs.Wires.{placed, wire_kinds, wires_from}
use Rattle.compiled_term.proofs.JoinLemmas.{Through}
use Rattle.compiled_term.proofs.StandingLemmas as standing
use Rattle.compiled_term.proofs.StandingLemmas.{IsStanding, IsWaiting, is_open, opened, part_at, provided_at, stands_before, target_kind}
use Rattle.compiled_term.proofs.TargetLemmas.{IsCarried, every_place, new_typed, passed_typed, placed_typed, targets_typed}
use Rattle.compiled_term.proofs.WireLemmas.{equal, kinds_from}

pub append_each : {A : Type 0} (P : A → Type 0) (xs ys : List A) → Each P xs → Each P ys → Each P (xs ++ ys)
append_each P [] ys h g = g
append_each P (x ∷ xs) ys h g = (h.0, append_each P xs ys h.1 g)

pub filtered_each : {A : Type 0} (P : A → Type 0) (test : A → Bool) (xs : List A) → Each P xs → Each P (filter test xs)
filtered_each P test xs h = each_made P (filter test xs) (λ x m. each_got P xs x h (mem-filter test xs x m).0)

module _ (t : Types) (start : ℕ) (state : List Kind) (parts : List Compiled) (terms : Each (λ p. TermIsTyped t p.term p.provided p.required) parts) where
  pub term_typed : (p : ℕ) → p < length parts → TermIsTyped t (part_at t start state parts p).term (part_at t start state parts p).provided (part_at t start state parts p).required
  term_typed p within = each_got (λ p. TermIsTyped t p.term p.provided p.required) parts (part_at t start state parts p) terms (member_at parts p nothing within)

  -- What asks the next part reads wires alone.
  pub closed : (p q : ℕ) (left : List ℕ) (port i j : ℕ) → (q == p) ≡ true → opened t start state parts (p ∷ left) (greater.Inner q port) i j ≡ None
  closed p q left port i j same =
      let turned : (p == q) ≡ true = grind (arith, nat_tests) in
      ap (λ b. cond (cond b false ((p == i) || stands_before left q i)) (kind_at (map (λ p. p.required) parts) i j) None) turned

  module _ (now : Standing) where
    abbrev ins : List Kind
    ins = wire_kinds now.wires

    keep_typed : TermIsTyped t (keep_all ins) ins ins
    keep_typed = rw typed-Prim (refl, every_place [] ins)

    state_targets : (c : Constraint) → IsWaiting t start state parts now.wires [] c → (into : Greater) → c.greater ≡ into → Each (TargetIsTyped t ins state) (asked_of_state now.wires into c.lower)
    state_targets c waits (greater.Own j) is = (
      record {
        kind = waits.kind;
        place = ap (target_kind t start state parts) (sym is) ∙ waits.port;
        lower = placed_typed t now.wires (opened t start state parts [] c.greater) (λ i port. ap (λ g. opened t start state parts [] g i port) is) c.lower waits.kind waits.lower;
      },
      tt,
    )
    state_targets c waits (greater.Inner i j) is = tt

    pub state_typed : IsStanding t start state parts now [] → TermIsTyped t (to_state start state now) ins state
    state_typed stands = rw typed-Prim (
      refl,
      each_made (TargetIsTyped t ins state) (flat_map (λ c. asked_of_state now.wires c.greater c.lower) now.waiting) (λ target m.
          let from = mem-flat_map (λ c. asked_of_state now.wires c.greater c.lower) now.waiting target m in
          each_got (TargetIsTyped t ins state) (asked_of_state now.wires from.0.greater from.0.lower) target
          (state_targets from.0 (each_got (IsWaiting t start state parts now.wires []) now.waiting from.0 stands.waiting from.1) from.0.greater refl) from.2),
    )

    module _ (p : ℕ) (left : List ℕ) (within : p < length parts) (stands : IsStanding t start state parts now (p ∷ left)) where
      abbrev part : Compiled
      part = part_at t start state parts p

      part_targets : (c : Constraint) → IsWaiting t start state parts now.wires (p ∷ left) c → (into : Greater) → c.greater ≡ into → Each (TargetIsTyped t ins part.provided) (asked_of p now.wires into c.lower)
      part_targets c waits (greater.Own j) is = tt
      part_targets c waits (greater.Inner q j) is = go (q == p) refl
        where
          go : (b : Bool) → (q == p) ≡ b → Each (TargetIsTyped t ins (part_at t start state parts p).provided) (cond b (record { place = j; lower = placed now.wires c.lower } ∷ []) [])
          go false other = tt
          go true same = (
            record {
              kind = waits.kind;
              place = sym (provided_at t start state parts p j within)
                  ∙ (ap (λ m. kind_at (map (λ c. c.provided) parts) m j) (sym (equal q p same)) ∙ (ap (target_kind t start state parts) (sym is) ∙ waits.port));
              lower = placed_typed t now.wires (opened t start state parts (p ∷ left) c.greater) (λ i port. ap (λ g. opened t start state parts (p ∷ left) g i port) is ∙ closed p q left j i port same) c.lower waits.kind waits.lower;
            },
            tt,
          )

      through_typed : TermIsTyped t (through start state now p part) ins part.required
      through_typed = rw typed-Series (
        part.provided,
        rw typed-Prim (
          refl,
          each_made (TargetIsTyped t ins part.provided) (flat_map (λ c. asked_of p now.wires c.greater c.lower) now.waiting) (λ target m.
              let from = mem-flat_map (λ c. asked_of p now.wires c.greater c.lower) now.waiting target m in
              each_got (TargetIsTyped t ins part.provided) (asked_of p now.wires from.0.greater from.0.lower) target
              (part_targets from.0 (each_got (IsWaiting t start state parts now.wires (p ∷ left)) now.waiting from.0 stands.waiting from.1) from.0.greater refl) from.2),
        ),
        rw typed-Sub (term_typed p within),
      )

      abbrev wide : List Wire
      wide = widened start state now part

      pub wide_kinds : wire_kinds wide ≡ ins ++ part.required
      wide_kinds = map-append (λ (w : Wire). w.kind) now.wires (wires_from now.next part.required) ∙ ap (λ ks. ins ++ ks) (kinds_from now.next part.required)

      pub first_typed : TermIsTyped t (term.Par (keep_all ins) (through start state now p part)) ins (wire_kinds wide)
      first_typed = rw typed-Par (record { left = ins; right = part.required; first = keep_typed; second = through_typed; joined = wide_kinds })

      pub known_typed : Each (IsCarried t (wire_kinds wide)) (known_after start state now p part)
      known_typed = append_each (IsCarried t (wire_kinds wide)) (passed_on 0 wide) _ (passed_typed t [] wide)
          (new_typed t wide (standing.first_new t start state parts now p left within stands) (standing.made t start state parts now p left within stands) (standing.numbers t start state parts now p left within stands))

      pub carry_typed : TermIsTyped t (carry start state now p part) (wire_kinds wide) (wire_kinds (after start state now p part).wires)
      carry_typed = rw typed-Prim (
        refl,
        targets_typed t (wire_kinds wide) [] (carried_on start state now p part)
            (filtered_each (IsCarried t (wire_kinds wide)) (λ c. standing.live t start state parts now p left within stands c.wire.number) (known_after start state now p part) known_typed),
      )

  -- From what stands to the next state, through the parts that are left.
  pub stages_typed : (now : Standing) (left : List ℕ) → Each (λ p. p < length parts) left → IsStanding t start state parts now left → Through (TermIsTyped t) (stages start state parts now left) (wire_kinds now.wires) state
  stages_typed now [] within stands = (state, state_typed now stands, refl)
  stages_typed now (p ∷ left) within stands = (
    wire_kinds (widened start state now (part_at t start state parts p)),
    first_typed now p left within.0 stands,
    (
      wire_kinds (after start state now p (part_at t start state parts p)).wires,
      carry_typed now p left within.0 stands,
      stages_typed (after start state now p (part_at t start state parts p)) left within.1 (standing.still_standing t start state parts now p left within.0 stands),
    ),
  )
