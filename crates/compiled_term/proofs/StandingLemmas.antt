-- What stands between the parts of a net is typed, and stays so from part to part.
use Rattle.std.proofs.Common.{refl, sym, ap, subst, ◌∙◌, arith, inl, inr}
use Rattle.std.proofs.lemmas.Bool.Decides.{nat_tests}
use Rattle.std.proofs.lemmas.Bool.{or_right}
use Rattle.std.proofs.lemmas.List.{length-map, map-append}
use Rattle.std.specs.List.{list_any}
use Rattle.std.specs.Prelude.{◌≡◌, ◌+◌, ◌<◌, ◌++◌, ◌||◌, ◌==◌, ℕ, zero, suc, Bool, true, false, not, cond, nat_le, IsTrue, List, [], ◌∷◌, length, map, filter, get_or, Option, Some, None, slice_get}
use Rattle.order_core.specs.MemberLaws.{any_intro, mem-filter}
use Rattle.order_core.specs.Members.{IsMember}
use Rattle.order_core.specs.Pointwise.{Each, Pointwise}
use Rattle.order_core.specs.PointwiseLaws.{each_got, each_made}
use Rattle.value_type.specs.declared.kind.Kind.{Kind}
use Rattle.value_type.specs.declared.poset.Types.{Types}
use Rattle.design_model.specs.Evaluation.{is_into}
use Rattle.design_model.specs.ExprKinds.{PortTypes, is_of_kind}
use Rattle.design_model.specs.ValueOf.{Reads}
use Rattle.design_model.specs.Wiring.{kind_at}
use Rattle.design_model.specs.declared.expr.Constraint.{Constraint}
use Rattle.design_model.specs.declared.expr.Expr.{Expr}
use Rattle.design_model.specs.declared.expr.Greater.TheVariants as greater
use Rattle.design_model.specs.declared.expr.Greater.{Greater}
use Rattle.expr_residual.specs.Moved.{reads_wire}
use Rattle.expr_residual.specs.MovedLaws.{read_same, typed_more}
use Rattle.expr_residual.specs.Plain.{plain}
use Rattle.expr_residual.specs.ResidualTypeLaws as types
use Rattle.expr_residual.specs.declared.frame.Frame.{Frame}
use Rattle.compiled_term.specs.Stages.{Compiled, Standing, after, frame_at, is_live, known_after, new_wires, not_into, nothing, passed_on, read_at, widened}
use Rattle.compiled_term.specs.declared.wire.Wire.{Wire}
use Rattle.compiled_term.specs.declared.wire.WireValue.{WireValue}
use Rattle.compiled_term.specs.Wires.{wires_from}
use Rattle.compiled_term.proofs.CarriedLemmas.{kept_kind, made_wires, passed_wires, wires_of}
use Rattle.compiled_term.proofs.ReadLemmas as reading
use Rattle.compiled_term.proofs.WireLemmas.{AreBelow, appended_kind, below_more, below_together, equal, from_below, kind_from, none_below, passed_kind, wire_kind}

-- Of the parts that are left, one stands before the other.
abbrev pub stands_before : List ℕ → ℕ → ℕ → Bool
stands_before [] p i = false
stands_before (q ∷ left) p i = cond (q == p) false ((q == i) || stands_before left p i)

-- A constraint that waits may read the ports of this part: of a part that is left, and stands before the one that it asks.
abbrev pub is_open : List ℕ → Greater → ℕ → Bool
is_open left (greater.Own j) i = list_any (λ q. q == i) left
is_open left (greater.Inner p j) i = stands_before left p i

-- What it asks is the next state, or a part that is left.
abbrev pub is_left : List ℕ → Greater → Bool
is_left left (greater.Own j) = true
is_left left (greater.Inner p j) = list_any (λ q. q == p) left

flipped : (m n : ℕ) → (m == n) ≡ false → (n == m) ≡ false
flipped m n e = grind (arith, nat_tests)

pub opened_is : (b : Bool) (o : Option Kind) (k : Kind) → cond b o None ≡ Some k → o ≡ Some k
opened_is true o k e = e
opened_is false o k e = absurd (cc)

below_kept : (n : ℕ) (test : WireValue → Bool) (carried : List WireValue) → AreBelow n (wires_of carried) → AreBelow n (wires_of (filter test carried))
below_kept n test [] below = tt
below_kept n test (c ∷ carried) below = go (below_kept n test carried below.1) (test c)
  where
    go : AreBelow n (wires_of (filter test carried)) → (b : Bool) → AreBelow n (wires_of (cond b (c ∷ filter test carried) (filter test carried)))
    go rest true = (below.0, rest)
    go rest false = rest

plain_at : (made : List Expr) (i : ℕ) → i < length made → slice_get (map (λ e. plain) made) i ≡ Some plain
plain_at [] i l = absurd (omega (arith, l))
plain_at (e ∷ made) zero l = refl
plain_at (e ∷ made) (suc i) l = plain_at made i (omega (arith, l))

module _ (t : Types) (start : ℕ) (state : List Kind) (parts : List Compiled) where
  abbrev pub part_at : ℕ → Compiled
  part_at p = get_or parts p nothing

  abbrev pub opened : List ℕ → Greater → ℕ → ℕ → Option Kind
  opened left into i j = cond (is_open left into i) (kind_at (map (λ p. p.required) parts) i j) None

  abbrev pub target_kind : Greater → Option Kind
  target_kind (greater.Own j) = slice_get state j
  target_kind (greater.Inner i j) = kind_at (map (λ p. p.provided) parts) i j

  -- The constraint waits: what it asks is there and left, and what it reads are wires and ports of parts that come before that.
  pub record IsWaiting (wires : List Wire) (left : List ℕ) (c : Constraint) : Type 0 where
    pub kind : Kind
    pub port : target_kind c.greater ≡ Some kind
    pub lower : IsTrue (is_of_kind t (record { own = wire_kind wires; inner = opened left c.greater }) c.lower kind)
    pub there : IsTrue (is_left left c.greater)

  pub record IsStanding (now : Standing) (left : List ℕ) : Type 0 where
    pub below : AreBelow now.next now.wires
    pub waiting : Each (IsWaiting now.wires left) now.waiting

  pub required_at : (p j : ℕ) → p < length parts → kind_at (map (λ c. c.required) parts) p j ≡ slice_get (part_at p).required j
  required_at p j l = go parts p l
    where
      go : (cs : List Compiled) (i : ℕ) → i < length cs → kind_at (map (λ c. c.required) cs) i j ≡ slice_get (get_or cs i nothing).required j
      go [] i l = absurd (omega (arith, l))
      go (c ∷ cs) zero l = refl
      go (c ∷ cs) (suc i) l = go cs i (omega (arith, l))

  pub provided_at : (p j : ℕ) → p < length parts → kind_at (map (λ c. c.provided) parts) p j ≡ slice_get (part_at p).provided j
  provided_at p j l = go parts p l
    where
      go : (cs : List Compiled) (i : ℕ) → i < length cs → kind_at (map (λ c. c.provided) cs) i j ≡ slice_get (get_or cs i nothing).provided j
      go [] i l = absurd (omega (arith, l))
      go (c ∷ cs) zero l = refl
      go (c ∷ cs) (suc i) l = go cs i (omega (arith, l))

  -- A part is worked out.
  module _ (now : Standing) (p : ℕ) (left : List ℕ) (within : p < length parts) (stands : IsStanding now (p ∷ left)) where
    abbrev pub part : Compiled
    part = part_at p

    abbrev pub frame : Frame
    frame = frame_at start state now p part

    abbrev pub wide : List Wire
    wide = widened start state now part

    abbrev pub first_new : ℕ
    first_new = now.next + length part.required

    abbrev pub made : List Expr
    made = (read_at start state now p part).made

    abbrev pub all_known : List WireValue
    all_known = known_after start state now p part

    abbrev pub own_after : ℕ → Option Kind
    own_after = wire_kind (wires_of all_known)

    pub all_wires : wires_of all_known ≡ wide ++ wires_from first_new (map (λ e. plain) made)
    all_wires =
        map-append (λ (c : WireValue). c.wire) (passed_on 0 wide) (new_wires wide first_new made)
        ∙ (λ i. passed_wires 0 wide i ++ made_wires wide first_new made i)

    pub wide_below : AreBelow first_new wide
    wide_below = below_together first_new now.wires (wires_from now.next part.required)
        (below_more now.next first_new now.wires (omega arith) stands.below) (from_below now.next first_new part.required (omega arith))

    pub more : (j : ℕ) (k : Kind) → wire_kind wide j ≡ Some k → own_after j ≡ Some k
    more j k e = ap (λ ws. wire_kind ws j) all_wires ∙ appended_kind wide (wires_from first_new (map (λ e. plain) made)) j k e

    pub port_kind : (j : ℕ) → wire_kind wide (now.next + j) ≡ slice_get part.required j
    port_kind j = passed_kind now.wires (wires_from now.next part.required) (now.next + j) (none_below now.wires now.next (now.next + j) stands.below (omega arith)) ∙ kind_from now.next part.required j

    pub has_wires : (i : ℕ) → i < length made → own_after (first_new + i) ≡ Some plain
    has_wires i l =
        ap (λ ws. wire_kind ws (first_new + i)) all_wires
        ∙ (passed_kind wide (wires_from first_new (map (λ e. plain) made)) (first_new + i) (none_below wide first_new (first_new + i) wide_below (omega arith))
        ∙ (kind_from first_new (map (λ e. plain) made) i ∙ plain_at made i l))

    abbrev pub before : Greater → PortTypes
    before = reading.before t frame (wire_kind wide) own_after more (opened left)

    -- A constraint on another part or on the next state reads what is known at the part, or what is open after it.
    still_open : (into : Greater) (i : ℕ) → is_into p into ≡ false → (i == p) ≡ false → is_open (p ∷ left) into i ≡ is_open left into i
    still_open (greater.Own j) i out other = rw (flipped i p other) refl
    still_open (greater.Inner q j) i out other = rw (flipped q p out, flipped i p other) refl

    still_left : (into : Greater) → is_into p into ≡ false → IsTrue (is_left (p ∷ left) into) → IsTrue (is_left left into)
    still_left (greater.Own j) out h = refl
    still_left (greater.Inner q j) out h = rw (flipped q p out) at h

    seen_before : (into : Greater) → is_into p into ≡ false → (i j : ℕ) (k : Kind) → opened (p ∷ left) into i j ≡ Some k → (before into).inner i j ≡ Some k
    seen_before into out i j k e = go (i == p) refl
      where
        go : (b : Bool) → (i == p) ≡ b → types.kind_by t frame (reading.known t frame (wire_kind wide) own_after more (opened left)) (reading.after t frame (wire_kind wide) own_after more (opened left) into) more (reading.alone t frame (wire_kind wide) own_after more (opened left)) (cond b (Some (frame.from + j)) None) (opened left into i j) ≡ Some k
        go true same =
            port_kind j ∙ (sym (required_at p j within)
            ∙ (ap (λ m. kind_at (map (λ c. c.required) parts) m j) (sym (equal i p same)) ∙ opened_is (is_open (p ∷ left) into i) (kind_at (map (λ c. c.required) parts) i j) k e))
        go false other = ap (λ b. cond b (kind_at (map (λ c. c.required) parts) i j) None) (sym (still_open into i out other)) ∙ e

    pub typed_before : (c : Constraint) (out : is_into p c.greater ≡ false) (waits : IsWaiting now.wires (p ∷ left) c) → IsTrue (is_of_kind t (before c.greater) c.lower waits.kind)
    typed_before c out waits =
        typed_more t (record { own = wire_kind now.wires; inner = opened (p ∷ left) c.greater }) (before c.greater) (λ j k e. appended_kind now.wires (wires_from now.next part.required) j k e)
        (seen_before c.greater out) c.lower waits.kind waits.lower

    -- The constraints on other parts and on the next state.
    abbrev pub others : List Constraint
    others = not_into p now.waiting

    pub other_is : (c : Constraint) → IsMember c others → (is_into p c.greater ≡ false) × IsWaiting now.wires (p ∷ left) c
    other_is c m =
        let kept = mem-filter (λ (c : Constraint). not (is_into p c.greater)) now.waiting c m in
        (not_so (is_into p c.greater) kept.1, each_got (IsWaiting now.wires (p ∷ left)) now.waiting c stands.waiting kept.0)
      where
        not_so : (b : Bool) → IsTrue (not b) → b ≡ false
        not_so true h = absurd (cc)
        not_so false h = refl

    pub others_typed : Each (reading.IsTypedBefore t frame (wire_kind wide) own_after more (opened left)) others
    others_typed = each_made (reading.IsTypedBefore t frame (wire_kind wide) own_after more (opened left)) others (λ c m. let is = other_is c m in (is.1.kind, typed_before c is.0 is.1))

    -- What the new wires carry are plain numbers, made of what is known at the part.
    pub numbers : Each (λ e. IsTrue (is_of_kind t (record { own = wire_kind wide; inner = λ i j. None }) e plain)) made
    numbers = reading.all_numbers t frame (wire_kind wide) own_after more (opened left) others [] others_typed has_wires tt

    pub read_on_is : Pointwise (reading.IsReadOn t frame (wire_kind wide) own_after more (opened left)) others (read_at start state now p part).waiting
    read_on_is = reading.all_typed t frame (wire_kind wide) own_after more (opened left) others [] has_wires

    abbrev pub then : Standing
    then = after start state now p part

    abbrev pub live : ℕ → Bool
    live = is_live start then.waiting

    pub read_is_live : (c : Constraint) (j : ℕ) → IsMember c then.waiting → IsTrue (reads_wire c.lower j) → IsTrue (live j)
    read_is_live c j m reads = or_right (not (nat_le start j)) _ (any_intro (λ (c : Constraint). reads_wire c.lower j) then.waiting c m reads)

    pub then_kind : (j : ℕ) → IsTrue (live j) → wire_kind then.wires j ≡ own_after j
    then_kind j is = kept_kind live all_known j is

    waits_on : (c later : Constraint) → IsMember later then.waiting → (is_into p c.greater ≡ false) × IsWaiting now.wires (p ∷ left) c
        → reading.IsReadOn t frame (wire_kind wide) own_after more (opened left) c later → IsWaiting then.wires left later
    waits_on c later m is on =
        let nothing_read : Reads = record { own = λ j. None; inner = λ i j. None } in
        let typed = on.typed is.1.kind (typed_before c is.0 is.1) in
        record {
          kind = is.1.kind;
          port = ap target_kind on.greater ∙ is.1.port;
          lower = (read_same t (record { own = own_after; inner = opened left c.greater }) (record { own = wire_kind then.wires; inner = opened left later.greater }) nothing_read nothing_read later.lower
              (λ j reads k e. (then_kind j (read_is_live later j m reads) ∙ e, refl)) (λ i j reads k e. (ap (λ g. opened left g i j) on.greater ∙ e, refl)) is.1.kind typed).0;
          there = subst (λ (g : Greater). IsTrue (is_left left g)) (sym on.greater) (still_left c.greater is.0 is.1.there);
        }

    each_waits : (cs laters : List Constraint) → ((later : Constraint) → IsMember later laters → IsMember later then.waiting) → ((c : Constraint) → IsMember c cs → (is_into p c.greater ≡ false) × IsWaiting now.wires (p ∷ left) c)
        → Pointwise (reading.IsReadOn t frame (wire_kind wide) own_after more (opened left)) cs laters → Each (IsWaiting then.wires left) laters
    each_waits [] [] among is on = tt
    each_waits [] (later ∷ laters) among is on = absurd on
    each_waits (c ∷ cs) [] among is on = absurd on
    each_waits (c ∷ cs) (later ∷ laters) among is on = (
      waits_on c later (among later (inl refl)) (is c (inl refl)) on.0,
      each_waits cs laters (λ x m. among x (inr m)) (λ x m. is x (inr m)) on.1,
    )

    many_plain : length (map (λ (e : Expr). plain) made) ≡ length made
    many_plain = length-map made (λ e. plain)

    all_below : AreBelow then.next (wires_of all_known)
    all_below =
        subst (AreBelow then.next) (sym all_wires)
        (below_together then.next wide (wires_from first_new (map (λ e. plain) made)) (below_more first_new then.next wide (omega arith) wide_below)
        (from_below first_new then.next (map (λ e. plain) made) (let many = many_plain in omega (arith, many))))

    -- What stands after the part is typed for the parts that are left.
    pub still_standing : IsStanding then left
    still_standing = record {
      below = below_kept then.next (λ c. live c.wire.number) all_known all_below;
      waiting = each_waits others then.waiting (λ later m. m) other_is read_on_is;
    }
