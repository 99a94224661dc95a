-- The values of signals, gathered from what parts carry.
use Rattle.std.specs.Prelude.{◌≡◌, ℕ, Bool, true, false, cond, ◌&&◌, ◌==◌, IsTrue, List, [], ◌∷◌, map, Some}
use Rattle.std.proofs.Common.{refl, sym, ap, subst, ◌∙◌, inl, inr}
use Rattle.order_core.specs.Members.{IsMember}
use Rattle.order_core.specs.MemberLaws.{first, second, both}
use Rattle.order_core.specs.Pointwise.{Pointwise}
use Rattle.value_type.specs.declared.kind.Kind.{Kind}
use Rattle.value_type.specs.declared.poset.Types.{Types}
use Rattle.value_type.specs.declared.value.Value.{Value}
use Rattle.value_type.specs.Fits.{fits, row_fits}
use Rattle.value_type.specs.KindOrderLaws.{kind_laws}
use Rattle.value_type.specs.Leq.{leq}
use Rattle.design_model.specs.Cuts.{Signal}
use Rattle.design_model.specs.Rows.{Row}
use Rattle.design_model.specs.Step.{signal_value, IsCovered}
use Rattle.design_model.specs.ValueOf.{port_at}
use Rattle.design_model.specs.Wiring.{Carried, required_rows, kind_at}
use Rattle.model_laws.specs.SignalLaws.{signal, later, same_port, IsInPlace, kind_is}
use Rattle.design_model.specs.ValuesInOrder.{ValuesLeq, FitsAt}

-- The part carries this value at the signal's port.
abbrev pub CarriesAt : List Row → Signal → Value → Type 0
CarriesAt rows s v = port_at rows s.part s.port ≡ Some v

-- What parts carry at the ports of some signals.
pub record Gathered (t : Types) (rows : List Row) (signals : List Signal) : Type 0 where
  pub values : Row
  pub carried : Pointwise (CarriesAt rows) signals values
  pub fit : IsTrue (row_fits t (map (λ s. s.kind) signals) values)

pub gathered : (t : Types) (rows : List Row) (signals : List Signal) → ((s : Signal) → IsMember s signals → FitsAt t s.kind (port_at rows s.part s.port)) → Gathered t rows signals
gathered t rows [] there = record { values = []; carried = tt; fit = refl }
gathered t rows (s ∷ signals) there =
    let here = there s (inl refl) in
    let rest = gathered t rows signals (λ z m. there z (inr m)) in
    record { values = here.value ∷ rest.values; carried = (here.is, rest.carried); fit = both _ _ here.fits_kind rest.fit }

-- Each signal covers itself.
pub covers_itself : (t : Types) (carried : List Carried) (signals : List Signal) (values : Row) → Pointwise (CarriesAt (required_rows carried)) signals values
    → IsTrue (row_fits t (map (λ s. s.kind) signals) values) → Pointwise (IsCovered t carried) signals values
covers_itself t carried [] [] h fit = tt
covers_itself t carried [] (v ∷ values) h fit = absurd h
covers_itself t carried (s ∷ signals) [] h fit = absurd h
covers_itself t carried (s ∷ signals) (v ∷ values) h fit =
    (rw h.0 ((kind_laws t s.kind).reflexive v (first _ _ fit)), covers_itself t carried signals values h.1 (second (fits t s.kind v) _ fit))

-- Of a signal among them, the gathered value is what the part carries.
pub gathered_value : (rows : List Row) (signals : List Signal) (values : Row) (part port : ℕ) (k : Kind) → Pointwise (CarriesAt rows) signals values → IsMember (signal part port k) signals
    → signal_value signals values part port ≡ port_at rows part port
gathered_value rows [] values part port k h m = absurd m
gathered_value rows (s ∷ signals) [] part port k h m = absurd h
gathered_value rows (s ∷ signals) (v ∷ values) part port k h m =
    go ((s.part == part) && (s.port == port)) refl (gathered_value rows signals values part port k h.1)
  where
    go : (b : Bool) → (s.part == part) && (s.port == port) ≡ b → (IsMember (signal part port k) signals → signal_value signals values part port ≡ port_at rows part port)
        → cond b (Some v) (signal_value signals values part port) ≡ port_at rows part port
    go true e rest = let same = same_port s part port e in sym (sym (ap (λ (i : ℕ). port_at rows i s.port) same.0 ∙ ap (λ (j : ℕ). port_at rows part j) same.1) ∙ h.0)
    go false e rest = rest (later s signals part port k m e)

-- Of a covered signal among them, what the part carries is at most the signal's value.
pub covered_value : (t : Types) (required : List (List Kind)) (carried : List Carried) (signals : List Signal) (values : Row) (part port : ℕ) (k : Kind) → ((s : Signal) → IsMember s signals → IsInPlace required s)
    → Pointwise (IsCovered t carried) signals values → IsTrue (row_fits t (map (λ s. s.kind) signals) values) → kind_at required part port ≡ Some k → FitsAt t k (port_at (required_rows carried) part port)
    → IsMember (signal part port k) signals → ValuesLeq t k (port_at (required_rows carried) part port) (signal_value signals values part port)
covered_value t required carried [] values part port k place h fit e at m = absurd m
covered_value t required carried (s ∷ signals) [] part port k place h fit e at m = absurd h
covered_value t required carried (s ∷ signals) (v ∷ values) part port k place h fit e at m =
    go ((s.part == part) && (s.port == port)) refl (covered_value t required carried signals values part port k (λ z n. place z (inr n)) h.1 (second (fits t s.kind v) _ fit) e at)
  where
    go : (b : Bool) → (s.part == part) && (s.port == port) ≡ b
        → (IsMember (signal part port k) signals → ValuesLeq t k (port_at (required_rows carried) part port) (signal_value signals values part port))
        → ValuesLeq t k (port_at (required_rows carried) part port) (cond b (Some v) (signal_value signals values part port))
    go true q rest =
        let same = same_port s part port q in
        let kinds = kind_is t required s part port k (place s (inl refl)) e q in
        let here : port_at (required_rows carried) s.part s.port ≡ Some at.value =
        ap (λ (i : ℕ). port_at (required_rows carried) i s.port) same.0 ∙ (ap (λ (j : ℕ). port_at (required_rows carried) part j) same.1 ∙ at.is) in
        let below : IsTrue (leq t s.kind at.value v) = rw here at h.0 in
        record {
          low = at.value;
          high = v;
          low_is = at.is;
          high_is = refl;
          low_fits = at.fits_kind;
          high_fits = subst (λ (z : Kind). IsTrue (fits t z v)) kinds (first _ _ fit);
          ordered = subst (λ (z : Kind). IsTrue (leq t z at.value v)) kinds below;
        }
    go false q rest = rest (later s signals part port k m q)
