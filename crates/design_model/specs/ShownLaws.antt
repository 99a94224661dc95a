-- What is met through, and what shows a minimum of, each kind of design.
use Rattle.std.specs.Prelude.{◌≡◌, ℕ, IsSomeAnd, List, [], ◌∷◌, map, slice_get}
use Rattle.std.proofs.Common.{refl, sym, ap, ◌∙◌, map-id}
use Rattle.order_core.specs.PointwiseLaws.{at-map}
use Rattle.value_type.specs.declared.port.Port.{Port}
use Rattle.value_type.specs.declared.poset.Types.{Types}
use Rattle.design_model.specs.declared.design.CatRow.{CatRow}
use Rattle.design_model.specs.declared.design.Design.{Design, out-Design, roll-out-Design, rec-Design, rec-roll-Design, map-Design}
use Rattle.design_model.specs.declared.design.Design.TheOpen.{Design-F}
use Rattle.design_model.specs.declared.design.Design.TheVariants.{Cat, Choice, Net, outs-Cat, outs-Choice, outs-Net}
use Rattle.design_model.specs.declared.design.Part.{Part, out-Part, rec-Part, rec-roll-Part}
use Rattle.design_model.specs.declared.expr.Constraint.{Constraint}
use Rattle.design_model.specs.Met.{IsMet, AsksPart}
use Rattle.design_model.specs.Rounds.{IsMinimumIn}
use Rattle.design_model.specs.Rows.{Row}
use Rattle.design_model.specs.Shown.{Shows, ShowsAt, ShowsAtPart, ShownBy, PartShows}
use Rattle.design_model.specs.Steady.{net_of}

abbrev At : Type 1
At = Row → Row → Type 0

module _ (X Y : Type 0) (design : X → Design) (part : Y → Part) (t : Types) (n : ℕ) (shows : Design → At) (shows_part : Part → At) where
  shows_natural : (x : Design-F X Y) → ShowsAt t n X Y design part (λ d. shows (design d)) (λ p. shows_part (part p)) x
      ≡ ShowsAt t n Design Part (λ d. d) (λ p. p) shows shows_part (map-Design X Y Design Part design part x)
  shows_natural (Design-F.Cat provides requires_ rows) = refl
  shows_natural (Design-F.Choice provides requires_ branches) =
      λ i f r. (number : ℕ) × at-map part (λ b. IsMinimumIn t n b.design f r × shows_part b f r) branches number i
  shows_natural (Design-F.Net provides requires_ parts constraints) = λ i f r. (state : Row)
      × ShownBy t n (net_of provides requires_ (sym (map-id (map part parts)) i) constraints) f r (λ k row answer. at-map part (λ p. shows_part p row answer) parts k i) state

shows_of_part : (t : Types) (n : ℕ) (p : Part) → rec-Part At At (ShowsAt t n) ShowsAtPart p ≡ Shows t n p.design
unfolding Shows
shows_of_part t n p = rec-roll-Part At At (ShowsAt t n) ShowsAtPart (λ X Y v v' k k' x. refl) (out-Part p)

Shows-out : (t : Types) (n : ℕ) (d : Design) → Shows t n d ≡ ShowsAt t n Design Part (λ d. d) (λ p. p) (Shows t n) (λ p. Shows t n p.design) (out-Design d)
unfolding Shows
Shows-out t n d =
    ap (rec-Design At At (ShowsAt t n) ShowsAtPart) (sym (roll-out-Design d))
    ∙ rec-roll-Design At At (ShowsAt t n) ShowsAtPart (λ X Y v v' k k' x. shows_natural X Y v v' t n k k' x) (out-Design d)
    ∙ λ i. ShowsAt t n Design Part (λ d. d) (λ p. p) (Shows t n) (λ p. shows_of_part t n p i) (out-Design d)

pub Shows-Cat : (t : Types) (n : ℕ) (provides requires_ : List Port) (rows : List CatRow) (f r : Row) → Shows t n (Cat provides requires_ rows) f r ≡ Unit {0}
Shows-Cat t n provides requires_ rows f r = rw (Shows-out, outs-Cat)

pub Shows-Choice : (t : Types) (n : ℕ) (provides requires_ : List Port) (branches : List Part) (f r : Row)
    → Shows t n (Choice provides requires_ branches) f r
    ≡ ((number : ℕ) × IsSomeAnd (slice_get branches number) (λ b. IsMinimumIn t n b.design f r × Shows t n b.design f r))
Shows-Choice t n provides requires_ branches f r = rw (Shows-out, outs-Choice)

pub Shows-Net : (t : Types) (n : ℕ) (provides requires_ : List Port) (parts : List Part) (constraints : List Constraint) (f r : Row)
    → Shows t n (Net provides requires_ parts constraints) f r
    ≡ ((state : Row) × ShownBy t n (net_of provides requires_ parts constraints) f r (PartShows (λ p. Shows t n p.design) parts) state)
Shows-Net t n provides requires_ parts constraints f r =
    at-Net ∙ (λ i. (state : Row) × ShownBy t n (net_of provides requires_ (map-id parts i) constraints) f r (PartShows (λ p. Shows t n p.design) parts) state)
  where
    at-Net : Shows t n (Net provides requires_ parts constraints) f r
        ≡ ((state : Row) × ShownBy t n (net_of provides requires_ (map (λ p. p) parts) constraints) f r (PartShows (λ p. Shows t n p.design) parts) state)
    at-Net = rw (Shows-out, outs-Net)

pub IsMet-here : (t : Types) (n : ℕ) (design : Design) (f : Row) (inner : Design) (g : Row) → IsMet t n [] design f inner g ≡ ((design ≡ inner) × (f ≡ g))
unfolding IsMet
IsMet-here t n design f inner g = refl

pub IsMet-Cat : (t : Types) (n i : ℕ) (path : List ℕ) (provides requires_ : List Port) (rows : List CatRow) (f : Row) (inner : Design) (g : Row)
    → IsMet t n (i ∷ path) (Cat provides requires_ rows) f inner g ≡ ⊥
unfolding IsMet
IsMet-Cat t n i path provides requires_ rows f inner g = rw outs-Cat

pub IsMet-Choice : (t : Types) (n i : ℕ) (path : List ℕ) (provides requires_ : List Port) (branches : List Part) (f : Row) (inner : Design) (g : Row)
    → IsMet t n (i ∷ path) (Choice provides requires_ branches) f inner g ≡ IsSomeAnd (slice_get branches i) (λ branch. IsMet t n path branch.design f inner g)
unfolding IsMet
IsMet-Choice t n i path provides requires_ branches f inner g = rw outs-Choice

pub IsMet-Net : (t : Types) (n i : ℕ) (path : List ℕ) (provides requires_ : List Port) (parts : List Part) (constraints : List Constraint) (f : Row) (inner : Design) (g : Row)
    → IsMet t n (i ∷ path) (Net provides requires_ parts constraints) f inner g
    ≡ ((row : Row) × AsksPart t n (net_of provides requires_ parts constraints) f i row × IsSomeAnd (slice_get parts i) (λ part. IsMet t n path part.design row inner g))
unfolding IsMet
IsMet-Net t n i path provides requires_ parts constraints f inner g = rw outs-Net
