-- What names stand for in a scope.
use Rattle.std.proofs.Common.{◌≡◌, ◌∙◌, refl, sym, ap, ℕ, Bool, true, false, cond, List, [], ◌∷◌, map}
use Rattle.std.specs.Prelude.{Option, Some, None, is_some, option_map}
use Rattle.std.specs.Str.{bytes_eq}
use Rattle.name_index.specs.PlaceLaws.{named_item_next}
use Rattle.name_index.specs.Places.{named_item}
use Rattle.reference_check.specs.Fronts.{front_held, sides_outlined, wanted_held}
use Rattle.reference_check.specs.declared.front.Front as held
use Rattle.reference_check.specs.declared.front.Wanted.{Wanted}
use Rattle.reference_rules.specs.ReferenceFaults.{Front, param_named, ports_by, ports_in}
use Rattle.reference_rules.specs.ReferenceFaults.{Wanted as Meant}
use Rattle.side_ports.specs.Held.{sides_held}
use Rattle.side_ports.specs.declared.ports.SidePorts.{SidePorts}

-- The parameter of a name, as it is held.
pub param_held : (wanted : List Wanted) (name : List ℕ) → param_named (map wanted_held wanted) name ≡ option_map wanted_held (named_item (λ w. w.name) wanted name)
param_held [] name = refl
param_held (w ∷ ws) name = go (bytes_eq name w.name) (param_held ws name) ∙ sym (ap (option_map wanted_held) (named_item_next (λ (x : Wanted). x.name) w ws name))
  where
    go : (t : Bool) → param_named (map wanted_held ws) name ≡ option_map wanted_held (named_item (λ w. w.name) ws name)
        → cond t (Some (wanted_held w)) (param_named (map wanted_held ws) name) ≡ option_map wanted_held (cond t (Some w) (named_item (λ w. w.name) ws name))
    go true rest = refl
    go false rest = rest

module _ (front : List ℕ → Option Front) (wanted : List Wanted) (name : List ℕ) where
  pub is_param : (w : Wanted) → Some w ≡ named_item (λ w. w.name) wanted name → param_named (map wanted_held wanted) name ≡ Some (wanted_held w)
  is_param w e = param_held wanted name ∙ sym (ap (option_map wanted_held) e)

  pub no_param : None ≡ named_item (λ w. w.name) wanted name → param_named (map wanted_held wanted) name ≡ None
  no_param e = param_held wanted name ∙ sym (ap (option_map wanted_held) e)

  pub ports_param : (w : Wanted) (ports : SidePorts) → Some w ≡ named_item (λ w. w.name) wanted name → ports ≡ w.ports → sides_outlined (sides_held ports) ≡ ports_by front (param_named (map wanted_held wanted) name) name
  ports_param w ports e is = ap (λ p. sides_outlined (sides_held p)) is ∙ sym (ap (λ o. ports_by front o name) (is_param w e))

  pub ports_file : (f : held.Front) (ports : SidePorts) → None ≡ named_item (λ w. w.name) wanted name → Some (front_held f) ≡ front name → ports ≡ f.ports → sides_outlined (sides_held ports) ≡ ports_by front (param_named (map wanted_held wanted) name) name
  ports_file f ports e there is = ap (λ p. sides_outlined (sides_held p)) is ∙ ap ports_in there ∙ sym (ap (λ o. ports_by front o name) (no_param e))

  pub ports_none : None ≡ named_item (λ w. w.name) wanted name → None ≡ front name → record { provides = []; requires_ = [] } ≡ ports_by front (param_named (map wanted_held wanted) name) name
  ports_none e none = ap ports_in none ∙ sym (ap (λ o. ports_by front o name) (no_param e))

-- Whether a name is a parameter's.
pub param_there : (wanted : List Wanted) (name : List ℕ) (o : Option Wanted) → o ≡ named_item (λ w. w.name) wanted name → is_some o ≡ true → (w : Meant) × (param_named (map wanted_held wanted) name ≡ Some w)
param_there wanted name (Some w) e there = (wanted_held w, param_held wanted name ∙ sym (ap (option_map wanted_held) e))
param_there wanted name None e there = absurd (cc)

pub param_absent : (wanted : List Wanted) (name : List ℕ) (o : Option Wanted) → o ≡ named_item (λ w. w.name) wanted name → is_some o ≡ false → param_named (map wanted_held wanted) name ≡ None
param_absent wanted name (Some w) e none = absurd (cc)
param_absent wanted name None e none = param_held wanted name ∙ sym (ap (option_map wanted_held) e)
