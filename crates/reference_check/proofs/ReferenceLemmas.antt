-- The faults of a reference, by what its name stands for.
use Rattle.std.proofs.Common.{◌≡◌, ◌∙◌, ◌<◌, ◌+◌, refl, sym, ap, append_assoc, drop, get_or, length, ℕ, Bool, List, [], ◌∷◌, ◌++◌, map}
use Rattle.std.specs.List.{flat_map}
use Rattle.std.specs.Prelude.{Option, Some, None, not}
use Rattle.design_lexer.specs.declared.tree.ArgTree.{ArgTree, out-ArgTree}
use Rattle.design_lexer.specs.declared.tree.NameAt.{NameAt}
use Rattle.design_lexer.specs.declared.tree.RefTree.{RefTree, out-RefTree}
use Rattle.fault_list.specs.Faults.{fault_if, first_fault}
use Rattle.fault_list.specs.declared.fault.Fault.{Fault}
use Rattle.fault_list.specs.declared.fault.FaultKind.TheVariants.{PortsDiffer, Unknown}
use Rattle.fault_list.specs.RestLaws.{rest_next}
use Rattle.name_index.specs.Places.{named_item}
use Rattle.reference_check.proofs.ScopeLemmas.{is_param, no_param}
use Rattle.reference_check.specs.Fronts.{sides_outlined, wanted_held}
use Rattle.reference_check.specs.declared.front.Wanted as held_wanted
use Rattle.reference_meaning.specs.Sources.{argument_of, arguments_of, name_of}
use Rattle.reference_rules.specs.ReferenceFaults.{Front, Referred, Wanted, argument_faults, given_faults, missing, param_named, ports_by, referred, unknown, unmatched, unplaced, wanted_by, wanted_in}
use Rattle.reference_rules.specs.ReferenceLaws.{argued, ports_known, referred-out}
use Rattle.reference_rules.specs.Outlines.{same_outlines}
use Rattle.side_ports.specs.Held.{sides_held}

-- The names of arguments, found to be what they are.
names_argued : (front : List ℕ → Option Front) (params : List Wanted) (arguments : List ArgTree) → map (λ a. a.name) (map (argued front params) arguments) ≡ map (λ a. (out-ArgTree a).name) arguments
names_argued front params [] = refl
names_argued front params (a ∷ arguments) = ap (λ (names : List NameAt). (out-ArgTree a).name ∷ names) (names_argued front params arguments)

module _ (front : List ℕ → Option Front) (params : List Wanted) (q : RefTree) where
  abbrev names : List NameAt
  names = map (λ a. (out-ArgTree a).name) (arguments_of q)

  abbrev by : Option Wanted → List Fault
  by o = unplaced front o (out-RefTree q).name ++ given_faults (wanted_by front o (name_of q)) names (out-RefTree q).name.at ++ flat_map (argument_faults (wanted_by front o (name_of q))) (map (argued front params) (arguments_of q))

  faults_by : (o : Option Wanted) → param_named params (name_of q) ≡ o → (referred front params q).faults ≡ by o
  faults_by o e = ap (λ (r : Referred). r.faults) (referred-out front params q)
      ∙ (λ i. unplaced front (e i) (out-RefTree q).name ++ given_faults (wanted_by front (e i) (name_of q)) (names_argued front params (arguments_of q) i) (out-RefTree q).name.at ++ flat_map (argument_faults (wanted_by front (e i) (name_of q))) (map (argued front params) (arguments_of q)))

  no_missing : (names : List NameAt) (at : ℕ) → missing [] names at ≡ []
  no_missing names at = refl

  -- A parameter takes no arguments.
  pub param_none : (w : Wanted) → param_named params (name_of q) ≡ Some w → flat_map (unknown []) names ≡ [] → (referred front params q).faults ≡ []
  param_none w e none = faults_by (Some w) e ∙ go (arguments_of q) none
    where
      go : (arguments : List ArgTree) → flat_map (unknown []) (map (λ a. (out-ArgTree a).name) arguments) ≡ []
          → [] ++ given_faults [] (map (λ a. (out-ArgTree a).name) arguments) (out-RefTree q).name.at ++ flat_map (argument_faults []) (map (argued front params) arguments) ≡ []
      go [] none = refl
      go (a ∷ arguments) none = absurd (cc)

  pub param_first : (w : Wanted) (fault : Fault) → param_named params (name_of q) ≡ Some w → first_fault (flat_map (unknown []) names) ≡ Some fault → first_fault (referred front params q).faults ≡ Some fault
  param_first w fault e first = ap first_fault (faults_by (Some w) e) ∙ go (arguments_of q) first
    where
      go : (arguments : List ArgTree) → first_fault (flat_map (unknown []) (map (λ a. (out-ArgTree a).name) arguments)) ≡ Some fault
          → first_fault ([] ++ given_faults [] (map (λ a. (out-ArgTree a).name) arguments) (out-RefTree q).name.at ++ flat_map (argument_faults []) (map (argued front params) arguments)) ≡ Some fault
      go [] first = absurd (cc)
      go (a ∷ arguments) first = first

  -- A name that leads nowhere.
  pub nowhere : param_named params (name_of q) ≡ None → front (name_of q) ≡ None → first_fault (referred front params q).faults ≡ Some (record { kind = Unknown; at = (out-RefTree q).name.at })
  nowhere e none = ap first_fault (faults_by None e) ∙ go (front (name_of q)) none
    where
      go : (o : Option Front) → o ≡ None → first_fault (unplaced (λ n. o) None (out-RefTree q).name ++ given_faults (wanted_in (front (name_of q))) names (out-RefTree q).name.at ++ flat_map (argument_faults (wanted_in (front (name_of q)))) (map (argued front params) (arguments_of q)))
          ≡ Some (record { kind = Unknown; at = (out-RefTree q).name.at })
      go (Some f) e = absurd (cc)
      go None e = refl

  -- The name of a design or template: what is wrong with the names of the arguments, and then with the arguments.
  pub placed : (f : Front) → param_named params (name_of q) ≡ None → front (name_of q) ≡ Some f → (referred front params q).faults ≡ given_faults f.wanted names (out-RefTree q).name.at ++ flat_map (argument_faults f.wanted) (map (argued front params) (arguments_of q))
  placed f e is = faults_by None e ∙ go (front (name_of q)) is
    where
      go : (o : Option Front) → o ≡ Some f → unplaced (λ n. o) None (out-RefTree q).name ++ given_faults (wanted_in o) names (out-RefTree q).name.at ++ flat_map (argument_faults (wanted_in o)) (map (argued front params) (arguments_of q))
          ≡ given_faults f.wanted names (out-RefTree q).name.at ++ flat_map (argument_faults f.wanted) (map (argued front params) (arguments_of q))
      go (Some g) e = let same : g ≡ f = cc in ap (λ (h : Front). given_faults h.wanted names (out-RefTree q).name.at ++ flat_map (argument_faults h.wanted) (map (argued front params) (arguments_of q))) same
      go None e = absurd (cc)

-- ---- arguments

module _ (front : List ℕ → Option Front) (params : List Wanted) (held : List held_wanted.Wanted) where
  abbrev pub faults_of : ArgTree → List Fault
  faults_of a = argument_faults (map wanted_held held) (argued front params a)

  -- A match, where the parameter is known and it is known whether the ports are the same.
  pub match_by : (name : List ℕ) (q : RefTree) (w : held_wanted.Wanted) (t : Bool) → Some w ≡ named_item (λ w. w.name) held name
      → t ≡ same_outlines (sides_outlined (sides_held w.ports)) (ports_by front (param_named params (name_of q)) (name_of q))
      → unmatched (param_named (map wanted_held held) name) (referred front params q) ≡ fault_if (not t) (record { kind = PortsDiffer; at = (out-RefTree q).name.at })
  match_by name q w t there e =
      ap (λ o. unmatched o (referred front params q)) (is_param front held name w there)
      ∙ (λ i. fault_if {F = Fault} (not (same_outlines (sides_outlined (sides_held w.ports)) (ports_known front params q i))) (record { kind = PortsDiffer; at = (referred-out front params q i).at }))
      ∙ ap (λ s. fault_if {F = Fault} (not s) (record { kind = PortsDiffer; at = (out-RefTree q).name.at })) (sym e)

  pub match_none : (name : List ℕ) (r : Referred) → None ≡ named_item (λ w. w.name) held name → unmatched (param_named (map wanted_held held) name) r ≡ []
  match_none name r e = ap (λ o. unmatched o r) (no_param front held name e)

  module _ (arguments : List ArgTree) (i : ℕ) (a : ArgTree) (inside : i < length arguments) (is : a ≡ get_or arguments i a) (left : flat_map faults_of arguments ≡ flat_map faults_of (drop i arguments)) where
    abbrev rest : List Fault
    rest = flat_map faults_of (drop (i + 1) arguments)

    abbrev matched : List Fault
    matched = unmatched (param_named (map wanted_held held) (out-ArgTree a).name.name) (referred front params (argument_of a))

    -- First the argument's own reference, then its match, and then the others.
    pub argument_next : flat_map faults_of arguments ≡ (referred front params (argument_of a)).faults ++ (matched ++ rest)
    argument_next = rest_next faults_of arguments i a inside is (flat_map faults_of arguments) left ∙ append_assoc (referred front params (argument_of a)).faults matched rest

    pub match_next : (referred front params (argument_of a)).faults ≡ [] → flat_map faults_of arguments ≡ matched ++ rest
    match_next e = argument_next ∙ ap (λ fs. fs ++ (matched ++ rest)) e

    pub argument_done : (referred front params (argument_of a)).faults ≡ [] → matched ≡ [] → flat_map faults_of arguments ≡ rest
    argument_done e f = match_next e ∙ ap (λ fs. fs ++ rest) f
