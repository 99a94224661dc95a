-- What an index of named ports tells of a net is what its rules connect.
use Rattle.std.proofs.Common.{◌≡◌, ◌∙◌, ◌&&◌, ap, refl, sym, ℕ, true, List, [], ◌∷◌, ◌++◌, inl, inr}
use Rattle.std.proofs.lemmas.Slice.Eq.{bytes_eq-Decides}
use Rattle.std.specs.List.{flat_map, list_all}
use Rattle.std.specs.Prelude.{Option, Some, None, is_some, not}
use Rattle.std.specs.Str.{bytes_eq}
use Rattle.design_lexer.specs.Sides.{same_side}
use Rattle.design_lexer.specs.declared.tree.BranchTree.{BranchTree}
use Rattle.design_lexer.specs.declared.tree.ParamTree.{ParamTree}
use Rattle.design_lexer.specs.declared.tree.PortTree.{PortTree}
use Rattle.design_lexer.specs.declared.tree.RuleTree.{RuleTree}
use Rattle.design_lexer.specs.declared.tree.Side.TheVariants.{Requires}
use Rattle.fault_list.specs.Faults.{fault_if, in_file}
use Rattle.fault_list.specs.declared.fault.FileFault.{FileFault}
use Rattle.name_index.specs.Names.{number_of}
use Rattle.name_index.specs.PlaceLaws.{position_there}
use Rattle.name_table.specs.Stems.{has_element}
use Rattle.name_table.specs.declared.source.SourceFile.{SourceFile}
use Rattle.order_core.specs.MemberLaws.{any_intro}
use Rattle.order_core.specs.Members.{IsMember}
use Rattle.unit_check.specs.Connection.{is_connected, file_unconnected, own_unconnected, part_unconnected, side_connected, unconnected}
use Rattle.unit_check.specs.Declaring.{part_ports}
use Rattle.unit_check.specs.Named.{connected_by}
use Rattle.unit_check.specs.Told.{Tells}
use Rattle.unit_check.specs.declared.named.NamedPorts.{NamedPorts}

flat_map_same : {A B : Type 0} (f g : A → List B) (xs : List A) → ((x : A) → IsMember x xs → f x ≡ g x) → flat_map f xs ≡ flat_map g xs
flat_map_same f g [] h = refl
flat_map_same {B = B} f g (x ∷ xs) h = ap (λ (ys : List B). ys ++ flat_map f xs) (h x (inl refl)) ∙ ap (λ (ys : List B). g x ++ ys) (flat_map_same f g xs (λ y m. h y (inr m)))

module _ (parts : List BranchTree) (rules : List RuleTree) (named : NamedPorts) (tells : Tells parts rules named) where
  -- what the index of own ports tells
  pub own_same : (ports : List PortTree) → flat_map (λ p. fault_if (same_side Requires p.side && not (is_some (number_of named.own p.name.name))) (unconnected p.name)) ports ≡ flat_map (own_unconnected rules) ports
  own_same ports = λ i. flat_map (λ p. fault_if (same_side Requires p.side && not (tells.own p.name.name i)) (unconnected p.name)) ports

  numbered : (b : BranchTree) → IsMember b parts → (k : ℕ) × (number_of named.parts b.name.name ≡ Some k)
  numbered b m = go (number_of named.parts b.name.name) refl
    where
      there : is_some (number_of named.parts b.name.name) ≡ true
      there =
          ap is_some (tells.found b.name.name) ∙ position_there (λ (c : BranchTree). bytes_eq b.name.name c.name.name) 0 parts
          ∙ any_intro (λ (c : BranchTree). bytes_eq b.name.name c.name.name) parts b m ((bytes_eq-Decides b.name.name b.name.name).1 refl)

      go : (o : Option ℕ) → number_of named.parts b.name.name ≡ o → (k : ℕ) × (number_of named.parts b.name.name ≡ Some k)
      go (Some k) e = (k, e)
      go None e = let none = sym there ∙ ap is_some e in absurd (cc)

  connected_same : (b : BranchTree) → IsMember b parts → (port : PortTree) → connected_by named b.name.name port ≡ is_connected rules b.name.name port
  connected_same b m port =
      let n = numbered b m in
      ap (λ (o : Option ℕ). side_connected port.side (has_element named.placed o port.name.name) (has_element named.read o port.name.name)) n.1
      ∙ (λ i. side_connected port.side (tells.placed b.name.name n.0 n.1 port.name.name i) (tells.read b.name.name n.0 n.1 port.name.name i))

  -- what the indexes of ports of parts tell
  pub parts_same : (files : List SourceFile) (params : List ParamTree) → flat_map (λ b. fault_if (not (list_all (connected_by named b.name.name) (part_ports files params b))) (unconnected b.name)) parts ≡ flat_map (part_unconnected files params rules) parts
  parts_same files params =
      flat_map_same (λ (b : BranchTree). fault_if (not (list_all (connected_by named b.name.name) (part_ports files params b))) (unconnected b.name)) (part_unconnected files params rules) parts
      (λ b m. λ i. fault_if (not (list_all (λ port. connected_same b m port i) (part_ports files params b))) (unconnected b.name))

-- the faults of one file, with its name
abbrev pub file_faults : List SourceFile → SourceFile → List FileFault
file_faults files f = in_file f.name (file_unconnected files f.tree)
