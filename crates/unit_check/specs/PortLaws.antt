-- The ports of files: how many there are, where they are declared, and when they have no fault.
use Rattle.std.proofs.Common.{◌≡◌, ◌∙◌, ◌<◌, ◌^◌, ◌&&◌, inl, inr, arith, refl, sym, ap, subst, ℕ, List, [], ◌∷◌, ◌++◌, length}
use Rattle.std.specs.List.{flat_map}
use Rattle.std.specs.Prelude.{Option, Some, None, slice_get}
use Rattle.std.specs.Str.{bytes_eq}
use Rattle.design_lexer.specs.declared.tree.BodyTree.{BodyTree}
use Rattle.design_lexer.specs.declared.tree.BodyTree.TheVariants as body
use Rattle.design_lexer.specs.declared.tree.BranchTree.{BranchTree}
use Rattle.design_lexer.specs.declared.tree.File.{File}
use Rattle.design_lexer.specs.declared.tree.File.TheVariants as file
use Rattle.design_lexer.specs.declared.tree.ParamTree.{ParamTree}
use Rattle.fault_list.specs.FaultLaws.{none_left}
use Rattle.fault_list.specs.RestLaws.{none_right}
use Rattle.fault_list.specs.declared.fault.FileFault.{FileFault}
use Rattle.name_index.specs.PlaceLaws.{position_below}
use Rattle.name_index.specs.Places.{named_item}
use Rattle.name_rules.specs.Sizes.{IsSmall, IsSmallBody}
use Rattle.name_table.specs.Files.{is_design, is_interface, stem_place}
use Rattle.name_table.specs.Library.{AreSmall}
use Rattle.name_table.specs.SmallLaws.{small_at}
use Rattle.name_table.specs.declared.source.SourceFile.{SourceFile}
use Rattle.order_core.specs.MemberLaws.{got_member}
use Rattle.order_core.specs.Members.{IsMember}
use Rattle.unit_check.specs.Declaring.{declaring, file_of, named_file, params_of, part_file, parts_of, ports_at, ports_in, tree_ports}
use Rattle.unit_check.specs.TypeFaults.{declared_by, declared_faults, file_port_faults, named_faults, part_faults, scope_faults}
use Rattle.value_type.specs.declared.poset.Types.{Types}

-- ---- how many there are

body_few : (b : BodyTree) → IsSmallBody b → length (ports_in (file.Design b)) < 2 ^ 32
body_few (body.Catalogue ports rows table) small = small.0
body_few (body.Choose branches) small = omega arith
body_few (body.Net ports parts rules) small = small.0

-- A small file declares few ports.
pub ports_few : (f : File) → IsSmall f → length (ports_in f) < 2 ^ 32
ports_few (file.Poset poset) small = omega arith
ports_few (file.Interface ports) small = small
ports_few (file.Design b) small = body_few b small
ports_few (file.Template params b) small = body_few b small.1

-- A small file has few parameters.
pub params_few : (f : File) → IsSmall f → length (params_of f) < 2 ^ 32
params_few (file.Poset poset) small = omega arith
params_few (file.Interface ports) small = omega arith
params_few (file.Design b) small = omega arith
params_few (file.Template params b) small = small.0

body_parts_few : (b : BodyTree) → IsSmallBody b → length (parts_of (file.Design b)) < 2 ^ 32
body_parts_few (body.Catalogue ports rows table) small = omega arith
body_parts_few (body.Choose branches) small = small
body_parts_few (body.Net ports parts rules) small = small.1

-- A small file has few branches or instances.
pub parts_few : (f : File) → IsSmall f → length (parts_of f) < 2 ^ 32
parts_few (file.Poset poset) small = omega arith
parts_few (file.Interface ports) small = omega arith
parts_few (file.Design b) small = body_parts_few b small
parts_few (file.Template params b) small = body_parts_few b small.1

-- The file that declares ports declares few.
pub declared_few : (files : List SourceFile) (i : ℕ) → ∥ AreSmall files ∥₁ → length (ports_at files i) < 2 ^ 32
declared_few files i small = go (slice_get files (declaring files i)) refl
  where
    go : (o : Option SourceFile) → slice_get files (declaring files i) ≡ o → length (tree_ports o) < 2 ^ 32
    go (Some f) e = ports_few f.tree (small_at files (declaring files i) f small e)
    go None e = omega arith

-- ---- where they are declared

-- The file that a name stands for is one of the files.
pub named_file_below : (files : List SourceFile) (params : List ParamTree) (name : List ℕ) (k : ℕ) → named_file files params name ≡ Some k → k < length files
named_file_below files params name k e = go (named_item (λ (p : ParamTree). p.name.name) params name) e
  where
    stem_below : (space : _) (stem : List ℕ) → stem_place space files stem ≡ Some k → k < length files
    stem_below space stem h = let l = position_below (λ (f : SourceFile). space f.tree && bytes_eq stem f.stem) 0 files k h in omega (arith, l)

    go : (o : Option ParamTree) → file_of files name o ≡ Some k → k < length files
    go (Some p) h = stem_below is_interface p.interface.name h
    go None h = stem_below is_design name h

-- ---- their faults

none_member : {A F : Type 0} (faults : A → List F) (xs : List A) (x : A) → flat_map faults xs ≡ [] → IsMember x xs → faults x ≡ []
none_member faults [] x e m = absurd m
none_member {F = F} faults (y ∷ ys) x e (inl is) = subst (λ z. faults z ≡ []) (sym is) (none_left (faults y) (flat_map faults ys) e)
none_member faults (y ∷ ys) x e (inr m) = none_member faults ys x (none_right (faults y) (flat_map faults ys) e) m

module _ (files : List SourceFile) (types : Types) (none : flat_map (file_port_faults types) files ≡ []) where
  pub declared_none : (i : ℕ) → declared_faults files types i ≡ []
  declared_none i = go (slice_get files i) refl
    where
      go : (o : Option SourceFile) → slice_get files i ≡ o → declared_by types o ≡ []
      go (Some f) e = none_member (file_port_faults types) files f none (got_member files i f e)
      go None e = refl

  pub named_none : (o : Option ℕ) → named_faults files types o ≡ []
  named_none (Some k) = declared_none (declaring files k)
  named_none None = refl

  pub part_none : (params : List ParamTree) (part : BranchTree) → part_faults files types params part ≡ []
  part_none params part = named_none (part_file files params part)

  pub parts_none : (params : List ParamTree) (parts : List BranchTree) → flat_map (part_faults files types params) parts ≡ []
  parts_none params [] = refl
  parts_none params (part ∷ parts) = ap (λ (fs : List FileFault). fs ++ flat_map (part_faults files types params) parts) (part_none params part) ∙ parts_none params parts

  -- Where no port of the library has a fault, none in a scope has.
  pub scope_none : (i : ℕ) (f : File) → scope_faults files types i f ≡ []
  scope_none i f = ap (λ (fs : List FileFault). fs ++ flat_map (part_faults files types (params_of f)) (parts_of f)) (declared_none (declaring files i)) ∙ parts_none (params_of f) (parts_of f)
