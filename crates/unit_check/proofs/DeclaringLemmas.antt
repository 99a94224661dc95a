-- What the first branches of choices name has a lower rank, so following them ends.
use Rattle.std.proofs.Common.{◌≡◌, ◌∙◌, ◌<◌, ◌≤◌, ◌+◌, ◌&&◌, ◌⊎◌, inl, inr, arith, refl, sym, ap, subst, ℕ, zero, suc, Bool, true, false, cond, List, [], ◌∷◌, length, map, get_or}
use Rattle.std.proofs.lemmas.Option.{slice_get_cases}
use Rattle.std.specs.List.{flat_map}
use Rattle.std.specs.Prelude.{Option, Some, None, is_some, option_and_then, slice_get, slice_index}
use Rattle.std.specs.Str.{bytes_eq}
use Rattle.design_lexer.specs.declared.tree.BodyTree.{BodyTree}
use Rattle.design_lexer.specs.declared.tree.BodyTree.TheVariants as body
use Rattle.design_lexer.specs.declared.tree.BranchTree.{BranchTree}
use Rattle.design_lexer.specs.declared.tree.File.{File}
use Rattle.design_lexer.specs.declared.tree.File.TheVariants as file
use Rattle.design_lexer.specs.declared.tree.NameAt.{NameAt}
use Rattle.design_lexer.specs.declared.tree.ParamTree.{ParamTree}
use Rattle.design_lexer.specs.declared.tree.RefTree.{out-RefTree}
use Rattle.name_index.specs.PlaceLaws.{place_below, position_below, position_there}
use Rattle.name_index.specs.Places.{named_item, place_of}
use Rattle.name_rules.specs.ReferenceNamesLaws.{reference_names_is}
use Rattle.name_rules.specs.References.{reference_names}
use Rattle.name_rules.specs.Unknown.{is_param}
use Rattle.name_table.specs.Files.{is_design, is_interface, stem_place}
use Rattle.name_table.specs.Ranks.{AreRanks}
use Rattle.name_table.specs.References.{branches_of, file_named, file_refers, listed, references, references_from, refers}
use Rattle.name_table.specs.declared.source.SourceFile.{SourceFile}
use Rattle.order_core.specs.MemberLaws.{first, flat_map-mem, map-mem, mem-left, mem-right}
use Rattle.order_core.specs.Members.{IsMember}
use Rattle.unit_check.proofs.FollowLemmas.{follow-ends, follow-next, follow-none}
use Rattle.unit_check.proofs.MarkLemmas.{any_mapped}
use Rattle.unit_check.proofs.PlaceLemmas.{passes_at}
use Rattle.unit_check.specs.RefersLaws.{named_listed, refers_from}
use Rattle.unit_check.specs.Declaring.{choice_of, declaring, file_of, next_file, next_in, params_of, part_file, ports_at, ports_in, tree_ports}

-- A file that a stem stands for is of its space.
stem_found : (files : List SourceFile) (space : File → Bool) (stem : List ℕ) (j : ℕ) → stem_place space files stem ≡ Some j → (g : SourceFile) × (slice_get files j ≡ Some g) × (space g.tree ≡ true)
stem_found files space stem j e = go (slice_get_cases files j).1
  where
    go : ((x : SourceFile) × (j < length files) × (slice_get files j ≡ Some x) × (get_or files j x ≡ x)) ⊎ ((length files ≤ j) × (slice_get files j ≡ None)) → (g : SourceFile) × (slice_get files j ≡ Some g) × (space g.tree ≡ true)
    go (inl w) =
        let same : j ≡ j + 0 = omega arith in
        let passes = passes_at (λ (f : SourceFile). space f.tree && bytes_eq stem f.stem) 0 files j w.0 (e ∙ ap (λ (z : ℕ). Some z) same) w.2 in
        (w.0, w.2, first (space w.0.tree) _ passes)
    go (inr w) = let l = position_below (λ (f : SourceFile). space f.tree && bytes_eq stem f.stem) 0 files j e in absurd (omega (arith, l, w.0))

-- A name of which no parameter is found is no parameter's.
unhidden : (params : List ParamTree) (name : List ℕ) → named_item (λ (p : ParamTree). p.name.name) params name ≡ None → is_param params name ≡ false
unhidden params name e = any_mapped (λ (n : NameAt). bytes_eq name n.name) (λ (p : ParamTree). p.name) params ∙ sym (position_there (λ (p : ParamTree). bytes_eq name p.name.name) 0 params) ∙ go (place_of (λ (p : ParamTree). p.name.name) params name) refl
  where
    at : (k : ℕ) → place_of (λ (p : ParamTree). p.name.name) params name ≡ Some k
        → ((x : ParamTree) × (k < length params) × (slice_get params k ≡ Some x) × (get_or params k x ≡ x)) ⊎ ((length params ≤ k) × (slice_get params k ≡ None)) → is_some (Some k) ≡ false
    at k is (inl w) = let there = sym e ∙ ap (option_and_then (slice_get params)) is ∙ w.2 in absurd (cc)
    at k is (inr w) = let l = place_below (λ (p : ParamTree). p.name.name) params name k is in absurd (omega (arith, l, w.0))

    go : (o : Option ℕ) → place_of (λ (p : ParamTree). p.name.name) params name ≡ o → is_some o ≡ false
    go (Some k) is = at k is (slice_get_cases params k).1
    go None is = refl

module _ (find : List ℕ → Option ℕ) where
  branch_refers : (hidden : List ℕ → Bool) (b : BranchTree) (branches : List BranchTree) (j : ℕ) → hidden (out-RefTree b.reference).name.name ≡ false → find (out-RefTree b.reference).name.name ≡ Some j
      → IsMember j (refers find hidden (b ∷ branches))
  branch_refers hidden b branches j h f =
      let name = (out-RefTree b.reference).name in
      let named : IsMember name (reference_names b.reference) = subst (λ (names : List NameAt). IsMember name names) (sym (reference_names_is b.reference)) (inl refl) in
      mem-left (flat_map (file_named find hidden) (reference_names b.reference)) _ j (flat_map-mem (file_named find hidden) (reference_names b.reference) name j named (named_listed find hidden name j h f))

  body_refers : (hidden : List ℕ → Bool) (t : BodyTree) (b : BranchTree) (j : ℕ) → choice_of (file.Design t) ≡ Some b → hidden (out-RefTree b.reference).name.name ≡ false → find (out-RefTree b.reference).name.name ≡ Some j
      → IsMember j (refers find hidden (branches_of t))
  body_refers hidden (body.Catalogue ports rows table) b j e h f = absurd (cc)
  body_refers hidden (body.Choose []) b j e h f = absurd (cc)
  body_refers hidden (body.Choose (x ∷ xs)) b j e h f =
      let same : x ≡ b = cc in subst (λ (y : BranchTree). IsMember j (refers find hidden (y ∷ xs))) (sym same) (branch_refers hidden b xs j h f)
  body_refers hidden (body.Net ports parts rules) b j e h f = absurd (cc)

  -- A choice refers to what its first branch names, where no parameter has the name.
  first_refers : (f : File) (b : BranchTree) (j : ℕ) → choice_of f ≡ Some b → is_param (params_of f) (out-RefTree b.reference).name.name ≡ false → find (out-RefTree b.reference).name.name ≡ Some j → IsMember j (file_refers find f)
  first_refers (file.Poset poset) b j e h g = absurd (cc)
  first_refers (file.Interface ports) b j e h g = absurd (cc)
  first_refers (file.Design t) b j e h g = body_refers (is_param []) t b j e h g
  first_refers (file.Template params t) b j e h g = body_refers (is_param params) t b j e h g

body_is_design : (f : File) (b : BranchTree) → choice_of f ≡ Some b → is_design f ≡ true
body_is_design (file.Poset poset) b e = absurd (cc)
body_is_design (file.Interface ports) b e = absurd (cc)
body_is_design (file.Design t) b e = refl
body_is_design (file.Template params t) b e = refl

interface_is_none : (f : File) → is_interface f ≡ true → is_design f ≡ false
interface_is_none (file.Poset poset) e = refl
interface_is_none (file.Interface ports) e = refl
interface_is_none (file.Design t) e = absurd (cc)
interface_is_none (file.Template params t) e = absurd (cc)

module _ (files : List SourceFile) (ranks : List ℕ) (are : AreRanks (length files) (references files) ranks) where
  -- Designs and templates stand above interfaces.
  abbrev rank_in : ℕ → Option SourceFile → ℕ
  rank_in i (Some f) = cond (is_design f.tree) (suc (slice_index ranks i)) 0
  rank_in i None = 0

  abbrev rank_of : ℕ → ℕ
  rank_of i = rank_in i (slice_get files i)

  at_most : (i : ℕ) → rank_of i ≤ suc (slice_index ranks i)
  at_most i = go (slice_get files i)
    where
      test : (t : Bool) → cond t (suc (slice_index ranks i)) 0 ≤ suc (slice_index ranks i)
      test true = omega arith
      test false = omega arith

      go : (o : Option SourceFile) → rank_in i o ≤ suc (slice_index ranks i)
      go (Some f) = test (is_design f.tree)
      go None = omega arith

  within : (i : ℕ) → rank_of i ≤ length files + 1
  within i = go (slice_get_cases files i).1
    where
      go : ((x : SourceFile) × (i < length files) × (slice_get files i ≡ Some x) × (get_or files i x ≡ x)) ⊎ ((length files ≤ i) × (slice_get files i ≡ None)) → rank_of i ≤ length files + 1
      go (inl w) = let a = at_most i in let b = are.within i w.1 in omega (arith, a, b)
      go (inr w) = subst (λ (o : Option SourceFile). rank_in i o ≤ length files + 1) (sym w.1) (omega arith)

  module _ (i j : ℕ) (f : SourceFile) (b : BranchTree) (got : slice_get files i ≡ Some f) (choice : choice_of f.tree ≡ Some b) where
    here : rank_of i ≡ suc (slice_index ranks i)
    here = ap (rank_in i) got ∙ ap (λ (t : Bool). cond t (suc (slice_index ranks i)) 0) (body_is_design f.tree b choice)

    interface_falls : (stem : List ℕ) → stem_place is_interface files stem ≡ Some j → rank_of j < rank_of i
    interface_falls stem e =
        let g = stem_found files is_interface stem j e in
        let none : rank_of j ≡ 0 = ap (rank_in j) g.1 ∙ ap (λ (t : Bool). cond t (suc (slice_index ranks j)) 0) (interface_is_none g.0.tree g.2) in
        let h = here in omega (arith, none, h)

    design_falls : is_param (params_of f.tree) (out-RefTree b.reference).name.name ≡ false → stem_place is_design files (out-RefTree b.reference).name.name ≡ Some j → rank_of j < rank_of i
    design_falls hidden e =
        let same : i + 0 ≡ i = omega arith in
        let pair = subst (λ (k : ℕ). IsMember {A = ℕ × ℕ} (k, j) (references files)) same (refers_from (stem_place is_design files) 0 files i j f got (first_refers (stem_place is_design files) f.tree b j choice hidden e)) in
        let falls = are.fall i j pair in
        let a = at_most j in
        let h = here in omega (arith, falls, a, h)

    branch_falls : part_file files (params_of f.tree) b ≡ Some j → rank_of j < rank_of i
    branch_falls e = go (named_item (λ (p : ParamTree). p.name.name) (params_of f.tree) (out-RefTree b.reference).name.name) refl e
      where
        go : (o : Option ParamTree) → named_item (λ (p : ParamTree). p.name.name) (params_of f.tree) (out-RefTree b.reference).name.name ≡ o → file_of files (out-RefTree b.reference).name.name o ≡ Some j → rank_of j < rank_of i
        go (Some p) is h = interface_falls p.interface.name h
        go None is h = design_falls (unhidden (params_of f.tree) (out-RefTree b.reference).name.name is) h

  falls : (i j : ℕ) → next_file files i ≡ Some j → rank_of j < rank_of i
  falls i j e = go (slice_get files i) refl e
    where
      at : (f : SourceFile) → slice_get files i ≡ Some f → (o : Option BranchTree) → choice_of f.tree ≡ o → option_and_then (part_file files (params_of f.tree)) o ≡ Some j → rank_of j < rank_of i
      at f got (Some b) is h = branch_falls i j f b got is h
      at f got None is h = absurd (cc)

      go : (o : Option SourceFile) → slice_get files i ≡ o → option_and_then (λ f. next_in files f.tree) o ≡ Some j → rank_of j < rank_of i
      go (Some f) got h = at f got (choice_of f.tree) refl h
      go None got h = absurd (cc)

  -- A choice has the ports of what its first branch names.
  pub ports_next : (i j : ℕ) → next_file files i ≡ Some j → ports_at files i ≡ ports_at files j
  ports_next i j e = ap (λ (k : ℕ). tree_ports (slice_get files k)) (follow-next (next_file files) rank_of falls (length files + 1) i j (within i) e)

  -- No choice declares ports.
  pub declaring_ends : (i : ℕ) → next_file files (declaring files i) ≡ None
  declaring_ends i = follow-ends (next_file files) rank_of falls (length files + 1) i (within i)

-- Every other file has its own.
pub ports_own : (files : List SourceFile) (i : ℕ) (f : SourceFile) → slice_get files i ≡ Some f → choice_of f.tree ≡ None → ports_at files i ≡ ports_in f.tree
ports_own files i f got none =
    ap (λ (k : ℕ). tree_ports (slice_get files k)) (follow-none (next_file files) (length files + 1) i (ap (option_and_then (λ (g : SourceFile). next_in files g.tree)) got ∙ ap (option_and_then (part_file files (params_of f.tree))) none))
    ∙ ap tree_ports got
