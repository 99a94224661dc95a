-- What is known of each file without its references is its front, and where no reference has a fault no file has one.
use Rattle.std.proofs.Common.{◌≡◌, ◌∙◌, ◌+◌, refl, sym, ap, subst, ℕ, Bool, true, false, cond, List, [], ◌∷◌, length, map}
use Rattle.std.specs.Prelude.{Option, Some, None, option_and_then, option_map, slice_get}
use Rattle.std.specs.Str.{bytes_eq}
use Rattle.design_lexer.specs.declared.tree.BodyTree.{BodyTree}
use Rattle.design_lexer.specs.declared.tree.BodyTree.TheVariants as body
use Rattle.design_lexer.specs.declared.tree.BranchTree.{BranchTree}
use Rattle.design_lexer.specs.declared.tree.File.{File}
use Rattle.design_lexer.specs.declared.tree.File.TheVariants as file
use Rattle.design_lexer.specs.declared.tree.ParamTree.{ParamTree}
use Rattle.design_model.specs.declared.design.CatRow.{CatRow}
use Rattle.fault_list.specs.Faults.{in_file, named}
use Rattle.library_load.proofs.SourceLemmas.{body_of_file, file_of_named, is_body, stem_found, tree_same}
use Rattle.module_link.specs.Contents.{AreSourcesOf, content_of}
use Rattle.name_index.specs.PlaceLaws.{named_item_next}
use Rattle.name_rules.specs.Places.{named_item}
use Rattle.name_table.specs.Files.{is_design, stem_place}
use Rattle.name_table.specs.declared.source.SourceFile.{SourceFile}
use Rattle.name_table.specs.declared.source.Table.{Table}
use Rattle.order_core.specs.MemberLaws.{got_member}
use Rattle.reference_check.specs.Fronts.{sides_outlined}
use Rattle.reference_check.specs.LibraryFronts.{front_by, front_of, library_faults, tree_faults, wanted_of}
use Rattle.reference_meaning.specs.Sources as meaning
use Rattle.reference_meaning.specs.Sources.{Source, body_of, name_of}
use Rattle.reference_rules.specs.ReferenceFaults.{AreFronts, Front, NoFaults, Wanted, body_ports, param_named, ports_by, ports_in, reference_faults, wanted_in}
use Rattle.reference_rules.specs.ReferenceLaws.{none_each}
use Rattle.side_ports.specs.Sides.{sides_of}
use Rattle.unit_check.proofs.FollowLemmas.{follow-none}
use Rattle.unit_check.specs.Declaring as declaring
use Rattle.unit_check.specs.Declaring.{choice_of, file_of, first_branch, next_file, next_in, params_of, part_file, part_ports, ports_at, ports_of, tree_ports}
use Rattle.unit_check.specs.RuleLaws.{none_mapped}
use Rattle.value_type.specs.declared.poset.Types.{Types}

-- ---- a file by its body

pub choice_is : (tree : File) (b : BodyTree) → body_of tree ≡ Some b → choice_of tree ≡ first_branch b
choice_is (file.Poset poset) b e = absurd (cc)
choice_is (file.Interface ports) b e = absurd (cc)
choice_is (file.Design c) b e = let same : c ≡ b = cc in ap first_branch same
choice_is (file.Template params c) b e = let same : c ≡ b = cc in ap first_branch same

pub ports_are : (tree : File) (b : BodyTree) → body_of tree ≡ Some b → declaring.ports_in tree ≡ declaring.body_ports b
ports_are (file.Poset poset) b e = absurd (cc)
ports_are (file.Interface ports) b e = absurd (cc)
ports_are (file.Design c) b e = let same : c ≡ b = cc in ap declaring.body_ports same
ports_are (file.Template params c) b e = let same : c ≡ b = cc in ap declaring.body_ports same

module _ (files : List SourceFile) (types : Types) where
  names_mapped : (params : List ParamTree) → map (λ (w : Wanted). w.name) (map (wanted_of files types) params) ≡ map (λ p. p.name.name) params
  names_mapped [] = refl
  names_mapped (p ∷ params) = ap (λ names. p.name.name ∷ names) (names_mapped params)

  -- The names of a file's parameters.
  pub names_wanted : (tree : File) → map (λ (w : Wanted). w.name) (map (wanted_of files types) (params_of tree)) ≡ meaning.params_of tree
  names_wanted (file.Poset poset) = refl
  names_wanted (file.Interface ports) = refl
  names_wanted (file.Design b) = refl
  names_wanted (file.Template params b) = names_mapped params

  param_is : (params : List ParamTree) (name : List ℕ) → param_named (map (wanted_of files types) params) name ≡ option_map (wanted_of files types) (named_item (λ (p : ParamTree). p.name) params name)
  param_is [] name = refl
  param_is (p ∷ params) name = go (bytes_eq name p.name.name) (param_is params name) ∙ sym (ap (option_map (wanted_of files types)) (named_item_next (λ (x : ParamTree). x.name.name) p params name))
    where
      go : (t : Bool) → param_named (map (wanted_of files types) params) name ≡ option_map (wanted_of files types) (named_item (λ (x : ParamTree). x.name) params name)
          → cond t (Some (wanted_of files types p)) (param_named (map (wanted_of files types) params) name) ≡ option_map (wanted_of files types) (cond t (Some p) (named_item (λ (x : ParamTree). x.name) params name))
      go true rest = refl
      go false rest = rest

  -- the front of the file of this number, if it is a design or template
  abbrev front_if : ℕ → File → Bool → Option Front
  front_if i tree t = cond t (Some (record { wanted = map (wanted_of files types) (params_of tree); ports = sides_outlined (sides_of types (ports_at files i)) })) None

  -- A name has the front of its file.
  pub front_is : (name : List ℕ) (i : ℕ) (f : SourceFile) → stem_place is_design files name ≡ Some i → slice_get files i ≡ Some f → is_design f.tree ≡ true
      → front_of files types name ≡ Some (record { wanted = map (wanted_of files types) (params_of f.tree); ports = sides_outlined (sides_of types (ports_at files i)) })
  front_is name i f e got is = ap (option_and_then (λ k. front_by files types k (slice_get files k))) e ∙ ap (front_by files types i) got ∙ ap (front_if i f.tree) is

  pub wanted_front : (name : List ℕ) (i : ℕ) (f : SourceFile) (b : BodyTree) (known : Front) → stem_place is_design files name ≡ Some i → slice_get files i ≡ Some f → body_of f.tree ≡ Some b → front_of files types name ≡ Some known
      → map (wanted_of files types) (params_of f.tree) ≡ known.wanted
  wanted_front name i f b known e got is front = ap wanted_in (sym (front_is name i f e got (is_body f.tree b is)) ∙ front)

  front_ports : (name : List ℕ) → ports_in (front_of files types name) ≡ sides_outlined (sides_of types (ports_of files (stem_place is_design files name)))
  front_ports name = go (stem_place is_design files name) refl
    where
      go : (o : Option ℕ) → stem_place is_design files name ≡ o → ports_in (front_of files types name) ≡ sides_outlined (sides_of types (ports_of files o))
      go (Some i) e = let f = stem_found files is_design name i e in ap ports_in (front_is name i f.0 e f.1 f.2)
      go None e = ap (λ o. ports_in (option_and_then (λ k. front_by files types k (slice_get files k)) o)) e

  -- The ports that are known of a branch are those of what it names.
  pub branch_known : (params : List ParamTree) (b : BranchTree)
      → ports_by (front_of files types) (param_named (map (wanted_of files types) params) (name_of b.reference)) (name_of b.reference) ≡ sides_outlined (sides_of types (part_ports files params b))
  branch_known params b = ap (λ o. ports_by (front_of files types) o (name_of b.reference)) (param_is params (name_of b.reference)) ∙ go (named_item (λ (p : ParamTree). p.name) params (name_of b.reference))
    where
      go : (o : Option ParamTree) → ports_by (front_of files types) (option_map (wanted_of files types) o) (name_of b.reference) ≡ sides_outlined (sides_of types (ports_of files (file_of files (name_of b.reference) o)))
      go (Some p) = refl
      go None = front_ports (name_of b.reference)

  module _ (firsts : (i j : ℕ) → next_file files i ≡ Some j → ports_at files i ≡ ports_at files j)
      (own : (i : ℕ) (f : SourceFile) → slice_get files i ≡ Some f → choice_of f.tree ≡ None → ports_at files i ≡ declaring.ports_in f.tree) where
    -- A choice has the ports of what its first branch names.
    choice_ports : (i : ℕ) (f : SourceFile) (b : BranchTree) (bs : List BranchTree) → slice_get files i ≡ Some f → body_of f.tree ≡ Some (body.Choose (b ∷ bs)) → ports_at files i ≡ part_ports files (params_of f.tree) b
    choice_ports i f b bs got is = go (part_file files (params_of f.tree) b) refl
      where
        next : next_file files i ≡ part_file files (params_of f.tree) b
        next = ap (option_and_then (λ (g : SourceFile). next_in files g.tree)) got ∙ ap (option_and_then (part_file files (params_of f.tree))) (choice_is f.tree (body.Choose (b ∷ bs)) is)

        go : (o : Option ℕ) → part_file files (params_of f.tree) b ≡ o → ports_at files i ≡ ports_of files o
        go (Some j) e = firsts i j (next ∙ e)
        go None e = ap (λ k. tree_ports (slice_get files k)) (follow-none (next_file files) (length files + 1) i (next ∙ e)) ∙ ap tree_ports got ∙ ports_are f.tree (body.Choose (b ∷ bs)) is

    -- A file has the ports that are known of its body.
    pub file_ports : (i : ℕ) (f : SourceFile) (rows : List CatRow) (b : BodyTree) → slice_get files i ≡ Some f → body_of f.tree ≡ Some b
        → sides_outlined (sides_of types (ports_at files i)) ≡ body_ports (front_of files types) (map (wanted_of files types) (params_of f.tree)) (content_of files types i f rows) b
    file_ports i f rows (body.Catalogue ports trees table) got is = ap (λ ps. sides_outlined (sides_of types ps)) (own i f got (choice_is f.tree _ is))
    file_ports i f rows (body.Choose []) got is = ap (λ ps. sides_outlined (sides_of types ps)) (own i f got (choice_is f.tree _ is) ∙ ports_are f.tree _ is)
    file_ports i f rows (body.Choose (b ∷ bs)) got is = ap (λ ps. sides_outlined (sides_of types ps)) (choice_ports i f b bs got is) ∙ sym (branch_known (params_of f.tree) b)
    file_ports i f rows (body.Net ports parts rules) got is = ap (λ ps. sides_outlined (sides_of types ps)) (own i f got (choice_is f.tree _ is))

    module _ (tables : List Table) (sources : List Source) (are : AreSourcesOf files tables types sources) where
      -- The names of a library have fronts.
      pub fronts_known : AreFronts sources (front_of files types)
      fronts_known name s b named is =
          let at = file_of_named files tables types sources are name s named in
          let i = at.0 in
          let f = at.1 in
          let tree = tree_same files tables types i f s at.4 in
          let of_file = body_of_file files tables types i f s b at.4 is in
          let content = ap (λ (x : Source). x.content) at.4.is in (
            record { wanted = map (wanted_of files types) (params_of f.tree); ports = sides_outlined (sides_of types (ports_at files i)) },
            front_is name i f at.2 at.3 (is_body f.tree b of_file),
            record {
              params = names_wanted f.tree ∙ ap meaning.params_of (sym tree);
              ports = file_ports i f at.4.rows b at.3 of_file ∙ ap (λ c. body_ports (front_of files types) (map (wanted_of files types) (params_of f.tree)) c b) (sym content);
            },
          )

  -- ---- faults

  tree_clean : (front : List ℕ → Option Front) (wanted : List Wanted) (tree : File) (b : BodyTree) → body_of tree ≡ Some b → tree_faults front wanted tree ≡ [] → reference_faults front wanted b ≡ []
  tree_clean front wanted (file.Poset poset) b is e = absurd (cc)
  tree_clean front wanted (file.Interface ports) b is e = absurd (cc)
  tree_clean front wanted (file.Design c) b is e = let same : c ≡ b = cc in subst (λ x. reference_faults front wanted x ≡ []) same e
  tree_clean front wanted (file.Template params c) b is e = let same : c ≡ b = cc in subst (λ x. reference_faults front wanted x ≡ []) same e

  module _ (none : library_faults files types ≡ []) where
    -- No reference of a file has a fault.
    pub file_clean : (i : ℕ) (f : SourceFile) (b : BodyTree) → slice_get files i ≡ Some f → body_of f.tree ≡ Some b → reference_faults (front_of files types) (map (wanted_of files types) (params_of f.tree)) b ≡ []
    file_clean i f b got is =
        tree_clean (front_of files types) (map (wanted_of files types) (params_of f.tree)) f.tree b is
        (none_mapped (named f.name) _ (none_each (λ (g : SourceFile). in_file g.name (tree_faults (front_of files types) (map (wanted_of files types) (params_of g.tree)) g.tree)) files f none (got_member files i f got)))

    pub fronts_clean : (tables : List Table) (sources : List Source) → AreSourcesOf files tables types sources → NoFaults sources (front_of files types)
    fronts_clean tables sources are name s b known named is front =
        let at = file_of_named files tables types sources are name s named in
        let i = at.0 in
        let f = at.1 in
        let of_file = body_of_file files tables types i f s b at.4 is in
        let wanted = wanted_front name i f b known at.2 at.3 of_file front in
        subst (λ ws. reference_faults (front_of files types) ws b ≡ []) wanted (file_clean i f b at.3 of_file)
