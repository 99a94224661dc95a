-- References without faults fall to files of lesser ranks, so each design has a meaning.
use Rattle.std.proofs.Common.{◌≡◌, ◌∙◌, ◌<◌, ◌≤◌, ◌+◌, ◌⊎◌, inl, inr, arith, refl, sym, ap, subst, ℕ, zero, suc, Bool, true, false, cond, List, [], ◌∷◌, length, map}
use Rattle.std.proofs.lemmas.List.Sums.{sum_by-cons}
use Rattle.std.specs.List.{flat_map, list_any, sum, sum_by}
use Rattle.std.specs.Prelude.{Option, Some, None, is_some, option_and_then, slice_get, slice_index}
use Rattle.std.specs.Str.{bytes_eq}
use Rattle.design_lexer.specs.declared.tree.ArgTree.{ArgTree, fold-ArgTree, fold_out-ArgTree}
use Rattle.design_lexer.specs.declared.tree.BodyTree.{BodyTree}
use Rattle.design_lexer.specs.declared.tree.BodyTree.TheVariants as body
use Rattle.design_lexer.specs.declared.tree.BranchTree.{BranchTree}
use Rattle.design_lexer.specs.declared.tree.File.{File}
use Rattle.design_lexer.specs.declared.tree.File.TheVariants as file
use Rattle.design_lexer.specs.declared.tree.NameAt.{NameAt}
use Rattle.design_lexer.specs.declared.tree.ParamTree.{ParamTree}
use Rattle.design_lexer.specs.declared.tree.RefTree.{RefTree, fold-RefTree, fold_out-RefTree, out-RefTree}
use Rattle.fault_list.specs.FaultLaws.{none_left}
use Rattle.fault_list.specs.Faults.{fault_unless}
use Rattle.fault_list.specs.declared.fault.Fault.{Fault}
use Rattle.fault_list.specs.declared.fault.FaultKind.TheVariants.{Unknown}
use Rattle.library_load.proofs.FrontLemmas.{file_clean, names_wanted}
use Rattle.library_load.proofs.SourceLemmas.{body_of_file, body_of_source, file_of_named, has_body, named_of_file, stem_found, tree_same}
use Rattle.module_link.specs.Contents.{AreSourcesOf}
use Rattle.name_rules.specs.ReferenceNamesLaws.{reference_names_is}
use Rattle.name_rules.specs.References.{reference_names}
use Rattle.name_rules.specs.Unknown.{is_param}
use Rattle.name_table.specs.Files.{is_design, stem_place}
use Rattle.name_table.specs.Ranks.{AreRanks}
use Rattle.name_table.specs.References.{branches_of, file_named, file_refers, listed, references, references_from, refers}
use Rattle.name_table.specs.declared.source.SourceFile.{SourceFile}
use Rattle.name_table.specs.declared.source.Table.{Table}
use Rattle.order_core.specs.MemberLaws.{flat_map-mem, got_member, map-mem, mem-left, mem-right}
use Rattle.order_core.specs.Members.{IsMember}
use Rattle.order_core.specs.PointwiseLaws.{each_made}
use Rattle.reference_check.specs.LibraryFronts.{front_by, front_of, library_faults, wanted_of}
use Rattle.reference_meaning.specs.Ranked.{AreRanked, EachRefers, Falls, FallsIn}
use Rattle.reference_meaning.specs.Sources as meaning
use Rattle.reference_meaning.specs.Sources.{GiveEach, Source, argument_of, arguments_of, body_of, is_among, name_of, source_named}
use Rattle.reference_rules.specs.ReferenceFaults.{AreFronts, Front, Referred, Wanted, param_named, referred, unplaced, wanted_by, wanted_in}
use Rattle.reference_rules.specs.ReferenceLaws.{argument_none, branch_none, given_each, given_none, placed, wanted_there}
use Rattle.unit_check.proofs.MarkLemmas.{any_mapped}
use Rattle.unit_check.specs.Declaring.{params_of}
use Rattle.value_type.specs.declared.poset.Types.{Types}

-- ---- how deep references are

-- a number above that of each argument
abbrev deep : RefTree → ℕ
deep = fold-RefTree ℕ ℕ (λ a. a.reference) (λ r. suc (sum r.arguments))

deep_argument : (a : ArgTree) → fold-ArgTree ℕ ℕ (λ a. a.reference) (λ r. suc (sum r.arguments)) a ≡ deep (argument_of a)
deep_argument a = fold_out-ArgTree ℕ ℕ (λ a. a.reference) (λ r. suc (sum r.arguments)) a

deep_is : (q : RefTree) → deep q ≡ suc (sum (map (λ a. deep (argument_of a)) (arguments_of q)))
deep_is q = fold_out-RefTree ℕ ℕ (λ a. a.reference) (λ r. suc (sum r.arguments)) q ∙ (λ i. suc (sum (map (λ a. deep_argument a i) (arguments_of q))))

in_sum : {A : Type 0} (f : A → ℕ) (xs : List A) (x : A) → IsMember x xs → f x ≤ sum_by f xs
in_sum f [] x m = absurd m
in_sum f (y ∷ ys) x (inl e) = let whole = sum_by-cons f y ys in let same : f x ≡ f y = ap f e in omega (arith, whole, same)
in_sum f (y ∷ ys) x (inr m) = let whole = sum_by-cons f y ys in let l = in_sum f ys x m in omega (arith, whole, l)

abbrev branches_in : Option BodyTree → List BranchTree
branches_in (Some b) = meaning.branches_of b
branches_in None = []

abbrev file_deep : SourceFile → ℕ
file_deep f = sum_by (λ (b : BranchTree). deep b.reference) (branches_in (body_of f.tree))

-- a number above the depth of each reference
abbrev pub depth : List SourceFile → ℕ
depth files = sum_by file_deep files

deep_within : (files : List SourceFile) (i : ℕ) (f : SourceFile) (b : BodyTree) (x : BranchTree) → slice_get files i ≡ Some f → body_of f.tree ≡ Some b → IsMember x (meaning.branches_of b) → deep x.reference ≤ depth files
deep_within files i f b x got is m =
    let one = in_sum (λ (y : BranchTree). deep y.reference) (branches_in (body_of f.tree)) x (subst (λ o. IsMember x (branches_in o)) (sym is) m) in
    let all = in_sum file_deep files f (got_member files i f got) in
    omega (arith, one, all)

-- ---- what files refer to

branches_same : (b : BodyTree) → branches_of b ≡ meaning.branches_of b
branches_same (body.Catalogue ports rows table) = refl
branches_same (body.Choose branches) = refl
branches_same (body.Net ports parts rules) = refl

module _ (find : List ℕ → Option ℕ) where
  named_listed : (hidden : List ℕ → Bool) (name : NameAt) (j : ℕ) → hidden name.name ≡ false → find name.name ≡ Some j → IsMember j (file_named find hidden name)
  named_listed hidden name j h f = subst (λ (t : Bool). IsMember j (cond t [] (listed (find name.name)))) (sym h) (subst (λ (o : Option ℕ). IsMember j (listed o)) (sym f) (inl refl))

  refers_by : (hidden : List ℕ → Bool) (branches : List BranchTree) (x : BranchTree) (name : NameAt) (j : ℕ) → IsMember x branches → IsMember name (reference_names x.reference)
      → hidden name.name ≡ false → find name.name ≡ Some j → IsMember j (refers find hidden branches)
  refers_by hidden branches x name j m n h f =
      flat_map-mem (λ (b : BranchTree). flat_map (file_named find hidden) (reference_names b.reference)) branches x j m
      (flat_map-mem (file_named find hidden) (reference_names x.reference) name j n (named_listed hidden name j h f))

  tree_refers : (tree : File) (b : BodyTree) (x : BranchTree) (name : NameAt) (j : ℕ) → body_of tree ≡ Some b → IsMember x (meaning.branches_of b) → IsMember name (reference_names x.reference)
      → is_param (params_of tree) name.name ≡ false → find name.name ≡ Some j → IsMember j (file_refers find tree)
  tree_refers (file.Poset poset) b x name j is m n h f = absurd (cc)
  tree_refers (file.Interface ports) b x name j is m n h f = absurd (cc)
  tree_refers (file.Design c) b x name j is m n h f = let same : b ≡ c = cc in refers_by (is_param []) (branches_of c) x name j (subst (IsMember x) (ap meaning.branches_of same ∙ sym (branches_same c)) m) n h f
  tree_refers (file.Template params c) b x name j is m n h f = let same : b ≡ c = cc in refers_by (is_param params) (branches_of c) x name j (subst (IsMember x) (ap meaning.branches_of same ∙ sym (branches_same c)) m) n h f

  refers_from : (s : ℕ) (files : List SourceFile) (k j : ℕ) (f : SourceFile) → slice_get files k ≡ Some f → IsMember j (file_refers find f.tree) → IsMember {A = ℕ × ℕ} (k + s, j) (references_from find s files)
  refers_from s [] k j f e m = absurd (cc)
  refers_from s (x ∷ xs) zero j f e m =
      let same : x ≡ f = cc in
      let own : IsMember j (file_refers find x.tree) = subst (λ (y : SourceFile). IsMember j (file_refers find y.tree)) (sym same) m in
      let here : s ≡ 0 + s = omega arith in
      subst (λ (i : ℕ). IsMember {A = ℕ × ℕ} (i, j) (references_from find s (x ∷ xs))) here
      (mem-left {A = ℕ × ℕ} (map (λ j. (s, j)) (file_refers find x.tree)) (references_from find (s + 1) xs) (s, j) (map-mem {A = ℕ} {B = ℕ × ℕ} (λ j. (s, j)) (file_refers find x.tree) j own))
  refers_from s (x ∷ xs) (suc k) j f e m =
      let same : k + (s + 1) ≡ suc k + s = omega arith in
      mem-right {A = ℕ × ℕ} (map (λ j. (s, j)) (file_refers find x.tree)) (references_from find (s + 1) xs) (suc k + s, j)
      (subst (λ (i : ℕ). IsMember {A = ℕ × ℕ} (i, j) (references_from find (s + 1) xs)) same (refers_from (s + 1) xs k j f e m))

-- ---- parameters

named_same : (params : List ParamTree) (name : List ℕ) → is_param params name ≡ list_any (λ (p : ParamTree). bytes_eq name p.name.name) params
named_same params name = any_mapped (λ (n : NameAt). bytes_eq name n.name) (λ (p : ParamTree). p.name) params

among_params : (params : List ParamTree) (name : List ℕ) → is_among (map (λ (p : ParamTree). p.name.name) params) name ≡ is_param params name
among_params params name = any_mapped (bytes_eq name) (λ (p : ParamTree). p.name.name) params ∙ sym (named_same params name)

-- A name is among the parameters of a file as its meaning has them exactly where it is a parameter of the tree.
param_same : (tree : File) (name : List ℕ) → is_among (meaning.params_of tree) name ≡ is_param (params_of tree) name
param_same (file.Poset poset) name = refl
param_same (file.Interface ports) name = refl
param_same (file.Design b) name = refl
param_same (file.Template params b) name = among_params params name

not_there : {A : Type 0} (o : Option A) → is_some o ≡ false → o ≡ None
not_there (Some x) e = absurd (cc)
not_there None e = refl

front_there : (front : List ℕ → Option Front) (name : NameAt) → unplaced front None name ≡ [] → (f : Front) × (front name.name ≡ Some f)
front_there front name e = go (front name.name) refl e
  where
    go : (o : Option Front) → front name.name ≡ o → fault_unless {F = Fault} o (record { kind = Unknown; at = name.at }) ≡ [] → (f : Front) × (front name.name ≡ Some f)
    go (Some f) is none = (f, is)
    go None is none = absurd (cc)

-- ---- ranks

abbrev rank_by : List ℕ → Option ℕ → ℕ
rank_by ranks (Some i) = slice_index ranks i
rank_by ranks None = 0

-- the rank of the design or template of this name
abbrev pub rank_of : List SourceFile → List ℕ → List ℕ → ℕ
rank_of files ranks name = rank_by ranks (stem_place is_design files name)

module _ (files : List SourceFile) (ranks : List ℕ) (tables : List Table) (types : Types) (sources : List Source) (are : AreSourcesOf files tables types sources) (fronts : AreFronts sources (front_of files types)) where
  place_there : (name : List ℕ) (f : Front) → front_of files types name ≡ Some f → (i : ℕ) × (stem_place is_design files name ≡ Some i)
  place_there name f e = go (stem_place is_design files name) refl
    where
      go : (o : Option ℕ) → stem_place is_design files name ≡ o → (i : ℕ) × (stem_place is_design files name ≡ Some i)
      go (Some i) is = (i, is)
      go None is = let none = ap (option_and_then (λ k. front_by files types k (slice_get files k))) is in absurd (cc)

  -- The name is no parameter's, and the file that it stands for has a rank below r.
  abbrev IsBelow : File → ℕ → NameAt → Type 0
  IsBelow tree r name = (j : ℕ) → is_param (params_of tree) name.name ≡ false → stem_place is_design files name.name ≡ Some j → slice_index ranks j < r

  module _ (tree : File) (r : ℕ) where
    abbrev wanted : List Wanted
    wanted = map (wanted_of files types) (params_of tree)

    abbrev found : RefTree → Referred
    found = referred (front_of files types) (map (wanted_of files types) (params_of tree))

    -- A reference without faults to what is no parameter falls, where its arguments do.
    falls_to : (q : RefTree) (P : RefTree → Type 0) → IsBelow tree r (out-RefTree q).name → (found q).faults ≡ [] → ((a : ArgTree) → IsMember a (arguments_of q) → P (argument_of a)) → is_among (meaning.params_of tree) (name_of q) ≡ false
        → param_named wanted (name_of q) ≡ None → (i : ℕ) → stem_place is_design files (name_of q) ≡ Some i → (s : Source) (b : BodyTree) (f : Front) → source_named sources (name_of q) ≡ Some s → body_of s.tree ≡ Some b
        → front_of files types (name_of q) ≡ Some f → map (λ (w : Wanted). w.name) f.wanted ≡ meaning.params_of s.tree → Falls sources (rank_of files ranks) (meaning.params_of tree) r P q
    falls_to q P below none arguments e free i place s b f named is known params =
        let front = front_of files types in
        let given = given_each front wanted (wanted_by front (param_named wanted (name_of q)) (name_of q)) (arguments_of q) (out-RefTree q).name.at (given_none front wanted q none) in
        let names = ap (λ (o : Option Wanted). map (λ (w : Wanted). w.name) (wanted_by front o (name_of q))) free ∙ ap (λ (o : Option Front). map (λ (w : Wanted). w.name) (wanted_in o)) known ∙ params in
        record {
          free = e;
          source = s;
          there = named;
          body = b;
          body_is = is;
          gives = subst (λ ps. GiveEach ps (arguments_of q)) names given;
          less = subst (λ o. rank_by ranks o < r) (sym place) (below i (sym (param_same tree (name_of q)) ∙ e) place);
          arguments = each_made (λ a. P (argument_of a)) (arguments_of q) arguments;
        }

    reference_falls : (q : RefTree) (P : RefTree → Type 0) → IsBelow tree r (out-RefTree q).name → (found q).faults ≡ [] → ((a : ArgTree) → IsMember a (arguments_of q) → P (argument_of a)) → is_among (meaning.params_of tree) (name_of q) ≡ false
        → Falls sources (rank_of files ranks) (meaning.params_of tree) r P q
    reference_falls q P below none arguments e =
        let front = front_of files types in
        let free = not_there (param_named wanted (name_of q)) (wanted_there wanted (name_of q) ∙ ap (λ names. is_among names (name_of q)) (names_wanted files types tree) ∙ e) in
        let known = front_there front (out-RefTree q).name (subst (λ o. unplaced front o (out-RefTree q).name ≡ []) free (placed front wanted q none)) in
        let place = place_there (name_of q) known.0 known.1 in
        let f = stem_found files is_design (name_of q) place.0 place.1 in
        let s = named_of_file files tables types sources are (name_of q) place.0 f.0 place.1 f.1 in
        let b = has_body f.0.tree f.2 in
        let body_is = body_of_source files tables types place.0 f.0 s.0 b.0 s.2 b.1 in
        let is = fronts (name_of q) s.0 b.0 s.1 body_is in
        falls_to q P below none arguments e free place.0 place.1 s.0 b.0 is.0 s.1 body_is is.1 is.2.params

    -- So does a reference, where each name in it leads to a file below r.
    falls_in : (k : ℕ) (q : RefTree) → deep q ≤ k → ((name : NameAt) → IsMember name (reference_names q) → IsBelow tree r name) → (found q).faults ≡ [] → FallsIn sources (rank_of files ranks) k (meaning.params_of tree) r q
    unfolding FallsIn
    falls_in zero q d below none = let is = deep_is q in absurd (omega (arith, is, d))
    falls_in (suc k) q d below none = go (is_among (meaning.params_of tree) (name_of q)) refl
        (λ a m. falls_in k (argument_of a) (shallow a m) (λ name n. below name (in_argument a name m n)) (none_left (found (argument_of a)).faults _ (argument_none (front_of files types) wanted q none a m)))
      where
        shallow : (a : ArgTree) → IsMember a (arguments_of q) → deep (argument_of a) ≤ k
        shallow a m = let is = deep_is q in let l = in_sum (λ (n : ℕ). n) (map (λ (x : ArgTree). deep (argument_of x)) (arguments_of q)) (deep (argument_of a)) (map-mem (λ (x : ArgTree). deep (argument_of x)) (arguments_of q) a m) in omega (arith, is, l, d)

        in_argument : (a : ArgTree) (name : NameAt) → IsMember a (arguments_of q) → IsMember name (reference_names (argument_of a)) → IsMember name (reference_names q)
        in_argument a name m n = subst (λ names. IsMember name names) (sym (reference_names_is q)) (inr (flat_map-mem (λ (x : ArgTree). reference_names (argument_of x)) (arguments_of q) a name m n))

        own : IsMember (out-RefTree q).name (reference_names q)
        own = subst (λ names. IsMember (out-RefTree q).name names) (sym (reference_names_is q)) (inl refl)

        go : (t : Bool) → is_among (meaning.params_of tree) (name_of q) ≡ t → ((a : ArgTree) → IsMember a (arguments_of q) → FallsIn sources (rank_of files ranks) k (meaning.params_of tree) r (argument_of a))
            → (is_among (meaning.params_of tree) (name_of q) ≡ true) ⊎ Falls sources (rank_of files ranks) (meaning.params_of tree) r (FallsIn sources (rank_of files ranks) k (meaning.params_of tree) r) q
        go true e arguments = inl e
        go false e arguments = inr (reference_falls q (FallsIn sources (rank_of files ranks) k (meaning.params_of tree) r) (below (out-RefTree q).name own) none arguments e)

  module _ (fall : AreRanks (length files) (references files) ranks) (none : library_faults files types ≡ []) where
    -- The references of each file fall below its rank.
    pub file_falls : (i : ℕ) (f : SourceFile) (b : BodyTree) → slice_get files i ≡ Some f → body_of f.tree ≡ Some b
        → EachRefers (FallsIn sources (rank_of files ranks) (depth files) (meaning.params_of f.tree) (slice_index ranks i)) (meaning.branches_of b)
    file_falls i f b got is = each_made (λ x. FallsIn sources (rank_of files ranks) (depth files) (meaning.params_of f.tree) (slice_index ranks i) x.reference) (meaning.branches_of b)
        (λ x m. falls_in f.tree (slice_index ranks i) (depth files) x.reference (deep_within files i f b x got is m)
        (λ name n j h e. fall.fall i j (pair x m name n j h e))
        (branch_none (front_of files types) (map (wanted_of files types) (params_of f.tree)) b (file_clean files types none i f b got is) x m))
      where
        pair : (x : BranchTree) → IsMember x (meaning.branches_of b) → (name : NameAt) → IsMember name (reference_names x.reference) → (j : ℕ) → is_param (params_of f.tree) name.name ≡ false → stem_place is_design files name.name ≡ Some j
            → IsMember {A = ℕ × ℕ} (i, j) (references files)
        pair x m name n j h e =
            let same : i + 0 ≡ i = omega arith in
            subst (λ (k : ℕ). IsMember {A = ℕ × ℕ} (k, j) (references files)) same
            (refers_from (stem_place is_design files) 0 files i j f got (tree_refers (stem_place is_design files) f.tree b x name j is m n h e))

    pub sources_ranked : AreRanked sources (rank_of files ranks) (depth files)
    sources_ranked name s b named is =
        let at = file_of_named files tables types sources are name s named in
        let i = at.0 in
        let f = at.1 in
        let tree = tree_same files tables types i f s at.4 in
        let falls = file_falls i f b at.3 (body_of_file files tables types i f s b at.4 is) in
        let rank = ap (rank_by ranks) at.2 in
        subst (λ t. EachRefers (FallsIn sources (rank_of files ranks) (depth files) (meaning.params_of t) (rank_of files ranks name)) (meaning.branches_of b)) (sym tree)
        (subst (λ n. EachRefers (FallsIn sources (rank_of files ranks) (depth files) (meaning.params_of f.tree) n) (meaning.branches_of b)) (sym rank) falls)
