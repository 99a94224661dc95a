-- The links of a file, partner by partner.
use Rattle.std.proofs.Common.{◌≡◌, refl, sym, subst, ℕ, List, [], ◌∷◌, map}
use Rattle.std.specs.Prelude.{Option, Some, None, option_map}
use Rattle.design_lexer.specs.declared.tree.BodyTree.{BodyTree}
use Rattle.design_lexer.specs.declared.tree.BodyTree.TheVariants as tree
use Rattle.design_lexer.specs.declared.tree.BranchTree.{BranchTree}
use Rattle.design_lexer.specs.declared.tree.File.{File}
use Rattle.design_lexer.specs.declared.tree.File.TheVariants as file
use Rattle.design_lexer.specs.declared.tree.PortTree.{PortTree}
use Rattle.design_lexer.specs.declared.tree.RuleTree.{RuleTree}
use Rattle.design_model.specs.declared.expr.Constraint.{Constraint}
use Rattle.module_link.specs.Contents.{bare_sources}
use Rattle.module_link.specs.Links.{link_of, links_of, resolved_in}
use Rattle.name_table.specs.declared.source.SourceFile.{SourceFile}
use Rattle.order_core.specs.Pointwise.{Pointwise}
use Rattle.reference_meaning.specs.Linking.{IsBodyOf, IsLinkOf}
use Rattle.reference_meaning.specs.Sources.{Content, params_of}
use Rattle.reference_meaning.specs.declared.module.Link.{Link}
use Rattle.reference_meaning.specs.declared.module.ModuleBody.TheVariants as body
use Rattle.reference_meaning.specs.declared.module.Resolved.{Resolved}
use Rattle.tree_units.specs.Together.{with_first}
use Rattle.unit_check.specs.Declaring as declaring

-- The names of a file's parameters.
pub params_named : (f : File) → map (λ p. p.name.name) (declaring.params_of f) ≡ params_of f
params_named (file.Poset poset) = refl
params_named (file.Interface ports) = refl
params_named (file.Design b) = refl
params_named (file.Template params b) = refl

module _ (files : List SourceFile) (params : List (List ℕ)) where
  is_link : (b : BranchTree) (l : Link) → link_of files params b ≡ Some l → IsLinkOf (bare_sources files) params b l
  is_link b l e = go (resolved_in files params b.reference) refl e
    where
      go : (o : Option Resolved) → resolved_in files params b.reference ≡ o → option_map (λ r. record { name = b.name.name; reference = r }) o ≡ Some l → IsLinkOf (bare_sources files) params b l
      go (Some r) is h =
          let same : record { name = b.name.name; reference = r } ≡ l = cc in
          subst (IsLinkOf (bare_sources files) params b) same (record { name = refl; reference = is })
      go None is h = absurd (cc)

  pub are_links : (branches : List BranchTree) (links : List Link) → links_of files params branches ≡ Some links → Pointwise (IsLinkOf (bare_sources files) params) branches links
  are_links [] links e = let none : [] ≡ links = cc in subst (Pointwise (IsLinkOf (bare_sources files) params) []) none tt
  are_links (b ∷ bs) links e = go (link_of files params b) refl (links_of files params bs) refl (λ ls h. are_links bs ls h) e
    where
      go : (o : Option Link) → link_of files params b ≡ o → (t : Option (List Link)) → links_of files params bs ≡ t → ((ls : List Link) → links_of files params bs ≡ Some ls → Pointwise (IsLinkOf (bare_sources files) params) bs ls)
          → with_first o t ≡ Some links → Pointwise (IsLinkOf (bare_sources files) params) (b ∷ bs) links
      go (Some l) is (Some ls) all rest h = let same : l ∷ ls ≡ links = cc in subst (Pointwise (IsLinkOf (bare_sources files) params) (b ∷ bs)) same (is_link b l is, rest ls all)
      go (Some l) is None all rest h = absurd (cc)
      go None is t all rest h = absurd (cc)

  -- The body of a choice or of a net has the links of its branches or instances.
  pub choice_body : (c : Content) (b : BodyTree) (branches : List BranchTree) (links : List Link) → b ≡ tree.Choose branches → links_of files params branches ≡ Some links → IsBodyOf (bare_sources files) params c b (body.Choice links)
  choice_body c b branches links is e = subst (λ (t : BodyTree). IsBodyOf (bare_sources files) params c t (body.Choice links)) (sym is) (are_links branches links e)

  pub net_body : (c : Content) (b : BodyTree) (ports : List PortTree) (instances : List BranchTree) (rules : List RuleTree) (links : List Link) (constraints : List Constraint) → b ≡ tree.Net ports instances rules
      → links_of files params instances ≡ Some links → constraints ≡ c.constraints → IsBodyOf (bare_sources files) params c b (body.Net links constraints)
  net_body c b ports instances rules links constraints is e same = subst (λ (t : BodyTree). IsBodyOf (bare_sources files) params c t (body.Net links constraints)) (sym is) (are_links instances links e, same)
