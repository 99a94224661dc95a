use Rattle.std.proofs.Common.{◌∙◌, ap, subst, ℕ, List, map}
use Rattle.design_lexer.specs.declared.tree.ParamTree.{ParamTree}
use Rattle.module_link.proofs.LinkLemmas.{params_named}
use Rattle.module_link.specs.Links.{Finds, links_of}
use Rattle.reference_meaning.specs.declared.module.Link.{Link}
use Rattle.module_link.proofs.body.file_links.Goals as goal

pub returns : goal.returns
returns c =
    let params = ap (map (λ (p : ParamTree). p.name.name)) (c.in_ok-params.ensures ∙ c.params_of.ensures) ∙ params_named c.args.tree.now in
    subst (λ (names : List (List ℕ)). Finds {A = List Link} (links_of c.args.names.now.files names c.args.branches.now) c.links_of.result) params c.links_of.ensures
