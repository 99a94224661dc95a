use Rattle.std.proofs.Common.{◌≡◌, ◌∙◌, ap, refl, sym}
use Rattle.std.proofs.lemmas.Result.{err_from_is_err_and}
use Rattle.std.specs.Prelude.{Some, option_map}
use Rattle.module_link.proofs.FindLemmas.{found_next, found_stopped}
use Rattle.module_link.proofs.ResolveLemmas.{finds_stopped, spelled}
use Rattle.module_link.specs.Links.{link_of, resolved_in}
use Rattle.reference_meaning.specs.declared.module.Link.{Link}
use Rattle.reference_meaning.specs.declared.module.Resolved.{Resolved}
use Rattle.module_link.proofs.linking.links_of.Goals as goal

pub returns-in_err-reference : goal.returns-in_err-reference
returns-in_err-reference c =
    let files = c.args.names.now.files in
    let params = spelled c.args.params.now.trees.now in
    let b = c.branch-item.result in
    let s = c.in_err-reference.field-0.0 in
    let p = err_from_is_err_and c.from_residual-in_err-reference.result c.from_residual-in_err-reference.ensures.1 in
    rw (p.1, p.2) (found_stopped (link_of files params) c.args.branches.now c.loop-branch.branch-index b c.loop-branch-test.true c.branch-item.is c.loop-branch.made.items _ c.loop-branch.invariant s
    (finds_stopped {A = Resolved} {B = Link} (λ r. record { name = b.name.name; reference = r }) (resolved_in files params b.reference) (link_of files params b) refl s c.in_err-reference.ensures))

pub loop-branch-preserved : goal.loop-branch-preserved
loop-branch-preserved c =
    let files = c.args.names.now.files in
    let params = spelled c.args.params.now.trees.now in
    let b = c.branch-item.result in
    let named : Resolved → Link = λ r. record { name = b.name.name; reference = r } in
    let r = c.in_ok-reference.reference in
    let copied : named r ≡ record { name = c.in_ok-name.name; reference = r } = λ i. record { name = sym c.in_ok-name.ensures i; reference = r } in
    found_next (link_of files params) c.args.branches.now c.loop-branch.branch-index b c.loop-branch-test.true c.branch-item.is c.loop-branch.made.items _ c.loop-branch.invariant (record { name = c.in_ok-name.name; reference = r }) _
    (ap (option_map named) c.in_ok-reference.ensures ∙ ap (λ (l : Link). Some l) copied) c.in_ok-push.ensures.items
