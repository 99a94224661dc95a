use Rattle.std.proofs.Common.{◌∙◌, ap, sym, List}
use Rattle.design_lexer.specs.declared.tree.BranchTree.{BranchTree}
use Rattle.module_link.proofs.LinkLemmas.{choice_body, net_body}
use Rattle.module_link.specs.Contents.{content_of}
use Rattle.module_link.specs.Links.{links_of}
use Rattle.name_table.specs.SmallLaws.{small_at}
use Rattle.reference_meaning.specs.Sources.{params_of}
use Rattle.module_link.proofs.body.body_of.Goals as goal

pub file_links-requires : goal.file_links-requires
file_links-requires c = record { small = small_at c.args.names.now.files c.args.number c.args.file.now c.args.names.now.small c.requires.number }

pub file_links-requires-in-Net : goal.file_links-requires-in-Net
file_links-requires-in-Net c = record { small = small_at c.args.names.now.files c.args.number c.args.file.now c.args.names.now.small c.requires.number }

pub returns-in_ok-branches-in-Choose-clause-body : goal.returns-in_ok-branches-in-Choose-clause-body
returns-in_ok-branches-in-Choose-clause-body c =
    let names = c.args.names.now in
    let params = params_of c.args.file.now.tree in
    choice_body names.files params (content_of names.files names.types c.args.number c.args.file.now c.args.rows) c.args.body.now c.in-Choose.branches c.in_ok-branches-in-Choose.branches c.in-Choose.is
    (ap (λ (bs : List BranchTree). links_of names.files params bs) (sym c.items.ensures) ∙ c.in_ok-branches-in-Choose.ensures)

pub returns-in_ok-constraints-in-Net-clause-body : goal.returns-in_ok-constraints-in-Net-clause-body
returns-in_ok-constraints-in-Net-clause-body c =
    let names = c.args.names.now in
    let params = params_of c.args.file.now.tree in
    net_body names.files params (content_of names.files names.types c.args.number c.args.file.now c.args.rows) c.args.body.now c.in-Net.ports c.in-Net.parts c.in-Net.rules c.in_ok-parts-in-Net.parts c.in_ok-constraints-in-Net.constraints c.in-Net.is
    (ap (λ (bs : List BranchTree). links_of names.files params bs) (sym c.items-in-Net.ensures) ∙ c.in_ok-parts-in-Net.ensures) c.in_ok-constraints-in-Net.ensures.constraints
