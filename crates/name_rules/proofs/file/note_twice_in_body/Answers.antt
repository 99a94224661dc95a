use Rattle.std.proofs.Common.{[], ◌++◌, map}
use Rattle.design_lexer.specs.declared.tree.BranchTree.{BranchTree}
use Rattle.design_lexer.specs.declared.tree.RowTree.{RowTree}
use Rattle.name_rules.specs.Twice.{branch_repeats, port_repeats, repeats, shared}
use Rattle.order_core.specs.ResultLaws.{on_ok}
use Rattle.name_rules.proofs.NoteLemmas.{noted_both}
use Rattle.name_rules.proofs.file.note_twice_in_body.Goals as goal

pub returns-in_ok-note_twice_ports-in-Catalogue : goal.returns-in_ok-note_twice_ports-in-Catalogue
returns-in_ok-note_twice_ports-in-Catalogue c =
    let of_ports = rw c.items.ensures at c.in_ok-note_twice_ports-in-Catalogue.ensures in
    let of_rows = rw c.items-in-Catalogue.ensures at c.note_twice.ensures in
    rw c.in-Catalogue.is (on_ok _ _ c.note_twice.result
    (noted_both (port_repeats c.in-Catalogue.ports) (repeats [] (map (λ (r : RowTree). r.name) c.in-Catalogue.rows)) c.args.first.now c.note_twice_ports.new.first c.note_twice.new.first of_ports) of_rows)

pub returns-in_ok-note_twice-in-Choose : goal.returns-in_ok-note_twice-in-Choose
returns-in_ok-note_twice-in-Choose c =
    let of_names = rw c.items-in-Choose.ensures at c.in_ok-note_twice-in-Choose.ensures in
    let of_references = rw c.items-in-Choose-2.ensures at c.note_twice_branches.ensures in
    rw c.in-Choose.is (on_ok _ _ c.note_twice_branches.result
    (noted_both (repeats [] (map (λ (b : BranchTree). b.name) c.in-Choose.branches)) (branch_repeats c.in-Choose.branches) c.args.first.now c.note_twice-in-Choose.new.first c.note_twice_branches.new.first of_names) of_references)

pub returns-in_ok-note_shared-in-Net : goal.returns-in_ok-note_shared-in-Net
returns-in_ok-note_shared-in-Net c =
    let ports = c.in-Net.ports in
    let parts = c.in-Net.parts in
    let names = repeats [] (map (λ (b : BranchTree). b.name) parts) in
    let first = c.args.first.now in
    let second = c.note_twice_ports-in-Net.new.first in
    let third = c.note_twice-in-Net.new.first in
    let fourth = c.note_shared.new.first in
    let last = c.note_twice_branches-in-Net.new.first in
    let of_ports = rw c.items-in-Net.ensures at c.in_ok-note_twice_ports-in-Net.ensures in
    let of_names = rw c.items-in-Net-2.ensures at c.in_ok-note_twice-in-Net.ensures in
    let of_shared = rw (c.items-in-Net-3.ensures, c.items-in-Net-4.ensures) at c.in_ok-note_shared-in-Net.ensures in
    let of_references = rw c.items-in-Net-5.ensures at c.note_twice_branches-in-Net.ensures in
    let two = noted_both (port_repeats ports) names first second third of_ports of_names in
    let three = noted_both (port_repeats ports ++ names) (shared ports parts) first third fourth two of_shared in
    rw c.in-Net.is (on_ok _ _ c.note_twice_branches-in-Net.result (noted_both (port_repeats ports ++ names ++ shared ports parts) (branch_repeats parts) first fourth last three) of_references)
