use Rattle.std.proofs.Common.{◌++◌}
use Rattle.name_rules.specs.Unknown.{branches_unknown, ports_unknown, rules_unknown, table_unknown}
use Rattle.name_rules.proofs.NoteLemmas.{noted_both}
use Rattle.name_rules.proofs.unknown.file.note_unknown_in_body.Goals as goal

pub returns-in-Catalogue : goal.returns-in-Catalogue
returns-in-Catalogue g c =
    let known = g.L.Library.known c.args.library.now in
    let of_ports = rw c.items.ensures at c.note_unknown_ports.ensures in
    rw c.in-Catalogue.is (noted_both (ports_unknown known c.in-Catalogue.ports) (table_unknown known c.in-Catalogue.table) c.args.first.now c.note_unknown_ports.new.first c.note_unknown_table.new.first of_ports c.note_unknown_table.ensures)

pub returns-in_ok-note_unknown_branches-in-Net : goal.returns-in_ok-note_unknown_branches-in-Net
returns-in_ok-note_unknown_branches-in-Net g c =
    let known = g.L.Library.known c.args.library.now in
    let ports = ports_unknown known c.in-Net.ports in
    let parts = branches_unknown known c.args.params.now c.in-Net.parts in
    let rules = rules_unknown known c.in-Net.rules in
    let first = c.args.first.now in
    let second = c.note_unknown_ports-in-Net.new.first in
    let third = c.note_unknown_branches-in-Net.new.first in
    let last = c.note_unknown_in_rules.new.first in
    let of_ports = rw c.items-in-Net.ensures at c.note_unknown_ports-in-Net.ensures in
    let of_parts = rw c.items-in-Net-2.ensures at c.in_ok-note_unknown_branches-in-Net.ensures in
    let of_rules = rw c.items-in-Net-3.ensures at c.note_unknown_in_rules.ensures in
    rw c.in-Net.is (noted_both (ports ++ parts) rules first third last (noted_both ports parts first second third of_ports of_parts) of_rules)
