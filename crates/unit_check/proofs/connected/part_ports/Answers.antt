use Rattle.std.proofs.Common.{◌∙◌, sym}
use Rattle.unit_check.specs.PortLaws.{named_file_below}
use Rattle.unit_check.proofs.connected.part_ports.Goals as goal

pub ports_at-requires-clause-file : goal.ports_at-requires-clause-file
ports_at-requires-clause-file c = named_file_below c.args.names.now.files c.args.params.now.trees.now c.as_str.result.now c.in-Some.file (sym c.file.ensures ∙ c.in-Some.is)
