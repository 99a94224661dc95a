use Rattle.std.proofs.Common.{◌∙◌, ap, sym}
use Rattle.library_files.specs.Names.{ending_of}
use Rattle.library_files.proofs.NameLemmas.{recognised_ends}
use Rattle.library_files.proofs.source.parts.Goals as goal

pub unreachable-requires : goal.unreachable-requires
unreachable-requires c = recognised_ends c.args.name.now c.requires (ap ending_of (sym c.as_str.ensures) ∙ c.in-None.ensures)
