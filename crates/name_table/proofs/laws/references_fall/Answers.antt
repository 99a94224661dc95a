use Rattle.name_table.proofs.laws.references_fall.Goals as goal

pub returns : goal.returns
returns c = c.args.names.now.indexed.ranks_are
