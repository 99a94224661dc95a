use Rattle.design_lexer.specs.CutLaws.{first_bad_same, never_both, tokens_same}
use Rattle.design_lexer.proofs.laws.texts_are_cut_in_one_way.Goals as goal

pub returns-clause-tokens : goal.returns-clause-tokens
returns-clause-tokens c = tokens_same

pub returns-clause-place : goal.returns-clause-place
returns-clause-place c = first_bad_same

pub returns-clause-never_both : goal.returns-clause-never_both
returns-clause-never_both c = never_both
