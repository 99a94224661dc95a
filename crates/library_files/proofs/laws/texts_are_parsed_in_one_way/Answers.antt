use Rattle.library_files.proofs.OneWayLemmas.{all_parsed_same, all_written, never_both}
use Rattle.library_files.proofs.laws.texts_are_parsed_in_one_way.Goals as goal

pub returns : goal.returns
returns c = record { one = all_parsed_same c.tokens_write_one_tree.ensures.files; written = all_written; never_both = never_both }
