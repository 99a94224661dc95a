use Rattle.library_load.proofs.OneWayLemmas.{AreOne, accepted_one, never_both, refused_one}
use Rattle.library_load.proofs.laws.libraries_are_judged_in_one_way.Goals as goal

pub returns : goal.returns
returns c =
    let one : AreOne = record {
      taken = c.files_are_taken_in_one_way.ensures.one;
      parsed = c.texts_are_parsed_in_one_way.ensures.one;
      written = c.texts_are_parsed_in_one_way.ensures.written;
      texts = c.texts_have_one_fault.ensures;
      no_text = c.texts_are_parsed_in_one_way.ensures.never_both;
      posets = c.files_have_one_list_of_posets.ensures;
      rows = c.files_have_one_bad_row.ensures.one;
      no_row = c.files_have_one_bad_row.ensures.never_both;
      designs = c.names_have_one_design.ensures.one;
    } in
    record { accepted = accepted_one one; refused = refused_one one; never_both = never_both one }
