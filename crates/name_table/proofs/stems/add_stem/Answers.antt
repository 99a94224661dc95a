use Rattle.std.proofs.Common.{ap}
use Rattle.fault_list.specs.AnswersLaws.{answers_weaker}
use Rattle.name_table.specs.Files.{is_design, is_interface, is_poset}
use Rattle.name_table.specs.Listing.{space_of}
use Rattle.name_table.proofs.StemLemmas.{stem_added, stem_kept, taken_same}
use Rattle.name_table.proofs.stems.add_stem.Goals as goal

pub returns-in-Poset : goal.returns-in-Poset
returns-in-Poset c = λ before h size.
    let f = c.args.file.now in
    let stems = c.args.stems.now in
    answers_weaker _ _ _ _ c.add_name.result (taken_same is_poset before f stems.posets h.posets (ap space_of c.in-Poset.is))
    (λ _ made. record {
      designs = stem_kept is_design before f stems.designs h.designs (ap is_design c.in-Poset.is);
      interfaces = stem_kept is_interface before f stems.interfaces h.interfaces (ap is_interface c.in-Poset.is);
      posets = λ stem. rw made (stem_added is_poset before f stems.posets h.posets c.args.number size (ap is_poset c.in-Poset.is) stem);
    }) c.add_name.ensures

pub returns-in-Interface : goal.returns-in-Interface
returns-in-Interface c = λ before h size.
    let f = c.args.file.now in
    let stems = c.args.stems.now in
    answers_weaker _ _ _ _ c.add_name-in-Interface.result (taken_same is_interface before f stems.interfaces h.interfaces (ap space_of c.in-Interface.is))
    (λ _ made. record {
      designs = stem_kept is_design before f stems.designs h.designs (ap is_design c.in-Interface.is);
      interfaces = λ stem. rw made (stem_added is_interface before f stems.interfaces h.interfaces c.args.number size (ap is_interface c.in-Interface.is) stem);
      posets = stem_kept is_poset before f stems.posets h.posets (ap is_poset c.in-Interface.is);
    }) c.add_name-in-Interface.ensures

pub returns-in-Design : goal.returns-in-Design
returns-in-Design c = λ before h size.
    let f = c.args.file.now in
    let stems = c.args.stems.now in
    answers_weaker _ _ _ _ c.add_name-in-Design.result (taken_same is_design before f stems.designs h.designs (ap space_of c.in-Design.is))
    (λ _ made. record {
      designs = λ stem. rw made (stem_added is_design before f stems.designs h.designs c.args.number size (ap is_design c.in-Design.is) stem);
      interfaces = stem_kept is_interface before f stems.interfaces h.interfaces (ap is_interface c.in-Design.is);
      posets = stem_kept is_poset before f stems.posets h.posets (ap is_poset c.in-Design.is);
    }) c.add_name-in-Design.ensures

pub returns-in-Template : goal.returns-in-Template
returns-in-Template c = λ before h size.
    let f = c.args.file.now in
    let stems = c.args.stems.now in
    answers_weaker _ _ _ _ c.add_name-in-Template.result (taken_same is_design before f stems.designs h.designs (ap space_of c.in-Template.is))
    (λ _ made. record {
      designs = λ stem. rw made (stem_added is_design before f stems.designs h.designs c.args.number size (ap is_design c.in-Template.is) stem);
      interfaces = stem_kept is_interface before f stems.interfaces h.interfaces (ap is_interface c.in-Template.is);
      posets = stem_kept is_poset before f stems.posets h.posets (ap is_poset c.in-Template.is);
    }) c.add_name-in-Template.ensures
