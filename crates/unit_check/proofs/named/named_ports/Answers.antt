use Rattle.std.proofs.Common.{◌≡◌, ◌∙◌, ◌<◌, ap, sym, subst, ℕ, List, [], length, map}
use Rattle.std.proofs.lemmas.List.{length-replicate}
use Rattle.std.specs.List.{flat_map}
use Rattle.std.specs.Prelude.{Some, is_some, slice_index_or}
use Rattle.design_lexer.specs.declared.tree.BranchTree.{BranchTree}
use Rattle.name_index.specs.Names.{number_of}
use Rattle.name_index.specs.PlaceLaws.{place_below}
use Rattle.unit_check.proofs.MarkLemmas.{any_mapped, tell_marked}
use Rattle.unit_check.proofs.PlaceLemmas.{same_place}
use Rattle.unit_check.specs.Connection.{is_of_part, placed, read}
use Rattle.unit_check.specs.Marks.{Marks, all_marked}
use Rattle.unit_check.proofs.named.named_ports.Goals as goal

pub mark_placed-requires : goal.mark_placed-requires
mark_placed-requires c = record {
  few = λ name k e.
      let within = place_below (λ (b : BranchTree). b.name.name) c.args.parts.now name k (sym (c.in_ok-numbers.ensures name) ∙ e) in
      subst (λ (n : ℕ). k < n) (sym (ap length c.in_ok-placed.ensures ∙ length-replicate (length c.args.parts.now) [])) within;
}

pub mark_read-requires : goal.mark_read-requires
mark_read-requires c = record {
  few = λ name k e.
      let within = place_below (λ (b : BranchTree). b.name.name) c.args.parts.now name k (sym (c.in_ok-numbers.ensures name) ∙ e) in
      subst (λ (n : ℕ). k < n) (sym (ap length c.in_ok-read.ensures ∙ length-replicate (length c.args.parts.now) [])) within;
}

pub returns : goal.returns
returns c =
    let parts = c.args.parts.now in
    let rules = c.args.rules.now in
    let find = number_of c.in_ok-numbers.numbers in
    let apart = λ (a b : List ℕ) (k : ℕ) (e : find a ≡ Some k) (f : find b ≡ Some k). same_place (λ (p : BranchTree). p.name.name) parts a b k (sym (c.in_ok-numbers.ensures a) ∙ e) (sym (c.in_ok-numbers.ensures b) ∙ f) in
    let within = λ (name : List ℕ) (k : ℕ) (e : find name ≡ Some k). place_below (λ (p : BranchTree). p.name.name) parts name k (sym (c.in_ok-numbers.ensures name) ∙ e) in
    let placed_are = c.of.ensures ∙ c.in_ok-mark_placed.ensures.marked ∙ ap (λ (m : Marks). all_marked find m (map placed rules)) c.in_ok-placed.ensures in
    let read_are = c.of-2.ensures ∙ c.in_ok-mark_read.ensures.marked ∙ ap (λ (m : Marks). all_marked find m (flat_map read rules)) c.in_ok-read.ensures in
    record {
      own = c.in_ok-own.ensures;
      found = c.in_ok-numbers.ensures;
      placed = λ part k e port.
          ap (λ (m : Marks). is_some (number_of (slice_index_or m k []) port)) placed_are ∙ tell_marked find apart (length parts) (map placed rules) within part k e port ∙ any_mapped (is_of_part part port) placed rules;
      read = λ part k e port.
          ap (λ (m : Marks). is_some (number_of (slice_index_or m k []) port)) read_are ∙ tell_marked find apart (length parts) (flat_map read rules) within part k e port;
    }
