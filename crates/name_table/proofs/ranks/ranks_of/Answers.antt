use Rattle.std.proofs.Common.{◌∙◌, arith, ap, refl, sym, ℕ, List, length}
use Rattle.std.proofs.lemmas.Option.{slice_get_read}
use Rattle.std.specs.Prelude.{Some}
use Rattle.name_table.proofs.CircularLemmas.{first_circular, none_circular}
use Rattle.name_table.specs.References.{circular}
use Rattle.name_table.specs.declared.source.SourceFile.{SourceFile}
use Rattle.order_core.specs.WalkLaws.{pair_within}
use Rattle.reachability.specs.ReachLaws.{first_comes_back, none_comes_back, rank_at_most, rank_falls}
use Rattle.name_table.proofs.ranks.ranks_of.Goals as goal

pub returns-in-Some : goal.returns-in-Some
returns-in-Some c =
    let files = c.args.files.now in
    let n = length files in
    let back = first_comes_back n c.args.pairs.now c.in_ok-reach.reach c.in_ok-reach.ensures c.in-Some.number c.in-Some.ensures in
    let got = slice_get_read files n c.in-Some.number c.index-files-number.result refl back.within c.index-files-number.is in
    first_circular n c.args.pairs.now c.requires.pairs c.in-Some.number back c.in-Some.number 0 files c.index-files-number.result (omega arith) got
    ∙ ap (λ (f : SourceFile). Some (circular f.name)) c.index-files-number.is ∙ ap (λ (name : List ℕ). Some (circular name)) (sym c.in_ok-file.ensures)

pub returns : goal.returns
returns c =
    let n = length c.args.files.now in
    let pairs = c.args.pairs.now in
    let none = none_comes_back n pairs c.in_ok-reach.reach c.in_ok-reach.ensures c.in_default.ensures in (
      none_circular n pairs c.requires.pairs none 0 c.args.files.now (omega arith),
      record {
        fall = λ a b m.
            let within = pair_within n pairs c.requires.pairs a b m in
            let ranks = c.loop-number.invariant.1 in
            let falls = rank_falls n pairs c.in_ok-reach.reach c.in_ok-reach.ensures none a b m within.1 in
            let one = ranks a (omega (arith, within.0, c.loop-number-test.false)) in
            let two = ranks b (omega (arith, within.1, c.loop-number-test.false)) in
            rw (c.of-2.ensures, one, two) falls;
        within = λ a l.
            let one = c.loop-number.invariant.1 a (omega (arith, l, c.loop-number-test.false)) in
            rw (c.of-2.ensures, one) (rank_at_most n pairs c.in_ok-reach.reach c.in_ok-reach.ensures a);
      },
    )
