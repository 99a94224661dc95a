use Rattle.std.proofs.Common.{◌≡◌, ◌∙◌, ◌<◌, ◌*◌, ◌/◌, ◌%◌, ◌^◌, ◌||◌, ℕ, List, length, sym, ap, subst, get_or, set, nat_eq, bit_or, w64}
use Rattle.std.proofs.lemmas.List.{get_or_default}
use mir.Val.{bits}
use Rattle.reachability.specs.BitSets.{has_in}
use Rattle.reachability.proofs.BitSetLemmas.{has_in-inserted}
use Rattle.reachability.proofs.bits.BitSet.insert.Goals as goal

pub returns-clause-has : goal.returns-clause-has
returns-clause-has c = λ x.
    let words = c.self.inside.words.items in
    let number = c.args.number in
    let within : number / 64 < length words = subst (λ (z : List ℕ). number / 64 < length z) (sym c.self.view_is) c.requires in
    let word : c.index_mut.result.now ≡ get_or words (number / 64) 0 = c.index_mut.ensures.value ∙ get_or_default words (number / 64) _ 0 within in
    ap (λ (w : ℕ). has_in (set words (number / 64) (bit_or w (1 * 2 ^ (number % 64) % 2 ^ bits w64))) x) word
    ∙ has_in-inserted words number within x
    ∙ ap (λ (z : List ℕ). has_in z x || nat_eq x number) c.self.view_is
