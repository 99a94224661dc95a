use Rattle.std.proofs.Common.{◌+◌, ◌*◌, arith}
use Rattle.reference_meaning.proofs.SoundLemmas.{denotes_some, falls_sound}
use Rattle.reference_meaning.proofs.laws.falling_references_denote.Goals as goal

pub returns : goal.returns
returns c = λ sources rank k ranked params bindings match_ r q f.
    let n = r * (k + 1) + k in
    let some = denotes_some sources n params bindings match_ q (falls_sound sources rank k ranked n k r params q f (omega arith)) in (some.0, (n, some.1))
