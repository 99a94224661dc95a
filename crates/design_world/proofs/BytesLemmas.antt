-- The bytes that are left in a source and those written to a sink, where they are told.
use Rattle.std.proofs.Common.{◌≡◌, ℕ, ◌+◌, ◌++◌, List, [], Option, Some, None, take, drop, refl, append_assoc, append-nil, ap, sym}
use Rattle.std.proofs.Math.Seq.{take-add}
use Rattle.design_world.specs.Bytes.{followed, preceded}

-- no bytes before the told ones leave them as they are
pub preceded-nil : (rest : Option (List ℕ)) → preceded [] rest ≡ rest
preceded-nil None = refl
preceded-nil (Some rest) = refl

-- bytes before bytes before the told ones
pub preceded-append : (xs ys : List ℕ) (rest : Option (List ℕ)) → preceded xs (preceded ys rest) ≡ preceded (xs ++ ys) rest
preceded-append xs ys None = refl
preceded-append xs ys (Some rest) = ap Some (sym (append_assoc xs ys rest))

-- no bytes after the told ones leave them as they are
pub followed-nil : (written : Option (List ℕ)) → followed written [] ≡ written
followed-nil None = refl
followed-nil (Some written) = ap Some (append-nil written)

-- bytes after bytes after the told ones
pub followed-append : (written : Option (List ℕ)) (xs ys : List ℕ) → followed (followed written xs) ys ≡ followed written (xs ++ ys)
followed-append None xs ys = refl
followed-append (Some written) xs ys = ap Some (append_assoc written xs ys)

-- the first bytes and then the first ones of the rest are first bytes
pub followed-take : (written : Option (List ℕ)) (bytes : List ℕ) (start count : ℕ) → followed (followed written (take start bytes)) (take count (drop start bytes)) ≡ followed written (take (start + count) bytes)
followed-take written bytes start count = rw (followed-append, ← take-add) refl
