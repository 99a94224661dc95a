-- What two facts of the value of an Ok give together.
use Rattle.std.specs.Prelude.{Result, Ok, Err, IfOk}

pub if_both : {X E : Type 0} (r : Result X E) (P Q S : X → Type 0) → ((x : X) → P x → Q x → S x) → IfOk r P → IfOk r Q → IfOk r S
if_both (Ok x) P Q S f p q = f x p q
if_both (Err e) P Q S f p q = tt
