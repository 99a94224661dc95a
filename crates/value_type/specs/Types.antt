-- Posets that types may speak of.
use Rattle.std.specs.Prelude.{◌<◌, ◌^◌, ◌==◌, Bool, IsTrue, length}
use Rattle.std.specs.List.{list_all}
use Rattle.value_type.specs.declared.poset.Poset.{Poset}
use Rattle.value_type.specs.declared.poset.Types.{Types}

-- There are as many names as elements.
abbrev pub has_names : Poset → Bool
has_names p = length p.elements == length p.order.table

-- The posets can be counted in 32 bits, and each of their elements has its name.
pub record AreNamed (t : Types) : Type 0 where
  pub few : length t.posets < 2 ^ 32
  pub names : IsTrue (list_all has_names t.posets)
