-- The words that the program is given.
use Rattle.std.specs.Prelude.{ℕ, Bool, false, ◌&&◌, ◌==◌, not, cond, List, [], ◌∷◌, Option, Some, None, length, codes}
use Rattle.std.specs.Str.{bytes_eq}

-- what `solve` is asked
pub record Asked : Type 0 where
  pub place : List ℕ
  pub name : List ℕ
  pub query : List ℕ

-- a word that begins with `-` and isn't `-` alone
abbrev pub is_option : List ℕ → Bool
is_option [] = false
is_option (byte ∷ bytes) = byte == 45 && not (length bytes == 0)

-- The words are `solve FOLDER NAME QUERY`, and none of the last three is an option.
abbrev pub asked_by : List (List ℕ) → Option Asked
asked_by (command ∷ place ∷ name ∷ query ∷ []) =
    cond (bytes_eq command (codes "solve") && (not (is_option place) && (not (is_option name) && not (is_option query))))
    (Some (record { place = place; name = name; query = query })) None
asked_by words = None
