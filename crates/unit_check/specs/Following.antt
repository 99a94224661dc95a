-- What is followed, as a list.
use Rattle.std.specs.Prelude.{◌≡◌, ◌<◌, ℕ, List, Option, length, option_and_then, slice_get, slice_index}
use Rattle.name_table.specs.declared.source.SourceFile.{SourceFile}
use Rattle.unit_check.specs.Declaring.{declaring}

-- the item at a place, if there is one and it has something
abbrev pub next_at : List (Option ℕ) → ℕ → Option ℕ
next_at nexts i = option_and_then (λ next. next) (slice_get nexts i)

-- Each file's number is that of the file that declares its ports.
pub record AreDeclaring (files : List SourceFile) (numbers : List ℕ) : Type 0 where
  pub size : length numbers ≡ length files
  pub each : (i : ℕ) → i < length files → slice_index numbers i ≡ declaring files i
