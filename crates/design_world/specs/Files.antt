-- The files of a folder, and what is listed and read of them.
use Rattle.std.specs.Prelude.{◌≡◌, ℕ, ◌<◌, ◌≤◌, List, Option, Some, None, length, map, find}
use Rattle.std.specs.Str.{bytes_eq}
use Rattle.design_world.specs.declared.world.Content.{Content}
use Rattle.design_world.specs.declared.world.Content.TheVariants.{Whole, Longer}
use Rattle.order_core.specs.Members.{IsMember}

-- a file: its name and its bytes
pub record File : Type 0 where
  pub name : List ℕ
  pub bytes : List ℕ

-- the names of the files, in order
abbrev pub names_of : List File → List (List ℕ)
names_of files = map (λ file. file.name) files

-- the first file with the name
abbrev pub first_named : List File → List ℕ → Option File
first_named files name = find (λ file. bytes_eq name file.name) files

-- the same at every place
abbrev pub everywhere : {T : Type 0} → T → List ℕ → T
everywhere value place = value

-- the files at every place are as before
abbrev pub SameFiles : (List ℕ → Option (List File)) → (List ℕ → Option (List File)) → Type 0
SameFiles before now = (place : List ℕ) → now place ≡ before place

-- some file has the name
abbrev pub HasNamed : List File → List ℕ → Type 0
HasNamed files name = IsMember name (names_of files)

-- the names are those of the files, in order
abbrev pub GivesNames : List File → List (List ℕ) → Type 0
GivesNames files names = names ≡ names_of files

-- the content is all of the file's bytes where they are at most the limit, and Longer where they are more
abbrev pub GivesFile : Option File → ℕ → Content → Type 0
GivesFile None limit content = ⊥
GivesFile (Some file) limit (Whole bytes) = (length file.bytes ≤ limit) × (bytes ≡ file.bytes)
GivesFile (Some file) limit Longer = limit < length file.bytes

-- the content is that of the first file with the name
abbrev pub GivesContent : List File → List ℕ → ℕ → Content → Type 0
GivesContent files name limit content = GivesFile (first_named files name) limit content
