-- The text of a path: how a directory and a file are joined, and how a path is split into them.
use Rattle.std.specs.Prelude.{◌≡◌, ◌⊎◌, ◌≢◌, ℕ, ◌-◌, ◌<◌, Bool, true, false, not, ◌==◌, ◌&&◌, List, [], ◌∷◌, ◌++◌, length, slice_get, codes, Option, Some, None, if◌then◌else◌}
use Rattle.std.specs.List.{AllByRecursion, slice_split, join_with_byte}
use Rattle.bz_bytes.specs.Byte.{HasNo, begins_with}

-- the byte between the pieces of a path
abbrev pub slash : ℕ
slash = 47

abbrev pub begins_with_slash : List ℕ → Bool
begins_with_slash path = begins_with (λ b. b == slash) path

abbrev pub last_byte : List ℕ → Option ℕ
last_byte text = slice_get text (length text - 1)

-- the slash between a directory and a file, by the directory's last byte: none if it is empty or ends
-- in a slash
abbrev pub slash_after : Option ℕ → List ℕ
slash_after None = []
slash_after (Some last) = if last == slash then [] else codes "/"

-- the joined path of a file, which stands alone if it has no directory or begins with a slash
abbrev pub path_text : Option (List ℕ) → List ℕ → List ℕ
path_text None file = file
path_text (Some dir) file = if begins_with_slash file then file else dir ++ (slash_after (last_byte dir) ++ file)

-- the byte of the piece that stays where it is
abbrev pub dot : ℕ
dot = 46

-- the path of the root
abbrev pub root : List ℕ
root = slash ∷ []

-- the text is these pieces, with a slash between each two
pub record ArePieces (text : List ℕ) (all : List (List ℕ)) : Type 0 where
  pub positive : 0 < length all
  pub whole : text ≡ join_with_byte slash all
  pub no_slash : AllByRecursion (HasNo slash) all

-- whether a piece is dead: it is empty, or it is a dot and isn't the text's first piece
abbrev pub is_dead : Bool → List ℕ → Bool
is_dead first [] = true
is_dead first (b ∷ []) = b == dot && not first
is_dead first (b ∷ c ∷ piece) = false

-- all of the pieces are dead; the flag says whether the first of them is the text's first piece
abbrev pub AreDead : Bool → List (List ℕ) → Type 0
AreDead first [] = Unit {0}
AreDead first (piece ∷ pieces) = (is_dead first piece ≡ true) × AreDead false pieces

-- a piece is the text's first one if none come before it
abbrev pub is_first : List (List ℕ) → Bool
is_first [] = true
is_first (piece ∷ before) = false

-- of the pieces of a text this is the last live one, and these come before it
pub record IsLastLive (all before : List (List ℕ)) (piece : List ℕ) : Type 0 where
  pub after : List (List ℕ)
  pub parts : all ≡ before ++ piece ∷ after
  pub live : is_dead (is_first before) piece ≡ false
  pub dead : AreDead false after

-- the text from its start to the end of a piece that these come before
abbrev pub text_to : List (List ℕ) → List ℕ → List ℕ
text_to before piece = join_with_byte slash (before ++ piece ∷ [])

-- these pieces come before the file. The directory is the text to the end of the last live one of them.
-- Where none is live, it is the root if the text begins with a slash, and else there is none
abbrev pub IsDirectory : List ℕ → List (List ℕ) → Option (List ℕ) → Type 0
IsDirectory text before None = AreDead true before × (begins_with_slash text ≡ false)
IsDirectory text before (Some directory) =
    ((earlier : List (List ℕ)) × (piece : List ℕ) × IsLastLive before earlier piece × (directory ≡ text_to earlier piece))
    ⊎ (AreDead true before × (begins_with_slash text ≡ true) × (directory ≡ root))

-- the file is the last live one of the text's pieces. Where none is live, it is the root and has no
-- directory, if the text begins with a slash
pub record IsSplit (text : List ℕ) (directory : Option (List ℕ)) (file : List ℕ) : Type 0 where
  pub all : List (List ℕ)
  pub are_pieces : ArePieces text all
  pub file_is :
      ((before : List (List ℕ)) × IsLastLive all before file × IsDirectory text before directory)
      ⊎ (AreDead true all × (begins_with_slash text ≡ true) × (file ≡ root) × (directory ≡ None))

-- the pieces of a text, which is cut at each slash
abbrev pub pieces : List ℕ → List (List ℕ)
pieces text = slice_split (λ b. b == slash) text

-- the last live one of a piece and those after it, with the pieces before it
abbrev pub live_of : Bool → List ℕ → Option (List (List ℕ) × List ℕ) → Option (List (List ℕ) × List ℕ)
live_of first piece None = if is_dead first piece then None else Some ([], piece)
live_of first piece (Some found) = Some (piece ∷ found.0, found.1)

-- the last live one of the pieces, with those before it
abbrev pub last_live : Bool → List (List ℕ) → Option (List (List ℕ) × List ℕ)
last_live first [] = None
last_live first (piece ∷ pieces) = live_of first piece (last_live false pieces)

-- the directory, by whether the text begins with a slash and by the last live piece before the file
abbrev pub directory_of : Bool → Option (List (List ℕ) × List ℕ) → Option (List ℕ)
directory_of rooted None = if rooted then Some root else None
directory_of rooted (Some found) = Some (text_to found.0 found.1)

-- directory and file, by whether the text begins with a slash and by its last live piece
abbrev pub split_by : Bool → Option (List (List ℕ) × List ℕ) → Option (Option (List ℕ) × List ℕ)
split_by rooted None = if rooted then Some (None, root) else None
split_by rooted (Some found) = Some (directory_of rooted (last_live true found.0), found.1)

-- directory and file of a path
abbrev pub split : List ℕ → Option (Option (List ℕ) × List ℕ)
split text = split_by (begins_with_slash text) (last_live true (pieces text))

-- a text without its last piece and the slash before it, where that piece is dead
abbrev pub CutsDead : List ℕ → List ℕ → Type 0
CutsDead text front = (text ≡ front ++ slash ∷ []) ⊎ (text ≡ front ++ slash ∷ dot ∷ [])

-- the text has no such piece at its end: it is empty, or its last piece is live
pub record EndsLive (text : List ℕ) : Type 0 where
  pub no_slash : (front : List ℕ) → text ≢ front ++ slash ∷ []
  pub no_dot : (front : List ℕ) → text ≢ front ++ slash ∷ dot ∷ []
