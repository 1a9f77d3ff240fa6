-- Lines of an input, each of which says one item; lines without content say none, and are skipped.
use Rattle.std.specs.Prelude.{◌≡◌, ◌⊎◌, ◌↔◌, ℕ, ◌+◌, ◌-◌, nat_eq, List, [], ◌∷◌, ◌++◌, length, take, flat_map, Option, Some, None, option_map, option_to_list, Result, Ok, Err, if◌then◌else◌}
use Rattle.std.specs.List.{AllByRecursion, AllZip, ends_with}
use Rattle.bz_base.specs.Byte.{carriage_return}
use Rattle.bz_base.specs.Line.{AreLines, all_lines}

-- the line ends in a carriage return
abbrev pub EndsInReturn : List ℕ → Type 0
EndsInReturn line = (front : List ℕ) × (line ≡ front ++ carriage_return ∷ [])

-- a line's content: the line without the one carriage return that ends it, or the whole line where none
-- does
abbrev pub IsContent : List ℕ → List ℕ → Type 0
IsContent line content = (line ≡ content ++ carriage_return ∷ []) ⊎ ((line ≡ content) × ¬ EndsInReturn line)

-- what a content that isn't empty spells, as a relation
module _ {A : Type 0} (Spells : List ℕ → A → Type 0) where
  -- what a line says: nothing where its content is empty, so that it is skipped, and else the item that
  -- its content spells
  abbrev pub Says : List ℕ → Option A → Type 0
  Says line None = IsContent line []
  Says line (Some item) = (b : ℕ) × (content : List ℕ) × IsContent line (b ∷ content) × Spells (b ∷ content) item

  -- the line is empty or spells an item
  abbrev pub IsWellFormed : List ℕ → Type 0
  IsWellFormed line = (said : Option A) × Says line said

  -- the items are those that the lines of the text say, in order
  pub record AreItems (text : List ℕ) (items : List A) : Type 0 where
    pub lines : List (List ℕ)
    pub said : List (Option A)
    pub are_lines : AreLines text lines
    pub each : AllZip Says lines said
    pub in_order : items ≡ flat_map option_to_list said

  -- line n of the text is the first that isn't well formed; all lines count, the skipped ones too, from
  -- 1
  pub record IsFirstBad (text : List ℕ) (n : ℕ) : Type 0 where
    pub before : List (List ℕ)
    pub line : List ℕ
    pub after : List (List ℕ)
    pub are_lines : AreLines text (before ++ line ∷ after)
    pub well_formed : AllByRecursion IsWellFormed before
    pub bad : ¬ IsWellFormed line
    pub number : n ≡ length before + 1

  -- some line of the text isn't well formed
  abbrev pub HasBadLine : List ℕ → Type 0
  HasBadLine text = (n : ℕ) × IsFirstBad text n

-- a reader reads what contents spell: of a content that isn't empty it reads an item exactly where the
-- content spells it
abbrev pub ReadsAsSpelled : {A : Type 0} → (List ℕ → Option A) → (List ℕ → A → Type 0) → Type 0
ReadsAsSpelled {A} reads Spells = (b : ℕ) (content : List ℕ) (item : A) → (reads (b ∷ content) ≡ Some item) ↔ Spells (b ∷ content) item

-- the line without the one carriage return that may end it
abbrev pub content_of : List ℕ → List ℕ
content_of line = if ends_with nat_eq line (carriage_return ∷ []) then take (length line - 1) line else line

-- items in front of those that follow, if what follows is well formed
abbrev pub in_front : {A : Type 0} → List A → Result (List A) ℕ → Result (List A) ℕ
in_front front (Ok items) = Ok (front ++ items)
in_front front (Err n) = Err n

-- what line n says in front of what follows, or its number where it isn't well formed
abbrev pub with_said : {A : Type 0} → ℕ → Option (Option A) → Result (List A) ℕ → Result (List A) ℕ
with_said n None others = Err n
with_said n (Some said) others = in_front (option_to_list said) others

-- what a content that isn't empty spells, as a reader finds it
module _ {A : Type 0} (reads : List ℕ → Option A) where
  -- what a content says, if it is empty or spells an item
  abbrev pub said_in : List ℕ → Option (Option A)
  said_in [] = Some None
  said_in (b ∷ text) = option_map (λ item. Some item) (reads (b ∷ text))

  -- the items of the lines, or the number of the first that isn't well formed; the lines are numbered
  -- from n
  abbrev pub read_lines : ℕ → List (List ℕ) → Result (List A) ℕ
  read_lines n [] = Ok []
  read_lines n (line ∷ lines) = with_said n (said_in (content_of line)) (read_lines (n + 1) lines)

  -- the items of the text, or the number of its first bad line. That they are those of the relations
  -- above, where reader and relation agree, is a law of this crate.
  abbrev pub items_in : List ℕ → Result (List A) ℕ
  items_in text = read_lines 1 (all_lines text)
