-- The inline tree of a symbol: the functions that were inlined into it, and which of them lie around an
-- address. After LLVM's documentation of the format (llvm::gsym::InlineInfo).
use Rattle.std.specs.Prelude.{ℕ, Bool, true, ◌+◌, ◌==◌, ◌&&◌, min, nat_lt, nat_le, List, [], ◌∷◌, ◌++◌, Option, Some, None, option_map, if◌then◌else◌}
use Rattle.std.specs.List.{list_any}
use Rattle.bz_base.specs.Span.{last_address}

-- what a node says before its children
pub record Head : Type 0 where
  pub ranges : List (ℕ × ℕ)  -- of each the offset and the size
  pub has_children : Bool
  pub name : ℕ  -- its place in the string table
  pub call_file : ℕ  -- the index of the file that it was called in
  pub call_line : ℕ

-- siblings, in the order of the bytes: the first with its children, and those after it
pub data Nodes : Type 0 where
  Ended : Nodes
  Node : (head : Head) → (children : Nodes) → (siblings : Nodes) → Nodes

-- a function around an address: the place of its name in the string table, and the file and the line
-- that it was called at
pub record Frame : Type 0 where
  pub name : ℕ
  pub call_file : ℕ
  pub call_line : ℕ

-- the count of ranges that ends siblings
abbrev pub no_ranges : ℕ
no_ranges = 0

-- the flag of a node without children; any other one says that children follow
abbrev pub no_children : ℕ
no_children = 0

-- the greatest number of 32 bits
abbrev pub last_index : ℕ
last_index = 4294967295

-- the end of a range fits 64 bits, and so does its start
abbrev pub fits : ℕ → ℕ × ℕ → Bool
fits base range = nat_le (base + range.0 + range.1) last_address

-- the address lies in the range: from its start on and before its end
abbrev pub has_inside : ℕ → ℕ → ℕ × ℕ → Bool
has_inside base addr range = nat_le (base + range.0) addr && nat_lt addr (base + range.0 + range.1)

-- each range fits
abbrev pub all_fit : ℕ → List (ℕ × ℕ) → Bool
all_fit base [] = true
all_fit base (range ∷ ranges) = fits base range && all_fit base ranges

-- the address lies in one of the ranges
abbrev pub some_has_inside : ℕ → ℕ → List (ℕ × ℕ) → Bool
some_has_inside base addr ranges = list_any (has_inside base addr) ranges

-- the start of the first range
abbrev pub first_start : ℕ → List (ℕ × ℕ) → ℕ
first_start base [] = base
first_start base (range ∷ ranges) = base + range.0

-- a node that is read has ranges in 64 bits and a call file in 32 bits
unfoldable pub is_sound : ℕ → Head → Bool
is_sound base head = all_fit base head.ranges && nat_le head.call_file last_index

-- a node matches an address that lies in one of its ranges
unfoldable pub matches : ℕ → ℕ → Head → Bool
matches base addr head = some_has_inside base addr head.ranges

-- what the offsets of a node's children count from
unfoldable pub children_base : ℕ → Head → ℕ
children_base base head = first_start base head.ranges

-- a frame, whose line is at most the greatest number of 32 bits: none for name 0
unfoldable pub frame_by : ℕ → ℕ → ℕ → Option Frame
frame_by name call_file call_line =
    if name == 0 then None
    else Some (record { name = name; call_file = call_file; call_line = min call_line last_index })

abbrev pub frame_of : Head → Option Frame
frame_of head = frame_by head.name head.call_file head.call_line

-- frames with one in front of them, if there is one
abbrev pub with_frame : Option Frame → List Frame → List Frame
with_frame None frames = frames
with_frame (Some frame) frames = frame ∷ frames

-- what both give, in order, where both give something
abbrev pub both : {A : Type 0} → Option (List A) → Option (List A) → Option (List A)
both None later = None
both (Some earlier) None = None
both (Some earlier) (Some later) = Some (earlier ++ later)

-- the frames at an address of siblings that are read, outermost first, where their offsets count from a
-- base. Each node that matches gives its own, and those of its children. None: a node that is read
-- isn't sound
abbrev pub frames : ℕ → ℕ → Nodes → Option (List Frame)
frames addr base Ended = Some []
frames addr base (Node head children siblings) =
    if is_sound base head
    then both
    (if matches base addr head
    then option_map (with_frame (frame_of head)) (frames addr (children_base base head) children)
    else Some [])
    (frames addr base siblings)
    else None
