-- What the ranges of a node (llvm::gsym::InlineInfo) say of an address, from the first on.
use Rattle.std.specs.Prelude.{ℕ, Bool, false, ◌||◌, ◌==◌, nat_le, List, Option, Some, None, option_map, if◌then◌else◌}
use Rattle.bz_base.specs.Bind.{◌>>=◌}
use Rattle.bz_gsym.specs.InlineTree.{last_index, all_fit, some_has_inside, first_start, frame_by}
use Rattle.bz_gsym.specs.declared.inline.node.Level.TheVariants.{PassedOver, Read}
use Rattle.bz_gsym.specs.InlineWalk.{Visit}
use Rattle.bz_gsym.specs.InlineReader.{ranges_at, Tail, tail_at}

-- whether the address lies in one, and where the first one starts
abbrev pub Span : Type 0
Span = Bool × ℕ

-- what ranges say, where so many were read before, one of which may have the address inside, and the
-- first of which starts there
abbrev pub span_from : ℕ → ℕ → ℕ → Bool → ℕ → List (ℕ × ℕ) × List ℕ → Option (Span × List ℕ)
span_from addr base seen covers start ranges =
    if all_fit base ranges.0
    then Some ((covers || some_has_inside base addr ranges.0, if seen == 0 then first_start base ranges.0 else start), ranges.1)
    else None

-- what so many ranges say. None: bytes are missing, or a range doesn't fit
unfoldable pub span_at : ℕ → ℕ → ℕ → List ℕ → Option (Span × List ℕ)
span_at addr base count bytes = ranges_at count bytes >>= span_from addr base 0 false base

-- the bytes after so many ranges
abbrev pub after_ranges : ℕ → List ℕ → Option (List ℕ)
after_ranges count bytes = option_map (λ ranges. ranges.1) (ranges_at count bytes)

-- what a node gives after its ranges. None: its call file passes 32 bits
abbrev pub read_by : Span → Tail × List ℕ → Option (Visit × List ℕ)
read_by span tail =
    if nat_le tail.0.call_file last_index
    then Some (
      record {
        frame = if span.0 then frame_by tail.0.name tail.0.call_file tail.0.call_line else None;
        inside = if tail.0.has_children then Some (if span.0 then Read span.1 else PassedOver) else None;
      },
      tail.1,
    )
    else None

-- what a node with so many ranges gives, where it is read
unfoldable pub read_at : ℕ → ℕ → ℕ → List ℕ → Option (Visit × List ℕ)
read_at addr base count bytes = do
  span ← span_at addr base count bytes
  tail ← tail_at span.1
  read_by span.0 tail
