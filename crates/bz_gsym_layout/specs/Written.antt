-- Why a plan isn't laid out.
use Rattle.std.specs.Prelude.{◌≡◌, ℕ, ◌^◌, ◌≤◌}
use Rattle.bz_gsym_layout.specs.declared.error.LayoutError.{LayoutError}
use Rattle.bz_gsym_layout.specs.declared.error.LayoutError.TheVariants.{TooLarge, OutOfMemory}

-- a file of so many bytes is refused where 32 bits don't count them, which is told; want of memory
-- refuses any
abbrev pub Refuses : LayoutError → ℕ → Type 0
Refuses (TooLarge bytes) len = (bytes ≡ len) × (2 ^ 32 ≤ len)
Refuses OutOfMemory len = Unit {0}
