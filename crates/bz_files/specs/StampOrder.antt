-- When two stamps are equal, and which comes first.
use Rattle.std.specs.Prelude.{◌≡◌, ◌<◌, ◌^◌, FitsSigned}
use Rattle.std.specs.Int.{w64}
use Rattle.std.specs.Ordering.{nat_cmp, int_cmp, ordering_then}
use Rattle.std.specs.declared.cmp.Ordering.{Ordering}
use Rattle.bz_files.specs.declared.stamp.Stamp.{Stamp}

-- every field of one stamp is that of the other
pub record SameFields (a b : Stamp) : Type 0 where
  pub dev : a.dev ≡ b.dev
  pub inode : a.inode ≡ b.inode
  pub size : a.size ≡ b.size
  pub mtime_sec : a.mtime_sec ≡ b.mtime_sec
  pub mtime_nsec : a.mtime_nsec ≡ b.mtime_nsec

-- every field is in the range of its type
pub record FieldsFit (s : Stamp) : Type 0 where
  pub dev : s.dev < 2 ^ 64
  pub inode : s.inode < 2 ^ 64
  pub size : s.size < 2 ^ 64
  pub mtime_sec : FitsSigned w64 s.mtime_sec
  pub mtime_nsec : FitsSigned w64 s.mtime_nsec

-- the order of the first field that differs
abbrev pub by_fields : Stamp → Stamp → Ordering
by_fields a b =
    ordering_then (nat_cmp a.dev b.dev)
    (ordering_then (nat_cmp a.inode b.inode)
    (ordering_then (nat_cmp a.size b.size)
    (ordering_then (int_cmp a.mtime_sec b.mtime_sec)
    (int_cmp a.mtime_nsec b.mtime_nsec))))
