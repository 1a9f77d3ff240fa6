use Rattle.bz_files.proofs.StampHashing.{u64-apart, i64-apart}
use Rattle.bz_files.proofs.laws.stamp_hash_agrees.Goals as goal

-- what is fed of each field tells it apart
pub returns-clause-apart : goal.returns-clause-apart
returns-clause-apart c = λ a b a_fits b_fits same. record {
  dev = u64-apart a.dev b.dev a_fits.dev b_fits.dev cc;
  inode = u64-apart a.inode b.inode a_fits.inode b_fits.inode cc;
  size = u64-apart a.size b.size a_fits.size b_fits.size cc;
  mtime_sec = i64-apart a.mtime_sec b.mtime_sec a_fits.mtime_sec b_fits.mtime_sec cc;
  mtime_nsec = i64-apart a.mtime_nsec b.mtime_nsec a_fits.mtime_nsec b_fits.mtime_nsec cc;
}
