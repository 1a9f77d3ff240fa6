-- What was found for the addresses of a batch.
use Rattle.std.proofs.Common.{◌≡◌, ◌<◌, ◌∙◌, ℕ, Bool, true, false, List, [], ◌∷◌, ◌++◌, length, nat_lt, slice_index, slice_index_or, Some, refl, ap, arith}
use Rattle.std.proofs.Math.ListN.{get_or-append}
use Rattle.std.proofs.Math.Seq.{get_or-append_seam}
use Rattle.std.proofs.lemmas.Bool.{ltb-false, ltb-true}
use Rattle.std.proofs.lemmas.List.{length-append}
use Rattle.bz_breakpad.specs.Found.{IsRecordFor}
use Rattle.bz_breakpad.specs.Reader.{table_in}
use Rattle.bz_breakpad.specs.Table.{Table}
use Rattle.bz_breakpad.specs.declared.found.FoundRecord.{FoundRecord}
use Rattle.bz_breakpad.specs.declared.found.FoundRecord.TheVariants as found
use Rattle.bz_lookups.specs.Found.{AreFound, AreFoundIn, IsFoundIn}
use Rattle.bz_lookups.specs.Batch.{Version, BreakpadVersion, GsymVersion, ElfVersion}

-- a record for one address more stands behind those for others
found_more : (bytes some : List ℕ) (of_some : List FoundRecord) (addr : ℕ) (given : FoundRecord) → AreFound bytes some of_some → IsFoundIn (BreakpadVersion bytes) addr given →
    AreFound bytes (some ++ addr ∷ []) (of_some ++ given ∷ [])
found_more bytes some of_some addr given so_far is = record {
  count = omega (arith, so_far.count, length-append some (addr ∷ []), length-append of_some (given ∷ []));
  answer = λ table read n before. by_place table read n before (nat_lt n (length some)) refl;
}
  where
    by_place : (table : Table) → table_in bytes ≡ Some table → (n : ℕ) → n < length (some ++ addr ∷ []) → (b : Bool) → nat_lt n (length some) ≡ b →
        IsRecordFor table (slice_index (some ++ addr ∷ []) n) (slice_index_or (of_some ++ given ∷ []) n found.Absent)
    by_place table read n before true test =
        let inside : n < length some = omega (arith, ltb-true n (length some) test) in
        rw (get_or-append some (addr ∷ []) 0 n inside, get_or-append of_some (given ∷ []) found.Absent n (omega (arith, so_far.count, inside))) (so_far.answer table read n inside)
    by_place table read n before false test =
        let last : n ≡ length some = omega (arith, ltb-false n (length some) test, before, length-append some (addr ∷ [])) in
        let behind : n ≡ length of_some = omega (arith, last, so_far.count) in
        let here = ap (slice_index (some ++ addr ∷ [])) last ∙ get_or-append_seam some addr [] 0 in
        let there = ap (λ m. slice_index_or (of_some ++ given ∷ []) m found.Absent) behind ∙ get_or-append_seam of_some given [] found.Absent in
        rw (here, there) (is table read)

pub found_behind : (version : Version) (some : List ℕ) (of_some : List FoundRecord) (addr : ℕ) (given : FoundRecord) → AreFoundIn version some of_some → IsFoundIn version addr given →
    AreFoundIn version (some ++ addr ∷ []) (of_some ++ given ∷ [])
found_behind (BreakpadVersion bytes) some of_some addr given so_far is = found_more bytes some of_some addr given so_far is
found_behind (GsymVersion bytes) some of_some addr given so_far is = tt
found_behind (ElfVersion path bytes kind) some of_some addr given so_far is = tt

-- the record of an index is the one of the version for the address there
pub found_there : (addrs : List ℕ) (records : List FoundRecord) (k : ℕ) → k < length addrs → (version : Version) → AreFoundIn version addrs records →
    IsFoundIn version (slice_index addrs k) (slice_index_or records k found.Absent)
found_there addrs records k within (BreakpadVersion bytes) are = λ table is. are.answer table is k within
found_there addrs records k within (GsymVersion bytes) are = tt
found_there addrs records k within (ElfVersion path bytes kind) are = tt
