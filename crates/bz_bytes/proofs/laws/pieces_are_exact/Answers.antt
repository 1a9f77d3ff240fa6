use Rattle.std.proofs.Common.{ℕ, sym, subst}
use Rattle.bz_bytes.specs.Cursor.{IsNextAligned}
use Rattle.bz_bytes.proofs.PieceOfBytesLemmas.{slice_found, slice_spelled, word_found, word_spelled, cstr_front, cstr_spelled, padding_is, aligned_is}
use Rattle.bz_bytes.proofs.laws.pieces_are_exact.Goals as goal

pub returns-clause-slice : goal.returns-clause-slice
returns-clause-slice c count bytes slice rest = (slice_found count bytes slice rest, slice_spelled count bytes slice rest)

pub returns-clause-word : goal.returns-clause-word
returns-clause-word c size bytes value rest = (word_found size bytes value rest, word_spelled size bytes value rest)

pub returns-clause-cstr : goal.returns-clause-cstr
returns-clause-cstr c bytes text rest = (cstr_front bytes text rest, cstr_spelled bytes text rest)

pub returns-clause-aligned : goal.returns-clause-aligned
returns-clause-aligned c place aligned =
    let P : ℕ → Type 0 = IsNextAligned place in
    (λ is. subst P (sym is) (padding_is place), aligned_is place aligned)
