use Rattle.std.proofs.Common.{◌≡◌, ◌+◌, length, arith, vec_len}
use Rattle.bz_requests.specs.InputText.{greatest_input}
use Rattle.bz_requests.proofs.InputTextLemmas.{left_past, read_whole, moves_within}
use Rattle.bz_requests.proofs.input.read_input.Goals as goal

-- one byte past the greatest length was read
pub returns-clause-past : goal.returns-clause-past
returns-clause-past g c text left long =
    let counted : length c.loop-input.all.items ≡ greatest_input + 1 = omega (arith, c.loop-input.all.ok.0, c.loop-input.invariant.1, c.len.ensures, c.loop-input-test.false) in
    left_past _ _ c.loop-input.all.items text (greatest_input + 1) c.loop-input.invariant.0 counted left

-- nothing was left to read
pub returns-then-branch-eq0-clause-whole : goal.returns-then-branch-eq0-clause-whole
returns-then-branch-eq0-clause-whole g c text left =
    let piece = c.in_ok-read_piece.ensures.piece in
    let read = read_whole _ _ _ c.loop-input.all.items piece.0 text c.loop-input.invariant.0 piece.3 (λ rest told. c.in_ok-read_piece.ensures.end rest told c.if-branch-eq0.true) left in
    rw piece.2 read.0

pub returns-then-branch-eq0-clause-end : goal.returns-then-branch-eq0-clause-end
returns-then-branch-eq0-clause-end g c text left =
    let piece = c.in_ok-read_piece.ensures.piece in
    let read = read_whole _ _ _ c.loop-input.all.items piece.0 text c.loop-input.invariant.0 piece.3 (λ rest told. c.in_ok-read_piece.ensures.end rest told c.if-branch-eq0.true) left in
    read.1

-- the read that failed kept to its room
pub returns-in_err-read_piece-clause-bounded : goal.returns-in_err-read_piece-clause-bounded
returns-in_err-read_piece-clause-bounded g c =
    moves_within _ _ _ c.loop-input.all.items (vec_len c.loop-input.all) (omega (arith, c.loop-input.all.ok.0)) c.loop-input.invariant.1 c.loop-input.invariant.0 c.in_err-read_piece.ensures.bounded
