use Rattle.std.proofs.Common.{Some, None}
use Rattle.bz_bytes.proofs.CursorLemmas.{byte_of}
use Rattle.bz_bytes.proofs.cursor.Cursor.read_u8.Goals as goal

pub returns-in_err-bytes-clause-reads : goal.returns-in_err-bytes-clause-reads
returns-in_err-bytes-clause-reads c =
    rw c.from_residual.ensures (byte_of c.args.self.now.left c.read_slice.new.self.left None c.in_err-bytes.ensures.reads)

pub returns-clause-reads : goal.returns-clause-reads
returns-clause-reads c = byte_of c.args.self.now.left c.read_slice.new.self.left (Some c.in_ok-bytes.bytes.now) c.in_ok-bytes.ensures.reads
