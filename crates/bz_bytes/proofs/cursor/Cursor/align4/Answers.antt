use Rattle.std.proofs.Common.{Some, None, ap, ◌∙◌}
use Rattle.bz_bytes.specs.Cursor.{padding, skip_at}
use Rattle.bz_bytes.proofs.CursorLemmas.{skip_of}
use Rattle.bz_bytes.proofs.cursor.Cursor.align4.Goals as goal

pub returns-in_err-read_slice-clause-reads : goal.returns-in_err-read_slice-clause-reads
returns-in_err-read_slice-clause-reads c =
    rw c.from_residual.ensures
    (skip_of c.padding.result c.args.self.now.left c.read_slice.new.self.left None c.in_err-read_slice.ensures.reads
    ∙ ap (λ n. skip_at n c.args.self.now.left) (c.padding.ensures ∙ ap padding c.place.ensures.place))

pub returns-clause-reads : goal.returns-clause-reads
returns-clause-reads c =
    skip_of c.padding.result c.args.self.now.left c.read_slice.new.self.left (Some c.in_ok-read_slice.field-0.now) c.in_ok-read_slice.ensures.reads
    ∙ ap (λ n. skip_at n c.args.self.now.left) (c.padding.ensures ∙ ap padding c.place.ensures.place)
