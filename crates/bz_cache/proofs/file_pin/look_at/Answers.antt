use Rattle.std.proofs.Common.{◌≡◌, rules}
use Rattle.std.proofs.lemmas.Bool.{false≢true}
use Rattle.std.proofs.lemmas.Result.{err_from_is_err_and}
use Rattle.bz_cache.proofs.file_pin.look_at.Goals as goal

-- the look was refused
pub returns-in_err-_version : goal.returns-in_err-_version
returns-in_err-_version g c =
    let same = err_from_is_err_and c.from_residual.result c.from_residual.ensures.1 in
    let kept : c.entry.follows.lender-at-none ≡ c.args.cache.now = search rules in
    let looked = c.in_err-_version.ensures in
    rw (same.1, same.2) (record {
      answer = looked.answer;
      lent = tt;
      err = kept;
      sure = λ held. absurd (false≢true (looked.sure held));
      unmoved = looked.unmoved;
      reads = record { opened = λ world seen. tt; spared = looked.reads.spared; most = looked.reads.most };
      looked = looked.files;
      refusal = looked.refusal;
    })
