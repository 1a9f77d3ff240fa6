use Rattle.std.proofs.Common.{[], refl, rules}
use Rattle.std.proofs.lemmas.Result.{err_from_is_err_and}
use Rattle.bz_cache.proofs.Looking.{current_kept}
use Rattle.bz_cache.proofs.file_cache.FileCache.entry.Goals as goal

pub version-requires : goal.version-requires
version-requires g c = current_kept g.T.Version.test c.look.new.self c.args.path.now c.in_ok-stamp.stamp [] c.in_ok-stamp.ensures.cache.consistent c.in_ok-stamp.ensures.cache.current

-- the refusal of the look, with all that the look says of it
pub returns-in_err-stamp : goal.returns-in_err-stamp
returns-in_err-stamp g c =
    let same = err_from_is_err_and c.from_residual.result c.from_residual.ensures.1 in
    let look = c.in_err-stamp.ensures in
    ((refl, λ _. tt, search rules), rw (same.1, same.2) (look.answer, (λ held. (look.fixed held).0, (λ held. (look.fixed held).2, (look.unmoved, (record { opened = look.files.reads.opened; spared = look.files.reads.spared; most = look.files.reads.most }, (look.files.looked, look.refusal)))))))
