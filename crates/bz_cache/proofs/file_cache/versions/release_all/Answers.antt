use Rattle.std.proofs.Common.{sym, ◌∙◌}
use Rattle.bz_cache.proofs.Releasing.{kept_again, kept_once, left_again, left_once, named_last}
use Rattle.bz_cache.proofs.file_cache.versions.release_all.Goals as goal

-- a stamp that the path names is kept
pub release_one-requires : goal.release_one-requires
release_one-requires g c =
    c.loop-stamp.invariant.kept c.in-Some.stamp (named_last c.loop-stamp.held.current c.in-Some.stamp c.loop-stamp.held.earlier.items c.pop.new.self.items c.in-Some.ensures.items)

-- the stamp is named no more
pub loop-stamp-preserved-then-not-names : goal.loop-stamp-preserved-then-not-names
loop-stamp-preserved-then-not-names g c =
    let alone = sym c.names.ensures ∙ c.if-not-names.true in
    record {
      left = λ s.
          c.loop-stamp.invariant.left s
          ∙ left_once c.loop-stamp.held.current c.in-Some.stamp c.loop-stamp.held.earlier.items c.pop.new.self.items c.in-Some.ensures.items alone s _ _ (c.release_one.ensures s);
      kept = λ s named.
          kept_once c.loop-stamp.held.current c.in-Some.stamp c.loop-stamp.held.earlier.items c.pop.new.self.items c.in-Some.ensures.items alone s _ _ (c.release_one.ensures s)
          (c.loop-stamp.invariant.kept s) named;
    }

-- the stamp is named besides
pub loop-stamp-preserved : goal.loop-stamp-preserved
loop-stamp-preserved g c =
    let besides = sym c.names.ensures ∙ c.if-not-names.false in
    record {
      left = λ s.
          c.loop-stamp.invariant.left s
          ∙ left_again c.loop-stamp.held.current c.in-Some.stamp c.loop-stamp.held.earlier.items c.pop.new.self.items c.in-Some.ensures.items besides s _;
      kept = λ s named.
          c.loop-stamp.invariant.kept s (kept_again c.loop-stamp.held.current c.in-Some.stamp c.loop-stamp.held.earlier.items c.pop.new.self.items c.in-Some.ensures.items s named);
    }
