use Rattle.std.proofs.Common.{refl, rules}
use Rattle.std.proofs.Math.ListN.{length-set}
use Rattle.bz_symq.proofs.TextsLemmas.{texts_more}
use Rattle.bz_symq.proofs.texts.Texts.make_one.Goals as goal

pub returns-clause-ok : goal.returns-clause-ok
returns-clause-ok c =
    let among = c.requires.among in
    record {
      texts = texts_more c.args.lookups.now c.args.self.now.first c.args.index _ _ c.args.self.now.parts.items (search rules) (search rules) c.in_ok-push_answer.ensures.ok among.from among.before
          (record { answer = _; there = c.requires.answer; is = rw c.addr.ensures refl });
      first = refl;
      count = length-set c.args.self.now.parts.items _ _;
    }
