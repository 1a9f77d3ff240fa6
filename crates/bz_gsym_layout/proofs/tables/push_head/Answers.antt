use Rattle.bz_gsym_layout.proofs.HeadLemmas.{head_written}
use Rattle.bz_gsym_layout.proofs.PassTurns.{on_ok}
use Rattle.bz_gsym_layout.proofs.tables.push_head.Goals as goal

pub returns-clause-ok : goal.returns-clause-ok
returns-clause-ok c =
    let a = c.args in
    on_ok c.push_zeros.result _ _ (λ ended.
    head_written a.count a.strings_at a.strings_len a.out.now.items c.push_word.new.out.items c.push_short.new.out.items c.push.new.self.items c.push-2.new.self.items
    c.push_long.new.out.items c.push_low_word.new.out.items c.push_low_word-2.new.out.items c.push_low_word-3.new.out.items c.push_zeros.new.out.items
    c.in_ok-push_word.ensures.ok c.in_ok-push_short.ensures.ok c.in_ok-push.ensures.items c.in_ok-push-2.ensures.items
    c.in_ok-push_long.ensures.ok c.in_ok-push_low_word.ensures.ok c.in_ok-push_low_word-2.ensures.ok c.in_ok-push_low_word-3.ensures.ok ended) c.push_zeros.ensures.ok
