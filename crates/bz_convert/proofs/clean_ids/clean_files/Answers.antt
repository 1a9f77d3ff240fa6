use Rattle.std.proofs.Common.{arith, length, ap, subst, sym}
use Rattle.std.proofs.lemmas.List.{length_push}
use Rattle.bz_convert.specs.Ids.{IsCleanFile}
use Rattle.bz_gsym_layout.proofs.MemberLemmas.{flags_more}
use Rattle.bz_convert.proofs.clean_ids.clean_files.Goals as goal

pub loop-id-preserved : goal.loop-id-preserved
loop-id-preserved c =
    let s = c.loop-id in
    record {
      count = omega (arith, s.invariant.count, ap length c.in_ok-push.ensures.items, length_push s.flags.items c.is_clean_file.result);
      clean = λ table read.
          flags_more (IsCleanFile table) s.flags.items c.push.new.self.items c.is_clean_file.result c.in_ok-push.ensures.items (s.invariant.clean table read)
          (λ is. subst (IsCleanFile table) (sym s.invariant.count) (c.is_clean_file.ensures is table read));
    }
