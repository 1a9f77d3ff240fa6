use Rattle.std.proofs.Common.{◌<◌, ℕ, List, length, option_map, ap, sym, ◌∙◌, arith}
use Rattle.std.specs.List.{slice_get}
use Rattle.std.specs.Map.Iter.{deref}
use Rattle.bz_breakpad_table.proofs.IdLemmas.{nth_some, nth_taken}
use Rattle.bz_breakpad_table.proofs.names.nth_id.Goals as goal

pub unwrap-requires : goal.unwrap-requires
unwrap-requires c =
    let within : c.args.index < length c.keys.result = omega (arith, c.requires, c.keys.ensures.len) in
    nth_some deref c.keys.result c.args.index c.nth.result c.nth.new.self within c.nth.ensures.ran

pub returns : goal.returns
returns c =
    let ids = c.keys.result in
    let within : c.args.index < length ids = omega (arith, c.requires, c.keys.ensures.len) in
    ap (λ (list : List ℕ). slice_get list c.args.index) (sym c.keys.ensures.rest)
    ∙ sym (nth_taken deref ids c.args.index c.nth.result c.nth.new.self within c.nth.ensures.ran)
    ∙ ap (option_map deref) c.unwrap.ensures
