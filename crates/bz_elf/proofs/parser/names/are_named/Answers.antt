use Rattle.std.proofs.Common.{ap, ◌∙◌}
use Rattle.std.specs.List.{list_all}
use Rattle.std.proofs.lemmas.List.Sorted.{IsNonDecreasingBy-from_sort}
use Rattle.bz_elf.specs.Names.{is_name_at}
use Rattle.bz_elf.proofs.PassLemmas.{passes_alike}
use Rattle.bz_elf.proofs.parser.names.are_named.Goals as goal

pub are_names-requires : goal.are_names-requires
are_names-requires c = rw c.as_slice.ensures.value (IsNonDecreasingBy-from_sort (λ x. x) _ c.sort_unstable.ensures.sorted)

pub returns-clause-ok : goal.returns-clause-ok
returns-clause-ok c =
    let test = is_name_at c.args.strings.now in
    c.are_names.ensures
    ∙ ap (list_all test) c.as_slice.ensures.value
    ∙ passes_alike test _ _ c.sort_unstable.ensures.permutation
    ∙ rw c.in-Some.is at c.in_ok-places.ensures.some
