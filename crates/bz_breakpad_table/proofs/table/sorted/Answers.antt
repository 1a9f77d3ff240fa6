use Rattle.std.proofs.Common.{map, ap, subst, ◌∙◌}
use Rattle.std.proofs.lemmas.List.{length-map}
use Rattle.bz_breakpad_table.specs.FunctionKeys.{AreSortedKeys}
use Rattle.bz_breakpad_table.specs.Kept.{function_seen}
use Rattle.bz_breakpad_table.specs.declared.types.FunctionKey.{FunctionKey}
use Rattle.bz_breakpad_table.proofs.NestedLemmas.{nested_length}
use Rattle.bz_breakpad_table.proofs.table.sorted.Goals as goal

pub returns-clause-ok : goal.returns-clause-ok
returns-clause-ok c =
    let code = c.args.kept.now.code in
    let functions = code.functions.items in (
      λ bytes table nested fits. record {
        module_is = ap (λ t. t.«module») nested.same;
        count = nested_length table.functions _ nested.functions ∙ length-map functions (function_seen bytes code);
        functions = nested.functions;
        keys = subst (λ fs. AreSortedKeys fs c.in_ok-kept.field-0.items) c.deref.ensures.value c.in_ok-kept.ensures.keys;
        files = ap (λ t. t.files) nested.same;
        origins = ap (λ t. t.origins) nested.same;
        publics = ap (λ t. t.publics) nested.same;
        fits = record {
          module_fits = fits.module_fits;
          functions = fits.functions;
          files = fits.files;
          origins = fits.origins;
          publics = fits.publics;
        };
      },
      c.in_ok-starts.ensures ∙ ap (map (λ (k : FunctionKey). k.start)) c.deref-2.ensures.value,
    )
