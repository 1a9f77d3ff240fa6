-- A plan of one function with one line is well formed.
use Rattle.std.proofs.Common.{◌≡◌, ℕ, zero, suc, ◌<◌, List, [], ◌∷◌, ◌++◌, length, map, Some, refl, sym, ap, subst, ◌∙◌, arith}
use Rattle.std.specs.Prelude.{codes}
use Rattle.std.specs.List.{slice_get}
use Rattle.std.proofs.lemmas.Option.{none-some, same_Some}
use Rattle.bz_gsym_layout.specs.Indexed.{AreFiles, AreFunctions, IsFunction, IsPlan, call_of, code_of, codes_of, row_of, source_of, sources_listed, text_at, texts_listed}
use Rattle.bz_gsym_layout.specs.InOrder.{AreInOrder, NeverBefore, depth_of}
use Rattle.bz_gsym_layout.specs.Nesting.Forest.{NoCalls}
use Rattle.bz_gsym_layout.specs.Nesting.{map_forest, nested}
use Rattle.bz_gsym_layout.specs.Numbering.{sources_in, texts_in}
use Rattle.bz_gsym_layout.specs.Pass.{AreWithin}
use Rattle.bz_gsym_layout.specs.Plan.{Code, Source}
use Rattle.bz_gsym_layout.specs.RowPass.{AreSourced}
use Rattle.bz_gsym_layout.specs.declared.plan.Function.{Function}
use Rattle.bz_gsym_layout.specs.declared.plan.Node.{Node}
use Rattle.bz_gsym_layout.specs.declared.plan.Plan.{Plan}
use Rattle.bz_gsym_layout.specs.declared.plan.Row.{Row}
use Rattle.bz_gsym_layout.specs.declared.plan.SourceFile.{SourceFile}

abbrev pub texts : List (List ℕ)
texts = codes "another func" ∷ [] ∷ codes "bar.c" ∷ []

abbrev pub source : SourceFile
source = record { dir = 1; name = 2 }

abbrev pub row : Row
row = record { addr = 4096; source = 0; line = 7 }

abbrev sources : List Source
sources = source_of texts source ∷ []

abbrev code : Code
code = record { start = 4096; size = 48; name = codes "another func"; rows = row_of texts sources row ∷ []; calls = NoCalls }

-- an item that is pushed to a list without items is its only one
pub pushed : {A : Type 0} (now old : List A) (x : A) → old ≡ [] → now ≡ old ++ (x ∷ []) → now ≡ x ∷ []
pushed now old x none is = is ∙ ap (λ l. l ++ (x ∷ [])) none

no_order : (start : ℕ) → AreInOrder start []
no_order start = record {
  first = λ x there. absurd (none-some x there);
  down = λ i x y at_x at_y. absurd (none-some x at_x);
  from = λ i x there. absurd (none-some x there);
  ascend = λ i j x y less at_x at_y. absurd (none-some x at_x);
}

module _ (plan : Plan) (f : Function) (texts_are : texts_listed plan ≡ texts) (many : length plan.texts.items ≡ 3) (sources_are : plan.sources.items ≡ source ∷ [])
    (functions_are : plan.functions.items ≡ f ∷ []) (start_is : f.start ≡ 4096) (size_is : f.size ≡ 48) (name_is : f.name ≡ 0) (rows_are : f.rows.items ≡ row ∷ [])
    (calls_are : f.calls.items ≡ []) where
  code_is : code_of texts sources f ≡ code
  code_is = rw (start_is, size_is, name_is, rows_are, calls_are) refl

  listed_are : sources_listed plan ≡ sources
  listed_are = ap (λ t. map (source_of t) plan.sources.items) texts_are ∙ ap (map (source_of texts)) sources_are

  codes_are : codes_of plan ≡ code ∷ []
  codes_are =
      ap (map (code_of (texts_listed plan) (sources_listed plan))) functions_are ∙ ap (λ t. code_of t (sources_listed plan) f ∷ []) texts_are
      ∙ ap (λ s. code_of texts s f ∷ []) listed_are ∙ ap (λ c. c ∷ []) code_is

  texts_found : texts ≡ texts_in (code ∷ [])
  texts_found = refl

  sources_found : sources ≡ sources_in (code ∷ [])
  sources_found = refl

  one_source : (s : SourceFile) (i : ℕ) → slice_get (source ∷ []) i ≡ Some s → (s.dir < 3) × (s.name < 3)
  one_source s zero there = let e = same_Some source s there in (omega (arith, ap (λ (s : SourceFile). s.dir) e), omega (arith, ap (λ (s : SourceFile). s.name) e))
  one_source s (suc i) there = absurd (none-some s there)

  one_row : AreSourced 1 (row ∷ [])
  one_row zero r there = omega (arith, ap (λ (r : Row). r.source) (same_Some row r there))
  one_row (suc i) r there = absurd (none-some r there)

  from_start : NeverBefore 4096 (row ∷ [])
  from_start = (omega arith, tt)

  no_calls : AreWithin 3 1 []
  no_calls i x there = absurd (none-some x there)

  function_is : IsFunction 3 1 f
  function_is = record {
    name = omega (arith, name_is);
    rows = subst (AreSourced 1) (sym rows_are) one_row;
    calls = subst (AreWithin 3 1) (sym calls_are) no_calls;
    ascend = subst (λ n. NeverBefore n f.rows.items) (sym start_is) (subst (NeverBefore 4096) (sym rows_are) from_start);
    order = subst (AreInOrder f.start) (sym calls_are) (no_order f.start);
  }

  one_function : (g : Function) (i : ℕ) → slice_get (f ∷ []) i ≡ Some g → IsFunction 3 1 g
  one_function g zero there = subst (IsFunction 3 1) (same_Some f g there) function_is
  one_function g (suc i) there = absurd (none-some g there)

  files_are : AreFiles 3 (source ∷ [])
  files_are i s there = one_source s i there

  functions_found : AreFunctions 3 1 (f ∷ [])
  functions_found i g there = one_function g i there

  pub one_line_is : IsPlan plan
  one_line_is = record {
    texts = texts_are ∙ texts_found ∙ ap texts_in (sym codes_are);
    sources = listed_are ∙ sources_found ∙ ap sources_in (sym codes_are);
    files = subst (λ n. AreFiles n plan.sources.items) (sym many) (subst (AreFiles 3) (sym sources_are) files_are);
    functions = subst (λ n. AreFunctions n (length plan.sources.items) plan.functions.items) (sym many)
        (subst (λ n. AreFunctions 3 n plan.functions.items) (sym (ap length sources_are)) (subst (AreFunctions 3 1) (sym functions_are) functions_found));
  }
