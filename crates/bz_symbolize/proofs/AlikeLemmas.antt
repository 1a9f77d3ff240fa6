-- What the answers of calls on one version in view have to do with each other.
use Rattle.std.proofs.Common.{◌≡◌, ℕ, Bool, true, false, cond, List, [], ◌∷◌, map, slice_get, option_map, Option, Some, None, Result, Ok, Err, refl, sym, ap, subst, ◌∙◌}
use Rattle.std.specs.List.Sorted.{IsPermutation}
use Rattle.std.proofs.lemmas.Option.{slice_get-map}
use Rattle.std.proofs.lemmas.List.Sorted.{IsPermutation-map}
use Rattle.bz_base.specs.Answer.{Answer, in_batch}
use Rattle.bz_base.specs.InputKind.{AddressKind}
use Rattle.bz_base.specs.declared.error.Error.{Error}
use Rattle.bz_base.specs.declared.error.Error.TheVariants as errors
use Rattle.bz_base.specs.declared.types.FindSymOpts.{FindSymOpts}
use Rattle.bz_cache.specs.View.{View, Absent, Hidden, Shown}
use Rattle.bz_lookups.specs.Formats.{HandedSource}
use Rattle.bz_symbolize.proofs.Formats.{any_file, on_each}
use Rattle.bz_symbolize.proofs.PromiseLemmas.{IsFormatOf}
use Rattle.bz_symbolize.specs.Alike.{batch_in_view, single_in_view, StandsAlone, AreAlike, IsFolded, EntriesStandAlone, OrderMovesAnswers, BatchesFoldRefusals, HandedStandAlone, OrderMovesHanded, HandedFold}
use Rattle.bz_symbolize.specs.FileCall.{batch_of, by_view, shown_answer, single_of}
use Rattle.bz_symbolize.specs.Promise.{IsAnswerOf}
use Rattle.bz_symbolize.specs.Sources.{FileSource, SourceForm, OneFile, Handed, OneProcess, OnFile, OnHanded, OnHandedForm, asked_of, form_of}
use Rattle.bz_symbolize.specs.declared.source.Source.{Source}

-- an address of some kind
abbrev Address : Type 0
Address = AddressKind × ℕ

-- the version that answers a batch: bytes in view, in the format, whose kind of address is taken and
-- served
record Answered (file : FileSource) (opts : FindSymOpts) (kind : AddressKind) (shown : View) (addrs : List ℕ) (answers : List Answer) : Type 0 where
  bytes : List ℕ
  in_view : shown ≡ Shown bytes
  formed : file.test bytes ≡ None
  taken : file.answering.takes kind ≡ true
  served : file.answering.serves kind ≡ true
  plain : answers ≡ map (λ addr. in_batch (file.answering.single opts file.path bytes kind addr)) addrs

module _ (file : FileSource) (opts : FindSymOpts) (kind : AddressKind) where
  -- what a version answers, or refuses, at an address alone
  abbrev at : List ℕ → ℕ → Result Answer Error
  at bytes addr = file.answering.single opts file.path bytes kind addr

  -- a batch that is answered is answered by the version in view
  answered : (shown : View) (addrs : List ℕ) (answers : List Answer) → batch_in_view file opts kind shown addrs ≡ Ok answers → Answered file opts kind shown addrs answers
  answered shown addrs answers is = by_taken (file.answering.takes kind) refl is
    where
      by_serves : (bytes : List ℕ) (s : Bool) → shown ≡ Shown bytes → file.test bytes ≡ None → file.answering.takes kind ≡ true → file.answering.serves kind ≡ s →
          cond s (Ok (map (λ addr. in_batch (at bytes addr)) addrs)) (Err errors.Unsupported) ≡ Ok answers → Answered file opts kind shown addrs answers
      by_serves bytes true seen formed taken serves given = record { bytes = bytes; in_view = seen; formed = formed; taken = taken; served = serves; plain = cc }
      by_serves bytes false seen formed taken serves given = cc

      by_tested : (bytes : List ℕ) (t : Option Error) → shown ≡ Shown bytes → file.test bytes ≡ t → file.answering.takes kind ≡ true →
          shown_answer (asked_of file opts (batch_of kind addrs)) (Shown bytes) ≡ Ok answers → Answered file opts kind shown addrs answers
      by_tested bytes None seen formed taken given = by_serves bytes (file.answering.serves kind) seen formed taken refl (rw (taken, formed) at given)
      by_tested bytes (Some e) seen formed taken given = let refused = rw (taken, formed) at given in cc

      by_seen : (v : View) → shown ≡ v → file.answering.takes kind ≡ true → by_view (asked_of file opts (batch_of kind addrs)) v ≡ Ok answers → Answered file opts kind shown addrs answers
      by_seen Absent seen taken given = cc
      by_seen Hidden seen taken given = cc
      by_seen (Shown bytes) seen taken given = by_tested bytes (file.test bytes) seen refl taken (rw taken given)

      by_taken : (t : Bool) → file.answering.takes kind ≡ t → cond t (by_view (asked_of file opts (batch_of kind addrs)) shown) (Err errors.Unsupported) ≡ Ok answers → Answered file opts kind shown addrs answers
      by_taken true taken given = by_seen shown refl taken given
      by_taken false taken given = cc

  module _ (shown : View) (addrs : List ℕ) (answers : List Answer) (by : Answered file opts kind shown addrs answers) where
    -- its version answers other batches, and single addresses
    batch_by : (others : List ℕ) → batch_in_view file opts kind shown others ≡ Ok (map (λ addr. in_batch (at by.bytes addr)) others)
    batch_by others = rw (by.taken, by.in_view, by.formed, by.served) refl

    single_by : (addr : ℕ) → single_in_view file opts kind shown addr ≡ at by.bytes addr
    single_by addr = rw (by.taken, by.in_view, by.formed, by.served) refl

    -- the entry at a place is the answer at the address there
    entry_by : (i addr : ℕ) → slice_get addrs i ≡ Some addr → slice_get answers i ≡ Some (in_batch (at by.bytes addr))
    entry_by i addr there =
        ap (λ (all : List Answer). slice_get all i) by.plain
        ∙ slice_get-map (λ a. in_batch (at by.bytes a)) addrs i
        ∙ ap (option_map (λ a. in_batch (at by.bytes a))) there

    stands_alone : (i addr : ℕ) → slice_get addrs i ≡ Some addr → StandsAlone (batch_in_view file opts kind shown) answers i addr
    stands_alone i addr there = record { entry = in_batch (at by.bytes addr); here = entry_by i addr there; alone = batch_by (addr ∷ []) }

    are_alike : (others : List ℕ) (other_answers : List Answer) → batch_in_view file opts kind shown others ≡ Ok other_answers → AreAlike addrs others answers other_answers
    are_alike others other_answers given =
        let entry = λ (a : ℕ). in_batch (at by.bytes a) in
        let same : other_answers ≡ map entry others = let by_same = batch_by others in cc in
        record {
          equal = λ i j alike.
              ap (λ (all : List Answer). slice_get all i) by.plain ∙ slice_get-map entry addrs i ∙ ap (option_map entry) alike
              ∙ sym (ap (λ (all : List Answer). slice_get all j) same ∙ slice_get-map entry others j);
          permuted = λ moved. subst (λ (all : List Answer). IsPermutation all other_answers) (sym by.plain)
              (subst (λ (all : List Answer). IsPermutation (map entry addrs) all) (sym same) (IsPermutation-map entry addrs others moved));
        }

    is_folded : (source : Source) (i addr : ℕ) → IsFormatOf (single_of kind addr) source file → slice_get addrs i ≡ Some addr →
        IsFolded source opts kind shown answers i addr (single_in_view file opts kind shown addr)
    is_folded source i addr laws there = record {
      entry = rw (single_by addr) (entry_by i addr there);
      bytes = by.bytes;
      in_view = by.in_view;
      answered = subst (λ (a : Result Answer Error). IsAnswerOf source opts by.bytes (single_of kind addr) a) (sym (single_by addr)) (laws.answers opts by.bytes by.formed by.served);
    }

-- the laws, of the file of any source
pub alone_of : (source : Source) → OnFile source EntriesStandAlone
alone_of source = any_file source (λ file opts kind shown addrs answers i addr given there.
    stands_alone file opts kind shown addrs answers (answered file opts kind shown addrs answers given) i addr there)

pub alike_of : (source : Source) → OnFile source OrderMovesAnswers
alike_of source = any_file source (λ file opts kind shown addrs others answers other_answers given other_given.
    are_alike file opts kind shown addrs answers (answered file opts kind shown addrs answers given) others other_answers other_given)

pub folded_of : (source : Source) → OnFile source (BatchesFoldRefusals source)
folded_of source = on_each (λ (a : Address). single_of a.0 a.1) source (λ file laws opts kind shown addrs answers i addr given there.
    is_folded file opts kind shown addrs answers (answered file opts kind shown addrs answers given) source i addr (laws (kind, addr)) there)

-- bytes that are handed in, as a file that has them
abbrev as_file : HandedSource → FileSource
as_file given = record { test = given.test; answering = given.answering; path = []; cache = λ s. s.gsym; with_cache = λ s c. s }

by_handed_form : (form : SourceForm) {Q : HandedSource → Type 0} → ((given : HandedSource) → Q given) → OnHandedForm form Q
by_handed_form (OneFile file) f = tt
by_handed_form (Handed given) f = f given
by_handed_form (OneProcess asked) f = tt

any_handed : (source : Source) {Q : HandedSource → Type 0} → ((given : HandedSource) → Q given) → OnHanded source Q
any_handed source f = by_handed_form (form_of source) f

pub handed_alone : (source : Source) → OnHanded source HandedStandAlone
handed_alone source = any_handed source (λ given opts kind addrs answers i addr is there.
    stands_alone (as_file given) opts kind (Shown given.bytes) addrs answers (answered (as_file given) opts kind (Shown given.bytes) addrs answers is) i addr there)

pub handed_alike : (source : Source) → OnHanded source OrderMovesHanded
handed_alike source = any_handed source (λ given opts kind addrs others answers other_answers is other_is.
    are_alike (as_file given) opts kind (Shown given.bytes) addrs answers (answered (as_file given) opts kind (Shown given.bytes) addrs answers is) others other_answers other_is)

pub handed_folded : (source : Source) → OnHanded source HandedFold
handed_folded source = any_handed source (λ given opts kind addrs answers i addr is there.
    let by = answered (as_file given) opts kind (Shown given.bytes) addrs answers is in
    let single = single_by (as_file given) opts kind (Shown given.bytes) addrs answers by addr in
    entry_by (as_file given) opts kind (Shown given.bytes) addrs answers by i addr there ∙ ap (λ (a : Result Answer Error). Some (in_batch a)) (sym single))
