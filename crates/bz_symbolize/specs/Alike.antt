-- What the answers of calls on one version in view have to do with each other.
use Rattle.std.specs.Prelude.{◌≡◌, ℕ, List, [], ◌∷◌, Some, Result, Ok, slice_get}
use Rattle.std.specs.List.Sorted.{IsPermutation}
use Rattle.bz_base.specs.Answer.{Answer, in_batch}
use Rattle.bz_base.specs.InputKind.{AddressKind}
use Rattle.bz_base.specs.declared.error.Error.{Error}
use Rattle.bz_base.specs.declared.types.FindSymOpts.{FindSymOpts}
use Rattle.bz_cache.specs.View.{View, Shown}
use Rattle.bz_lookups.specs.Formats.{HandedSource, handed_answer}
use Rattle.bz_symbolize.specs.FileCall.{batch_of, shown_answer, single_of}
use Rattle.bz_symbolize.specs.Promise.{IsAnswerOf}
use Rattle.bz_symbolize.specs.Sources.{FileSource, asked_of}
use Rattle.bz_symbolize.specs.declared.source.Source.{Source}

-- what a batch, and a single address, is answered by what is in view at the file's path. Where kept
-- versions cohere with the world in view, these are the answers of the calls
abbrev pub batch_in_view : FileSource → FindSymOpts → AddressKind → View → List ℕ → Result (List Answer) Error
batch_in_view file opts kind shown addrs = shown_answer (asked_of file opts (batch_of kind addrs)) shown

abbrev pub single_in_view : FileSource → FindSymOpts → AddressKind → View → ℕ → Result Answer Error
single_in_view file opts kind shown addr = shown_answer (asked_of file opts (single_of kind addr)) shown

-- the entry of a batch at the place of an address: the batch of that address alone has it too
pub record StandsAlone (batch : List ℕ → Result (List Answer) Error) (answers : List Answer) (i addr : ℕ) : Type 0 where
  pub entry : Answer
  pub here : slice_get answers i ≡ Some entry
  pub alone : batch (addr ∷ []) ≡ Ok (entry ∷ [])

-- the answers of two batches: equal addresses have equal entries, and the addresses in another order
-- have the answers in that order
pub record AreAlike (addrs others : List ℕ) (answers other_answers : List Answer) : Type 0 where
  pub equal : (i j : ℕ) → slice_get addrs i ≡ slice_get others j → slice_get answers i ≡ slice_get other_answers j
  pub permuted : IsPermutation addrs others → IsPermutation answers other_answers

-- the entry of an address of an answered batch is what the single call makes of it, a refusal being an
-- ignored error. The single call is answered, or refused for its address, as the version in view itself
-- says
pub record IsFolded (source : Source) (opts : FindSymOpts) (kind : AddressKind) (shown : View) (answers : List Answer) (i addr : ℕ) (single : Result Answer Error) : Type 0 where
  pub entry : slice_get answers i ≡ Some (in_batch single)
  pub bytes : List ℕ
  pub in_view : shown ≡ Shown bytes
  pub answered : IsAnswerOf source opts bytes (single_of kind addr) single

-- of a source's file: every entry of an answered batch stands alone
abbrev pub EntriesStandAlone : FileSource → Type 0
EntriesStandAlone file = (opts : FindSymOpts) (kind : AddressKind) (shown : View) (addrs : List ℕ) (answers : List Answer) (i addr : ℕ) →
    batch_in_view file opts kind shown addrs ≡ Ok answers → slice_get addrs i ≡ Some addr → StandsAlone (batch_in_view file opts kind shown) answers i addr

-- any two answered batches are alike
abbrev pub OrderMovesAnswers : FileSource → Type 0
OrderMovesAnswers file = (opts : FindSymOpts) (kind : AddressKind) (shown : View) (addrs others : List ℕ) (answers other_answers : List Answer) →
    batch_in_view file opts kind shown addrs ≡ Ok answers → batch_in_view file opts kind shown others ≡ Ok other_answers → AreAlike addrs others answers other_answers

-- every entry of an answered batch is that of the single call
abbrev pub BatchesFoldRefusals : Source → FileSource → Type 0
BatchesFoldRefusals source file = (opts : FindSymOpts) (kind : AddressKind) (shown : View) (addrs : List ℕ) (answers : List Answer) (i addr : ℕ) →
    batch_in_view file opts kind shown addrs ≡ Ok answers → slice_get addrs i ≡ Some addr → IsFolded source opts kind shown answers i addr (single_in_view file opts kind shown addr)

-- of bytes that are handed in: every entry of an answered batch stands alone
abbrev pub HandedStandAlone : HandedSource → Type 0
HandedStandAlone given = (opts : FindSymOpts) (kind : AddressKind) (addrs : List ℕ) (answers : List Answer) (i addr : ℕ) →
    handed_answer given opts (batch_of kind addrs) ≡ Ok answers → slice_get addrs i ≡ Some addr →
    StandsAlone (λ others. handed_answer given opts (batch_of kind others)) answers i addr

-- any two answered batches are alike
abbrev pub OrderMovesHanded : HandedSource → Type 0
OrderMovesHanded given = (opts : FindSymOpts) (kind : AddressKind) (addrs others : List ℕ) (answers other_answers : List Answer) →
    handed_answer given opts (batch_of kind addrs) ≡ Ok answers → handed_answer given opts (batch_of kind others) ≡ Ok other_answers → AreAlike addrs others answers other_answers

-- every entry of an answered batch is that of the single call, a refused address being an ignored error
abbrev pub HandedFold : HandedSource → Type 0
HandedFold given = (opts : FindSymOpts) (kind : AddressKind) (addrs : List ℕ) (answers : List Answer) (i addr : ℕ) →
    handed_answer given opts (batch_of kind addrs) ≡ Ok answers → slice_get addrs i ≡ Some addr →
    slice_get answers i ≡ Some (in_batch (handed_answer given opts (single_of kind addr)))
