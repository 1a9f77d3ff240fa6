-- What folding promises, by what the one call promises.
use Rattle.std.proofs.Common.{◌≡◌, ℕ, false, List, length, Result, Ok, Err, IsErrOf, Vec, refl, sym, ap, subst}
use Rattle.bz_base.specs.Answer.{Answer}
use Rattle.bz_base.specs.InputKind.{AddressKind, InProcess}
use Rattle.bz_base.specs.declared.error.Error.{Error}
use Rattle.bz_base.specs.declared.error.Error.TheVariants as errors
use Rattle.bz_base.specs.declared.resolve.Symbolize.{Ghosts as Finds}
use Rattle.bz_base.specs.declared.resolve.TranslateFileOffset.{Ghosts as Translates}
use Rattle.bz_files.specs.declared.files.Files.{Ghosts}
use Rattle.bz_process.specs.Asked.{asked_of}
use Rattle.bz_process.specs.Dispatch.{Test}
use Rattle.bz_process.specs.Processes.{SymbolizesProcess, is_in_process}
use Rattle.bz_process.specs.Untold.{as_read}
use Rattle.bz_process.specs.declared.query.ProcessQuery.{ProcessQuery}
use Rattle.bz_symbolize.specs.FileCall.{batch_of}
use Rattle.bz_symbolize.specs.OfProcess.{BatchOfProcess}
use Rattle.bz_symbolize.specs.Promise.{Symbolizes}
use Rattle.bz_symbolize.specs.Sources.{OnProcess, OneProcess, form_of, query_in}
use Rattle.bz_symbolize.specs.State.{WellKept, WholeState, opts_of}
use Rattle.bz_symbolize.specs.declared.source.Source.{Source}
use Rattle.bz_symbolize.proofs.AskingLemmas.{batch_asked, batch_called}
use Rattle.bz_stacks.specs.Fold.{Folds, IsFoldOf, addrs_of}
use Rattle.bz_stacks.specs.Stack.{CountedStack}
use Rattle.bz_stacks.proofs.AnsweredLemmas.{as_is, batch_read, call_read}
use Rattle.bz_stacks.proofs.FormLemmas.{of_process, on_process_by, unless_any_process}
use Rattle.bz_stacks.proofs.UnaskedLemmas.{answer_count, unasked, untaken}

module _ {D R X V : Type 0} (files : Ghosts X) (test : Test R) (translates : Translates R) (finds : Finds R) (source : Source) (kind : AddressKind) (stacks : List CountedStack) where
  -- by what a call gave, whatever it gives
  module _ {A : Type 0} (reading : A → List Answer) (answered : Result A Error) (result : Result (Vec ℕ V) Error) (old now : WholeState D R) (before after : X)
      (call : Symbolizes files reading source (batch_of kind (addrs_of stacks)) answered old.files now.files before after) (text : IsFoldOf stacks (as_read reading answered) result) where
    pub folds_by : BatchOfProcess files reading test translates finds source kind (addrs_of stacks) answered old now before after → Folds files test translates finds source kind stacks result old now before after
    folds_by process = record {
      answered = as_read reading answered;
      call = call_read files reading source (batch_of kind (addrs_of stacks)) old.files now.files before after answered call;
      process = batch_read files reading test translates finds source kind (addrs_of stacks) answered old now before after process;
      text = text;
    }

    -- where the source is no process, what is kept of processes stays
    pub folds_file : OnProcess source (λ query. ⊥) → now.processes ≡ old.processes → Folds files test translates finds source kind stacks result old now before after
    folds_file never same = folds_by (record {
      asked = on_process_by (form_of source) (λ query none. absurd none) never;
      rest = on_process_by (form_of source) (λ query none. absurd none) never;
      history = on_process_by (form_of source) (λ query none. absurd none) never;
      others = unless_any_process (form_of source) same;
    })

  -- by a process that wasn't asked
  module _ (query : ProcessQuery) (is : form_of source ≡ OneProcess query) (result : Result (Vec ℕ V) Error) (state : WholeState D R) (well : WellKept state.files) (before : X) where
    folds_unasked : (e : Error) → IsErrOf result e →
        SymbolizesProcess files as_is test translates finds (opts_of state.files.settings) (asked_of (files.pid before) query) kind (addrs_of stacks) (Err e) state.files.elf state.files.elf state.processes state.processes before before →
        Folds files test translates finds source kind stacks result state state before before
    folds_unasked e refused asks = record {
      answered = Err e;
      call = batch_called files source query (ap query_in (sym is)) (Err e) state state before before refl test translates finds kind as_is (addrs_of stacks) asks well (batch_of kind (addrs_of stacks));
      process = batch_asked files source query (ap query_in (sym is)) (Err e) state state before before refl test translates finds kind as_is (addrs_of stacks) asks;
      text = refused;
    }

    -- another kind of address is refused
    pub folds_untaken : is_in_process kind ≡ false → IsErrOf result errors.Unsupported → Folds files test translates finds source kind stacks result state state before before
    folds_untaken other refused = folds_unasked errors.Unsupported refused (untaken files test translates finds _ _ (addrs_of stacks) _ state.processes before kind other)

    -- memory ran out before it was asked
    pub folds_first : kind ≡ InProcess → IsErrOf result errors.OutOfMemory → Folds files test translates finds source kind stacks result state state before before
    folds_first taken refused = folds_unasked errors.OutOfMemory refused
        (rw taken (unasked files test translates finds _ _ (addrs_of stacks) _ state.processes before))

  -- by a process that was asked for these addresses
  module _ {A : Type 0} (reading : A → List Answer) (addrs : List ℕ) (are : addrs ≡ addrs_of stacks) (taken : kind ≡ InProcess) (old now : WholeState D R) (before after : X) where
    pub folds_asked : (answered : Result A Error) (result : Result (Vec ℕ V) Error) → IsFoldOf stacks (as_read reading answered) result →
        Symbolizes files reading source (batch_of InProcess addrs) answered old.files now.files before after → BatchOfProcess files reading test translates finds source InProcess addrs answered old now before after →
        Folds files test translates finds source kind stacks result old now before after
    folds_asked answered result text call process = folds_by reading answered result old now before after
        (rw taken (subst (λ (all : List ℕ). Symbolizes files reading source (batch_of InProcess all) answered old.files now.files before after) are call)) text
        (rw taken (subst (λ (all : List ℕ). BatchOfProcess files reading test translates finds source InProcess all answered old now before after) are process))

-- a process that answered gave an answer for each address
pub answers_given : {A D R X : Type 0} (files : Ghosts X) (test : Test R) (translates : Translates R) (finds : Finds R) (source : Source) (reading : A → List Answer) (addrs : List ℕ) (query : ProcessQuery) →
    form_of source ≡ OneProcess query → (given : A) (old now : WholeState D R) (before after : X) → BatchOfProcess files reading test translates finds source InProcess addrs (Ok given) old now before after →
    length (reading given) ≡ length addrs
answers_given files test translates finds source reading addrs query is given old now before after process =
    let asked = of_process
    (λ query. SymbolizesProcess files reading test translates finds (opts_of old.files.settings) (asked_of (files.pid before) query) InProcess addrs (Ok given) old.files.elf now.files.elf old.processes now.processes before after)
    (form_of source) query is process.asked in
    answer_count files reading test translates finds _ _ addrs _ given _ _ _ _ before after (asked.asks refl)
