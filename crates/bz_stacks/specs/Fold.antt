-- Stacks that are folded by what one call over all their addresses is answered.
use Rattle.std.specs.Prelude.{◌≡◌, ℕ, List, [], ◌∷◌, length, take, drop, flat_map, Result, Ok, Err, IfOk, IsErrOf, IsOkUnless, Vec}
use Rattle.bz_base.specs.Answer.{Answer}
use Rattle.bz_base.specs.InputKind.{AddressKind}
use Rattle.bz_base.specs.declared.error.Error.{Error}
use Rattle.bz_base.specs.declared.error.Error.TheVariants as errors
use Rattle.bz_base.specs.declared.resolve.Symbolize.{Ghosts as Finds}
use Rattle.bz_base.specs.declared.resolve.TranslateFileOffset.{Ghosts as Translates}
use Rattle.bz_files.specs.declared.files.Files.{Ghosts}
use Rattle.bz_process.specs.Dispatch.{Test}
use Rattle.bz_stacks.specs.Folding.{AnsweredStack}
use Rattle.bz_stacks.specs.Stack.{CountedStack}
use Rattle.bz_stacks.specs.Text.{folded_text}
use Rattle.bz_symbolize.specs.FileCall.{batch_of}
use Rattle.bz_symbolize.specs.OfProcess.{BatchOfProcess}
use Rattle.bz_symbolize.specs.Promise.{Symbolizes}
use Rattle.bz_symbolize.specs.State.{WholeState}
use Rattle.bz_symbolize.specs.declared.source.Source.{Source}

-- the addresses of stacks, side by side
abbrev pub addrs_of : List CountedStack → List ℕ
addrs_of stacks = flat_map (λ stack. stack.addrs) stacks

-- the stacks, each with the answers to its addresses, of answers that stand side by side
abbrev pub seen_by : List CountedStack → List Answer → List AnsweredStack
seen_by [] answers = []
seen_by (stack ∷ stacks) answers = (take (length stack.addrs) answers, stack.count) ∷ seen_by stacks (drop (length stack.addrs) answers)

-- the text is that of the stacks with these answers, and memory may run out for it; a refusal
-- of the call is the refusal
abbrev pub IsFoldOf : {V : Type 0} → List CountedStack → Result (List Answer) Error → Result (Vec ℕ V) Error → Type 0
IsFoldOf stacks (Ok answers) result = IfOk result (λ text. text.items ≡ folded_text (seen_by stacks answers)) × IsOkUnless result errors.OutOfMemory
IsFoldOf stacks (Err e) result = IsErrOf result e

-- all that folding stacks promises
pub record Folds {D R X V : Type 0} (files : Ghosts X) (test : Test R) (translates : Translates R) (finds : Finds R) (source : Source) (kind : AddressKind) (stacks : List CountedStack)
    (result : Result (Vec ℕ V) Error) (old now : WholeState D R) (before after : X) : Type 0 where
  -- what one call over all addresses of the stacks is answered, which promises what a batch does
  pub answered : Result (List Answer) Error
  pub call : Symbolizes files (λ (answers : List Answer). answers) source (batch_of kind (addrs_of stacks)) answered old.files now.files before after
  pub process : BatchOfProcess files (λ (answers : List Answer). answers) test translates finds source kind (addrs_of stacks) answered old now before after
  -- and the text that its answers fold to
  pub text : IsFoldOf stacks answered result
