-- What `clap` finds of words by the program's command line is what the definitions say.
use Rattle.std.proofs.Common.{◌≡◌, ◌≢◌, ◌∙◌, List, [], ◌∷◌, Option, None, true, refl, sym, ap, subst, inl, inr}
use Rattle.clap.specs.Words.{App, HasKind, HasMatchesOf, Kinds, Text, fault_of, found_of, is_simple, is_simple_and_free, kind_of, matches_of, rows_of, takes}
use Rattle.clap.specs.declared.error.Error.{Error}
use Rattle.clap.specs.declared.error.kind.ErrorKind.TheVariants as kinds
use Rattle.clap.specs.declared.parser.matches.ArgMatches.{ArgMatches}
use Rattle.clap.proofs.OnLiterals.{clap_on_literals}
use Rattle.bz_words.specs.Command.{unless_faulty}
use Rattle.bz_words.specs.Definition.{program}

-- the program's command line is a simple one, no argument of which has a rule on another
program_is_simple : is_simple program ≡ true
unfolding program clap_on_literals
program_is_simple = refl

program_is_free : is_simple_and_free program ≡ true
unfolding program clap_on_literals
program_is_free = refl

module _ (app : App) (same : app ≡ program) (words : List Text) where
  -- so its matches, its faults and what it takes are those of the definitions
  pub matches_are : (m : ArgMatches) → HasMatchesOf app words m → rows_of (found_of m) ≡ matches_of program words
  matches_are m has = (has (ap is_simple same ∙ program_is_simple)).0 ∙ ap (λ (a : App). matches_of a words) same

  pub no_faults : (is_simple_and_free app ≡ true → fault_of app words ≡ []) → fault_of program words ≡ []
  no_faults none = sym (ap (λ (a : App). fault_of a words) same) ∙ none (ap is_simple_and_free same ∙ program_is_free)

  pub fault_kind : (error : Error) → (is_simple_and_free app ≡ true → HasKind (fault_of app words) error) → HasKind (fault_of program words) error
  fault_kind error has = subst (λ (a : App). HasKind (fault_of a words) error) same (has (ap is_simple_and_free same ∙ program_is_free))

  pub taken_too : takes program words ≡ true → takes app words ≡ true
  taken_too taken = ap (λ (a : App). takes a words) same ∙ taken

-- an error that isn't want of memory is one of the faults
pub has_fault : (faults : Kinds) (error : Error) → HasKind faults error → kind_of error ≢ kinds.OutOfMemory → faults ≡ [] → ⊥
has_fault faults error (inl memory) other none = other memory
has_fault [] error (inr among) other none = absurd among
has_fault (fault ∷ faults) error (inr among) other none = cc

-- where there is a fault, nothing is read
pub faulty : {A B : Type 0} (found : List A) (read : Option B) → (found ≡ [] → ⊥) → unless_faulty found read ≡ None
faulty [] read some = absurd (some refl)
faulty (fault ∷ others) read some = refl
