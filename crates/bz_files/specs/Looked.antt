-- What a call did to the files that it was lent, by the members of `Files`.
use Rattle.std.specs.Prelude.{◌≡◌, ◌⊎◌, Result, Ok, Err}
use Rattle.bz_base.specs.declared.error.Error.{Error}
use Rattle.bz_base.specs.declared.error.Error.TheVariants as errors
use Rattle.bz_files.specs.declared.files.Files.{Ghosts}
use Rattle.bz_files.specs.Count.{CountsFaults, counted}

-- a call failed by a fault of the files
abbrev pub Faulted : {A : Type 0} → Result A Error → Type 0
Faulted (Ok given) = ⊥
Faulted (Err e) = e ≡ errors.ReadFault

-- the call only looked at files: the worlds and the own process are as before, and faults are counted
pub record Looked {X : Type 0} (files : Ghosts X) (before after : X) (failed : Type 0) : Type 0 where
  pub worlds : files.worlds after ≡ files.worlds before
  pub pid : files.pid after ≡ files.pid before
  pub faults : CountsFaults (files.faults before) (files.faults after) failed

-- the call read one file at most
abbrev pub ReadsOne : {X : Type 0} → Ghosts X → X → X → Type 0
ReadsOne files before after = (files.opens after ≡ files.opens before) ⊎ (files.opens after ≡ counted (files.opens before))
