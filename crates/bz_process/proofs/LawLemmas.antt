-- What calls on processes promise, as laws have it.
use Rattle.std.proofs.Common.{◌≡◌, ℕ, Bool, true, false, List, Result, refl}
use Rattle.bz_base.specs.Answer.{Answer}
use Rattle.bz_base.specs.InputKind.{AddressKind}
use Rattle.bz_base.specs.declared.error.Error.{Error}
use Rattle.bz_base.specs.declared.resolve.Symbolize.{Ghosts as Finds}
use Rattle.bz_base.specs.declared.resolve.TranslateFileOffset.{Ghosts as Translates}
use Rattle.bz_base.specs.declared.types.FindSymOpts.{FindSymOpts}
use Rattle.bz_files.specs.World.{in_view}
use Rattle.bz_files.specs.declared.files.Files.{Ghosts}
use Rattle.bz_cache.specs.Cache.{Cache}
use Rattle.bz_process.specs.Asked.{Asked}
use Rattle.bz_process.specs.Dispatch.{Test}
use Rattle.bz_process.specs.ProcessCall.{Reaches}
use Rattle.bz_process.specs.Processes.{KeptProcesses, SymbolizesAddress, SymbolizesProcess, caches_of, is_in_process}
use Rattle.bz_process.proofs.ProcessLemmas.{reaches_same}

module _ {A D R X : Type 0} (files : Ghosts X) (test : Test R) (translates : Translates R) (finds : Finds R) (opts : FindSymOpts) (asked : Asked) (kind : AddressKind)
    (result : Result A Error) (elf elf_now : Cache) (old now : KeptProcesses D R) (before after : X) where
  abbrev IsReached : Type 0
  IsReached = Reaches asked.own (in_view (files.worlds before)) (caches_of elf old) (caches_of elf_now now)

  same_reached : elf_now ≡ elf → now ≡ old → IsReached
  same_reached same_elf same = rw (same_elf, same) (reaches_same asked.own (in_view (files.worlds before)) (caches_of elf old))

  -- looks and remembered ids lead to what a batch leaves
  pub batch_reached : (reading : A → List Answer) (addrs : List ℕ) → SymbolizesProcess files reading test translates finds opts asked kind addrs result elf elf_now old now before after → IsReached
  batch_reached reading addrs promised = by_kind (is_in_process kind) refl
    where
      by_kind : (b : Bool) → is_in_process kind ≡ b → IsReached
      by_kind true taken = (promised.asks taken).step.reached
      by_kind false not = let same = promised.untaken not in same_reached same.1 same.2

  -- and to what a single address leaves
  pub address_reached : (reading : A → Answer) (addr : ℕ) → SymbolizesAddress files reading test translates finds opts asked kind addr result elf elf_now old now before after → IsReached
  address_reached reading addr promised = by_kind (is_in_process kind) refl
    where
      by_kind : (b : Bool) → is_in_process kind ≡ b → IsReached
      by_kind true taken = (promised.asks taken).step.reached
      by_kind false not = let same = promised.untaken not in same_reached same.1 same.2
