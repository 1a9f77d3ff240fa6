-- How many files a call on a process reads at most, from what it promises.
use Rattle.std.proofs.Common.{◌≡◌, ℕ, suc, ◌+◌, ◌≤◌, Bool, true, false, not, List, [], ◌∷◌, ◌++◌, length, Option, Some, None, is_some, Result, Ok, Err, Contains, map as map_of, refl, sym, ap, subst, ◌∙◌, arith}
use Rattle.std.specs.List.{AllByRecursion}
use Rattle.std.proofs.lemmas.List.{length-map, map-append}
use Rattle.bz_base.specs.Answer.{Answer}
use Rattle.bz_base.specs.InputKind.{AddressKind}
use Rattle.bz_base.specs.declared.error.Error.{Error}
use Rattle.bz_base.specs.declared.pid.Pid.{Pid}
use Rattle.bz_base.specs.declared.resolve.Symbolize.{Ghosts as Finds}
use Rattle.bz_base.specs.declared.resolve.TranslateFileOffset.{Ghosts as Translates}
use Rattle.bz_base.specs.declared.types.FindSymOpts.{FindSymOpts}
use Rattle.bz_files.specs.World.{World, entry_at, has_file, in_view}
use Rattle.bz_files.specs.declared.files.Files.{Ghosts}
use Rattle.bz_cache.specs.Cache.{Cache}
use Rattle.bz_cache.specs.Format.{GivesOrFaults}
use Rattle.bz_proc.specs.Maps.{Mapping, owner_of}
use Rattle.bz_proc.specs.MapsFile.{maps_path, maps_told}
use Rattle.bz_process.specs.Asked.{Asked}
use Rattle.bz_process.specs.Caches.{ProcessCaches}
use Rattle.bz_process.specs.Dispatch.{Test}
use Rattle.bz_process.specs.Mapped.{asks_process, checked, some_mappings}
use Rattle.bz_process.specs.Process.{Said, at_address, at_addresses, batched, count_of, followed, remember, unsaid}
use Rattle.bz_process.specs.Processes.{KeptProcesses, SymbolizesAddress, SymbolizesProcess, caches_of, is_in_process, kept_mappings}
use Rattle.bz_process.specs.Reads.{CoverMapped, HasPath, HavePaths, ignored, is_ignored, left_to_read, perf_path, reads_again, reads_once}
use Rattle.bz_process.specs.Remembered.{Remembered}
use Rattle.bz_process.proofs.EntryLemmas.{mappings_left}
use Rattle.bz_process.proofs.NobodyLemmas.{step_of_all}
use Rattle.bz_process.proofs.ProcessLemmas.{reaches_same}
use Rattle.bz_process.proofs.ReadsLemmas.{address_reads, batch_reads, count_le}

-- no more answers are ignored errors than there are
ignored_le : (answers : List Answer) → ignored answers ≤ length answers
ignored_le [] = omega arith
ignored_le (answer ∷ later) = omega (arith, count_le (is_ignored answer), ignored_le later)

-- how many addresses are refused, of those that were asked at all
abbrev refused_in : Result (List Answer) Error → ℕ
refused_in (Ok answers) = ignored answers
refused_in (Err e) = 0

abbrev addr_of : ℕ × Said → ℕ
addr_of item = item.0

batched_length : (asked : Asked) (mappings : List Mapping) (items : List (ℕ × Said)) (world : World) (kept : ProcessCaches) → length (batched asked mappings items world kept).answers ≡ length items
batched_length asked mappings [] world kept = refl
batched_length asked mappings (item ∷ items) world kept = ap suc (batched_length asked mappings items world (at_address asked mappings item world kept).left)

unsaid_addrs : (rest : List ℕ) → map_of addr_of (map_of unsaid rest) ≡ rest
unsaid_addrs [] = refl
unsaid_addrs (addr ∷ rest) = ap (λ (later : List ℕ). addr ∷ later) (unsaid_addrs rest)

-- the addresses of what was said, and of the others
item_addrs : (front : List (ℕ × Said)) (rest : List ℕ) → map_of addr_of (front ++ map_of unsaid rest) ≡ map_of addr_of front ++ rest
item_addrs front rest = map-append addr_of front (map_of unsaid rest) ∙ ap (λ (later : List ℕ). map_of addr_of front ++ later) (unsaid_addrs rest)

of_items : (P : ℕ → Type 0) (items : List (ℕ × Said)) → AllByRecursion P (map_of addr_of items) → AllByRecursion (λ item. P (addr_of item)) items
of_items P [] all = tt
of_items P (item ∷ items) all = (all.0, of_items P items all.1)

-- the text of the mappings is read once, where none are kept
checked_opens : (told : Result (List Mapping) Error) (kept : ProcessCaches) (opens : ℕ) (world : World) → (followed told kept opens (λ mappings left. checked mappings world left)).opens ≤ opens
checked_opens (Ok mappings) kept opens world = omega arith
checked_opens (Err e) kept opens world = omega arith

mappings_opens : (pid : Pid) (known : Option (List Mapping)) (world : World) (kept : ProcessCaches) → (some_mappings pid known world kept).opens ≤ count_of (not (is_some known))
mappings_opens pid (Some mappings) world kept = omega arith
mappings_opens pid None world kept =
    omega (arith, checked_opens (maps_told pid (entry_at world (maps_path pid))) kept (count_of (has_file (entry_at world (maps_path pid)))) world, count_le (has_file (entry_at world (maps_path pid))))

module _ (asked : Asked) (world : World) (paths : List (List ℕ)) (start : ProcessCaches) where
  abbrev recalled : Result Remembered Error
  recalled = (remember asked.pid asked.own world start).answer

  abbrev left : ℕ
  left = left_to_read asked.pid world paths (perf_path recalled) start

  perf_among : (known : Remembered) → recalled ≡ Ok known → Contains (perf_path recalled) known.perf_map
  perf_among known is = subst (λ (r : Result Remembered Error). Contains (perf_path r) known.perf_map) (sym is) (0, omega arith, refl)

  module _ (addrs : List ℕ) (items : List (ℕ × Said)) (same : map_of addr_of items ≡ addrs) where
    -- by the mappings that are told
    told_reads : (told : Result (List Mapping) Error) (kept : ProcessCaches) (opens : ℕ) → kept ≡ start → ((mappings : List Mapping) → told ≡ Ok mappings → HavePaths asked paths mappings addrs) →
        (followed told kept opens (λ mappings l. at_addresses asked mappings items world l)).opens ≤ opens + (left + refused_in (followed told kept opens (λ mappings l. at_addresses asked mappings items world l)).answer)
    told_reads (Ok mappings) kept opens is has =
        rw is (omega (
          arith,
          batch_reads world asked paths (perf_path recalled) mappings start perf_among items start (reaches_same asked.own (Some world) start)
              (of_items (λ addr. (mapping : Mapping) → owner_of mappings addr ≡ Some mapping → HasPath asked paths mapping) items (subst (HavePaths asked paths mappings) (sym same) (has mappings refl))),
        ))
    told_reads (Err e) kept opens is has = omega arith

    -- at most each address is refused
    told_refused : (told : Result (List Mapping) Error) (kept : ProcessCaches) (opens : ℕ) → refused_in (followed told kept opens (λ mappings l. at_addresses asked mappings items world l)).answer ≤ length addrs
    told_refused (Ok mappings) kept opens =
        omega (arith, ignored_le (batched asked mappings items world kept).answers, batched_length asked mappings items world kept, length-map items addr_of, ap length same)
    told_refused (Err e) kept opens = omega arith

  told_reads_at : (item : ℕ × Said) (told : Result (List Mapping) Error) (kept : ProcessCaches) (opens : ℕ) → kept ≡ start → ((mappings : List Mapping) → told ≡ Ok mappings → HavePaths asked paths mappings (item.0 ∷ [])) →
      (followed told kept opens (λ mappings l. at_address asked mappings item world l)).opens ≤ opens + left
  told_reads_at item (Ok mappings) kept opens is has =
      rw is (omega (arith, address_reads world asked paths (perf_path recalled) mappings start perf_among item (has mappings refl).0))
  told_reads_at item (Err e) kept opens is has = omega arith

module _ {A D R X : Type 0} (files : Ghosts X) (test : Test R) (translates : Translates R) (finds : Finds R) (opts : FindSymOpts) (asked : Asked) (kind : AddressKind)
    (elf elf_now : Cache) (old now : KeptProcesses D R) (before after : X) (world : World) (paths : List (List ℕ)) (seen : in_view (files.worlds before) ≡ Some world) where
  -- the addresses that are refused
  again_of : (reading : A → List Answer) (addrs : List ℕ) (result : Result A Error) (expected : Result (List Answer) Error) → GivesOrFaults reading expected result → refused_in expected ≤ length addrs →
      refused_in expected ≤ reads_again reading addrs result
  again_of reading addrs (Ok given) expected comes most = omega (arith, ap refused_in comes)
  again_of reading addrs (Err e) expected comes most = most

  pub batch_bound : (reading : A → List Answer) (addrs : List ℕ) (result : Result A Error) → CoverMapped asked world paths (kept_mappings old asked.pid) (caches_of elf old) addrs → SymbolizesProcess files reading test translates finds opts asked kind addrs result elf elf_now old now before after →
      files.opens after ≤ files.opens before + (reads_once asked world paths (kept_mappings old asked.pid) (caches_of elf old) + reads_again reading addrs result)
  batch_bound reading addrs result have promised = by_kind (is_in_process kind) refl
    where
      by_kind : (b : Bool) → is_in_process kind ≡ b → files.opens after ≤ files.opens before + (reads_once asked world paths (kept_mappings old asked.pid) (caches_of elf old) + reads_again reading addrs result)
      by_kind false not = omega (arith, ap files.opens (promised.untaken not).3)
      by_kind true taken =
          let asks = promised.asks taken in
          let items : List (ℕ × Said) = asks.front ++ map_of unsaid asks.rest in
          let same : map_of addr_of items ≡ addrs = item_addrs asks.front asks.rest ∙ asks.addrs_are in
          let mapped = some_mappings asked.pid (kept_mappings old asked.pid) world (caches_of elf old) in
          let step = step_of_all files reading asked (kept_mappings old asked.pid) asks.front asks.rest result (caches_of elf old) (caches_of elf_now now) before after asks.all asks.step in
          let outcome = step.told world seen in
          let refused = told_refused asked world paths (caches_of elf old) addrs items same mapped.answer mapped.left mapped.opens in
          omega (
            arith,
            outcome.opened,
            mappings_opens asked.pid (kept_mappings old asked.pid) world (caches_of elf old),
            told_reads asked world paths (caches_of elf old) addrs items same mapped.answer mapped.left mapped.opens (mappings_left asked.pid (kept_mappings old asked.pid) world (caches_of elf old)) have,
            again_of reading addrs result (asks_process asked (kept_mappings old asked.pid) items world (caches_of elf old)).answer outcome.answer refused,
          )

  pub single_bound : (reading : A → Answer) (addr : ℕ) (result : Result A Error) → CoverMapped asked world paths (kept_mappings old asked.pid) (caches_of elf old) (addr ∷ []) → SymbolizesAddress files reading test translates finds opts asked kind addr result elf elf_now old now before after →
      files.opens after ≤ files.opens before + reads_once asked world paths (kept_mappings old asked.pid) (caches_of elf old)
  single_bound reading addr result have promised = by_kind (is_in_process kind) refl
    where
      by_kind : (b : Bool) → is_in_process kind ≡ b → files.opens after ≤ files.opens before + reads_once asked world paths (kept_mappings old asked.pid) (caches_of elf old)
      by_kind false not = omega (arith, ap files.opens (promised.untaken not).3)
      by_kind true taken =
          let asks = promised.asks taken in
          let mapped = some_mappings asked.pid (kept_mappings old asked.pid) world (caches_of elf old) in
          omega (arith, (asks.step.told world seen).opened, mappings_opens asked.pid (kept_mappings old asked.pid) world (caches_of elf old), told_reads_at asked world paths (caches_of elf old) (addr, asks.said) mapped.answer mapped.left mapped.opens (mappings_left asked.pid (kept_mappings old asked.pid) world (caches_of elf old)) have)
