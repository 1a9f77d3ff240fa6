-- What is asked of a process, from its mappings and its addresses.
use Rattle.std.proofs.Common.{◌≡◌, ℕ, false, List, [], ◌∷◌, ◌++◌, map, Option, Some, None, Result, Ok, Err, OnOk, IfErr, IfOk, IsOkUnless, Vec, Global, inl, inr, refl, sym, ap, subst, ◌∙◌, arith}
use Rattle.bz_base.specs.Answer.{reading}
use Rattle.bz_base.specs.declared.error.Error.{Error}
use Rattle.bz_base.specs.declared.error.Error.TheVariants as errors
use Rattle.bz_base.specs.declared.types.Symbolized.{Symbolized}
use Rattle.bz_files.specs.Looked.{Faulted, Looked, ReadsOne}
use Rattle.bz_files.specs.World.{Entry, World, Told, in_view, entry_at, has_file}
use Rattle.bz_files.specs.declared.files.Files.{Ghosts}
use Rattle.bz_cache.specs.Format.{GivesOrFaults, FailsAs}
use Rattle.bz_cache.specs.InsertMap.{value_at}
use Rattle.bz_elf.specs.Format as elf
use Rattle.bz_proc.specs.Maps.{Mapping}
use Rattle.bz_proc.specs.SystemText.{IsReadRefusal}
use Rattle.bz_proc.specs.PerfMap as perf
use Rattle.bz_base.specs.declared.pid.Pid.{Pid}
use Rattle.bz_process.specs.Dispatch.{Keeps}
use Rattle.bz_process.specs.Mapped.{AreFrom, AreUsed, AsksBatch, AsksSingle, LacksMappings, checked, if_some, mappings_of, of_text, some_mappings}
use Rattle.bz_process.specs.Process.{at_address, at_addresses, gives, pid_cmp, unsaid}
use Rattle.bz_process.specs.ProcessAsk.{AddsAmong, AsksAddress, AsksAll, next_of, readings}
use Rattle.bz_process.specs.ProcessCall.{TakesStep, UnlessFailed}
use Rattle.bz_process.specs.Caches.{ProcessCaches}
use Rattle.bz_process.specs.Terms.{KeptToAnswer, Terms}
use Rattle.bz_process.specs.Untold.{SomeBatch}
use Rattle.bz_process.proofs.AskLemmas.{unless}
use Rattle.bz_process.proofs.ProcessLemmas.{in_order, opened_by, reaches_same, refused, stays, still, unlooked, wants_memory}

module _ {X : Type 0} (files : Ghosts X) (own : ℕ) where
  -- a text was looked at
  pub text_told : {A B : Type 0} (reads : A → B) (told : Option Entry → Result B Error) (path : List ℕ) (result : Result A Error) (kept : ProcessCaches) (before after : X) →
      Told (in_view (files.worlds before)) (λ world. GivesOrFaults reads (told (entry_at world path)) result) →
      Told (in_view (files.worlds before)) (λ world. has_file (entry_at world path) ≡ false → files.opens after ≡ files.opens before) →
      ReadsOne files before after → Looked files before after (Faulted result) → TakesStep files own reads (of_text told path) result kept kept before after
  text_told reads told path result kept before after answer spared most looked = record {
    told = λ world seen. record { answer = answer world seen; left = unless result _ refl; opened = opened_by (has_file (entry_at world path)) _ _ (spared world seen) most };
    reached = reaches_same own _ kept;
    elf = stays elf.format_test kept.elf;
    perf_maps = stays perf.format_test kept.perf_maps;
    looked = looked;
  }

  -- what is kept is given, unless memory ran out
  pub given_again : {B : Type 0} (result : Result B Error) (known : B) (kept : ProcessCaches) (at : X) → IfOk result (λ k. k ≡ known) → IsOkUnless result errors.OutOfMemory →
      TakesStep files own (λ (k : B). k) (gives known) result kept kept at at
  given_again {B} (Ok k) known kept at is memory = still files own (λ (k : B). k) known k kept at (sym is)
  given_again {B} (Err e) known kept at is memory = rw memory (wants_memory files own (λ (k : B). k) (gives known) kept at)

  pub kept_again : (pid : Pid) (known : Option (List Mapping)) (mappings : List Mapping) (result : Result (List Mapping) Error) (kept : ProcessCaches) (at : X) → known ≡ Some mappings →
      IfOk result (λ k. k ≡ mappings) → IsOkUnless result errors.OutOfMemory → TakesStep files own (λ (k : List Mapping). k) (mappings_of pid known) result kept kept at at
  kept_again pid known mappings result kept at found is memory = rw found (given_again result mappings kept at is memory)

  -- whether there are mappings
  checks : (mappings : List Mapping) (result : Result (List Mapping) Error) (kept : ProcessCaches) (at : X) → result ≡ if_some mappings →
      TakesStep files own (λ (k : List Mapping). k) (checked mappings) result kept kept at at
  checks mappings result kept at is = record {
    told = λ world seen. record { answer = comes_so mappings result is; left = unless result _ refl; opened = omega arith };
    reached = reaches_same own _ kept;
    elf = stays elf.format_test kept.elf;
    perf_maps = stays perf.format_test kept.perf_maps;
    looked = unlooked files own at (no_fault mappings result is);
  }
    where
      comes_so : (mappings : List Mapping) (result : Result (List Mapping) Error) → result ≡ if_some mappings → GivesOrFaults (λ (k : List Mapping). k) (if_some mappings) result
      comes_so [] result is = rw is refl
      comes_so (mapping ∷ later) result is = rw is refl

      no_fault : (mappings : List Mapping) (result : Result (List Mapping) Error) → result ≡ if_some mappings → Faulted result → ⊥
      no_fault [] result is fault = let same : Faulted {A = List Mapping} (Err errors.UnexpectedEof) = subst Faulted is fault in cc same
      no_fault (mapping ∷ later) result is fault = let same : Faulted {A = List Mapping} (Ok (mapping ∷ later)) = subst Faulted is fault in same

  pub mapped_checked : (pid : Pid) (known : Option (List Mapping)) (mappings : List Mapping) (result : Result (List Mapping) Error) (kept : ProcessCaches) (before after : X) →
      TakesStep files own (λ (k : List Mapping). k) (mappings_of pid known) (Ok mappings) kept kept before after → result ≡ if_some mappings →
      TakesStep files own (λ (k : List Mapping). k) (some_mappings pid known) result kept kept before after
  mapped_checked pid known mappings result kept before after one is =
      in_order files own (λ (k : List Mapping). k) (λ (k : List Mapping). k) (mappings_of pid known) checked mappings result kept kept kept before after after one (checks mappings result kept after is)

  pub mapped_refused : (pid : Pid) (known : Option (List Mapping)) (e : Error) (kept : ProcessCaches) (before after : X) →
      TakesStep files own (λ (k : List Mapping). k) (mappings_of pid known) (Err e) kept kept before after →
      TakesStep files own (λ (k : List Mapping). k) (some_mappings pid known) (Err e) kept kept before after
  mapped_refused pid known e kept before after one = refused files own (λ (k : List Mapping). k) (λ (k : List Mapping). k) (mappings_of pid known) checked e kept kept before after one

module _ (pid : Pid) (known : Option (List Mapping)) where
  -- kept mappings are given as they are
  pub from_kept : (mappings : List Mapping) (result : Result (List Mapping) Error) → known ≡ Some mappings → IfOk result (λ k. k ≡ mappings) → IfOk result (AreFrom pid known)
  from_kept mappings (Ok k) found is = rw found is
  from_kept mappings (Err e) found is = tt

  -- and are used, where there are some
  pub some_used : (mappings : List Mapping) (result : Result (List Mapping) Error) → AreFrom pid known mappings → result ≡ if_some mappings → IfOk result (AreUsed pid known)
  some_used [] result from is = rw is tt
  some_used (mapping ∷ later) result from is = rw is (record { from = from; positive = refl })

none_lacks : (pid : Pid) (known : Option (List Mapping)) → AreFrom pid known [] → LacksMappings known errors.UnexpectedEof
none_lacks pid (Some kept) from = ap if_some (sym from)
none_lacks pid None from = tt

pub some_lack : (pid : Pid) (known : Option (List Mapping)) (mappings : List Mapping) (result : Result (List Mapping) Error) → AreFrom pid known mappings → result ≡ if_some mappings → IfErr result (LacksMappings known)
some_lack pid known [] result from is = rw is (none_lacks pid known from)
some_lack pid known (mapping ∷ later) result from is = rw is tt

-- memory ran out for kept mappings
pub kept_lacks : (known : Option (List Mapping)) (result : Result (List Mapping) Error) → IsOkUnless result errors.OutOfMemory → IfErr result (LacksMappings known)
kept_lacks known (Ok k) memory = tt
kept_lacks known (Err e) memory = rw memory tt

-- their text was refused
pub text_lacks : (result : Result (List Mapping) Error) → IfErr result IsReadRefusal → IfErr result (LacksMappings None)
text_lacks (Ok k) refusal = tt
text_lacks (Err e) refusal = lacks e refusal
  where
    lacks : (e : Error) → IsReadRefusal e → LacksMappings None e
    lacks errors.OutOfMemory is = tt
    lacks errors.UnexpectedEof is = tt
    lacks _ is = is

-- what holds holds of an answered call
on_ok : {A : Type 0} (result : Result A Error) (P : Type 0) → P → OnOk result P
on_ok (Ok x) P p = p
on_ok (Err e) P p = tt

unread : (expected : Result (List Mapping) Error) (e : Error) → FailsAs expected e → UnlessFailed {A = Symbolized} (Err e) ((told : List Mapping) → expected ≡ Ok told → told ≡ [])
unread expected errors.ReadFault fails = tt
unread expected errors.OutOfMemory fails = tt
unread expected _ fails = λ told is. let none : Err _ ≡ Ok told = sym fails ∙ is in cc none

module _ {R X : Type 0} (files : Ghosts X) (terms : Terms R) (maps : List (Pid × List Mapping)) where
  abbrev own_maps : Option (List Mapping)
  own_maps = value_at pid_cmp maps terms.asked.pid

  -- its mappings were looked for
  abbrev Finds : Result (List Mapping) Error → KeptToAnswer R → X → X → Type 0
  Finds result old before after = TakesStep files terms.asked.own (λ (k : List Mapping). k) (some_mappings terms.asked.pid own_maps) result old.caches old.caches before after

  module _ (addrs : List ℕ) where
    -- the mappings, and then the addresses
    pub asks_mapped : (mappings : List Mapping) (result : Result (Vec Symbolized Global) Error) (old now : KeptToAnswer R) (before middle after : X) →
        Finds (Ok mappings) old before middle → AreUsed terms.asked.pid own_maps mappings → AsksAll files terms mappings addrs result old now middle after →
        Keeps old.answers now.answers → AsksBatch files terms maps addrs result old now before after
    asks_mapped mappings result old now before middle after one used all keeps = record {
      mappings = mappings;
      mapped = λ world seen. on_ok result _ (one.told world seen).answer;
      used = inl (used, subst (λ (view : Option World). SomeBatch view readings terms.asked mappings all.front all.rest result old.caches now.caches) (ap in_view one.looked.worlds) all.untold);
      tied = λ world seen. inl (one.told world seen).answer;
      front = all.front;
      rest = all.rest;
      addrs_are = all.addrs_are;
      all = all.all;
      allowed = all.allowed;
      keeps = keeps;
      adds = all.adds;
      step = in_order files terms.asked.own (λ (k : List Mapping). k) readings (some_mappings terms.asked.pid own_maps) (λ found. at_addresses terms.asked found (all.front ++ map unsaid (next_of all.rest))) mappings result
          old.caches old.caches now.caches before middle after one all.step;
    }

    -- the mappings are refused
    pub asks_unmapped : (e : Error) (old : KeptToAnswer R) (before after : X) → Finds (Err e) old before after → LacksMappings own_maps e → AsksBatch files terms maps addrs (Err e) old old before after
    asks_unmapped e old before after one lacks = record {
      mappings = [];
      mapped = λ world seen. tt;
      used = inr (record { refused = refl; refusal = lacks; unchanged = refl; unsaid = refl });
      tied = λ world seen. inr (refl, refl);
      front = [];
      rest = addrs;
      addrs_are = refl;
      all = tt;
      allowed = λ n a kept. kept;
      keeps = λ n a kept. kept;
      adds = λ n a kept. inl kept;
      step = refused files terms.asked.own (λ (k : List Mapping). k) readings (some_mappings terms.asked.pid own_maps) (λ found. at_addresses terms.asked found (map unsaid (next_of addrs))) e old.caches old.caches before after one;
    }

  module _ (addr : ℕ) where
    -- the mappings, and then the address
    pub asks_mapped_at : (mappings : List Mapping) (result : Result Symbolized Error) (old now : KeptToAnswer R) (before middle after : X) →
        Finds (Ok mappings) old before middle → AreUsed terms.asked.pid own_maps mappings → AsksAddress files terms mappings addr result old now middle after →
        Keeps old.answers now.answers → AddsAmong terms.test mappings (addr ∷ []) old.answers now.answers → AsksSingle files terms maps addr result old now before after
    asks_mapped_at mappings result old now before middle after one used asks keeps adds = record {
      mappings = mappings;
      mapped = λ world seen. unless result _ (λ told is. let same : Ok told ≡ Ok mappings = sym is ∙ (one.told world seen).answer in cc same);
      used = inl (used, asks.untold);
      tied = λ world seen. inl (one.told world seen).answer;
      said = asks.said;
      allowed = asks.allowed;
      faultless = asks.faultless;
      keeps = keeps;
      adds = adds;
      step = in_order files terms.asked.own (λ (k : List Mapping). k) reading (some_mappings terms.asked.pid own_maps) (λ found. at_address terms.asked found (addr, asks.said)) mappings result
          old.caches old.caches now.caches before middle after one asks.step;
    }

    -- the mappings are refused
    pub asks_unmapped_at : (e : Error) (old : KeptToAnswer R) (before after : X) → Finds (Err e) old before after → LacksMappings own_maps e → AsksSingle files terms maps addr (Err e) old old before after
    asks_unmapped_at e old before after one lacks = record {
      mappings = [];
      mapped = λ world seen. unread _ e (one.told world seen).answer;
      used = inr (record { refused = refl; refusal = lacks; unchanged = refl; unsaid = refl });
      tied = λ world seen. inr (refl, refl);
      said = None;
      allowed = unless {A = Symbolized} (Err e) _ refl;
      faultless = tt;
      keeps = λ n a kept. kept;
      adds = λ n a kept. inl kept;
      step = refused files terms.asked.own (λ (k : List Mapping). k) reading (some_mappings terms.asked.pid own_maps) (λ found. at_address terms.asked found (addr, None)) e old.caches old.caches before after one;
    }
