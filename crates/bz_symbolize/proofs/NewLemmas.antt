-- What a symbolizer that keeps nothing answers.
use Rattle.std.proofs.Common.{◌≡◌, ℕ, Bool, true, false, List, Option, Some, None, Result, refl, ◌∙◌}
use Rattle.std.specs.FinMap as map
use Rattle.std.specs.Ordering.{nat_cmp}
use Rattle.std.specs.Cmp.Lexicographic.{slice_cmp}
use Rattle.bz_base.specs.Answer.{Answer}
use Rattle.bz_base.specs.InputKind.{AddressKind, InFile, InTable}
use Rattle.bz_base.specs.declared.error.Error.{Error}
use Rattle.bz_base.specs.declared.types.FindSymOpts.{FindSymOpts}
use Rattle.bz_files.specs.declared.stamp.Stamp.{Stamp}
use Rattle.bz_files.specs.World.{Entry, Denied, Present}
use Rattle.bz_cache.specs.Cache.{new_cache, stamp_cmp, PathState}
use Rattle.bz_cache.specs.Look as looking
use Rattle.bz_breakpad.specs.Reader.{table_in}
use Rattle.bz_breakpad.specs.Table.{Table}
use Rattle.bz_breakpad.specs.Version.{format_test, refusal_of}
use Rattle.bz_elf.specs.Format as elf
use Rattle.bz_gsym.specs.Tables.{is_gsym}
use Rattle.bz_gsym.specs.Version as gsym
use Rattle.bz_lookups.specs.Formats.{breakpad_answering, elf_answering, gsym_answering}
use Rattle.bz_cache.specs.View.{if_formed}
use Rattle.bz_symbolize.specs.FileCall.{Question, batch_of, query_asked, by_version, by_look, file_answer}
use Rattle.bz_symbolize.specs.Lookup.{breakpad_answer, by_table, elf_answer, fresh_answer, gsym_answer}

module _ (question : Question (List Answer)) (reload : Bool) (path : List ℕ) where
  -- bytes that are looked at for the first time answer as their version does
  by_first : (s : Stamp) (bytes : List ℕ) (t : Option Error) → question.test bytes ≡ t →
      by_look question (looking.by_test (new_cache reload) path s bytes t).0 ≡ by_version question bytes
  by_first s bytes None is = refl
  by_first s bytes (Some e) is = rw is refl

  by_there : (there : Option Entry) → by_look question (looking.by_entry question.test (new_cache reload) path there).0 ≡ fresh_answer (by_version question) there
  by_there None = refl
  by_there (Some Denied) = refl
  by_there (Some (Present s bytes)) = rw (map.get-empty {X = List ℕ} stamp_cmp s) (by_first s bytes (question.test bytes) refl)

  -- a cache that keeps nothing gives what lies at the path
  new_answer : question.taken ≡ true → (there : Option Entry) → file_answer question (new_cache reload) path there ≡ fresh_answer (by_version question) there
  new_answer taken there = rw (taken, map.get-empty {X = PathState} (slice_cmp nat_cmp) path) (by_there there)

-- answers by what lies there are alike where those by its bytes are
fresh_alike : (given other : List ℕ → Result (List Answer) Error) → ((bytes : List ℕ) → given bytes ≡ other bytes) → (there : Option Entry) → fresh_answer given there ≡ fresh_answer other there
fresh_alike given other same None = refl
fresh_alike given other same (Some Denied) = refl
fresh_alike given other same (Some (Present s bytes)) = same bytes

module _ (opts : FindSymOpts) (reload : Bool) (path : List ℕ) (addrs : List ℕ) where
  -- what a batch asks of a Breakpad file, and of a GSYM file
  abbrev of_breakpad : Question (List Answer)
  of_breakpad = query_asked format_test breakpad_answering opts path (batch_of InFile addrs)

  abbrev of_gsym : Question (List Answer)
  of_gsym = query_asked gsym.format_test gsym_answering opts path (batch_of InTable addrs)

  by_read : (bytes : List ℕ) (read : Option Table) → table_in bytes ≡ read → if_formed of_breakpad.given bytes (refusal_of read) ≡ by_table opts addrs read
  by_read bytes None is = refl
  by_read bytes (Some table) is = rw is refl

  by_tables : (bytes : List ℕ) (formed : Bool) → is_gsym bytes ≡ formed → by_version of_gsym bytes ≡ gsym_answer opts addrs bytes
  by_tables bytes true is = rw is refl
  by_tables bytes false is = rw is refl

  -- a symbolizer that keeps nothing answers by what lies at the path
  pub new_breakpad : (there : Option Entry) → file_answer of_breakpad (new_cache reload) path there ≡ fresh_answer (breakpad_answer opts addrs) there
  new_breakpad there = new_answer of_breakpad reload path refl there ∙ fresh_alike (by_version of_breakpad) (breakpad_answer opts addrs) (λ bytes. by_read bytes (table_in bytes) refl) there

  pub new_gsym : (there : Option Entry) → file_answer of_gsym (new_cache reload) path there ≡ fresh_answer (gsym_answer opts addrs) there
  new_gsym there = new_answer of_gsym reload path refl there ∙ fresh_alike (by_version of_gsym) (gsym_answer opts addrs) (λ bytes. by_tables bytes (is_gsym bytes) refl) there

  -- what a batch of any kind asks of an ELF file
  abbrev of_elf : AddressKind → Question (List Answer)
  of_elf kind = query_asked elf.format_test elf_answering opts path (batch_of kind addrs)

  pub by_profile : (kind : AddressKind) (bytes : List ℕ) (refusal : Option Error) → elf.format_test bytes ≡ refusal → by_version (of_elf kind) bytes ≡ elf_answer path kind addrs bytes
  by_profile kind bytes None is = rw is refl
  by_profile kind bytes (Some e) is = rw is refl

  pub new_elf : (kind : AddressKind) (there : Option Entry) → file_answer (of_elf kind) (new_cache reload) path there ≡ fresh_answer (elf_answer path kind addrs) there
  new_elf kind there =
      new_answer (of_elf kind) reload path refl there ∙ fresh_alike (by_version (of_elf kind)) (elf_answer path kind addrs) (λ bytes. by_profile kind bytes (elf.format_test bytes) refl) there
