-- The request that is read of a text is the one that it spells.
use Rattle.std.proofs.Common.{◌≡◌, ℕ, Bool, true, false, ◌&&◌, nat_lt, cond, List, [], ◌∷◌, length, codes, Some, None, option_map, option_and_then, bytes_eq, refl, sym, ap, subst, ◌∙◌}
use Rattle.std.specs.List.{AllZip}
use Rattle.std.specs.Str.{is_utf8}
use Rattle.std.proofs.lemmas.Bool.{and_parts, cond_both, ltb-true}
use Rattle.std.proofs.lemmas.Option.{same_Some}
use Rattle.std.proofs.lemmas.Slice.Eq.{bytes_eq-Decides}
use Rattle.std.proofs.lemmas.Str.{IsUtf8-from_is_utf8}
use Rattle.bz_base.proofs.NumberLemmas.{decimal_whole_found, decimal_whole_again}
use Rattle.bz_requests.specs.Addresses.{IsAddress, address_in, each_address_in}
use Rattle.bz_requests.specs.Fields.{fields}
use Rattle.bz_requests.specs.Lines.{ReadsAsSpelled}
use Rattle.bz_requests.proofs.AddressLemmas.{address_found, address_again, addresses_found, addresses_again}
use Rattle.bz_requests.proofs.FieldLemmas.{are_fields, fields_are}
use Rattle.bz_requests.proofs.OptionLemmas.{map_some, then_some}
use Rattle.bz_requests.specs.Requests.{Target, Breakpad, Gsym, Elf, Process, Request, Batch, Single, CacheElf, CacheProcess, EvictElf, EvictProcess, IsPath, IsPid, IsTarget, IsRequest, Spell, path_in, pid_in, target_in, batch_in, single_in, target_alone_in, request_to, cache_in, evict_in, other_in, request_by, request_in}
use Rattle.bz_requests.proofs.ReadingLemmas.{path_some}

-- a text that is tested to be a word is the word
is_word : (text word : List ℕ) → bytes_eq text word ≡ true → text ≡ word
is_word text word is = (bytes_eq-Decides text word).0 is

-- What is read is what the fields spell.

path_found : (field path : List ℕ) → path_in field ≡ Some path → IsPath field path
path_found field path read = by_test (nat_lt 0 (length field) && is_utf8 field) refl read
  where
    by_test : (test : Bool) → (nat_lt 0 (length field) && is_utf8 field) ≡ test → cond test (Some field) None ≡ Some path → IsPath field path
    by_test false is from = cc
    by_test true is from =
        let same : field ≡ path = cc in
        let parts = and_parts (nat_lt 0 (length field)) (is_utf8 field) is in
        record { same = same; positive = ltb-true 0 (length field) parts.0; utf8 = IsUtf8-from_is_utf8 field parts.1 }

target_found : (kind field : List ℕ) (target : Target) → target_in kind field ≡ Some target → IsTarget kind field target
target_found kind field target =
    cond_both (bytes_eq kind (codes "breakpad")) _ _ (λ read. read ≡ Some target → IsTarget kind field target)
    (λ is read. let path = map_some (λ path. Breakpad path) (path_in field) target read in
    subst (IsTarget kind field) path.2 (is_word kind (codes "breakpad") is, path_found field path.0 path.1))
    (λ other. cond_both (bytes_eq kind (codes "gsym")) _ _ (λ read. read ≡ Some target → IsTarget kind field target)
    (λ is read. let path = map_some (λ path. Gsym path) (path_in field) target read in
    subst (IsTarget kind field) path.2 (is_word kind (codes "gsym") is, path_found field path.0 path.1))
    (λ other. cond_both (bytes_eq kind (codes "elf")) _ _ (λ read. read ≡ Some target → IsTarget kind field target)
    (λ is read. let path = map_some (λ path. Elf path) (path_in field) target read in
    subst (IsTarget kind field) path.2 (is_word kind (codes "elf") is, path_found field path.0 path.1))
    (λ other. cond_both (bytes_eq kind (codes "process")) _ _ (λ read. read ≡ Some target → IsTarget kind field target)
    (λ is read. let pid = map_some (λ pid. Process pid) (pid_in field) target read in
    subst (IsTarget kind field) pid.2 (is_word kind (codes "process") is, decimal_whole_found 10 4294967295 field pid.0 pid.1))
    (λ other read. cc))))

batch_found : (kind field : List ℕ) (others : List (List ℕ)) (request : Request) → batch_in kind field others ≡ Some request → Spell (kind ∷ field ∷ others) request
batch_found kind field others request read =
    let target = then_some (λ target. option_map (λ addrs. Batch target addrs) (each_address_in others)) (target_in kind field) request read in
    let addrs = map_some (λ addrs. Batch target.0 addrs) (each_address_in others) request target.2 in
    subst (Spell (kind ∷ field ∷ others)) addrs.2 (kind, field, others, refl, target_found kind field target.0 target.1, addresses_found others addrs.0 addrs.1)

single_found : (all : List (List ℕ)) (request : Request) → single_in all ≡ Some request → Spell (codes "single" ∷ all) request
single_found [] request read = cc
single_found (kind ∷ []) request read = cc
single_found (kind ∷ field ∷ []) request read = cc
single_found (kind ∷ field ∷ other ∷ []) request read =
    let target = then_some (λ target. option_map (λ addr. Single target addr) (address_in other)) (target_in kind field) request read in
    let addr = map_some (λ addr. Single target.0 addr) (address_in other) request target.2 in
    subst (Spell (codes "single" ∷ kind ∷ field ∷ other ∷ [])) addr.2 (kind, field, other, refl, target_found kind field target.0 target.1, address_found other addr.0 addr.1)
single_found (kind ∷ field ∷ other ∷ more ∷ others) request read = cc

-- a request that an ELF file or a process alone makes, behind a word
module _ (word : List ℕ) (of_path : List ℕ → Request) (of_pid : ℕ → Request)
    (by_path : (field path : List ℕ) → IsPath field path → Spell (word ∷ codes "elf" ∷ field ∷ []) (of_path path))
    (by_pid : (field : List ℕ) (pid : ℕ) → IsPid field pid → Spell (word ∷ codes "process" ∷ field ∷ []) (of_pid pid)) where
  alone_spelled : (kind field : List ℕ) (target : Target) (request : Request) → IsTarget kind field target → request_to of_path of_pid target ≡ Some request →
      Spell (word ∷ kind ∷ field ∷ []) request
  alone_spelled kind field (Breakpad path) request named made = cc
  alone_spelled kind field (Gsym path) request named made = cc
  alone_spelled kind field (Elf path) request (is, spelled) made =
      subst (λ k. Spell (word ∷ k ∷ field ∷ []) request) (sym is) (subst (Spell (word ∷ codes "elf" ∷ field ∷ [])) (same_Some (of_path path) request made) (by_path field path spelled))
  alone_spelled kind field (Process pid) request (is, spelled) made =
      subst (λ k. Spell (word ∷ k ∷ field ∷ []) request) (sym is) (subst (Spell (word ∷ codes "process" ∷ field ∷ [])) (same_Some (of_pid pid) request made) (by_pid field pid spelled))

  alone_found : (all : List (List ℕ)) (request : Request) → option_and_then (request_to of_path of_pid) (target_alone_in all) ≡ Some request → Spell (word ∷ all) request
  alone_found [] request read = cc
  alone_found (kind ∷ []) request read = cc
  alone_found (kind ∷ field ∷ []) request read =
      let target = then_some (request_to of_path of_pid) (target_in kind field) request read in
      alone_spelled kind field target.0 request (target_found kind field target.0 target.1) target.2
  alone_found (kind ∷ field ∷ more ∷ others) request read = cc

cache_found : (all : List (List ℕ)) (request : Request) → cache_in all ≡ Some request → Spell (codes "cache" ∷ all) request
cache_found = alone_found (codes "cache") CacheElf CacheProcess (λ field path is. (field, refl, is)) (λ field pid is. (field, refl, is))

evict_found : (all : List (List ℕ)) (request : Request) → evict_in all ≡ Some request → Spell (codes "evict" ∷ all) request
evict_found = alone_found (codes "evict") EvictElf EvictProcess (λ field path is. (field, refl, is)) (λ field pid is. (field, refl, is))

other_found : (kind : List ℕ) (all : List (List ℕ)) (request : Request) → other_in kind all ≡ Some request → Spell (kind ∷ all) request
other_found kind [] request read = cc
other_found kind (field ∷ others) request read = batch_found kind field others request read

-- fields by the word in front
fields_found : (all : List (List ℕ)) (request : Request) → request_by all ≡ Some request → Spell all request
fields_found [] request read = cc
fields_found (first ∷ others) request read = by_word read
  where
    behind : (word : List ℕ) → first ≡ word → Spell (word ∷ others) request → Spell (first ∷ others) request
    behind word is spelled = subst (λ f. Spell (f ∷ others) request) (sym is) spelled

    by_word : request_by (first ∷ others) ≡ Some request → Spell (first ∷ others) request
    by_word =
        cond_both (bytes_eq first (codes "single")) _ _ (λ found. found ≡ Some request → Spell (first ∷ others) request)
        (λ is from. behind (codes "single") (is_word first (codes "single") is) (single_found others request from))
        (λ other. cond_both (bytes_eq first (codes "cache")) _ _ (λ found. found ≡ Some request → Spell (first ∷ others) request)
        (λ is from. behind (codes "cache") (is_word first (codes "cache") is) (cache_found others request from))
        (λ other. cond_both (bytes_eq first (codes "evict")) _ _ (λ found. found ≡ Some request → Spell (first ∷ others) request)
        (λ is from. behind (codes "evict") (is_word first (codes "evict") is) (evict_found others request from))
        (λ other from. other_found first others request from)))

-- What the fields spell is read.

path_again : (field path : List ℕ) → IsPath field path → path_in field ≡ Some path
path_again field path is = path_some field is.positive is.utf8 ∙ ap Some is.same

target_again : (kind field : List ℕ) (target : Target) → IsTarget kind field target → target_in kind field ≡ Some target
target_again kind field (Breakpad path) (is, spelled) = ap (λ k. target_in k field) is ∙ ap (option_map (λ path. Breakpad path)) (path_again field path spelled)
target_again kind field (Gsym path) (is, spelled) = ap (λ k. target_in k field) is ∙ ap (option_map (λ path. Gsym path)) (path_again field path spelled)
target_again kind field (Elf path) (is, spelled) = ap (λ k. target_in k field) is ∙ ap (option_map (λ path. Elf path)) (path_again field path spelled)
target_again kind field (Process pid) (is, spelled) =
    ap (λ k. target_in k field) is ∙ ap (option_map (λ pid. Process pid)) (decimal_whole_again 10 4294967295 field pid spelled)

batch_again : (kind field : List ℕ) (others : List (List ℕ)) (target : Target) (addrs : List ℕ) → IsTarget kind field target → AllZip IsAddress others addrs →
    batch_in kind field others ≡ Some (Batch target addrs)
batch_again kind field others target addrs named each = rw (target_again kind field target named, addresses_again others addrs each) refl

-- a target's kind is none of the other words
by_kind : (kind field : List ℕ) (others : List (List ℕ)) (target : Target) → IsTarget kind field target → request_by (kind ∷ field ∷ others) ≡ batch_in kind field others
by_kind kind field others (Breakpad path) (is, spelled) = rw is refl
by_kind kind field others (Gsym path) (is, spelled) = rw is refl
by_kind kind field others (Elf path) (is, spelled) = rw is refl
by_kind kind field others (Process pid) (is, spelled) = rw is refl

fields_again : (all : List (List ℕ)) (request : Request) → Spell all request → request_by all ≡ Some request
fields_again all (Batch target addrs) (kind, field, others, are, named, each) =
    ap request_by are ∙ by_kind kind field others target named ∙ batch_again kind field others target addrs named each
fields_again all (Single target addr) (kind, field, other, are, named, spelled) =
    ap request_by are ∙ rw (target_again kind field target named, address_again other addr spelled) refl
fields_again all (CacheElf path) (field, are, spelled) = ap request_by are ∙ ap (option_and_then (request_to CacheElf CacheProcess)) (target_again (codes "elf") field (Elf path) (refl, spelled))
fields_again all (CacheProcess pid) (field, are, spelled) =
    ap request_by are ∙ ap (option_and_then (request_to CacheElf CacheProcess)) (target_again (codes "process") field (Process pid) (refl, spelled))
fields_again all (EvictElf path) (field, are, spelled) = ap request_by are ∙ ap (option_and_then (request_to EvictElf EvictProcess)) (target_again (codes "elf") field (Elf path) (refl, spelled))
fields_again all (EvictProcess pid) (field, are, spelled) =
    ap request_by are ∙ ap (option_and_then (request_to EvictElf EvictProcess)) (target_again (codes "process") field (Process pid) (refl, spelled))

-- Texts.

pub request_found : (text : List ℕ) (request : Request) → request_in text ≡ Some request → IsRequest text request
unfolding request_in
request_found text request read = record { all = fields text; are_fields = are_fields text; spelled = fields_found (fields text) request read }

pub request_again : (text : List ℕ) (request : Request) → IsRequest text request → request_in text ≡ Some request
unfolding request_in
request_again text request is = ap request_by (fields_are text is.all is.are_fields) ∙ fields_again is.all request is.spelled

-- so reader and relation agree
pub request_agrees : ReadsAsSpelled request_in IsRequest
request_agrees b content request = (request_found (b ∷ content) request, request_again (b ∷ content) request)
