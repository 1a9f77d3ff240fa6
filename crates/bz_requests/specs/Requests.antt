-- Requests as lines spell them: fields with one space between each two.
use Rattle.std.specs.Prelude.{◌≡◌, ℕ, ◌<◌, ◌&&◌, nat_lt, List, [], ◌∷◌, length, codes, Option, Some, None, Result, option_map, option_and_then, if◌then◌else◌, bytes_eq, string_bytes}
use Rattle.std.specs.List.{AllZip}
use Rattle.std.specs.Str.{IsUtf8, is_utf8}
use Rattle.bz_base.specs.InputKind.{AddressKind, InFile, InProcess, InTable}
use Rattle.bz_base.specs.Number.{IsDecimal, decimal_at, whole}
use Rattle.bz_requests.specs.Addresses.{IsAddress, address_in, each_address_in}
use Rattle.bz_requests.specs.Fields.{AreFields, fields}
use Rattle.bz_requests.specs.Lines.{AreItems, items_in}
use Rattle.bz_requests.specs.declared.requests.Request as made_request
use Rattle.bz_requests.specs.declared.requests.Request.TheVariants as made_requests
use Rattle.bz_requests.specs.declared.requests.Target as made_target
use Rattle.bz_requests.specs.declared.requests.Target.TheVariants as made_targets

-- a source of symbols: the file of a format at a path, or a process by its id, 0 being the own one
pub data Target : Type 0 where
  Breakpad : List ℕ → Target
  Gsym : List ℕ → Target
  Elf : List ℕ → Target
  Process : ℕ → Target

-- what a symbolizer is asked: the answers of a target to addresses, or to one alone. Or it is to keep,
-- or to forget, an ELF file, or the mappings and the perf map of a process
pub data Request : Type 0 where
  Batch : Target → List ℕ → Request
  Single : Target → ℕ → Request
  CacheElf : List ℕ → Request
  CacheProcess : ℕ → Request
  EvictElf : List ℕ → Request
  EvictProcess : ℕ → Request

-- the same of the values that the code has
abbrev pub target_of : made_target.Target → Target
target_of (made_targets.Breakpad path) = Breakpad (string_bytes path)
target_of (made_targets.Gsym path) = Gsym (string_bytes path)
target_of (made_targets.Elf path) = Elf (string_bytes path)
target_of (made_targets.Process pid) = Process pid

abbrev pub request_of : made_request.Request → Request
request_of (made_requests.Batch target addrs) = Batch (target_of target) addrs.items
request_of (made_requests.Single target addr) = Single (target_of target) addr
request_of (made_requests.CacheElf path) = CacheElf (string_bytes path)
request_of (made_requests.CacheProcess pid) = CacheProcess pid
request_of (made_requests.EvictElf path) = EvictElf (string_bytes path)
request_of (made_requests.EvictProcess pid) = EvictProcess pid

-- what addresses of a target are relative to, unless something else is said
abbrev pub usual_kind : Target → AddressKind
usual_kind (Breakpad path) = InFile
usual_kind (Gsym path) = InTable
usual_kind (Elf path) = InTable
usual_kind (Process pid) = InProcess

-- What a line spells.

-- a field is a path: UTF-8 text of at least one byte
pub record IsPath (field path : List ℕ) : Type 0 where
  pub same : field ≡ path
  pub positive : 0 < length field
  pub utf8 : IsUtf8 field

-- a field is a process's id: 1 to 10 decimal digits of a number of 32 bits
abbrev pub IsPid : List ℕ → ℕ → Type 0
IsPid field pid = IsDecimal 10 4294967295 field pid

-- two fields name a target: its kind, and its path or id
abbrev pub IsTarget : List ℕ → List ℕ → Target → Type 0
IsTarget kind field (Breakpad path) = (kind ≡ codes "breakpad") × IsPath field path
IsTarget kind field (Gsym path) = (kind ≡ codes "gsym") × IsPath field path
IsTarget kind field (Elf path) = (kind ≡ codes "elf") × IsPath field path
IsTarget kind field (Process pid) = (kind ≡ codes "process") × IsPid field pid

-- fields that spell a request: `KIND TARGET ADDR ..`, `single KIND TARGET ADDR`, `cache elf PATH`,
-- `cache process PID`, `evict elf PATH`, `evict process PID`
abbrev pub Spell : List (List ℕ) → Request → Type 0
Spell all (Batch target addrs) =
    (kind field : List ℕ) × (others : List (List ℕ)) × (all ≡ kind ∷ field ∷ others) × IsTarget kind field target × AllZip IsAddress others addrs
Spell all (Single target addr) =
    (kind field other : List ℕ) × (all ≡ codes "single" ∷ kind ∷ field ∷ other ∷ []) × IsTarget kind field target × IsAddress other addr
Spell all (CacheElf path) = (field : List ℕ) × (all ≡ codes "cache" ∷ codes "elf" ∷ field ∷ []) × IsPath field path
Spell all (CacheProcess pid) = (field : List ℕ) × (all ≡ codes "cache" ∷ codes "process" ∷ field ∷ []) × IsPid field pid
Spell all (EvictElf path) = (field : List ℕ) × (all ≡ codes "evict" ∷ codes "elf" ∷ field ∷ []) × IsPath field path
Spell all (EvictProcess pid) = (field : List ℕ) × (all ≡ codes "evict" ∷ codes "process" ∷ field ∷ []) × IsPid field pid

-- a text is a request: its fields spell it
pub record IsRequest (text : List ℕ) (request : Request) : Type 0 where
  pub all : List (List ℕ)
  pub are_fields : AreFields text all
  pub spelled : Spell all request

-- the requests are those that the lines of the text say, in order
abbrev pub AreRequests : List ℕ → List Request → Type 0
AreRequests text requests = AreItems IsRequest text requests

-- What is read of a line, by its fields. That it is what the line spells is a law of this crate.

abbrev pub path_in : List ℕ → Option (List ℕ)
path_in field = if nat_lt 0 (length field) && is_utf8 field then Some field else None

abbrev pub pid_in : List ℕ → Option ℕ
pid_in field = whole (decimal_at 10 4294967295 field)

abbrev pub target_in : List ℕ → List ℕ → Option Target
target_in kind field =
    if bytes_eq kind (codes "breakpad") then option_map (λ path. Breakpad path) (path_in field)
    else (if bytes_eq kind (codes "gsym") then option_map (λ path. Gsym path) (path_in field)
    else (if bytes_eq kind (codes "elf") then option_map (λ path. Elf path) (path_in field)
    else (if bytes_eq kind (codes "process") then option_map (λ pid. Process pid) (pid_in field) else None)))

abbrev pub batch_in : List ℕ → List ℕ → List (List ℕ) → Option Request
batch_in kind field others = option_and_then (λ target. option_map (λ addrs. Batch target addrs) (each_address_in others)) (target_in kind field)

abbrev pub single_in : List (List ℕ) → Option Request
single_in (kind ∷ field ∷ other ∷ []) = option_and_then (λ target. option_map (λ addr. Single target addr) (address_in other)) (target_in kind field)
single_in _ = None

abbrev pub target_alone_in : List (List ℕ) → Option Target
target_alone_in (kind ∷ field ∷ []) = target_in kind field
target_alone_in _ = None

-- only an ELF file or a process is cached or evicted: the request of its path, or of its id
abbrev pub request_to : (List ℕ → Request) → (ℕ → Request) → Target → Option Request
request_to of_path of_pid (Elf path) = Some (of_path path)
request_to of_path of_pid (Process pid) = Some (of_pid pid)
request_to of_path of_pid _ = None

abbrev pub cache_in : List (List ℕ) → Option Request
cache_in all = option_and_then (request_to CacheElf CacheProcess) (target_alone_in all)

abbrev pub evict_in : List (List ℕ) → Option Request
evict_in all = option_and_then (request_to EvictElf EvictProcess) (target_alone_in all)

abbrev pub other_in : List ℕ → List (List ℕ) → Option Request
other_in kind (field ∷ others) = batch_in kind field others
other_in kind [] = None

abbrev pub request_by : List (List ℕ) → Option Request
request_by (first ∷ others) =
    if bytes_eq first (codes "single") then single_in others
    else (if bytes_eq first (codes "cache") then cache_in others else (if bytes_eq first (codes "evict") then evict_in others else other_in first others))
request_by [] = None

-- the request that the text spells
unfoldable pub request_in : List ℕ → Option Request
request_in text = request_by (fields text)

-- the requests of the text, or the number of its first bad line
abbrev pub requests_in : List ℕ → Result (List Request) ℕ
requests_in text = items_in request_in text
