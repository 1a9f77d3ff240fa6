-- What a process answers at an address, step by step: what each step gives, what it leaves, and how
-- many files it reads.
use Rattle.std.specs.Prelude.{ℕ, ◌+◌, ◌-◌, Bool, true, false, cond, List, [], ◌∷◌, Option, Some, None, option_and_then, Result, Ok, Err}
use Rattle.std.specs.declared.cmp.Ordering.{Ordering}
use Rattle.bz_base.specs.Answer.{Answer, Unknown, in_batch}
use Rattle.bz_base.specs.Resolution as resolution
use Rattle.bz_base.specs.Span.{fitting}
use Rattle.bz_base.specs.declared.error.Error.{Error}
use Rattle.bz_base.specs.declared.error.Error.TheVariants as errors
use Rattle.bz_base.specs.declared.types.Reason.TheVariants as reasons
use Rattle.bz_files.specs.World.{World, entry_at, has_file}
use Rattle.bz_cache.specs.InsertMap.{value_at, with_absent}
use Rattle.bz_elf.specs.Format as elf
use Rattle.bz_elf.specs.Plain as elf_plain
use Rattle.bz_elf.specs.Segments.{segments, translated}
use Rattle.bz_proc.specs.Maps.{Mapping, Name, File, Component, owner_of}
use Rattle.bz_proc.specs.PerfMap as perf
use Rattle.bz_proc.specs.PerfPath.{perf_map_path}
use Rattle.bz_proc.specs.PerfId.{ns_tgid_of, status_path}
use Rattle.bz_base.specs.contracts.pid.PidOrd.TheImpl as pid_ord
use Rattle.bz_base.specs.declared.pid.Pid.{Pid}
use Rattle.bz_cache.specs.FileCall.{Question, file_answer, file_cache, file_opens}
use Rattle.bz_process.specs.Remembered.{Remembered}
use Rattle.bz_process.specs.Asked.{Asked}
use Rattle.bz_process.specs.Caches.{ProcessCaches}

-- the order of processes
abbrev pub pid_cmp : Pid → Pid → Ordering
pid_cmp = (pid_ord.ghosts).cmp

-- what a step gives or how it is refused, what it leaves, and how many files it reads at most
pub record StepOutcome (B : Type 0) : Type 0 where
  pub answer : Result B Error
  pub left : ProcessCaches
  pub opens : ℕ

-- a step of a call in some world, by what is kept when it begins
abbrev pub Step : Type 0 → Type 0
Step B = World → ProcessCaches → StepOutcome B

-- nothing is looked at, and this is given
abbrev pub gives : {B : Type 0} → B → Step B
gives given world kept = record { answer = Ok given; left = kept; opens = 0 }

-- what comes after a step with this result
abbrev pub followed : {A B : Type 0} → Result A Error → ProcessCaches → ℕ → (A → ProcessCaches → StepOutcome B) → StepOutcome B
followed (Ok given) left opens next = record { answer = (next given left).answer; left = (next given left).left; opens = opens + (next given left).opens }
followed (Err e) left opens next = record { answer = Err e; left = left; opens = opens }

-- a step, and if it isn't refused another
abbrev pub and_then : {A B : Type 0} → Step A → (A → Step B) → Step B
and_then first next world kept =
    followed (first world kept).answer (first world kept).left (first world kept).opens (λ given left. next given world left)

-- a file that is absent makes the address unknown
abbrev pub or_unknown : Result Answer Error → Result Answer Error
or_unknown (Ok answer) = Ok answer
or_unknown (Err errors.NotFound) = Ok (Unknown reasons.UnknownAddr)
or_unknown (Err e) = Err e

abbrev pub unless_absent : Step Answer → Step Answer
unless_absent step world kept = record { answer = or_unknown (step world kept).answer; left = (step world kept).left; opens = (step world kept).opens }

-- 1 where this is so, and else 0
abbrev pub count_of : Bool → ℕ
count_of opened = cond opened 1 0

-- what an ELF file at a path answers
abbrev pub of_elf : {B : Type 0} → Question B → List ℕ → Step B
of_elf asked path world kept = record {
  answer = file_answer asked kept.elf path (entry_at world path);
  left = record kept { elf = file_cache asked.test asked.taken kept.elf path (entry_at world path) };
  opens = count_of (file_opens asked.taken kept.elf path (entry_at world path));
}

-- what a perf map at a path answers
abbrev pub of_perf_map : {B : Type 0} → Question B → List ℕ → Step B
of_perf_map asked path world kept = record {
  answer = file_answer asked kept.perf_maps path (entry_at world path);
  left = record kept { perf_maps = file_cache asked.test asked.taken kept.perf_maps path (entry_at world path) };
  opens = count_of (file_opens asked.taken kept.perf_maps path (entry_at world path));
}

-- the offset in its file of an address that a mapping has
abbrev pub offset_in : Mapping → ℕ → Option ℕ
offset_in mapping addr = fitting (addr - mapping.start + mapping.offset)

-- what an ELF file says of an address as its symbol table has it, if there is one. The module is the
-- path that names the file
abbrev pub elf_by_table : List ℕ → List ℕ → Option ℕ → Answer
elf_by_table «module» bytes None = Unknown reasons.InvalidFileOffset
elf_by_table «module» bytes (Some addr) = resolution.answer_at addr (elf_plain.plain (Some «module») bytes addr)

-- what an ELF file says of an offset in it, if there is one: offsets go through the load segments
abbrev pub elf_at : List ℕ → Option ℕ → List ℕ → Answer
elf_at «module» offset bytes = elf_by_table «module» bytes (option_and_then (translated (segments bytes)) offset)

abbrev pub asks_elf : List ℕ → Option ℕ → Question Answer
asks_elf «module» offset = record { test = elf.format_test; taken = true; given = λ bytes. Ok (elf_at «module» offset bytes) }

abbrev pub asks_perf_map : ℕ → Question Answer
asks_perf_map addr = record { test = perf.format_test; taken = true; given = λ bytes. Ok (resolution.answer_at addr (perf.plain bytes addr)) }

-- what is remembered of a process with this id
abbrev pub remembered : Pid → ℕ → ℕ → Remembered
remembered pid own id = record { id = id; perf_map = perf_map_path pid own id }

-- a process is remembered by the id that was told
abbrev pub by_id : Pid → ℕ → ℕ → ProcessCaches → Result ℕ Error → StepOutcome Remembered
by_id pid own opens kept (Ok id) = record { answer = Ok (remembered pid own id); left = record kept { ids = with_absent pid_cmp kept.ids pid (remembered pid own id) }; opens = opens }
by_id pid own opens kept (Err e) = record { answer = Err e; left = kept; opens = opens }

-- what is remembered of a process; if nothing is, what its status tells, which is then remembered
abbrev pub by_kept : Pid → ℕ → World → ProcessCaches → Option Remembered → StepOutcome Remembered
by_kept pid own world kept (Some known) = record { answer = Ok known; left = kept; opens = 0 }
by_kept pid own world kept None = by_id pid own (count_of (has_file (entry_at world (status_path pid)))) kept (ns_tgid_of pid own (entry_at world (status_path pid)))

abbrev pub remember : Pid → ℕ → Step Remembered
remember pid own world kept = by_kept pid own world kept (value_at pid_cmp kept.ids pid)

-- what the perf map of a process says of an address
abbrev pub by_perf_map : Pid → ℕ → ℕ → Step Answer
by_perf_map pid own addr = unless_absent (and_then (remember pid own) (λ known. of_perf_map (asks_perf_map addr) known.perf_map))

-- an address of a mapping without a name
abbrev pub by_asked : Bool → Asked → ℕ → Step Answer
by_asked true asked addr = by_perf_map asked.pid asked.own addr
by_asked false asked addr = gives (Unknown reasons.UnknownAddr)

-- an address of a mapping with this name, where no resolver is in charge
abbrev pub by_name : Asked → Mapping → ℕ → Name → Step Answer
by_name asked mapping addr (Component text) = gives (Unknown reasons.Unsupported)
by_name asked mapping addr (File maps_file symbolic_path) = of_elf (asks_elf symbolic_path (offset_in mapping addr)) (cond asked.map_files maps_file symbolic_path)

-- what a dispatcher, or the resolver that it gave, said for an address: an answer or a refusal; none
-- where no resolver is in charge
abbrev pub Said : Type 0
Said = Option (Result Answer Error)

abbrev pub by_said : Asked → Mapping → ℕ → Name → Said → Step Answer
by_said asked mapping addr name (Some given) world kept = record { answer = given; left = kept; opens = 0 }
by_said asked mapping addr name None world kept = by_name asked mapping addr name world kept

abbrev pub by_mapping : Asked → Mapping → ℕ → Said → Option Name → Step Answer
by_mapping asked mapping addr said None = by_asked asked.perf_map asked addr
by_mapping asked mapping addr said (Some name) = by_said asked mapping addr name said

abbrev pub by_owner : Asked → ℕ → Said → Option Mapping → Step Answer
by_owner asked addr said None = gives (Unknown reasons.Unmapped)
by_owner asked addr said (Some mapping) = by_mapping asked mapping addr said mapping.name

-- an address, by the mappings of its process
abbrev pub at_address : Asked → List Mapping → ℕ × Said → Step Answer
at_address asked mappings item = by_owner asked item.0 item.1 (owner_of mappings item.0)

-- what addresses give one after another, each by what those before it left
pub record Batched : Type 0 where
  -- one for each address. A refused address is an ignored error
  pub answers : List Answer
  -- what is kept after the last
  pub left : ProcessCaches
  -- how many files are read at most
  pub opens : ℕ

abbrev pub with_first : StepOutcome Answer → Batched → Batched
with_first first rest = record { answers = in_batch first.answer ∷ rest.answers; left = rest.left; opens = first.opens + rest.opens }

abbrev pub batched : Asked → List Mapping → List (ℕ × Said) → World → ProcessCaches → Batched
batched asked mappings [] world kept = record { answers = []; left = kept; opens = 0 }
batched asked mappings (item ∷ items) world kept =
    with_first (at_address asked mappings item world kept) (batched asked mappings items world (at_address asked mappings item world kept).left)

-- the batch as a step
abbrev pub at_addresses : Asked → List Mapping → List (ℕ × Said) → Step (List Answer)
at_addresses asked mappings items world kept =
    record { answer = Ok (batched asked mappings items world kept).answers; left = (batched asked mappings items world kept).left; opens = (batched asked mappings items world kept).opens }

-- an address for which no resolver is in charge
abbrev pub unsaid : ℕ → ℕ × Said
unsaid addr = (addr, None)
