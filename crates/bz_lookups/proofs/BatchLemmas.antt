-- What a version answers to a batch.
use Rattle.std.proofs.Common.{◌≡◌, ◌<◌, ◌+◌, ℕ, List, [], ◌∷◌, ◌++◌, length, map, take, option_map, Some, slice_get, slice_index, Result, Ok, Err, IfOk, IsOkUnless, Vec, Global, ap, ap₂, subst, sym, ◌∙◌}
use Rattle.std.specs.List.{AllByRecursion}
use Rattle.std.proofs.lemmas.List.{map-append, take_more}
use Rattle.std.proofs.lemmas.Simd.{map-map}
use Rattle.std.proofs.lemmas.Option.{slice_get-get_or, slice_get-map}
use Rattle.bz_base.specs.Answer.{Answer, Gives, reading}
use Rattle.bz_base.specs.declared.error.Error.{Error}
use Rattle.bz_base.specs.declared.error.Error.TheVariants as errors
use Rattle.bz_base.specs.declared.types.FindSymOpts.{FindSymOpts}
use Rattle.bz_base.specs.declared.types.Symbolized.{Symbolized}
use Rattle.bz_breakpad.specs.Plain.{batch}
use Rattle.bz_breakpad.specs.Reader.{table_in}
use Rattle.bz_breakpad.specs.Table.{Table}
use Rattle.bz_lookups.specs.Batch.{Batch, BreakpadVersion, Version, answer_at, answers_there, answers_to, batch_by, entry_by}

-- the answer of a batch at an index is what its version answers at the address there
pub answer_there : (batch : Batch) (i : ℕ) → i < length batch.addrs → slice_get batch.answers i ≡ Some (answer_at batch (slice_index batch.addrs i))
answer_there batch i within =
    let single = λ (addr : ℕ). answer_at batch addr in
    ap (λ (list : List Answer). slice_get list i) batch.plain ∙ slice_get-map single batch.addrs i ∙ ap (option_map single) (slice_get-get_or batch.addrs i 0 within)

-- what holds of each and of one more holds of all
pub all_and_one : {X : Type 0} (P : X → Type 0) (xs : List X) (x : X) → AllByRecursion P xs → P x → AllByRecursion P (xs ++ x ∷ [])
all_and_one P [] x all one = (one, tt)
all_and_one P (y ∷ ys) x all one = (all.0, all_and_one P ys x all.1 one)

-- the answers so far, and the next one
pub one_more : (answer : ℕ → Answer) (xs : List ℕ) (k : ℕ) (old : List Symbolized) (next : Symbolized) → k < length xs →
    map reading old ≡ map answer (take k xs) → reading next ≡ answer (slice_index xs k) → map reading (old ++ next ∷ []) ≡ map answer (take (k + 1) xs)
one_more answer xs k old next within so_far is =
    map-append reading old (next ∷ [])
    ∙ ap₂ (λ (front : List Answer) (new : Answer). front ++ new ∷ []) so_far is
    ∙ sym (map-append answer (take k xs) (_ ∷ []))
    ∙ sym (ap (map answer) (take_more xs k 0 within))

-- the batch of a file's table is what its version answers
pub table_batch : (bytes : List ℕ) (opts : FindSymOpts) (addrs : List ℕ) (result : Result (Vec Symbolized Global) Error) →
    IfOk result (λ answers. (table : Table) × (table_in bytes ≡ Some table) × (map reading answers.items ≡ batch table opts addrs)) →
    IfOk result (λ answers. map reading answers.items ≡ map (λ addr. entry_by (BreakpadVersion bytes) opts addr) addrs)
table_batch bytes opts addrs (Ok given) is = rw is.1 is.2
table_batch bytes opts addrs (Err e) is = tt

module _ (version : Version) (opts : FindSymOpts) where
  -- the answers at the addresses of some indices are those there
  pub there_of_some : (addrs indices some : List ℕ) (result : Result (Vec Symbolized Global) Error) → some ≡ map (λ i. slice_index addrs i) indices →
      IfOk result (λ answers. map reading answers.items ≡ map (λ addr. entry_by version opts addr) some) →
      IfOk result (λ answers. map reading answers.items ≡ answers_there indices (batch_by version opts addrs))
  there_of_some addrs indices some (Ok given) are is =
      let entry = λ (addr : ℕ). entry_by version opts addr in
      is ∙ ap (map entry) are ∙ map-map entry (slice_index addrs) indices
  there_of_some addrs indices some (Err e) are is = tt

  -- all answers of a batch by a version are those at its addresses
  pub all_of_batch : (copied addrs : List ℕ) (whole : Batch) (result : Result (Vec Symbolized Global) Error) → whole ≡ batch_by version opts copied → copied ≡ addrs →
      IfOk result (λ answers. map reading answers.items ≡ answers_to whole.addrs whole) →
      IfOk result (λ answers. map reading answers.items ≡ map (λ addr. entry_by version opts addr) addrs)
  all_of_batch copied addrs whole result is same answers =
      subst (λ (xs : List ℕ). IfOk result (λ answers. map reading answers.items ≡ map (λ addr. entry_by version opts addr) xs)) same
      (subst (λ (b : Batch). IfOk result (λ answers. map reading answers.items ≡ answers_to b.addrs b)) is answers)

-- an answer with texts of its own is given as the one that it was made of
pub gives_owned : (expected : Result Answer Error) (answer : Symbolized) (owned : Result Symbolized Error) → Gives reading expected (Ok answer) →
    IfOk owned (λ own. reading own ≡ reading answer) → IsOkUnless owned errors.OutOfMemory → Gives reading expected owned
gives_owned expected answer (Ok own) gives same memory = gives ∙ ap Ok (sym same)
gives_owned expected answer (Err errors.OutOfMemory) gives same memory = tt
gives_owned expected answer (Err _) gives same memory = cc memory

-- what a batch by a version answers to any addresses
pub any_of_batch : (others : List ℕ) (version : Version) (opts : FindSymOpts) (addrs : List ℕ) (result : Result Batch Error) → IfOk result (λ given. given ≡ batch_by version opts addrs) →
    IfOk result (λ given. answers_to others given ≡ map (λ addr. entry_by version opts addr) others)
any_of_batch others version opts addrs (Ok given) is = ap (answers_to others) is
any_of_batch others version opts addrs (Err e) is = tt

-- and to its own
pub own_of_batch : (version : Version) (opts : FindSymOpts) (addrs : List ℕ) (result : Result Batch Error) → IfOk result (λ given. given ≡ batch_by version opts addrs) →
    IfOk result (λ given. given.answers ≡ map (λ addr. entry_by version opts addr) addrs)
own_of_batch version opts addrs (Ok given) is = ap (λ (b : Batch). b.answers) is
own_of_batch version opts addrs (Err e) is = tt
