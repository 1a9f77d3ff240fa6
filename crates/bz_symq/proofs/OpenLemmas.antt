-- Which files a symbolizer that keeps nothing reads.
use Rattle.std.proofs.Common.{◌≡◌, ℕ, Bool, List, Option, Some, None, Result, Ok, Err, OnOk}
use Rattle.std.specs.FinMap as map
use Rattle.std.specs.Ordering.{nat_cmp}
use Rattle.std.specs.Cmp.Lexicographic.{slice_cmp}
use Rattle.bz_base.specs.Answer.{Answer}
use Rattle.bz_base.specs.declared.error.Error.{Error}
use Rattle.bz_files.specs.Count.{counted}
use Rattle.bz_files.specs.World.{Entry}
use Rattle.bz_files.specs.World.Entry.{Denied, Present}
use Rattle.bz_cache.specs.Cache.{new_cache, stamp_cmp, PathState}
use Rattle.bz_cache.specs.Format.{GivesOrFaults}
use Rattle.bz_cache.specs.Look.{opens_after, will_open}
use Rattle.bz_symbolize.specs.Lookup.{fresh_answer}

-- what is there is read
opens_present : (reload : Bool) (given : List ℕ → Result (List Answer) Error) (path : List ℕ) (there : Option Entry) (answers : List Answer) (before after : ℕ) → fresh_answer given there ≡ Ok answers →
    after ≡ opens_after (will_open (new_cache reload) path there) before → after ≡ counted before
opens_present reload given path None answers before after is opens = cc
opens_present reload given path (Some Denied) answers before after is opens = cc
opens_present reload given path (Some (Present s b)) answers before after is opens =
    rw (map.get-empty {X = PathState} (slice_cmp nat_cmp) path, map.get-empty {X = List ℕ} stamp_cmp s) at opens

-- where its answers are given, the file was read
pub opened_new : {A : Type 0} (view : A → List Answer) (reload : Bool) (given : List ℕ → Result (List Answer) Error) (path : List ℕ) (there : Option Entry) (before after : ℕ) (result : Result A Error) →
    GivesOrFaults view (fresh_answer given there) result → OnOk result (after ≡ opens_after (will_open (new_cache reload) path there) before) →
    OnOk result (after ≡ counted before)
opened_new view reload given path there before after (Ok answers) comes opens = opens_present reload given path there (view answers) before after comes opens
opened_new view reload given path there before after (Err e) comes opens = tt
