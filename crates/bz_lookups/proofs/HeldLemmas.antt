-- From what is held of a source to what a call makes of it, whatever the query.
use Rattle.std.proofs.Common.{◌≡◌, ℕ, Bool, true, false, cond, List, [], Option, Some, None, Result, Ok, Err, IfOk, IfErr, IsErrOf, IsOkUnless, OnOk, inl, inr, refl, sym, ap, subst}
use Rattle.std.proofs.lemmas.Bool.{false≢true}
use Rattle.bz_base.specs.Answer.{Answer, Gives}
use Rattle.bz_base.specs.Refusals.{MayRefuse}
use Rattle.bz_base.specs.declared.error.Error.{Error}
use Rattle.bz_base.specs.declared.error.Error.TheVariants as errors
use Rattle.bz_base.specs.declared.types.FindSymOpts.{FindSymOpts}
use Rattle.bz_files.specs.Looked.{Faulted, Looked}
use Rattle.bz_files.specs.World.{Entry}
use Rattle.bz_files.specs.declared.files.Files.{Ghosts}
use Rattle.bz_cache.specs.Cache.{Cache}
use Rattle.bz_cache.specs.Format.{GivesOrFaults, FailsAs}
use Rattle.bz_cache.specs.Look.{look}
use Rattle.bz_cache.specs.View.{if_formed}
use Rattle.bz_cache.specs.FileCall.{Answering, ByVersion, CallsFile, Leaves, Query, by_look, each_of, file_answer, query_asked, query_given}
use Rattle.bz_lookups.specs.Formats.{HandedSource, handed_answer}

-- what reads as expected wherever it is given, and else is want of memory
pub gives_all : {A B : Type 0} (reading : A → B) (expected : B) (result : Result A Error) → IfOk result (λ given. reading given ≡ expected) →
    IsOkUnless result errors.OutOfMemory → Gives reading (Ok expected) result
gives_all reading expected (Ok given) is memory = ap Ok (sym is)
gives_all reading expected (Err errors.OutOfMemory) is memory = tt
gives_all reading expected (Err _) is memory = cc memory

-- what is given as expected, or wants memory, follows
pub given_or_memory : {A B : Type 0} (reading : A → B) (expected : B) (result : Result A Error) → IfOk result (λ given. reading given ≡ expected) →
    IsOkUnless result errors.OutOfMemory → Gives reading (Ok expected) result × IfErr result MayRefuse
given_or_memory reading expected (Ok given) is memory = (gives_all reading expected (Ok given) is memory, tt)
given_or_memory reading expected (Err errors.OutOfMemory) is memory = (tt, tt)
given_or_memory reading expected (Err _) is memory = cc memory

-- no file fails where bytes refuse
pub never_faulted : {A : Type 0} (result : Result A Error) → IfErr result MayRefuse → Faulted result → ⊥
never_faulted (Ok given) may fault = fault
never_faulted (Err errors.ReadFault) may fault = may
never_faulted (Err _) may fault = cc fault

-- what reads as expected comes as expected
pub comes_given : {A B : Type 0} (reading : A → B) (expected : Result B Error) (result : Result A Error) → Gives reading expected result → GivesOrFaults reading expected result
comes_given reading expected (Ok given) is = is
comes_given reading expected (Err errors.ReadFault) is = tt
comes_given reading expected (Err errors.OutOfMemory) is = tt
comes_given reading expected (Err _) is = is

pub on_ok : {A P : Type 0} (result : Result A Error) → P → OnOk result P
on_ok (Ok given) holds = holds
on_ok (Err e) holds = tt

-- where memory ran out, or a refusal was expected, it isn't a fault
leaves_given : {A S : Type 0} (result : Result A Error) (old expected now : S) → now ≡ expected → IfErr result MayRefuse → Leaves result old expected now
leaves_given (Ok given) old expected now is may = is
leaves_given (Err errors.ReadFault) old expected now is may = absurd may
leaves_given (Err errors.OutOfMemory) old expected now is may = inr is
leaves_given (Err _) old expected now is may = is

-- what a refused call leaves, whatever it would have given
leaves_refused : (H A S : Type 0) (e : Error) (old expected now : S) → Leaves {A = H} (Err e) old expected now → Leaves {A = A} (Err e) old expected now
leaves_refused H A S errors.ReadFault old expected now left = left
leaves_refused H A S errors.OutOfMemory old expected now left = left
leaves_refused H A S _ old expected now left = left

refused_as : (H A : Type 0) (e other : Error) → IsErrOf {T = H} (Err e) other → IsErrOf {T = A} (Err e) other
refused_as H A e other is = let same : e ≡ other = cc is in ap Err same

module _ {A B H : Type 0} (reading : A → B) (query : Query B) (singles : H → ℕ → Result Answer Error) where
  -- a call gives what its query makes of what is held, and has no fault; or it is refused since nothing
  -- is held
  abbrev pub Follows : Result H Error → Result A Error → Type 0
  Follows (Ok held) result = Gives reading (query.given (singles held)) result × IfErr result MayRefuse
  Follows (Err e) result = result ≡ Err e

  -- what the query makes of answers at each address, or of a refusal
  abbrev made : Result (ℕ → Result Answer Error) Error → Result B Error
  made (Ok answers) = query.given answers
  made (Err e) = Err e

  fails_made : (e : Error) (x : Result (ℕ → Result Answer Error) Error) → FailsAs x e → FailsAs (made x) e
  fails_made errors.ReadFault x is = tt
  fails_made errors.OutOfMemory x is = tt
  fails_made _ x is = ap made is

  refuses_made : (e : Error) (x : Result (ℕ → Result Answer Error) Error) → Gives singles x (Err e) → Gives reading (made x) (Err e)
  refuses_made errors.OutOfMemory x is = tt
  refuses_made _ x is = ap made is

  gives_made : (held : Result H Error) (result : Result A Error) (x : Result (ℕ → Result Answer Error) Error) → Follows held result → Gives singles x held → Gives reading (made x) result
  gives_made (Ok h) result x follows is = subst (λ y. Gives reading (made y) result) (sym is) follows.0
  gives_made (Err e) result x follows is = subst (Gives reading (made x)) (sym follows) (refuses_made e x is)

  comes_made : (held : Result H Error) (result : Result A Error) (x : Result (ℕ → Result Answer Error) Error) → Follows held result → GivesOrFaults singles x held → GivesOrFaults reading (made x) result
  comes_made (Ok h) result x follows is = comes_given reading (made x) result (gives_made (Ok h) result x follows is)
  comes_made (Err e) result x follows is = subst (GivesOrFaults reading (made x)) (sym follows) (fails_made e x is)

  module _ (test : List ℕ → Option Error) (answering : Answering) (opts : FindSymOpts) (path : List ℕ) where
    given_made : (bytes : List ℕ) → query_given answering opts path query bytes ≡ made (query_given answering opts path (each_of query.kind) bytes)
    given_made bytes = by_serves (answering.serves query.kind)
      where
        by_serves : (s : Bool) → cond s (query.given (λ addr. answering.single opts path bytes query.kind addr)) (Err errors.Unsupported)
            ≡ made (cond s (Ok (λ addr. answering.single opts path bytes query.kind addr)) (Err errors.Unsupported))
        by_serves true = refl
        by_serves false = refl

    test_made : (bytes : List ℕ) (t : Option Error) → if_formed (query_asked test answering opts path query).given bytes t ≡ made (if_formed (query_asked test answering opts path (each_of query.kind)).given bytes t)
    test_made bytes None = given_made bytes
    test_made bytes (Some e) = refl

    look_made : (l : Result (List ℕ) Error) → by_look (query_asked test answering opts path query) l ≡ made (by_look (query_asked test answering opts path (each_of query.kind)) l)
    look_made (Ok bytes) = test_made bytes (test bytes)
    look_made (Err e) = refl

    file_made : (cache : Cache) (there : Option Entry) → file_answer (query_asked test answering opts path query) cache path there ≡ made (file_answer (query_asked test answering opts path (each_of query.kind)) cache path there)
    file_made cache there = by_taken (answering.takes query.kind)
      where
        by_taken : (t : Bool) → cond t (by_look (query_asked test answering opts path query) (look test cache path there).0) (Err errors.Unsupported)
            ≡ made (cond t (by_look (query_asked test answering opts path (each_of query.kind)) (look test cache path there).0) (Err errors.Unsupported))
        by_taken true = look_made (look test cache path there).0
        by_taken false = refl

  handed_made : (given : HandedSource) (opts : FindSymOpts) → handed_answer given opts query ≡ made (handed_answer given opts (each_of query.kind))
  handed_made given opts = by_taken (given.answering.takes query.kind)
    where
      by_taken : (t : Bool) → cond t (if_formed (query_asked given.test given.answering opts [] query).given given.bytes (given.test given.bytes)) (Err errors.Unsupported)
          ≡ made (cond t (if_formed (query_asked given.test given.answering opts [] (each_of query.kind)).given given.bytes (given.test given.bytes)) (Err errors.Unsupported))
      by_taken true = test_made given.test given.answering opts [] given.bytes (given.test given.bytes)
      by_taken false = refl

  -- bytes that are handed in give to the query what they give to the look
  pub gives_handed : (given : HandedSource) (opts : FindSymOpts) (held : Result H Error) (result : Result A Error) → Follows held result →
      Gives singles (handed_answer given opts (each_of query.kind)) held → Gives reading (handed_answer given opts query) result
  gives_handed given opts held result follows is = subst (λ y. Gives reading y result) (sym (handed_made given opts)) (gives_made held result _ follows is)

  module _ {X : Type 0} (files : Ghosts X) (before after : X) where
    unfailed : (result : Result A Error) → IfErr result MayRefuse → Looked files before after ⊥ → Looked files before after (Faulted result)
    unfailed result may looked = record {
      worlds = looked.worlds;
      pid = looked.pid;
      faults = record {
        grows = looked.faults.grows;
        fault = λ fault. absurd (never_faulted result may fault);
        steady = elim looked.faults.steady [ inl none ↦ absurd none | inr same ↦ inr same ];
      };
    }

    pub looked_made : (held : Result H Error) (result : Result A Error) → Follows held result → Looked files before after (Faulted held) → Looked files before after (Faulted result)
    looked_made (Ok h) result follows looked = unfailed result follows.1 looked
    looked_made (Err e) result follows looked = subst (λ (r : Result A Error). Looked files before after (Faulted r)) (sym follows) looked

    module _ (test : List ℕ → Option Error) (answering : Answering) (opts : FindSymOpts) (path : List ℕ) (old now : Cache) where
      by_made : (held : Result H Error) (result : Result A Error) → Follows held result →
          ByVersion singles (query_asked test answering opts path (each_of query.kind)) path held old now → ByVersion reading (query_asked test answering opts path query) path result old now
      by_made held result follows by = record {
        bytes = by.bytes;
        kept = by.kept;
        looked = by.looked;
        given = subst (λ y. Gives reading y result) (sym (given_made test answering opts path by.bytes)) (gives_made held result _ follows by.given);
      }

      told_answer : (held : Result H Error) (result : Result A Error) (there : Option Entry) → Follows held result →
          GivesOrFaults singles (file_answer (query_asked test answering opts path (each_of query.kind)) old path there) held → GivesOrFaults reading (file_answer (query_asked test answering opts path query) old path there) result
      told_answer held result there follows is = subst (λ y. GivesOrFaults reading y result) (sym (file_made test answering opts path old there)) (comes_made held result _ follows is)

      -- a call that goes on by what is held does on the file what the look for it did
      pub calls_held : (held : Result H Error) (result : Result A Error) → Follows held result →
          CallsFile files singles (query_asked test answering opts path (each_of query.kind)) path held old now before after →
          CallsFile files reading (query_asked test answering opts path query) path result old now before after
      calls_held (Ok h) result follows all = record {
        told = λ world seen. let told = all.told world seen in record {
          answer = told_answer (Ok h) result _ follows told.answer;
          state = leaves_given result old _ now told.state follows.1;
          opened = on_ok result told.opened;
          spared = told.spared;
        };
        untold = elim all.untold [ inl by ↦ inl (by_made (Ok h) result follows by) | inr first ↦ absurd (false≢true first.refused) ];
        untaken = λ other. let refused = (all.untaken other).0 in cc;
        stays = all.stays;
        ready = λ held taken. by_made (Ok h) result follows (all.ready held taken);
        consistent = all.consistent;
        reload = all.reload;
        looked = looked_made (Ok h) result follows all.looked;
        most = all.most;
      }
      calls_held (Err e) result follows all =
          subst (λ (r : Result A Error). CallsFile files reading (query_asked test answering opts path query) path r old now before after) (sym follows) (record {
            told = λ world seen. let told = all.told world seen in record {
              answer = told_answer (Err e) (Err e) _ refl told.answer;
              state = leaves_refused H A Cache e old _ now told.state;
              opened = tt;
              spared = told.spared;
            };
            untold = elim all.untold [
              | inl by ↦ inl (by_made (Err e) (Err e) refl by)
              | inr first ↦ inr (record { refused = first.refused; refusal = first.refusal; unchanged = first.unchanged })
            ];
            untaken = λ other. let refused = all.untaken other in (refused_as H A e errors.Unsupported refused.0, refused.1, refused.2);
            stays = all.stays;
            ready = λ held taken. by_made (Err e) (Err e) refl (all.ready held taken);
            consistent = all.consistent;
            reload = all.reload;
            looked = all.looked;
            most = all.most;
          })
