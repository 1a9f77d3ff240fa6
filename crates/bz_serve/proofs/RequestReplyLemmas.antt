-- From what a call of the symbolizer does to what is said.
use Rattle.std.proofs.Common.{◌≡◌, ℕ, List, Result, Ok, Err, IfOk, refl, sym, ap, ◌∙◌, arith}
use Rattle.bz_base.specs.declared.error.Error.{Error}
use Rattle.bz_base.specs.declared.error.Error.TheVariants as errors
use Rattle.bz_files.specs.Looked.{Looked}
use Rattle.bz_files.specs.declared.files.Files as files_trait
use Rattle.bz_symbolize.specs.Evicting.{evicting}
use Rattle.bz_symbolize.specs.Requests.{ToEvict}
use Rattle.bz_symq.specs.Outcome.{Outcome}
use Rattle.bz_symq.specs.Reply.{RepliesTo, text_of}
use Rattle.bz_symq.specs.declared.reply.Reply.{Reply}
use Rattle.bz_symq.specs.declared.reply.Said.{Said}
use Rattle.bz_symq.proofs.FaultLemmas.{counts_as, counts_still}
use Rattle.bz_symq.specs.Kept.{KeptState}
use Rattle.bz_serve.specs.Serving.{Does, Replied, Says, SaysRefusal}
use Rattle.bz_serve.specs.RequestSteps.{Doing, done_by, forgetting, okay, said}

-- what is said is the text
pub some_said : (text : List ℕ) (result : Result Said Error) → Says text result → IfOk result (λ say. text_of say ≡ text)
some_said text (Ok say) says = says
some_said text (Err e) says = tt

-- what is said of a refusal is what the reply to it says
pub says_given : (error : Error) (reply : Reply) → RepliesTo error (Ok reply) → SaysRefusal error (Ok reply.said)
says_given errors.ReadFault reply is = cc
says_given errors.OutOfMemory reply is = cc
says_given _ reply is = ap (λ (o : Outcome). o.text) is

pub says_failed : (error e : Error) → RepliesTo error (Err e) → SaysRefusal error (Err e)
says_failed errors.ReadFault e is = let same : e ≡ errors.ReadFault = cc is in ap Err same
says_failed errors.OutOfMemory e is = let same : e ≡ errors.OutOfMemory = cc is in ap Err same
says_failed _ e is = is

module _ {F : Type 0} (looks : files_trait.Ghosts F) (before after : F) where
  -- what only looked at files still did so where it failed in other words
  pub looked_as : {A B : Type 0} → (A → B) → (B → A) → Looked looks before after A → Looked looks before after B
  looked_as to from looked = record { worlds = looked.worlds; pid = looked.pid; faults = counts_as _ _ to from looked.faults }

  module _ {A B : Type 0} (reading : A → B) (texts : B → List ℕ) (doing : Doing B) (old now : KeptState) where
    -- an answered call is said by its answer
    pub replied_given : (given : A) (result : Result Said Error) → Does looks reading doing (Ok given) old now before after → Says (texts (reading given)) result →
        Replied looks (done_by texts doing) result old now before after
    replied_given given (Ok say) does says = record {
      said = λ world told. says ∙ sym (ap (said texts) (does.answer world told));
      state = does.state;
      reads = does.reads;
      failure = tt;
      looked = does.looked;
    }
    replied_given given (Err e) does says = rw says (record {
      said = λ world told. tt;
      state = λ world told. tt;
      reads = does.reads;
      failure = tt;
      looked = looked_as (λ never. absurd never) (λ is. cc) does.looked;
    })

    -- a refused one by its refusal
    pub replied_refused : (error : Error) (result : Result Said Error) → Does looks reading doing (Err error) old now before after → SaysRefusal error result →
        Replied looks (done_by texts doing) result old now before after
    replied_refused errors.ReadFault result does says =
        rw says (record { said = λ world told. tt; state = λ world told. tt; reads = does.reads; failure = tt; looked = does.looked })
    replied_refused errors.OutOfMemory result does says =
        rw says (record { said = λ world told. tt; state = λ world told. tt; reads = does.reads; failure = tt; looked = does.looked })
    replied_refused error (Ok say) does says = record {
      said = λ world told. says ∙ sym (ap (said texts) (does.answer world told));
      state = does.state;
      reads = does.reads;
      failure = tt;
      looked = looked_as (λ is. cc) (λ never. absurd never) does.looked;
    }
    replied_refused error (Err e) does says = rw says (record {
      said = λ world told. tt;
      state = λ world told. tt;
      reads = does.reads;
      failure = tt;
      looked = looked_as (λ is. cc) (λ is. cc) does.looked;
    })

  -- something is forgotten, for which no file is looked at
  pub replied_forgotten : (asked : ToEvict) (result : Result Said Error) (old now : KeptState) → after ≡ before → Says (okay tt) result → now ≡ evicting asked old →
      Replied looks (done_by okay (forgetting asked)) result old now before after
  replied_forgotten asked (Ok say) old now same says is = rw same (record {
    said = λ world told. says;
    state = λ world told. is;
    reads = λ world told. omega arith;
    failure = tt;
    looked = record { worlds = refl; pid = refl; faults = counts_still _ _ _ (λ never. never) refl };
  })
  replied_forgotten asked (Err e) old now same says is = rw (same, says) (record {
    said = λ world told. tt;
    state = λ world told. tt;
    reads = λ world told. omega arith;
    failure = tt;
    looked = record { worlds = refl; pid = refl; faults = counts_still _ _ _ (λ other. cc) refl };
  })
