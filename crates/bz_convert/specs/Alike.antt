-- When a converted file answers as the Breakpad file does: this repository's own promise.
use Rattle.std.specs.Prelude.{◌≡◌, ℕ, List, map, Option, Some, None, option_map, Result, Ok, Err}
use Rattle.bz_base.specs.Answer.{Answer, Call, Resolved, Site, Symbol}
use Rattle.bz_base.specs.Answer.Answer.{Known}
use Rattle.bz_base.specs.Path.{path_text}
use Rattle.bz_base.specs.declared.error.Error.{Error}
use Rattle.bz_base.specs.declared.types.Reason.{Reason}
use Rattle.bz_base.specs.declared.types.Reason.TheVariants as reasons
use Rattle.bz_breakpad_lines.specs.Table.{Function}

-- a place by its joined path
abbrev pub joined : Site → List ℕ × Option ℕ
joined s = (path_text s.dir s.file, s.line)

abbrev pub joined_call : Call → List ℕ × Option (List ℕ × Option ℕ)
joined_call c = (c.name, option_map joined c.site)

-- the symbols have the same name, start, size, joined path, line and inlined calls; the converted one
-- has no module
pub record IsAlike (s : Symbol) (r : Resolved) : Type 0 where
  pub name : r.name ≡ s.name
  pub addr : r.addr ≡ s.addr
  pub size : r.size ≡ s.size
  pub «module» : r.«module» ≡ None
  pub site : option_map joined r.site ≡ option_map joined s.site
  pub calls : map joined_call r.calls ≡ map joined_call s.calls

-- both know a symbol, and the symbols are alike
abbrev pub KnowAlike : Result Answer Error → Result (Result Resolved Reason) Error → Type 0
KnowAlike (Ok (Known s)) (Ok (Ok r)) = IsAlike s r
KnowAlike _ _ = ⊥

-- where a function answers in the Breakpad file, both know it; elsewhere, where a PUBLIC record may
-- answer, the converted file doesn't know the address
abbrev pub AnswersAlike : Option Function → Result Answer Error → Result (Result Resolved Reason) Error → Type 0
AnswersAlike None answer converted = converted ≡ Ok (Err reasons.UnknownAddr)
AnswersAlike (Some f) answer converted = KnowAlike answer converted
