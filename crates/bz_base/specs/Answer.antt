-- What an answer is as plain data: a text by its bytes, a list by its items, whether borrowed or owned.
use Rattle.std.specs.Prelude.{◌≡◌, ℕ, Bool, List, Option, Some, None, option_map, map, Result, Ok, Err}
use Rattle.std.specs.Cow.{cow_str_bytes}
use Rattle.bz_base.specs.declared.error.Error.{Error}
use Rattle.bz_base.specs.declared.error.Error.TheVariants as errors
use Rattle.bz_base.specs.declared.types.CodeInfo.{CodeInfo}
use Rattle.bz_base.specs.declared.types.InlinedFn.{InlinedFn}
use Rattle.bz_base.specs.declared.types.Sym.{Sym}
use Rattle.bz_base.specs.declared.types.ResolvedSym.{ResolvedSym}
use Rattle.bz_base.specs.declared.types.SrcLang.{SrcLang}
use Rattle.bz_base.specs.declared.types.Reason.{Reason}
use Rattle.bz_base.specs.declared.types.Reason.TheVariants as reasons
use Rattle.bz_base.specs.declared.types.Symbolized.{Symbolized}
use Rattle.bz_base.specs.declared.types.Symbolized.TheVariants as symbolized

-- a site in source code
pub record Site : Type 0 where
  pub dir : Option (List ℕ)
  pub file : List ℕ
  pub line : Option ℕ
  pub column : Option ℕ

-- an inlined call: the function's name, and the site in it
pub record Call : Type 0 where
  pub name : List ℕ
  pub site : Option Site

-- a symbol at an address: its start as the source has it, how far the address lies past that, and
-- whether a PUBLIC record gives it
pub record Symbol : Type 0 where
  pub name : List ℕ
  pub «module» : Option (List ℕ)
  pub addr : ℕ
  pub offset : ℕ
  pub size : Option ℕ
  pub site : Option Site
  pub calls : List Call
  pub public : Bool

-- a symbol as a table gives it
pub record Resolved : Type 0 where
  pub name : List ℕ
  pub «module» : Option (List ℕ)
  pub addr : ℕ
  pub size : Option ℕ
  pub lang : SrcLang
  pub site : Option Site
  pub calls : List Call

-- the answer for an address
pub data Answer : Type 0 where
  Known : Symbol → Answer
  Unknown : Reason → Answer

-- the one reading of each part of an answer, whether borrowed or owned
abbrev pub site_of : CodeInfo → Site
site_of c = record { dir = option_map cow_str_bytes c.dir; file = cow_str_bytes c.file; line = c.line; column = c.column }

abbrev pub call_of : InlinedFn → Call
call_of f = record { name = cow_str_bytes f.name; site = option_map site_of f.code_info }

abbrev pub symbol_of : Sym → Symbol
symbol_of s = record {
  name = cow_str_bytes s.name;
  «module» = option_map cow_str_bytes s.«module»;
  addr = s.addr;
  offset = s.offset;
  size = s.size;
  site = option_map site_of s.code_info;
  calls = map call_of s.inlined.items;
  public = s.public;
}

abbrev pub resolved_of : ResolvedSym → Resolved
resolved_of s = record {
  name = s.name.now;
  «module» = option_map (λ text. text.now) s.«module»;
  addr = s.addr;
  size = s.size;
  lang = s.lang;
  site = option_map site_of s.code_info;
  calls = map call_of s.inlined.items;
}

-- the plain data of an answer: what every clause on answers reads
abbrev pub reading : Symbolized → Answer
reading (symbolized.Sym s) = Known (symbol_of s)
reading (symbolized.Unknown r) = Unknown r

-- in a batch an address that is refused is an ignored error
abbrev pub in_batch : Result Answer Error → Answer
in_batch (Ok answer) = answer
in_batch (Err e) = Unknown reasons.IgnoredError

-- the answer reads as the expected one; but for want of memory, which may come anywhere
abbrev pub Gives : {A B : Type 0} → (A → B) → Result B Error → Result A Error → Type 0
Gives reading expected (Ok given) = expected ≡ Ok (reading given)
Gives reading expected (Err errors.OutOfMemory) = Unit {0}
Gives reading expected (Err e) = expected ≡ Err e

-- the symbol of an answer, if it has one
abbrev pub sym_in : Symbolized → Option Sym
sym_in (symbolized.Sym s) = Some s
sym_in (symbolized.Unknown r) = None
