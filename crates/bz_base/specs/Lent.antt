-- Which answers are lent whole: none of their texts has memory of its own.
use Rattle.std.specs.Prelude.{IfSome}
use Rattle.std.specs.List.{AllByRecursion}
use Rattle.std.specs.declared.borrow.CowStr.{CowStr}
use Rattle.std.specs.declared.borrow.CowStr.TheVariants as texts
use Rattle.bz_base.specs.declared.types.CodeInfo.{CodeInfo}
use Rattle.bz_base.specs.declared.types.InlinedFn.{InlinedFn}
use Rattle.bz_base.specs.declared.types.ResolvedSym.{ResolvedSym}
use Rattle.bz_base.specs.declared.types.Sym.{Sym}
use Rattle.bz_base.specs.declared.types.Symbolized.{Symbolized}
use Rattle.bz_base.specs.declared.types.Symbolized.TheVariants as symbolized

abbrev pub IsLentText : {A : Type 0} → CowStr A → Type 0
IsLentText (texts.Borrowed text) = Unit {0}
IsLentText (texts.Owned text) = ⊥

-- a site in source code whose texts are lent
pub record IsLentSite (site : CodeInfo) : Type 0 where
  pub dir : IfSome site.dir IsLentText
  pub file : IsLentText site.file

pub record IsLentCall (call : InlinedFn) : Type 0 where
  pub name : IsLentText call.name
  pub site : IfSome call.code_info IsLentSite

pub record IsLentSymbol (symbol : Sym) : Type 0 where
  pub name : IsLentText symbol.name
  pub «module» : IfSome symbol.«module» IsLentText
  pub site : IfSome symbol.code_info IsLentSite
  pub calls : AllByRecursion IsLentCall symbol.inlined.items

-- the sites and calls of a table's symbol are lent, as its name always is
pub record IsLentResolved (symbol : ResolvedSym) : Type 0 where
  pub site : IfSome symbol.code_info IsLentSite
  pub calls : AllByRecursion IsLentCall symbol.inlined.items

-- all texts of the answer are lent
abbrev pub IsLent : Symbolized → Type 0
IsLent (symbolized.Sym symbol) = IsLentSymbol symbol
IsLent (symbolized.Unknown reason) = Unit {0}
