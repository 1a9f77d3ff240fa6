-- What is told of symbols by their names and in their order.
use Rattle.std.specs.Prelude.{◌≡◌, ◌⊎◌, ℕ, Bool, true, false, List, [], ◌∷◌, map, Option, Some, None, option_map, Result, Ok, Err, bytes_eq}
use Rattle.std.specs.Borrow.{Bor}
use Rattle.std.specs.Fn.{CalledAt, Mut}
use Rattle.std.specs.List.{filter}
use Rattle.bz_base.specs.declared.error.Error.{Error}
use Rattle.bz_base.specs.declared.error.Error.TheVariants as errors
use Rattle.bz_base.specs.declared.types.SymType.{SymType}
use Rattle.bz_base.specs.declared.types.SymType.TheVariants as kinds
use Rattle.bz_breakpad_function.specs.InOrder.{ordered_functions}
use Rattle.bz_breakpad_function.specs.Indexed.{functions_of}
use Rattle.bz_breakpad.specs.declared.inspect.SymInfo.{SymInfo}
use Rattle.bz_breakpad_lines.specs.Reader.{table_in}
use Rattle.bz_breakpad_lines.specs.Table.{Function}

-- what is told of a symbol
pub record Info : Type 0 where
  pub name : List ℕ
  pub addr : ℕ
  pub size : Option ℕ
  pub sym_type : SymType
  pub file_offset : Option ℕ
  pub «module» : Option (List ℕ)

-- the plain data of it
abbrev pub info_of : SymInfo → Info
info_of s = record {
  name = s.name.now;
  addr = s.addr;
  size = s.size;
  sym_type = s.sym_type;
  file_offset = s.file_offset;
  «module» = option_map (λ name. name.now) s.«module»;
}

-- what is told of a function
abbrev pub function_info : Function → Info
function_info f = record {
  name = f.name;
  addr = f.start;
  size = Some f.size;
  sym_type = kinds.Function;
  file_offset = None;
  «module» = None;
}

-- what is told of functions, in their order
abbrev pub infos_of : List Function → List Info
infos_of functions = map function_info (ordered_functions functions)

-- what is told of the functions of a file
abbrev pub infos_in : List ℕ → List Info
infos_in bytes = infos_of (functions_of (table_in bytes))

-- only functions are told: all of them are where they or symbols of any kind are asked for,
-- and variables are refused
abbrev pub told_of : SymType → List Info → Result (List Info) Error
told_of kinds.Variable infos = Err errors.Unsupported
told_of _ infos = Ok infos

-- those of a name
abbrev pub named : List ℕ → List Info → List Info
named name infos = filter (λ info. bytes_eq info.name name) infos

-- the same of what is told, unless it is refused
abbrev pub told_named : List ℕ → Result (List Info) Error → Result (List Info) Error
told_named name (Ok infos) = Ok (named name infos)
told_named name (Err e) = Err e

module _ {F : Type 0} (g : Mut F (Bor SymInfo × Unit {0}) Bool) where
  -- a call at a symbol answered so, and left the closure in this state
  abbrev pub CalledAtInfo : F → Info → Bool → F → Type 0
  CalledAtInfo f info answer next = (given : SymInfo) × (info_of given ≡ info) × CalledAt g f given answer next

  -- calls at the symbols in turn, up to the first that answers false, left the closure in this state
  abbrev pub CalledInTurn : F → List Info → F → Type 0
  CalledInTurn f [] last = f ≡ last
  CalledInTurn f (info ∷ infos) last = CalledAtInfo f info false last ⊎ ((next : F) × CalledAtInfo f info true next × CalledInTurn next infos last)

  -- the closure was called at what is told, in turn; or that is refused
  abbrev pub Goes : F → Result (List Info) Error → Result (Unit {0}) Error → Type 0
  Goes f (Ok infos) (Ok _) = (last : F) × CalledInTurn f infos last
  Goes f (Err refusal) (Err e) = e ≡ refusal
  Goes f _ _ = ⊥
