-- What the dispatchers of the tests give.
use Rattle.std.specs.Prelude.{Bool, codes, bytes_eq, Option, Some, None, Result, Ok, Err, if◌then◌else◌}
use Rattle.bz_base.specs.declared.error.Error.{Error}
use Rattle.bz_base.specs.declared.error.Error.TheVariants as errors
use Rattle.bz_elf.specs.Resolver.{Resolver}
use Rattle.bz_proc.specs.Maps.{Name, File, Component}
use Rattle.bz_samples.specs.declared.TheConstants.{ELF_FUNCTION}

-- the resolver of the ELF file of one function
abbrev pub vdso_resolver : Resolver
vdso_resolver = record { bytes = ELF_FUNCTION; path = codes "/vdso.so" }

-- what every other part of the system is given
abbrev pub given_for_others : Bool → Result (Option Resolver) Error
given_for_others refuses = if refuses then Err errors.NotFound else Ok None

-- that resolver for the part of the system that is called `[vdso]`, and none for a file
abbrev pub given_for_vdso : Bool → Name → Result (Option Resolver) Error
given_for_vdso refuses (Component part) = if bytes_eq part (codes "[vdso]") then Ok (Some vdso_resolver) else given_for_others refuses
given_for_vdso refuses (File stands_for own) = Ok None
