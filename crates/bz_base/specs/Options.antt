-- The options of a look-up.
use Rattle.std.specs.Prelude.{Bool, true, false}
use Rattle.bz_base.specs.declared.types.FindSymOpts.{FindSymOpts}
use Rattle.bz_base.specs.declared.types.FindSymOpts.TheVariants.{Basic, CodeInfo, CodeInfoAndInlined}

-- by whether sites in source code are looked up, and inlined calls: these only with sites
abbrev pub opts_by : Bool → Bool → FindSymOpts
opts_by false inlined = Basic
opts_by true false = CodeInfo
opts_by true true = CodeInfoAndInlined
