use Rattle.std.proofs.Common.{Some, ap}
use Rattle.bz_breakpad_table.proofs.KeptLemmas.{names_so_far, with_functions}
use Rattle.bz_breakpad_table.proofs.reading.KeptReading.top.Goals as goal

pub returns-in_ok-name_part-in-Module : goal.returns-in_ok-name_part-in-Module
returns-in_ok-name_part-in-Module c bytes body start reading stands end ends is =
    let named = c.in_ok-name_part-in-Module.ensures bytes body start stands end (rw c.in-Module.is at ends) in
    rw c.in-Module.is (record {
      module_is = record { is = ap Some named.is; fits = named.fits };
      functions = c.in_ok-close.ensures bytes reading.closed reading.current is.functions;
      files = is.files;
      origins = is.origins;
      publics = is.publics;
    })

pub returns-in_ok-insert-in-File : goal.returns-in_ok-insert-in-File
returns-in_ok-insert-in-File c bytes body start reading stands end ends is =
    let named = c.in_ok-name_part-in-File.ensures bytes body start stands end (rw c.in-File.is at ends) in
    rw c.in-File.is (record {
      module_is = is.module_is;
      functions = c.in_ok-close.ensures bytes reading.closed reading.current is.functions;
      files =
          names_so_far bytes c.args.self.now.files c.insert.new.self c.in-File.id c.in_ok-name_part-in-File.field-0 c.in-File.path.now reading.files
          c.in_ok-insert-in-File.ensures named is.files;
      origins = is.origins;
      publics = is.publics;
    })

pub returns-in_ok-insert-in-InlineOrigin : goal.returns-in_ok-insert-in-InlineOrigin
returns-in_ok-insert-in-InlineOrigin c bytes body start reading stands end ends is =
    let named = c.in_ok-name_part-in-InlineOrigin.ensures bytes body start stands end (rw c.in-InlineOrigin.is at ends) in
    rw c.in-InlineOrigin.is (record {
      module_is = is.module_is;
      functions = c.in_ok-close.ensures bytes reading.closed reading.current is.functions;
      files = is.files;
      origins =
          names_so_far bytes c.args.self.now.origins c.insert-in-InlineOrigin.new.self c.in-InlineOrigin.id c.in_ok-name_part-in-InlineOrigin.field-0
          c.in-InlineOrigin.name.now reading.origins c.in_ok-insert-in-InlineOrigin.ensures named is.origins;
      publics = is.publics;
    })

pub returns-in_ok-keep_public-in-Public : goal.returns-in_ok-keep_public-in-Public
returns-in_ok-keep_public-in-Public c bytes body start reading stands end ends is =
    let named = c.in_ok-name_part-in-Public.ensures bytes body start stands end (rw c.in-Public.is at ends) in
    rw c.in-Public.is (record {
      module_is = is.module_is;
      functions = c.in_ok-close.ensures bytes reading.closed reading.current is.functions;
      files = is.files;
      origins = is.origins;
      publics = c.in_ok-keep_public-in-Public.ensures bytes reading.publics named is.publics;
    })

pub returns-in_ok-name_part-in-Func : goal.returns-in_ok-name_part-in-Func
returns-in_ok-name_part-in-Func c bytes body start reading stands end ends is =
    let named = c.in_ok-name_part-in-Func.ensures bytes body start stands end (rw c.in-Func.is at ends) in
    let closed = c.in_ok-close.ensures bytes reading.closed reading.current is.functions in
    rw c.in-Func.is (with_functions is (c.begin.ensures bytes _ named closed))

pub returns-in-Info : goal.returns-in-Info
returns-in-Info c bytes body start reading stands end ends is =
    rw c.in-Info.is (with_functions is (c.in_ok-close.ensures bytes reading.closed reading.current is.functions))

pub returns-in-StackWin : goal.returns-in-StackWin
returns-in-StackWin c bytes body start reading stands end ends is =
    rw c.in-StackWin.is (with_functions is (c.in_ok-close.ensures bytes reading.closed reading.current is.functions))

pub returns-in-StackCfiInit : goal.returns-in-StackCfiInit
returns-in-StackCfiInit c bytes body start reading stands end ends is =
    rw c.in-StackCfiInit.is (with_functions is (c.in_ok-close.ensures bytes reading.closed reading.current is.functions))
