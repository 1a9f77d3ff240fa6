use Rattle.std.proofs.Common.{◌≡◌, Ok, Err, string_bytes}
use Rattle.bz_base.specs.Resolution.{found_of}
use Rattle.bz_breakpad_tests.proofs.calling.name_in.Goals as goal

pub returns-in_ok-from_str-in-Ok : goal.returns-in_ok-from_str-in-Ok
returns-in_ok-from_str-in-Ok c = record {
  answer = Ok (found_of c.in_ok-found.field-0);
  plain = c.in_ok-found.ensures.answer;
  named =
      let found : c.in_ok-found.field-0 ≡ Ok c.in-Ok.found = c.in-Ok.is in
      let copied : string_bytes c.in_ok-from_str-in-Ok.field-0 ≡ c.in-Ok.found.name.now = c.in_ok-from_str-in-Ok.ensures.ok in
      search (found, copied);
}

pub returns-in-Err : goal.returns-in-Err
returns-in-Err c = record {
  answer = Ok (found_of c.in_ok-found.field-0);
  plain = c.in_ok-found.ensures.answer;
  named = let unknown : c.in_ok-found.field-0 ≡ Err c.in-Err.field-0 = c.in-Err.is in search unknown;
}
