-- What some files say, by computing.
use Rattle.std.proofs.Common.{◌≡◌, [], ◌∷◌, None, Some, codes, refl}
use Rattle.std.specs.Str.{is_utf8, chars}
use Rattle.bz_base.specs.Number.{digits_at}
use Rattle.bz_breakpad_lines.specs.Choice.{body_at}
use Rattle.bz_breakpad_lines.specs.Reads.{run_at, mark_at, piece_at, name_at, turns_at, many_at}
use Rattle.bz_breakpad_lines.specs.Reader.{table_in, counted_in, reading_in}
use Rattle.bz_breakpad_lines.specs.Contexts.{record_at, after_white}
use lib.Utf8.{encode}

-- a line record after a blank line is one of the FUNC record before it
line_after_blank : counted_in (codes "FUNC 1 2 3 x\n\n1 2 3 4\n") ≡ Some (
  record {
    «module» = None;
    functions = record {
      start = 1;
      size = 2;
      parameter_size = 3;
      name = codes "x";
      lines = record { start = 1; size = 2; line = 3; file = 4 } ∷ [];
      inlinees = [];
    } ∷ [];
    files = [];
    origins = [];
    publics = [];
  },
  2,
)
unfolding reading_in run_at mark_at piece_at name_at turns_at many_at body_at record_at after_white digits_at is_utf8 chars encode
line_after_blank = refl

-- no blank line stands after a line record
blank_after_line : table_in (codes "FUNC 1 2 3 x\n1 2 3 4\n\nFILE 1 a.c\n") ≡ None
unfolding reading_in run_at mark_at piece_at name_at turns_at many_at body_at record_at after_white digits_at is_utf8 chars encode
blank_after_line = refl

-- a file with a module, white space, ranges of an inlined call, two names of one id,
-- and a function with an empty name
many_records : counted_in (codes "MODULE Linux x86 1 m n\r\n\t\r\n FUNC m a 10 0 f g\nINLINE 0 7 1 5 a 1 c 2\nINLINE_ORIGIN 5 o\nFILE 1 a\nFILE 0 b\nFILE 1 c\nPUBLIC 20 0 p\nFUNC 30 1 0 \n") ≡ Some (
  record {
    «module» = Some (codes "m n");
    functions = record {
      start = 10;
      size = 16;
      parameter_size = 0;
      name = codes "f g";
      lines = [];
      inlinees = record { depth = 0; start = 10; size = 1; call_line = 7; call_file = 1; origin = 5 }
          ∷ record { depth = 0; start = 12; size = 2; call_line = 7; call_file = 1; origin = 5 } ∷ [];
    } ∷ record { start = 48; size = 1; parameter_size = 0; name = []; lines = []; inlinees = [] } ∷ [];
    files = (0, codes "b") ∷ (1, codes "c") ∷ [];
    origins = (5, codes "o") ∷ [];
    publics = record { start = 32; parameter_size = 0; name = codes "p" } ∷ [];
  },
  9,
)
unfolding reading_in run_at mark_at piece_at name_at turns_at many_at body_at record_at after_white digits_at is_utf8 chars encode
many_records = refl

-- no MODULE record stands after another record
module_second : table_in (codes "FILE 1 a\nMODULE Linux x86 1 m\n") ≡ None
unfolding reading_in run_at mark_at piece_at name_at turns_at many_at body_at record_at after_white digits_at is_utf8 chars encode
module_second = refl

-- no line lacks its end
last_unended : table_in (codes "FILE 1 a\nFILE 2 b") ≡ None
unfolding reading_in run_at mark_at piece_at name_at turns_at many_at body_at record_at after_white digits_at is_utf8 chars encode
last_unended = refl

-- no file is empty
nothing_there : table_in [] ≡ None
unfolding reading_in
nothing_there = refl

-- no line record stands outside of a function
line_outside : table_in (codes "FUNC 1 2 3 x\nFILE 1 a\n1 2 3 4\n") ≡ None
unfolding reading_in run_at mark_at piece_at name_at turns_at many_at body_at record_at after_white digits_at is_utf8 chars encode
line_outside = refl

-- the first line isn't blank
blank_first : table_in (codes "\nFILE 1 a\n") ≡ None
unfolding reading_in run_at mark_at piece_at name_at turns_at many_at body_at record_at after_white digits_at is_utf8 chars encode
blank_first = refl
