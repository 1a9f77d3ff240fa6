-- The text of an answer: a line for the symbol, or for the reason why there is none,
-- and a line for each inlined call.
use Rattle.std.specs.Prelude.{ℕ, Bool, true, false, List, [], ◌∷◌, ◌++◌, flat_map, codes, decimal, Option, Some, None}
use Rattle.std.specs.Fmt.{digits}
use Rattle.bz_base.specs.Answer.{Site, Call, Symbol, Answer}
use Rattle.bz_base.specs.Answer.Answer.{Known, Unknown}
use Rattle.bz_base.specs.Path.{path_text}
use Rattle.bz_base.specs.ReasonText as reason

-- a number as `0x` and lower-case hexadecimal digits, without leading zeros
abbrev pub hex : ℕ → List ℕ
hex n = codes "0x" ++ digits 16 false n

abbrev pub size_text : Option ℕ → List ℕ
size_text None = codes "-"
size_text (Some size) = hex size

abbrev pub module_text : Option (List ℕ) → List ℕ
module_text None = codes "-"
module_text (Some name) = name

-- :LINE, if there is one
abbrev pub line_text : Option ℕ → List ℕ
line_text None = []
line_text (Some line) = codes ":" ++ decimal line

-- WHERE: the joined path and the line
abbrev pub site_text : Option Site → List ℕ
site_text None = codes "-"
site_text (Some site) = path_text site.dir site.file ++ line_text site.line

-- how a line ends; that of a PUBLIC record's symbol says so first
abbrev pub line_end : Bool → List ℕ
line_end true = codes " public\n"
line_end false = codes "\n"

-- at WHERE, and the line's end
abbrev pub end_text : Option Site → Bool → List ℕ
end_text site public = codes " at " ++ (site_text site ++ line_end public)

-- +0xOFFSET start 0xSTART size 0xSIZE module, with a dash for a size that isn't known
abbrev pub numbers_text : Symbol → List ℕ
numbers_text s = codes "+" ++ (hex s.offset ++ (codes " start " ++ (hex s.addr ++ (codes " size " ++ (size_text s.size ++ codes " module ")))))

-- NAME at WHERE, after two spaces
abbrev pub call_text : Call → List ℕ
call_text call = codes "  " ++ (call.name ++ end_text call.site false)

-- the lines of the inlined calls, in their order
abbrev pub calls_text : List Call → List ℕ
calls_text calls = flat_map call_text calls

-- NAME, its numbers and MODULE at WHERE, and the calls
abbrev pub symbol_text : Symbol → List ℕ
symbol_text s = s.name ++ (numbers_text s ++ (module_text s.«module» ++ (end_text s.site s.public ++ calls_text s.calls)))

abbrev pub result_text : Answer → List ℕ
result_text (Known s) = symbol_text s
result_text (Unknown r) = codes "? " ++ (reason.text_of r ++ codes "\n")

-- 0xADDR: and the answer there
abbrev pub answer_text : ℕ → Answer → List ℕ
answer_text addr answer = hex addr ++ (codes ": " ++ result_text answer)

-- the texts of the answers at the addresses, one after the other
abbrev pub answer_texts : List ℕ → List Answer → List ℕ
answer_texts [] answers = []
answer_texts (addr ∷ addrs) [] = []
answer_texts (addr ∷ addrs) (answer ∷ answers) = answer_text addr answer ++ answer_texts addrs answers
