-- The generated job: a Breakpad text of functions that stand one after the other,
-- and addresses among them.
use Rattle.std.specs.Prelude.{ℕ, ◌+◌, ◌*◌, ◌/◌, ◌%◌, zero, suc, false, List, [], ◌∷◌, ◌++◌, codes, decimal}
use Rattle.std.specs.Fmt.{digits}

-- where a function starts
abbrev pub start_of : ℕ → ℕ
start_of i = 4096 + 64 * i

abbrev pub hexadecimal : ℕ → List ℕ
hexadecimal n = digits 16 false n

-- FUNC START 30 0 fI
abbrev pub function_line : ℕ → List ℕ
function_line i = codes "FUNC " ++ (hexadecimal (start_of i) ++ (codes " 30 0 f" ++ (decimal i ++ codes "\n")))

-- INLINE 0 7 0 0 START 8
abbrev pub inline_line : ℕ → List ℕ
inline_line i = codes "INLINE 0 7 0 0 " ++ (hexadecimal (start_of i) ++ codes " 8\n")

-- START SIZE LINE 0
abbrev pub line_record : ℕ → List ℕ → ℕ → List ℕ
line_record start size line = hexadecimal start ++ (codes " " ++ (size ++ (codes " " ++ (decimal line ++ codes " 0\n"))))

-- a function, an inlined call at its front, and the two lines that it has
abbrev pub function_text : ℕ → List ℕ
function_text i = function_line i ++ (inline_line i ++ (line_record (start_of i) (codes "10") (i + 1) ++ line_record (start_of i + 16) (codes "20") (i + 2)))

-- so many functions, the last one first
unfoldable pub functions_text : ℕ → List ℕ
functions_text zero = []
functions_text (suc i) = function_text i ++ functions_text i

abbrev pub head_text : List ℕ
head_text = codes "MODULE Linux x86_64 0 gen\nFILE 0 gen.c\nINLINE_ORIGIN 0 g\n"

abbrev pub generated_text : ℕ → List ℕ
generated_text functions = head_text ++ functions_text functions

-- the number after another one
abbrev pub next_number : ℕ → ℕ
next_number x = (x * 1103515245 + 12345) % 2147483648

-- the address that a number gives; one below 2 ^ 31 gives one in the 32768 bytes from 4096 on
abbrev pub address_by : ℕ → ℕ → ℕ
address_by functions x = 4096 + (x / 65536) % (64 * functions + 64)

-- so many addresses, by the numbers after one
unfoldable pub addresses_after : ℕ → ℕ → ℕ → List ℕ
addresses_after functions x zero = []
addresses_after functions x (suc n) = address_by functions (next_number x) ∷ addresses_after functions (next_number x) n
