-- The numbers that a GSYM file is written with, where the format leaves a choice.
use Rattle.std.specs.Prelude.{ℕ}

-- the size of a start in the address table, in bytes
abbrev pub addr_off_size : ℕ
addr_off_size = 8

-- the size of the build id, in bytes: there is none
abbrev pub uuid_size : ℕ
uuid_size = 0

-- the address that the starts count from
abbrev pub base_address : ℕ
base_address = 0

-- what a line table begins with, a byte each: the least and greatest line delta of special operators,
-- which aren't written, and the first line
abbrev pub min_delta : ℕ
min_delta = 0

abbrev pub max_delta : ℕ
max_delta = 0

abbrev pub first_line : ℕ
first_line = 0

-- how many ranges each node has
abbrev pub one_range : ℕ
one_range = 1

-- the flag of a node that has children
abbrev pub some_children : ℕ
some_children = 1

-- the root of a tree starts where its function does, and is called at no line of no file
abbrev pub root_offset : ℕ
root_offset = 0

abbrev pub no_file : ℕ
no_file = 0

abbrev pub no_line : ℕ
no_line = 0
