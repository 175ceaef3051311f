-- The sizes of document 01, each number once. Definitions cite these names; the code cites the constants of `Limits`, which
-- `Limits::sizes` (src/lib.rt) is proved to hand out as these very numbers.
use Rattle.std.specs.Prelude.{ℕ, ◌*◌, ◌/◌}

-- "Book 32,768 bytes; question 4,096"
abbrev pub most_book_bytes : ℕ
most_book_bytes = 32768

abbrev pub most_question_bytes : ℕ
most_question_bytes = 4096

-- "1,024 symbols"
abbrev pub most_symbols : ℕ
most_symbols = 1024

-- "32 variables on a path"
abbrev pub most_variables : ℕ
most_variables = 32

-- "64 nodes in one expression (variables don't count)"
abbrev pub most_expression_nodes : ℕ
most_expression_nodes = 64

-- "3,200 nodes; 256 choices; 64 waiting entries"
abbrev pub most_nodes : ℕ
most_nodes = 3200

abbrev pub most_choices : ℕ
most_choices = 256

abbrev pub most_entries : ℕ
most_entries = 64

-- "4,096 arrivals in one turn, and no node more than 255 arrows below the root"
abbrev pub most_arrivals : ℕ
most_arrivals = 4096

abbrev pub most_depth : ℕ
most_depth = 255

-- "fuel any 32-bit number"
abbrev pub most_fuel : ℕ
most_fuel = 4294967295

-- Of the layout: "result sort (0 to 63)"; "the sorts of its arguments (0 to 8 of them)"; "ten to a node".
abbrev pub last_sort : ℕ
last_sort = 63

abbrev pub most_arguments : ℕ
most_arguments = 8

abbrev pub numbers_of_node : ℕ
numbers_of_node = 10

-- The sorts that a byte can name, admitted or not.
abbrev pub sorts_of_a_byte : ℕ
sorts_of_a_byte = 256

-- The bits of a decision set, two to a choice, and its words, 64 bits to each.
abbrev pub bits_of_set : ℕ
bits_of_set = 2 * most_choices

abbrev pub words_of_set : ℕ
words_of_set = bits_of_set / 64
