-- The texts of a program of so many functions, of patches for it, and of the script that patches it
-- while it runs.
use Rattle.std.specs.Prelude.{ℕ, zero, suc, List, [], ◌∷◌, ◌++◌, ◌+◌, ◌*◌, ◌%◌, codes, min}
use Rattle.std.specs.Fmt.{decimal}

-- a line; a newline is 10
abbrev pub text_line : List ℕ → List ℕ
text_line text = text ++ 10 ∷ []

-- what function i adds to the sum
abbrev pub added_by : ℕ → ℕ
added_by i = i % 100 + 1

-- how many patches there are: one for each of the first eight functions
abbrev pub patch_count : ℕ → ℕ
patch_count n = min n 8

-- the calls of the functions, one behind the other
unfoldable pub call_lines : ℕ → List ℕ
call_lines zero = []
call_lines (suc n) = call_lines n ++ text_line (codes "        jal ra, f" ++ decimal n)

-- a function that adds a number to the sum, and returns
unfoldable pub function_lines : List ℕ → ℕ → List ℕ
function_lines name number =
    text_line (name ++ codes ":     addi s1, s1, " ++ decimal number)
    ++ text_line (codes "        jalr x0, 0(ra)") ++ text_line (codes "        .size " ++ name)

-- the name of function i, and of the function of patch j
abbrev pub function_name : ℕ → List ℕ
function_name i = codes "f" ++ decimal i

-- the name of the function that takes the place of function j
abbrev pub new_name : ℕ → List ℕ
new_name j = codes "g" ++ decimal j

-- the functions, one behind the other
unfoldable pub functions_lines : ℕ → List ℕ
functions_lines zero = []
functions_lines (suc n) = functions_lines n ++ function_lines (function_name n) (added_by n)

-- the lines before the calls: so many rounds are to be made, and the sum is 0
unfoldable pub head_lines : ℕ → List ℕ
head_lines rounds =
    text_line (codes "_start: addi s0, x0, " ++ decimal rounds)
    ++ text_line (codes "        addi s1, x0, 0") ++ text_line (codes "round:")

-- the lines behind the calls: the hart quiesces, and begins the next round; behind the last it
-- exits with the sum
unfoldable pub tail_lines : List ℕ
tail_lines =
    text_line (codes "        addi a7, x0, 6") ++ text_line (codes "        ecall")
    ++ text_line (codes "        addi s0, s0, -1") ++ text_line (codes "        beq s0, x0, done")
    ++ text_line (codes "        jal x0, round") ++ text_line (codes "done:   addi a0, s1, 0")
    ++ text_line (codes "        addi a7, x0, 0") ++ text_line (codes "        ecall")

-- the source of a program of so many functions: in each round all are called, and there is one
-- round more than patches
unfoldable pub program_source : ℕ → List ℕ
program_source n =
    head_lines (patch_count n + 1) ++ call_lines n ++ tail_lines ++ functions_lines n

-- the source of the object of patch j: its function adds one more than function j
unfoldable pub object_source : ℕ → List ℕ
object_source j = function_lines (new_name j) (added_by j + 1)

-- the names of a patch, and of its object
abbrev pub patch_name : ℕ → List ℕ
patch_name j = codes "p" ++ decimal j

-- the name of the object of patch j
abbrev pub object_name : ℕ → List ℕ
object_name j = patch_name j ++ codes ".o"

-- the file of patch j
unfoldable pub patch_text : ℕ → List ℕ
patch_text j =
    text_line (codes "wfpatch 1") ++ text_line (codes "object " ++ object_name j)
    ++ text_line (codes "replace " ++ function_name j ++ codes " " ++ new_name j)

-- the line of so many units
abbrev pub run_line : ℕ → List ℕ
run_line units = text_line (codes "run " ++ decimal units)

-- The patches come in one after another, and behind each a round is made: a call of each function,
-- two instructions in each, two more in each that is patched, and five about the quiescing.
unfoldable pub round_lines : ℕ → ℕ → List ℕ
round_lines n zero = []
round_lines n (suc j) =
    round_lines n j ++ text_line (codes "patch " ++ patch_name j)
    ++ run_line (3 * n + 2 * suc j + 5)

-- the script: the first round, a round behind each patch, and the exit
unfoldable pub script_text : ℕ → List ℕ
script_text n = run_line (3 * n + 3) ++ round_lines n (patch_count n) ++ run_line 6
