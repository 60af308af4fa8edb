-- The names of the commands and how many operands each takes.
use Rattle.std.specs.Prelude.{ℕ, zero, suc, ◌+◌, List, [], ◌∷◌, Bool, true, false, ◌&&◌, leb, eqb}
use Prim.Native.Char.{code}
use Prim.Native.String.{String, len, char_at}
use Rattle.lxtr_command_spec.specs.declared.Command.{Command}
use Rattle.lxtr_command_spec.specs.declared.Command.TheVariants.{Check, Exact, Prefixes, Longest, Probe, Why, Complete, Build, Keys, Draw, TypeText, Help, Unknown, WrongOperands}

-- the bytes of a text of ASCII characters: of n characters from character i on, then of all
unfoldable pub ascii_from : ℕ → String → ℕ → List ℕ
ascii_from zero s i = []
ascii_from (suc n) s i = code (char_at s i) ∷ ascii_from n s (i + 1)

unfoldable pub ascii : String → List ℕ
ascii s = ascii_from (len s) s 0

-- two names are the same, byte by byte
unfoldable pub same_bytes : List ℕ → List ℕ → Bool
same_bytes [] [] = true
same_bytes [] (y ∷ ys) = false
same_bytes (x ∷ xs) [] = false
same_bytes (x ∷ xs) (y ∷ ys) = eqb x y && same_bytes xs ys

-- a command that takes from `fewest` to `most` operands, given n operands
unfoldable pub taking : Command → ℕ → ℕ → ℕ → Command
taking command fewest most n = elim (leb fewest n && leb n most) [ true ↦ command | false ↦ WrongOperands ]

-- a row of the table: the command of that name, or the answer of the later rows
unfoldable pub row : String → ℕ → ℕ → Command → List ℕ → ℕ → Command → Command
row text fewest most command name n later = elim (same_bytes name (ascii text)) [ true ↦ taking command fewest most n | false ↦ later ]

-- the rows of the commands that list, write files, draw or type
unfoldable pub later_rows : List ℕ → ℕ → Command
later_rows name n =
    row "complete" 1 2 Complete name n
    (row "build" 2 2 Build name n
    (row "keys" 2 2 Keys name n
    (row "draw" 1 1 Draw name n
    (row "type" 3 3 TypeText name n
    (row "help" 0 0 Help name n
    Unknown)))))

-- the command that a name means with n operands
unfoldable pub command_of : List ℕ → ℕ → Command
command_of name n =
    row "check" 1 1 Check name n
    (row "exact" 2 2 Exact name n
    (row "prefixes" 2 2 Prefixes name n
    (row "longest" 2 2 Longest name n
    (row "probe" 2 2 Probe name n
    (row "why" 2 2 Why name n
    (later_rows name n))))))
