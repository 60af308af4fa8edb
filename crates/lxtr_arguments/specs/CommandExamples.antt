-- Names and numbers of operands with the command that they mean, computed on the definitions.
use Rattle.std.specs.Prelude.{ℕ, ◌≡◌, refl, List, [], ◌∷◌}
use Prim.Native.String.{String}
use Rattle.lxtr_laws.specs.ExampleTables.{AllHold, ◌and◌}
use Rattle.lxtr_command_spec.specs.declared.Command.{Command}
use Rattle.lxtr_command_spec.specs.declared.Command.TheVariants.{Check, Exact, Prefixes, Longest, Probe, Why, Complete, Build, Keys, Draw, TypeText, Help, Unknown, WrongOperands}
use Rattle.lxtr_command_spec.specs.Commands.{ascii_from, ascii, same_bytes, taking, row, later_rows, command_of}

pub data Example : Type 0 where
  -- a name, how many operands follow it, and what it means
  means : String → ℕ → Command → Example

abbrev pub Holds : Example → Type 0
Holds (means name n command) = command_of (ascii name) n ≡ command

unfoldable pub examples : List Example
examples =
    -- each command
    means "check" 1 Check
    ∷ means "exact" 2 Exact
    ∷ means "prefixes" 2 Prefixes
    ∷ means "longest" 2 Longest
    ∷ means "probe" 2 Probe
    ∷ means "why" 2 Why
    ∷ means "complete" 1 Complete
    ∷ means "complete" 2 Complete
    ∷ means "build" 2 Build
    ∷ means "keys" 2 Keys
    ∷ means "draw" 1 Draw
    ∷ means "type" 3 TypeText
    ∷ means "help" 0 Help
    -- too few operands, and too many
    ∷ means "check" 0 WrongOperands
    ∷ means "check" 2 WrongOperands
    ∷ means "exact" 1 WrongOperands
    ∷ means "exact" 3 WrongOperands
    ∷ means "why" 1 WrongOperands
    ∷ means "complete" 0 WrongOperands
    ∷ means "complete" 3 WrongOperands
    ∷ means "build" 1 WrongOperands
    ∷ means "keys" 3 WrongOperands
    ∷ means "draw" 0 WrongOperands
    ∷ means "type" 2 WrongOperands
    ∷ means "type" 4 WrongOperands
    ∷ means "help" 1 WrongOperands
    -- no name, a shorter one, a longer one, one with a capital letter, and one with a letter changed
    ∷ means "" 0 Unknown
    ∷ means "chec" 1 Unknown
    ∷ means "checks" 1 Unknown
    ∷ means "Check" 1 Unknown
    ∷ means "drew" 1 Unknown
    ∷ []

pub command_examples_hold : AllHold Holds examples
unfolding examples ascii_from ascii same_bytes taking row later_rows command_of
command_examples_hold =
    refl and refl and refl and refl and refl and refl and refl and refl and refl and refl and refl and refl and refl
    and refl and refl and refl and refl and refl and refl and refl and refl and refl and refl and refl and refl and refl
    and refl and refl and refl and refl and refl
    and tt
