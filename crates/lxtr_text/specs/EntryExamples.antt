-- The line of an entry, computed on the definitions. Each byte has two digits.
use Rattle.std.specs.Prelude.{◌≡◌, refl, [], ◌∷◌}
use Rattle.lxtr_spec.specs.Lines.{digit_of, numeral, decimal}
use Rattle.lxtr_command_spec.specs.Commands.{ascii_from, ascii}
use Rattle.lxtr_command_spec.specs.Forms.{two_digits, bytes_text, entry_line}

pub entry_example_holds : entry_line 12 (0 ∷ 1 ∷ 0x0F ∷ 0x10 ∷ 0x47 ∷ 0x9A ∷ 0xA0 ∷ 0xFF ∷ []) ≡ ascii "12\t00010F10479AA0FF\n"
unfolding digit_of numeral decimal ascii_from ascii two_digits bytes_text entry_line
entry_example_holds = refl
