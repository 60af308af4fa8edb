-- Texts that are made of a piece for each label, or for each byte; and three texts, one after the other.
use Rattle.std.specs.Prelude.{ℕ, ◌≡◌, refl, List, [], ◌∷◌, ◌++◌}
use Rattle.std.proofs.Common.{◌∙◌}
use Rattle.lxtr_spec.specs.Lines.{space, hexadecimal, labels_text}
use Rattle.lxtr_command_spec.specs.Forms.{shown, shown_all, spaced, two_digits, bytes_text}
use Rattle.lxtr_text.specs.Writing.{Pieces, wrote, wrote_wrote}
use Rattle.lxtr_text.specs.declared.line.Line.{Line}

pub shown_pieces : Pieces shown shown_all
unfolding shown_all
shown_pieces = record { none = refl; more = λ x xs. refl }

pub label_pieces : Pieces (λ x. space ∷ hexadecimal x) labels_text
unfolding labels_text
label_pieces = record { none = refl; more = λ x xs. refl }

pub digit_pieces : Pieces two_digits bytes_text
unfolding bytes_text
digit_pieces = record { none = refl; more = λ x xs. refl }

-- the first label, and the others with a space before each
pub spaced_parts : (xs : List ℕ) (x : ℕ) (rest : List ℕ) → xs ≡ x ∷ rest → spaced xs ≡ hexadecimal x ++ labels_text rest
unfolding spaced
spaced_parts xs x rest e = rw e refl

pub none_spaced : (xs : List ℕ) → xs ≡ [] → spaced xs ≡ []
unfolding spaced
none_spaced xs e = rw e refl

-- three texts, one after the other, are one text
pub three_written : (l l1 l2 l3 : Line) (x y z : List ℕ) → l1 ≡ wrote l x → l2 ≡ wrote l1 y → l3 ≡ wrote l2 z → l3 ≡ wrote l (x ++ (y ++ z))
three_written l l1 l2 l3 x y z e f g = rw (g, f, e) (wrote_wrote (wrote l x) y z ∙ wrote_wrote l x (y ++ z))
