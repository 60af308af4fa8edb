-- The labels of the text of a value, or the byte as a label.
use Rattle.std.proofs.Common.{rules}
use Rattle.romaji.specs.NextPieces.{text_room, text_after, text_fits, text_put, byte_room, byte_after, byte_put}
use Rattle.romaji.proofs.pieces.Conversion.put_piece.Goals as goal

pub put_text-requires : goal.put_text-requires
put_text-requires c = text_room _ _ _ _ _ c.in-Some.is c.text-text.ensures _ _ c.requires.value_in_bounds

pub overflow_add-result : goal.overflow_add-result
overflow_add-result c = search (text_fits, rules)

pub put_label-requires-clause-i_in_bounds : goal.put_label-requires-clause-i_in_bounds
put_label-requires-clause-i_in_bounds c = byte_room _ _ _ c.in-None.is _ _ c.requires.value_in_bounds

pub returns-in-Some-clause-value : goal.returns-in-Some-clause-value
returns-in-Some-clause-value c = text_after _ _ _ _ _ c.in-Some.is c.text-text.ensures _ _ c.requires.value_in_bounds _ c.label_count.ensures

pub returns-in-Some-clause-room_after : goal.returns-in-Some-clause-room_after
returns-in-Some-clause-room_after c = text_put _ _ _ _ _ c.in-Some.is c.text-text.ensures _ _ c.requires.value_in_bounds _ c.put_text.ensures

pub returns-in-None-clause-value : goal.returns-in-None-clause-value
returns-in-None-clause-value c = byte_after _ _ _ c.in-None.is _ _ c.requires.value_in_bounds

pub returns-in-None-clause-room_after : goal.returns-in-None-clause-room_after
returns-in-None-clause-room_after c = byte_put _ _ _ c.in-None.is _ _ c.requires.value_in_bounds _ c.put_label.ensures
