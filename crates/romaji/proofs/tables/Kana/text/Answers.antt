-- The bytes between the length byte and the end of the text, cut off at the end of the table.
use Rattle.romaji.specs.Tables.{no_bytes, bytes_start, the_bytes}
use Rattle.romaji.proofs.tables.Kana.text.Goals as goal

pub returns-then-self-at : goal.returns-then-self-at
returns-then-self-at c = let begins = rw (← c.self.view_is) at c.text_at-at.ensures in rw (← c.self.view_is) (no_bytes _ _ _ begins c.if-self-at.true)

pub slice_bounds-result-count : goal.slice_bounds-result-count
slice_bounds-result-count c = let begins = rw (← c.self.view_is) at c.text_at-at.ensures in bytes_start _ _ _ begins c.if-self-at.false _ c.text_end-end.ensures

pub slice_bounds-result-start : goal.slice_bounds-result-start
slice_bounds-result-start c = let begins = rw (← c.self.view_is) at c.text_at-at.ensures in bytes_start _ _ _ begins c.if-self-at.false _ c.text_end-end.ensures

pub returns : goal.returns
returns c = let begins = rw (← c.self.view_is) at c.text_at-at.ensures in rw (← c.self.view_is) (the_bytes _ _ _ begins c.if-self-at.false _ c.text_end-end.ensures)
