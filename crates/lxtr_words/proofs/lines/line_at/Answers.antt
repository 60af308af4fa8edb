-- The rest of the text, up to its first line feed.
use Rattle.std.proofs.Common.{rules, sym, ◌∙◌, ap}
use Rattle.lxtr_words.specs.TextLines.{first_line, line_at, feed_found, no_feed}
use Rattle.lxtr_words.proofs.lines.line_at.Goals as goal

pub slice_bounds-result-end : goal.slice_bounds-result-end
slice_bounds-result-end c = let h = (feed_found c.rest_at-rest.result.now _ (sym c.in-Some.ensures)).0 in search rules

pub returns-in-Some : goal.returns-in-Some
unfolding line_at
returns-in-Some c = (feed_found _ _ (sym c.in-Some.ensures)).1 ∙ ap first_line c.rest_at-rest.ensures

pub returns-in-None : goal.returns-in-None
unfolding line_at
returns-in-None c = no_feed _ (sym c.in-None.ensures) ∙ ap first_line c.rest_at-rest.ensures
