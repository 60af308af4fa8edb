-- Each byte goes behind those before it.
use Rattle.std.proofs.Common.{arith}
use Rattle.romaji.specs.Texts.{query_start, query_place, query_next, query_end}
use Rattle.romaji.proofs.texts.Text.put_query.Goals as goal

pub loop-i-init : goal.loop-i-init
loop-i-init c = query_start _ _ _ _ (omega (arith, c.requires.to_in_text, c.requires.in_order)) _ (omega arith)

pub put_label-requires : goal.put_label-requires
put_label-requires c = record {
  at_in_bounds = omega (arith, c.requires.to_in_text);
  i_in_bounds = query_place _ _ _ _ c.requires.count_in_query _ _ c.loop-i.invariant (omega arith);
}

pub loop-i-preserved : goal.loop-i-preserved
loop-i-preserved c =
    query_next _ _ _ _ c.requires.count_in_query _ _ c.loop-i.invariant _ _ _ (omega arith) (omega arith) (omega arith) c.put_label.ensures

pub returns : goal.returns
returns c = query_end _ _ _ _ c.requires.count_in_query _ _ c.loop-i.invariant (omega arith)
