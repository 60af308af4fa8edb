-- The slots from `at` up to the end of its word are passed by the word's bits from there.
use Rattle.std.proofs.Common.{◌/◌, arith, rules}
use Rattle.lxtr_laws.specs.SlotMaps.{word_bits}
use Rattle.lxtr_fit.specs.MapLoops.{search_found, search_next, search_none}
use Rattle.lxtr_fit.proofs.free_map.next_free.Goals as goal

pub returns-then-word-ne0 : goal.returns-then-word-ne0
returns-then-word-ne0 c = search_found _ _ _ c.loop-at.invariant c.requires (omega arith) (search (rules, c.type_inv.free (c.loop-at.at / word_bits))) c.if-word-ne0.true

pub loop-at-preserved : goal.loop-at-preserved
loop-at-preserved c = search_next _ _ _ c.loop-at.invariant c.requires (omega arith) (search (rules, c.type_inv.free (c.loop-at.at / word_bits))) c.if-word-ne0.false

pub returns : goal.returns
returns c = search search_none
