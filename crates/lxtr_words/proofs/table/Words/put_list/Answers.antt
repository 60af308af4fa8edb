-- The key list, if there is room for it: version and count, and the keys after them.
use Rattle.std.proofs.Common.{length, arith, ap, sym, ◌∙◌}
use Rattle.lxtr_words.specs.Tables.{keys_in}
use Rattle.lxtr_words.specs.WordTables.{keys_length}
use Rattle.lxtr_words.specs.KeyWriting.{head_room, keys_room, list_put}
use Rattle.lxtr_words.specs.ListReturns.{list_short, list_done}
use Rattle.lxtr_words.proofs.table.Words.put_list.Goals as goal

pub returns-then-out-length : goal.returns-then-out-length
returns-then-out-length c =
    let n = ap length c.starts-count.ensures.keys ∙ keys_length c.args.self.now.text.now c.starts-count.result.now in
    list_short (keys_in c.args.self.now) c.args.out.now (omega (arith, n, c.starts-count.ensures.few)) _ c.list_length-length.ensures c.if-out-length.true

pub put_head-requires : goal.put_head-requires
put_head-requires c = head_room (keys_in c.args.self.now) c.args.out.now (omega arith)

pub put_keys-requires : goal.put_keys-requires
put_keys-requires c =
    let n = ap length c.starts-count.ensures.keys ∙ keys_length c.args.self.now.text.now c.starts-count.result.now in
    keys_room (keys_in c.args.self.now) c.args.out.now (omega arith) _ (sym n) _ c.put_head.ensures

pub returns : goal.returns
returns c =
    let n = ap length c.starts-count.ensures.keys ∙ keys_length c.args.self.now.text.now c.starts-count.result.now in
    list_done (keys_in c.args.self.now) c.args.out.now (omega (arith, n, c.starts-count.ensures.few)) _ c.list_length-length.ensures _ (sym n) _ c.if-out-length.false
    (list_put (keys_in c.args.self.now) c.args.out.now (omega arith) _ (sym n) _ c.put_head.ensures _ c.put_keys.ensures)
