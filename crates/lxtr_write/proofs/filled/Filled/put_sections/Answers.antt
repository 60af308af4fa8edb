-- Each section is written after the one before it.
use Rattle.lxtr_write.specs.SectionWriting.{image_put}
use Rattle.lxtr_write.proofs.filled.Filled.put_sections.Goals as goal

pub returns : goal.returns
returns c =
    let header = rw c.requires.last_value at c.put_header.ensures in
    let lists = rw c.requires.last_value at c.put_lists.ensures in
    image_put _ _ _ _ _ c.args.self.now.room c.requires.counted _ _ _ _ _ c.requires.order_in_bounds header c.put_nodes.ensures lists c.put_map.ensures
