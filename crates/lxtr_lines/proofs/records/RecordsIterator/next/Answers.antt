-- Each record ends after the one before.
use Rattle.std.proofs.Common.{arith, ◌∙◌, sym, ◌<◌, length}
use Rattle.std.proofs.lemmas.Grind.{common_steps}
use Rattle.lxtr_lines.specs.Records.{record_end, next_record}
use Rattle.lxtr_lines.proofs.records.RecordsIterator.next.Goals as goal

pub returns-clause-goes : goal.returns-clause-goes
returns-clause-goes c =
    let h : (c.args.self.now.at < length c.args.self.now.listing.now) × (c.args.self.now.at < record_end c.args.self.now.listing.now c.args.self.now.at) =
    next_record _ _ (sym c.is_whole_record.ensures ∙ c.if-not-is_whole_record.false) in
    grind (arith, common_steps)
