-- Refusal 21, or what the whole list gives with cleared work, which is cleared again.
use Rattle.std.proofs.Common.{arith, ◌≤◌, length}
use Rattle.lxtr_build.specs.Clearing.{cleared}
use Rattle.lxtr_build.specs.BuildReturns.{work_small, all_built}
use Rattle.lxtr_build.proofs.build.Goals as goal

pub returns-then-work-lt-MIN_WORDS : goal.returns-then-work-lt-MIN_WORDS
returns-then-work-lt-MIN_WORDS c = search work_small

pub build_cleared-built-requires : goal.build_cleared-built-requires
build_cleared-built-requires c = cleared _ _ (omega arith) c.clear.ensures

pub returns : goal.returns
returns c = let room : 4 ≤ length c.args.work.now = omega arith in search all_built
