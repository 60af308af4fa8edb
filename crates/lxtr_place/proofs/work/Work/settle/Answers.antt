-- First fit gives the base; then the words of the slot and its children are stored, and the children's slots are taken in the map.
use Rattle.lxtr_place.specs.SettlingWords.{settle_none, settle_inside, settle_in_map, settle_base, settle_map}
use Rattle.lxtr_place.proofs.work.Work.settle.Goals as goal

pub invariant_of-self : goal.invariant_of-self
invariant_of-self c = record { map = c.first_fit.ensures.free_map _ _ c.args.self.now.map }

pub returns-in_err-base-clause-words_after : goal.returns-in_err-base-clause-words_after
returns-in_err-base-clause-words_after c = rw c.from_residual.ensures (settle_none _ _ _ _ _ _ (c.first_fit.ensures.result_value _ _ c.args.self.now.map) c.in_err-base.was c.args.self.now.words.now)

pub put_under-requires-clause-slots_below : goal.put_under-requires-clause-slots_below
put_under-requires-clause-slots_below c = settle_inside _ c.args.p c.args.value _ _ _ (c.first_fit.ensures.result_value _ _ c.args.self.now.map) _ c.in_ok-base.was c.requires.ready

pub put_under-requires-clause-slots_below_2 : goal.put_under-requires-clause-slots_below_2
put_under-requires-clause-slots_below_2 c = settle_in_map _ c.args.p c.args.value _ _ _ (c.first_fit.ensures.result_value _ _ c.args.self.now.map) _ c.in_ok-base.was c.requires.ready

pub invariant_of-self-2 : goal.invariant_of-self-2
invariant_of-self-2 c = record { map = rw c.put_under.ensures.lowest_unchanged (settle_map _ c.args.p c.args.value _ _ _ (c.first_fit.ensures.result_value _ _ c.args.self.now.map) _ c.in_ok-base.was _ _ c.requires.ready (c.first_fit.ensures.free_map _ _ c.args.self.now.map) _ _ c.put_under.ensures.words_after c.put_under.ensures.free_after) }

pub returns-clause-words_after : goal.returns-clause-words_after
returns-clause-words_after c = settle_base _ _ _ _ _ _ (c.first_fit.ensures.result_value _ _ c.args.self.now.map) _ c.in_ok-base.was _ c.put_under.ensures.words_after
