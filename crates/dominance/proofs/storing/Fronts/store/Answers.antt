-- The list of the label's place alone is longer, or none is.
use Rattle.std.proofs.Common.{refl}
use Rattle.dominance.proofs.Filed.{stored-ok, stored-err, stored-filed}
use Rattle.dominance.proofs.storing.Fronts.store.Goals as goal

pub returns-clause-ok : goal.returns-clause-ok
returns-clause-ok c =
    stored-ok c.push.result c.args.self.now.by_place.items c.args.label.place c.index_mut.result.now c.push.new.self c.requires
    c.index_mut.ensures.value c.args.label c.push.ensures.ok

pub returns-clause-err : goal.returns-clause-err
returns-clause-err c =
    stored-err c.push.result c.args.self.now.by_place.items c.args.label.place c.index_mut.result.now c.push.new.self c.requires
    c.index_mut.ensures.value c.push.ensures.err

pub invariant_of-self : goal.invariant_of-self
invariant_of-self c = record {
  filed = stored-filed c.push.result c.args.self.now.by_place.items c.args.label.place c.index_mut.result.now c.push.new.self c.requires
      c.index_mut.ensures.value c.args.label refl c.push.ensures.ok c.push.ensures.err c.args.self.now.filed;
}
