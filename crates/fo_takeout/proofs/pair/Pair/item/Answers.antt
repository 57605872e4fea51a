use Rattle.std.proofs.Common.{◌≡◌, ◌∙◌, sym}
use Rattle.fo_takeout.specs.Meeting.{change}
use Rattle.fo_takeout.specs.declared.pair.Change.TheVariants.{Gained, Lost}
use Rattle.fo_takeout.proofs.pair.Pair.item.Goals as goal

pub returns-in-Lost-clause-is : goal.returns-in-Lost-clause-is
returns-in-Lost-clause-is c =
    let lost : change c.args.self.now ≡ Lost = sym c.change.ensures ∙ c.in-Lost.is in
    rw lost (c.lost_item.ensures.is c.args.new.now)

pub returns-in-Gained-clause-is : goal.returns-in-Gained-clause-is
returns-in-Gained-clause-is c =
    let gained : change c.args.self.now ≡ Gained = sym c.change.ensures ∙ c.in-Gained.is in
    rw gained (c.gained_item.ensures.is c.args.old.now c.args.n)
