use Rattle.std.proofs.Common.{inl, sym, ◌∙◌}
use Rattle.std.proofs.lemmas.Slice.Eq.{bytes_eq-Decides}
use Rattle.fo_dir_plain.proofs.Listing.{taken_is}
use Rattle.fo_dir_plain.proofs.list.is_taken.Goals as goal

pub returns-then-eq : goal.returns-then-eq
returns-then-eq c = inl ((bytes_eq-Decides c.args.other.now c.args.name.now).0 (sym c.eq.ensures ∙ c.if-eq.true))

pub returns : goal.returns
returns c = taken_is c.args.records.now c.args.name.now c.args.other.now c.has_name.result c.has_name.ensures (sym c.eq.ensures ∙ c.if-eq.false)
