use Rattle.std.proofs.Common.{◌≡◌, ◌++◌, ◌∷◌, []}
use Rattle.std.proofs.lemmas.Result.{err_from_is_err_and}
use Rattle.nine_fields.specs.Reading.{names_at}
use Rattle.nine_fields.proofs.Listing.{names_listed, goes_on, ends, is_done}
use Rattle.nine_fields.proofs.reading.texts_at.Goals as goal

pub returns-in_err-name : goal.returns-in_err-name
returns-in_err-name c =
    let p = err_from_is_err_and c.from_residual.result c.from_residual.ensures.1 in
    rw (p.1, p.2) (ends names_listed c.names.names.items c.args.count c.names.counter c.names.rest.now (names_at c.args.count c.args.bytes.now) c.names-test.true c.in_err-name.ensures c.names.invariant)

pub names-preserved : goal.names-preserved
names-preserved c =
    let e : c.push.new.self.items ≡ c.names.names.items ++ c.in_ok-name.name.now ∷ [] = rw (← c.in_ok-copy_of.ensures) c.in_ok-push.ensures.items in
    rw e (goes_on names_listed c.names.names.items c.args.count c.names.counter c.names.rest.now c.in_ok-name.name.now c.in_ok-name.after.now (names_at c.args.count c.args.bytes.now) c.names-test.true c.in_ok-name.ensures c.names.invariant)

pub returns : goal.returns
returns c = is_done names_listed c.names.names.items c.args.count c.names.counter c.names.rest.now (names_at c.args.count c.args.bytes.now) c.names-test.false c.names.invariant
