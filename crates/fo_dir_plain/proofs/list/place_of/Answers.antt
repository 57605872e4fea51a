use Rattle.std.proofs.Common.{bytes_eq, sym, ap, ◌∙◌, arith}
use Rattle.fo_image.specs.declared.record.Record.{Record}
use Rattle.fo_meta.specs.Leaf.{is_named}
use Rattle.fo_dir_plain.proofs.Listing.{place_is}
use Rattle.fo_dir_plain.proofs.list.place_of.Goals as goal

pub returns-then-eq : goal.returns-then-eq
returns-then-eq c =
    place_is c.args.name.now c.args.records.now c.loop-i.i c.index-records-i.result (omega (arith, c.loop-i-test.true)) c.index-records-i.is c.loop-i.invariant
    (ap (λ (x : Record). is_named c.args.name.now x) c.index-records-i.is ∙ ap (λ xs. bytes_eq xs c.args.name.now) (sym c.as_slice.ensures) ∙ sym c.eq.ensures ∙ c.if-eq.true)
