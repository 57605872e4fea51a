use Rattle.std.proofs.Common.{◌≡◌, ◌<◌, length, slice_index_or, sym, ap, subst}
use Rattle.std.proofs.lemmas.Bool.{ltb-true}
use Rattle.fo_ports_plain.specs.declared.block.PlainBlock.{PlainBlock}
use Rattle.fo_ports_plain.specs.Plain.{memory}
use Rattle.fo_ports_plain.proofs.Lists.{block_is}
use Rattle.fo_ports_plain.proofs.Passing.{shows_kept}
use Rattle.fo_ports_plain.proofs.plain.PlainBlocks.left.Goals as goal

pub returns-clause-is : goal.returns-clause-is
returns-clause-is c =
    let self = c.args.self.now in
    let m = c.in_ok-kept.kept.now in
    let within : c.args.moment < length self.seen.items = subst (λ ms. c.args.moment < length ms) c.deref.ensures.value (ltb-true c.args.moment (length c.deref.result.now) (sym c.in_ok-kept.ensures.lookup.0)) in
    let m_is : slice_index_or self.seen.items c.args.moment m ≡ m = subst (λ ms. slice_index_or ms c.args.moment m ≡ m) c.deref.ensures.value (sym c.in_ok-kept.ensures.lookup.1) in
    let kept = shows_kept self.seen.items c.args.moment m m within m_is in
    let below : c.args.at < length m.blocks.items = subst (λ bs. c.args.at < length bs) c.deref-2.ensures.value (ltb-true c.args.at (length c.deref-2.result.now) (sym c.in_ok-block.ensures.lookup.0)) in
    let is = block_is m.blocks.items c.args.at c.in_ok-block.block.now below (subst (λ bs. c.in_ok-block.block.now ≡ slice_index_or bs c.args.at c.in_ok-block.block.now) c.deref-2.ensures.value c.in_ok-block.ensures.lookup.1) in
    record { image = memory m.blocks.items; left = kept; has = ap (λ (y : PlainBlock). y.bytes) (sym is) }

pub returns-in_err-block-clause-none : goal.returns-in_err-block-clause-none
returns-in_err-block-clause-none c = λ none kept.
    let m = c.in_ok-kept.kept.now in
    let m_is : slice_index_or c.args.self.now.seen.items c.args.moment m ≡ m = subst (λ ms. slice_index_or ms c.args.moment m ≡ m) c.deref.ensures.value (sym c.in_ok-kept.ensures.lookup.1) in
    let no = c.in_err-block.ensures.lookup.2 (subst (λ bs. c.args.at < length bs) (sym c.deref-2.ensures.value) (kept.each m m_is)) in
    cc
