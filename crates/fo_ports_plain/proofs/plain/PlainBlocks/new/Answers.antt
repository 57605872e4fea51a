use Rattle.std.proofs.Common.{◌≡◌, ◌+◌, length, refl, sym, ◌∙◌, ap, arith}
use Rattle.fo_ports_plain.specs.declared.block.PlainBlock.{PlainBlock}
use Rattle.fo_ports_plain.specs.Plain.{slot_of}
use Rattle.fo_ports_plain.proofs.BeginNew.{fresh_blocks, fresh_len, unmade_empty, taken, retired, new_none, new_sound, new_formed, new_label}
use Rattle.fo_ports_plain.proofs.plain.PlainBlocks.new.Goals as goal

pub invariant_of-result-clause-few : goal.invariant_of-result-clause-few
invariant_of-result-clause-few c =
    let len : length c.resize.new.self.items ≡ c.args.count + 3 = sym c.resize.new.self.ok.0 ∙ c.in_ok-resize.ensures.len in
    let n = fresh_len c.resize.new.self.items c.super_block.result c.in_ok-blocks.field-0 c.args.count len in
    omega (arith, n, c.requires)

pub invariant_of-result-clause-spared : goal.invariant_of-result-clause-spared
invariant_of-result-clause-spared c =
    let len : length c.resize.new.self.items ≡ c.args.count + 3 = sym c.resize.new.self.ok.0 ∙ c.in_ok-resize.ensures.len in
    let n = fresh_len c.resize.new.self.items c.super_block.result c.in_ok-blocks.field-0 c.args.count len in
    omega (arith, n)

pub invariant_of-result-clause-sound : goal.invariant_of-result-clause-sound
invariant_of-result-clause-sound c =
    let len : length c.resize.new.self.items ≡ c.args.count + 3 = sym c.resize.new.self.ok.0 ∙ c.in_ok-resize.ensures.len in
    let made = fresh_blocks c.resize.new.self.items c.super_block.result c.in_ok-blocks.field-0 c.unmade_block.result c.args.count len
    (λ k d lt. c.in_ok-resize.ensures.by_index.1 k d refl (omega (arith, c.new-blocks.ensures.len)) lt)
    (unmade_empty c.unmade_block.result c.unmade_block.ensures.place.0 c.unmade_block.ensures.place.1 c.unmade_block.ensures.marks.0 c.unmade_block.ensures.marks.1 c.unmade_block.ensures.marks.2 c.unmade_block.ensures.marks.3 c.unmade_block.ensures.marks.4 c.unmade_block.ensures.slots)
    (record { super_at = c.super_block.ensures.super_at; epoch = c.super_block.ensures.marks.1; taken = c.super_block.ensures.marks.2; kept = c.super_block.ensures.marks.3; retired = c.super_block.ensures.marks.4; root = c.super_block.ensures.root; others = c.super_block.ensures.others })
    (record { place = c.in_ok-blocks.ensures.place.0; epoch = c.in_ok-blocks.ensures.place.1; source = c.in_ok-blocks.ensures.place.2; joined = c.in_ok-blocks.ensures.marks.0; taken = c.in_ok-blocks.ensures.marks.2; kept = c.in_ok-blocks.ensures.marks.3; retired = c.in_ok-blocks.ensures.marks.4; home = c.in_ok-blocks.ensures.home; slots = c.in_ok-blocks.ensures.slots; formed = c.in_ok-blocks.ensures.formed }) in
    new_sound made

pub invariant_of-result-clause-formed : goal.invariant_of-result-clause-formed
invariant_of-result-clause-formed c =
    let len : length c.resize.new.self.items ≡ c.args.count + 3 = sym c.resize.new.self.ok.0 ∙ c.in_ok-resize.ensures.len in
    let made = fresh_blocks c.resize.new.self.items c.super_block.result c.in_ok-blocks.field-0 c.unmade_block.result c.args.count len
    (λ k d lt. c.in_ok-resize.ensures.by_index.1 k d refl (omega (arith, c.new-blocks.ensures.len)) lt)
    (unmade_empty c.unmade_block.result c.unmade_block.ensures.place.0 c.unmade_block.ensures.place.1 c.unmade_block.ensures.marks.0 c.unmade_block.ensures.marks.1 c.unmade_block.ensures.marks.2 c.unmade_block.ensures.marks.3 c.unmade_block.ensures.marks.4 c.unmade_block.ensures.slots)
    (record { super_at = c.super_block.ensures.super_at; epoch = c.super_block.ensures.marks.1; taken = c.super_block.ensures.marks.2; kept = c.super_block.ensures.marks.3; retired = c.super_block.ensures.marks.4; root = c.super_block.ensures.root; others = c.super_block.ensures.others })
    (record { place = c.in_ok-blocks.ensures.place.0; epoch = c.in_ok-blocks.ensures.place.1; source = c.in_ok-blocks.ensures.place.2; joined = c.in_ok-blocks.ensures.marks.0; taken = c.in_ok-blocks.ensures.marks.2; kept = c.in_ok-blocks.ensures.marks.3; retired = c.in_ok-blocks.ensures.marks.4; home = c.in_ok-blocks.ensures.home; slots = c.in_ok-blocks.ensures.slots; formed = c.in_ok-blocks.ensures.formed }) in
    new_formed made

pub invariant_of-result-clause-queue : goal.invariant_of-result-clause-queue
invariant_of-result-clause-queue c =
    let len : length c.resize.new.self.items ≡ c.args.count + 3 = sym c.resize.new.self.ok.0 ∙ c.in_ok-resize.ensures.len in
    let made = fresh_blocks c.resize.new.self.items c.super_block.result c.in_ok-blocks.field-0 c.unmade_block.result c.args.count len
    (λ k d lt. c.in_ok-resize.ensures.by_index.1 k d refl (omega (arith, c.new-blocks.ensures.len)) lt)
    (unmade_empty c.unmade_block.result c.unmade_block.ensures.place.0 c.unmade_block.ensures.place.1 c.unmade_block.ensures.marks.0 c.unmade_block.ensures.marks.1 c.unmade_block.ensures.marks.2 c.unmade_block.ensures.marks.3 c.unmade_block.ensures.marks.4 c.unmade_block.ensures.slots)
    (record { super_at = c.super_block.ensures.super_at; epoch = c.super_block.ensures.marks.1; taken = c.super_block.ensures.marks.2; kept = c.super_block.ensures.marks.3; retired = c.super_block.ensures.marks.4; root = c.super_block.ensures.root; others = c.super_block.ensures.others })
    (record { place = c.in_ok-blocks.ensures.place.0; epoch = c.in_ok-blocks.ensures.place.1; source = c.in_ok-blocks.ensures.place.2; joined = c.in_ok-blocks.ensures.marks.0; taken = c.in_ok-blocks.ensures.marks.2; kept = c.in_ok-blocks.ensures.marks.3; retired = c.in_ok-blocks.ensures.marks.4; home = c.in_ok-blocks.ensures.home; slots = c.in_ok-blocks.ensures.slots; formed = c.in_ok-blocks.ensures.formed }) in
    λ none b. (taken made b, retired made b)

pub returns : goal.returns
returns c =
    let len : length c.resize.new.self.items ≡ c.args.count + 3 = sym c.resize.new.self.ok.0 ∙ c.in_ok-resize.ensures.len in
    let made = fresh_blocks c.resize.new.self.items c.super_block.result c.in_ok-blocks.field-0 c.unmade_block.result c.args.count len
    (λ k d lt. c.in_ok-resize.ensures.by_index.1 k d refl (omega (arith, c.new-blocks.ensures.len)) lt)
    (unmade_empty c.unmade_block.result c.unmade_block.ensures.place.0 c.unmade_block.ensures.place.1 c.unmade_block.ensures.marks.0 c.unmade_block.ensures.marks.1 c.unmade_block.ensures.marks.2 c.unmade_block.ensures.marks.3 c.unmade_block.ensures.marks.4 c.unmade_block.ensures.slots)
    (record { super_at = c.super_block.ensures.super_at; epoch = c.super_block.ensures.marks.1; taken = c.super_block.ensures.marks.2; kept = c.super_block.ensures.marks.3; retired = c.super_block.ensures.marks.4; root = c.super_block.ensures.root; others = c.super_block.ensures.others })
    (record { place = c.in_ok-blocks.ensures.place.0; epoch = c.in_ok-blocks.ensures.place.1; source = c.in_ok-blocks.ensures.place.2; joined = c.in_ok-blocks.ensures.marks.0; taken = c.in_ok-blocks.ensures.marks.2; kept = c.in_ok-blocks.ensures.marks.3; retired = c.in_ok-blocks.ensures.marks.4; home = c.in_ok-blocks.ensures.home; slots = c.in_ok-blocks.ensures.slots; formed = c.in_ok-blocks.ensures.formed }) in
    record {
      as_long = fresh_len c.resize.new.self.items c.super_block.result c.in_ok-blocks.field-0 c.args.count len;
      numbers = (refl, refl, refl, refl, refl);
      nothing = (refl, refl);
      none = new_none made;
      slots = λ i. ap (λ (x : PlainBlock). slot_of x i) made.root_is ∙ made.root_of.slots i;
      at_root = record { above = omega arith; was_made = omega arith; is = ap (λ (x : PlainBlock). x.place) made.root_is ∙ made.root_of.place };
      root_label = new_label made;
    }
