use Rattle.std.proofs.Common.{◌≡◌, ◌≢◌, ◌%◌, ◌<◌, ℕ, zero, suc, true, false, List, replicate, get_or, length, inr, refl, sym, ◌∙◌, ap, subst, arith}
use Rattle.fo_image.specs.declared.types.Entry.{Entry}
use Rattle.fo_image.specs.declared.types.Kind.TheVariants.{Data, Dir}
use Rattle.fo_image.specs.declared.types.Label.{Label}
use Rattle.fo_crash.specs.declared.slot.Slot.{Slot}
use Rattle.fo_crash.specs.Places.{place}
use Rattle.fo_crash.specs.Names.{IsInUse}
use Rattle.fo_crash.proofs.Reach.{reaches_itself}
use Rattle.fo_crash.specs.declared.slot.Slot.TheVariants.{Entry as Head}
use Rattle.fo_ports.specs.Blocks.{IsEntry, SlotFits, zero_bytes, slot_count}
use Rattle.fo_ports.proofs.Lengths.{length_zero_bytes}
use Rattle.test_clients.proofs.names.leaves.Goals as goal

zeros : (n i : ℕ) → ◌≡◌ {A = ℕ} (get_or (replicate n 0) i 0) 0
zeros zero i = refl
zeros (suc n) zero = refl
zeros (suc n) (suc i) = zeros n i

none : (i : ℕ) → ◌≡◌ {A = ℕ} (get_or zero_bytes i 0) 0
unfolding zero_bytes
none i = zeros 8192 i

pub returns-clause-may : goal.returns-clause-may
returns-clause-may g c =
    let first = c.new_block-entries.ensures.gives in
    let second = c.new_block-leaf.ensures.gives in
    let on = c.args.on.now in
    let mid = c.new_block-entries.new.self in
    let s = g.B.Blocks.state mid in
    let t = g.B.Blocks.state c.new_block-leaf.new.self in
    let entries = c.new_block-entries.result in
    let leaf = c.new_block-leaf.result in
    let k = g.met.B.Blocks.keeps_all mid c.new_block-leaf.new.self c.new_block-leaf.ensures.keeps in
    let j = g.met.B.Blocks.keeps_all on mid c.new_block-entries.ensures.keeps in
    let ne : entries ≢ leaf = λ e. second.was.0 (ap (λ x. (s.label x).state) (sym e) ∙ ap (λ (l : Label). l.state) first.label) in
    let label = second.stays.labels entries ne in
    let kind = ap (λ (l : Label). l.kind) label ∙ ap (λ (l : Label). l.kind) first.label in
    let bare : t.covered entries → ⊥ = λ h. first.is.4 ((second.covered entries ne).0 h) in
    let slot = (second.memory.others entries ne).slots 6 ∙ first.memory.here.slots 6 in
    let apart : t.apart entries = (second.stays.apart entries ne (λ n. n)).1 first.is.3 in
    let room = c.requires.room in
    record {
      fit = record { each = λ image is. record { each = λ i n lists. let zero_is : ◌≡◌ {A = ℕ} 0 n = sym (ap (λ (xs : List ℕ). get_or xs i 0) (second.images.holds image is).bytes ∙ none i) ∙ lists.0 in let some = lists.1 in absurd (omega (arith, zero_is, some)) } };
      leaf_pinned = second.is.1;
      leaf_current = ap (λ (l : Label). l.epoch) second.label ∙ sym k.same_high;
      leaf_kind = ap (λ (l : Label). l.kind) second.label;
      leaf_long = ap length second.memory.here.bytes ∙ length_zero_bytes;
      leaf_place = λ told p is. let same = (g.met.B.Blocks.one_place c.new_block-leaf.new.self).each leaf (place (Data 0) 33 0 2112) p (c.new_block-leaf.ensures.place (k.still_tells.0 told)) is in subst (λ q. (q.kind ≡ Data 0) × (q.rank % 32 ≢ 16)) same (refl, omega arith);
      entries_pinned = (second.stays.marks entries ne).0 first.is.1;
      entries_current = ap (λ (l : Label). l.epoch) label ∙ ap (λ (l : Label). l.epoch) first.label ∙ sym (k.same_high ∙ j.same_high);
      entries_kind = kind;
      lower = λ told. record {
        lower_at = place (Dir 0) 32 0 2088;
        upper_at = place (Data 0) 33 0 2112;
        lower_stands = second.stays.places (k.still_tells.0 told) entries (place (Dir 0) 32 0 2088) ne (λ h. h) bare (entries, inr apart, reaches_itself t.now entries) (c.new_block-entries.ensures.place (j.still_tells.0 (k.still_tells.0 told)));
        upper_stands = c.new_block-leaf.ensures.place (k.still_tells.0 told);
        falls = omega arith;
      };
      uncovered = (second.is.4, bare);
      held = λ told. (inr (entries, apart, reaches_itself t.now entries), (leaf, inr second.is.3, reaches_itself t.now leaf));
      first = refl;
      slots = subst (λ x. 6 < slot_count x) (sym kind) (omega arith);
      room = let one = first.uses.room in let two = second.uses.room in omega (arith, room, one, two);
      free = λ n used. let off = subst (λ (x : Slot). IsInUse x n) slot used in let no : false ≡ true = off.0 in cc;
      settled = λ h. (first.order.clearing entries 6 (second.order.clearing entries 6 h).1).0 refl;
      spelled = subst (λ x. SlotFits x 6 (Head c.args.file)) (sym kind) (subst (λ (e : Entry). IsEntry (Head e)) (sym c.requires.file) (record { active_holds = (record { room = omega arith; least = λ n lt. absurd (omega (arith, lt)) }, tt) }, omega arith));
      empty = ap (λ (e : Entry). e.top) c.requires.file;
      active = ap (λ (e : Entry). e.active) c.requires.file;
      same = ap (λ (e : Entry). e.generation) c.requires.file;
    }

pub returns-clause-leaf : goal.returns-clause-leaf
returns-clause-leaf g c =
    let mid = c.new_block-entries.new.self in
    let k = g.met.B.Blocks.keeps_all mid c.new_block-leaf.new.self c.new_block-leaf.ensures.keeps in
    record {
      block = c.new_block-leaf.ensures.gives.is.0;
      place = λ told p is. let same = (g.met.B.Blocks.one_place c.new_block-leaf.new.self).each c.new_block-leaf.result (place (Data 0) 33 0 2112) p (c.new_block-leaf.ensures.place (k.still_tells.0 told)) is in subst (λ q. (q.kind ≡ Data 0) × (q.rank ≡ 2112)) same (refl, refl);
    }
