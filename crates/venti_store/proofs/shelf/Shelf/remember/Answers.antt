use Rattle.std.proofs.Common.{inr, List, ℕ, sym, subst}
use Rattle.std.specs.List.{Contains}
use Rattle.venti_store.specs.Arena.{without, recent_of}
use Rattle.venti_store.proofs.Puts.{held_bytes}
use Rattle.venti_store.proofs.Recents.{places_after, has_last, recalls_after}
use Rattle.venti_store.proofs.shelf.Shelf.remember.Goals as goal

pub returns-in-Some-clause-latest : goal.returns-in-Some-clause-latest
returns-in-Some-clause-latest c = record {
  empty = λ is. absurd (c.is_empty.ensures.no c.if-is_empty.false is);
  other = λ some. (c.in-Some.place, c.in-Some.ensures.found, places_after c.args.self.now.recent.blocks.items c.add.new.self.blocks.items (record { place = c.in-Some.place; bytes = c.args.bytes }) c.add.ensures);
}

pub returns-in-Some-clause-at_hand : goal.returns-in-Some-clause-at_hand
returns-in-Some-clause-at_hand c =
    let place = c.in-Some.place in
    let after = places_after c.args.self.now.recent.blocks.items c.add.new.self.blocks.items (record { place = place; bytes = c.args.bytes }) c.add.ensures in
    inr (place, c.in-Some.ensures.found, inr (subst (λ (ps : List ℕ). Contains ps place) (sym after) (has_last (without place (recent_of c.args.self.now)) place)))

pub returns-in-Some-clause-keeps : goal.returns-in-Some-clause-keeps
returns-in-Some-clause-keeps c stored synced s held k =
    let old = c.args.self.now in
    let bytes = held_bytes old stored (c.is_empty.ensures.no c.if-is_empty.false) c.in-Some.ensures.found held in record {
      told = k.told;
      some = k.some;
      count = k.count;
      lens = k.lens;
      wait = k.wait;
      order = k.order;
      fits = k.fits;
      due = k.due;
      recalls = recalls_after old.index.lines.items stored old.recent.blocks.items c.add.new.self.blocks.items (record { place = c.in-Some.place; bytes = c.args.bytes }) c.add.ensures k.recalls c.in-Some.ensures.found.used bytes;
    }
