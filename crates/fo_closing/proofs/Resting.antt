-- What is at rest stays so.
use Rattle.std.proofs.Common.{◌≡◌, ◌≢◌, inl, inr, ⊎_elim, ℕ, ◌+◌, ◌≤◌, Bool, true, false, List, [], Option, refl, sym, ap, ◌∙◌, subst, arith}
use Rattle.std.specs.Option.{option_map_or}
use Rattle.std.proofs.lemmas.Bool.{cases_eq}
use Rattle.fo_disk.specs.Disk.{Content as Holds}
use Rattle.fo_image.specs.declared.types.Kind.{Kind}
use Rattle.fo_image.specs.Place.{label_block}
use Rattle.fo_ports.specs.Blocks.{AreZeros}
use Rattle.fo_buffers.specs.declared.block.Buffer.{Buffer}
use Rattle.fo_buffers.specs.Held.{Held, cut, held_at, is_pinned, unlisted}
use Rattle.fo_bring.proofs.Buffering.{cut_other, cut_same}
use Rattle.fo_bring.specs.Holds.{StaysClean}
use Rattle.fo_order.specs.Keeps.{Turns}
use Rattle.fo_order.specs.Turns.{IsQuiet, flag_at}
use Rattle.fo_order.specs.declared.marks.Flags.{Flags}
use Rattle.fo_labels.specs.Region.{Region}
use Rattle.fo_waits.specs.declared.listed.Clearing.{Clearing}
use Rattle.fo_waits.specs.Listed.{Clears}
use Rattle.fo_unlink.specs.declared.removal.Removal.{Removal}
use Rattle.fo_mind.specs.Parts.{Parts, count_of}
use Rattle.fo_mind.specs.Sound.{Placed}
use Rattle.fo_mind.specs.Turning.{KeepsTurn, Turning, is_changed}
use Rattle.fo_mind.proofs.Giving.{change_other}
use Rattle.fo_closing.specs.Closed.{Closed, MayClose, with_turn}
use Rattle.fo_closing.specs.Known.{IsBad, IsClosable, IsKnown, IsPart, IsShown, Looked}
use Rattle.fo_closing.specs.Rest.{AtRest}

never : {A : Type 0} → false ≡ true → A
never e = cc

free_of : (b : Bool) → (b ≡ true → ⊥) → b ≡ false
free_of true h = absurd (h refl)
free_of false h = refl

none_listed : (at : ℕ) (clears : List Clearing) → clears ≡ [] → (j : ℕ) → Clears clears at j → ⊥
none_listed at clears e j l = subst (λ (cs : List Clearing). Clears cs at j) e l

-- a block that may go may be closed at rest
pub may_close : (p : Parts) (first count : ℕ) {r : Removal} {kind : Kind} {at : ℕ} → Placed p.region p.turns p.facts first count → Turning first p.held p.turns p.facts → AtRest p → IsClosable p r kind at → MayClose p at r.epoch
may_close p first count {r} {kind} {at} placed turning rest may = record {
  block = may.part.block;
  live = may.part.live;
  begun = may.part.begun;
  small = may.small;
  other = may.other;
  linked = may.linked;
  free = free_of (option_map_or is_pinned (held_at p.held at) false) (rest.free at);
  calm = free_of (is_changed (held_at p.held at)) (λ e. never (sym (rest.clean at may.part.block.0) ∙ (turning.each at).turn e may.linked));
  clean = rest.clean at may.part.block.0;
  settled = rest.settled at may.part.block.0;
  unclear = none_listed at p.clears rest.none;
}

-- after a look
pub rest_looked : {disk : Holds} {p q : Parts} → Looked disk p q → AtRest p → AtRest q
rest_looked {disk} {p} {q} l rest = subst AtRest (sym l.rest) (record {
  clean = rest.clean;
  settled = rest.settled;
  free = λ b e. rest.free b (ap (λ (o : Option Buffer). option_map_or is_pinned o false) (sym (l.held b)) ∙ e);
  none = rest.none;
  sure = rest.sure;
})

-- with more room for turns
pub looked_more : {disk : Holds} {p q s : Parts} → Looked disk p q → s ≡ record q { turns = record q.turns { room = q.turns.room + 1 } } → Looked disk p s
looked_more {disk} {p} {q} {s} l more = record {
  held = λ b. ap (λ (x : Parts). held_at x.held b) more ∙ l.held b;
  clean = subst (λ (h : Held). StaysClean disk p.held h) (sym (ap (λ (x : Parts). x.held) more)) l.clean;
  room = ap (λ (x : Parts). x.held.room) more ∙ l.room;
  turns = let a = l.turns in let b = ap (λ (x : Parts). x.turns.room) more in omega (arith, a, b);
  faults = let a = l.faults in let b = ap (λ (x : Parts). x.faults) more in omega (arith, a, b);
  rest =
      more
      ∙ ap (λ (x : Parts). record x { turns = record x.turns { room = q.turns.room + 1 } }) l.rest
      ∙ ap (λ (h : Held). record p { held = h; turns = record p.turns { room = q.turns.room + 1 }; faults = q.faults }) (sym (ap (λ (x : Parts). x.held) more))
      ∙ ap (λ n. record p { held = s.held; turns = record p.turns { room = n }; faults = q.faults }) (sym (ap (λ (x : Parts). x.turns.room) more))
      ∙ ap (λ n. record p { held = s.held; turns = record p.turns { room = s.turns.room }; faults = n }) (sym (ap (λ (x : Parts). x.faults) more));
}

-- and with room for so many more
pub looked_turned : {disk : Holds} {p q s : Parts} → Looked disk p q → KeepsTurn q s → Looked disk p s
looked_turned {disk} {p} {q} {s} l k = record {
  held = λ b. ap (λ (x : Parts). held_at x.held b) k.rest ∙ l.held b;
  clean = subst (λ (h : Held). StaysClean disk p.held h) (sym (ap (λ (x : Parts). x.held) k.rest)) l.clean;
  room = ap (λ (x : Parts). x.held.room) k.rest ∙ l.room;
  turns = let a = l.turns in let b = k.more in omega (arith, a, b);
  faults = let a = l.faults in let b = ap (λ (x : Parts). x.faults) k.rest in omega (arith, a, b);
  rest =
      k.rest
      ∙ ap (λ (x : Parts). record x { turns = record x.turns { room = s.turns.room } }) l.rest
      ∙ ap (λ (h : Held). record p { held = h; turns = record p.turns { room = s.turns.room }; faults = q.faults }) (sym (ap (λ (x : Parts). x.held) k.rest))
      ∙ ap (λ n. record p { held = s.held; turns = record p.turns { room = s.turns.room }; faults = n }) (sym (ap (λ (x : Parts). x.faults) k.rest));
}

pub rest_turned : {p mid : Parts} → KeepsTurn p mid → AtRest p → AtRest mid
rest_turned k rest = subst AtRest (sym k.rest) (record {
  clean = rest.clean;
  settled = rest.settled;
  free = rest.free;
  none = rest.none;
  sure = rest.sure;
})

pub placed_turned : {p mid : Parts} {first count : ℕ} → KeepsTurn p mid → Placed p.region p.turns p.facts first count → Placed mid.region mid.turns mid.facts first count
placed_turned {p} {mid} {first} {count} k placed = subst (λ (x : Parts). Placed x.region x.turns x.facts first count) (sym k.rest) (record {
  is_first = placed.is_first;
  is_count = placed.is_count;
  is_place = placed.is_place;
  begins = placed.begins;
  small = placed.small;
  flag_count = placed.flag_count;
  fact_count = placed.fact_count;
})

pub closable_turned : {p mid : Parts} {r : Removal} {kind : Kind} {at : ℕ} → KeepsTurn p mid → IsClosable p r kind at → IsClosable mid r kind at
closable_turned {p} {mid} {r} {kind} {at} k may = subst (λ (x : Parts). IsClosable x r kind at) (sym k.rest) may

-- nothing changed
pub turns_stay : (p : Parts) → KeepsTurn p p
turns_stay p = record { more = omega arith; rest = refl }

-- room for one turn
pub one_turn : (p : Parts) → KeepsTurn p (with_turn p)
one_turn p = record { more = omega arith; rest = refl }

-- all stays quiet
pub quiet_looked : {disk : Holds} {p q : Parts} → Looked disk p q → IsQuiet p.turns → IsQuiet q.turns
quiet_looked {disk} {p} {q} l quiet = subst (λ (x : Parts). IsQuiet x.turns) (sym l.rest) (record { clean = quiet.clean; settled = quiet.settled; none = quiet.none })

pub looked_same : {disk : Holds} {p q s : Parts} → Looked disk p q → s ≡ q → Looked disk p s
looked_same {disk} {p} l e = subst (Looked disk p) (sym e) l

-- after a closing
pub rest_closed : (p q : Parts) (first count : ℕ) {at epoch : ℕ} → Placed p.region p.turns p.facts first count → AtRest p → Closed at epoch p q → AtRest q
rest_closed p q first count {at} {epoch} placed rest c = subst AtRest (sym c.rest) (record {
  clean = λ b le. ap (λ (t : Turns). (flag_at t b).dirty) c.turns ∙ ap (λ (f : Flags). f.dirty) (change_other p.turns (label_block at) 0 b (far b le)) ∙ rest.clean b (before b le);
  settled = λ b le. ap (λ (t : Turns). (flag_at t b).tried) c.turns ∙ ap (λ (f : Flags). f.tried) (change_other p.turns (label_block at) 0 b (far b le)) ∙ rest.settled b (before b le);
  free = λ b e. ⊎_elim
      (λ is. never (sym (ap (λ (h : Held). option_map_or is_pinned (held_at h b) false) c.held ∙ ap (λ n. option_map_or is_pinned (held_at (cut (unlisted p.held at) at) n) false) is ∙ ap (λ (o : Option Buffer). option_map_or is_pinned o false) (cut_same (unlisted p.held at) at)) ∙ e))
      (λ ne. rest.free b (sym (ap (λ (h : Held). option_map_or is_pinned (held_at h b) false) c.held ∙ ap (λ (o : Option Buffer). option_map_or is_pinned o false) (cut_other (unlisted p.held at) at b ne)) ∙ e))
      (cases_eq b at);
  none = rest.none;
  sure = rest.sure;
})
  where
    before : (b : ℕ) → q.region.first ≤ b → p.region.first ≤ b
    before b le = subst (λ n. n ≤ b) (ap (λ (r : Region). r.first) c.region) le

    far : (b : ℕ) → q.region.first ≤ b → b ≢ label_block at
    far b le is =
        let k = before b le in
        let f = placed.is_first in
        let n = placed.is_count in
        let to = c.may.block.1 in
        let place = placed.is_place in
        absurd (omega (arith, is, k, f, n, to, place))

-- what is known of the block that is wanted
pub known_good : {disk : Holds} {region : Region} {held : Held} {r : Removal} {kind : Kind} {at : ℕ} {bytes : List ℕ} → IsPart region r kind at → IsShown disk region.first (count_of region) held kind at bytes → IsKnown disk region held r kind at bytes
known_good part shown = inl (part, shown)

pub known_bad : {disk : Holds} {region : Region} {held : Held} {r : Removal} {kind : Kind} {at : ℕ} {bytes : List ℕ} → AreZeros bytes → IsBad disk region.first (count_of region) held kind at → IsKnown disk region held r kind at bytes
known_bad zeros bad = inr (zeros, inr bad)

-- the first and the count of the blocks, in the words of the labels
pub shown_in : {disk : Holds} {held : Held} {kind : Kind} {at f c g d : ℕ} {bytes : List ℕ} → g ≡ f → d ≡ c → IsShown disk f c held kind at bytes → IsShown disk g d held kind at bytes
shown_in {disk} {held} {kind} {at} {f} {c} {g} {d} {bytes} ef ec s = subst (λ n. IsShown disk n d held kind at bytes) (sym ef) (subst (λ n. IsShown disk f n held kind at bytes) (sym ec) s)

pub bad_in : {disk : Holds} {held : Held} {kind : Kind} {at f c g d : ℕ} → g ≡ f → d ≡ c → IsBad disk f c held kind at → IsBad disk g d held kind at
bad_in {disk} {held} {kind} {at} {f} {c} {g} {d} ef ec s = subst (λ n. IsBad disk n d held kind at) (sym ef) (subst (λ n. IsBad disk f n held kind at) (sym ec) s)
