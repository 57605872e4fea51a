-- A block is got.
use Rattle.std.proofs.Common.{◌≡◌, ⊎_elim, ℕ, ◌<◌, ◌≤◌, true, false, nat_eq, List, Option, Some, None, Result, Ok, Err, length, set, is_some, refl, sym, ap, ◌∙◌, subst, arith}
use Rattle.std.specs.Option.{option_map, option_map_or}
use Rattle.std.specs.Result.{OnOk}
use Rattle.std.specs.Map.{lookup}
use Rattle.std.proofs.lemmas.Bool.{cases_eq}
use Rattle.std.proofs.lemmas.List.{length-set, get_or-set_same, get_or-set_other}
use Rattle.fo_disk.specs.Disk.{versions_of, latest_of}
use Rattle.fo_disk.specs.Disk.{Content as Holds}
use Rattle.fo_image.specs.declared.types.Kind.{Kind}
use Rattle.fo_crash.specs.Images.{Content, target}
use Rattle.fo_ports.specs.Blocks.{IsRanked, Reads, ReadsSlots}
use Rattle.fo_slots.specs.Read.{read}
use Rattle.fo_buffers.specs.declared.block.Buffer.{Buffer}
use Rattle.fo_buffers.specs.Held.{Held, held_at, block_in, is_dirty, is_pinned, pinned_as}
use Rattle.fo_labels.specs.Region.{Region}
use Rattle.fo_facts.specs.Known.{fact_at, no_fact, owing_as}
use Rattle.fo_bring.specs.Blocks.{Good, Gets}
use Rattle.fo_bring.specs.Holds.{GetsIn, GetsGood, GoodIn, RanksIn, IsFound, IsFromIn, IsFrom, Others, Brought, Glanced}
use Rattle.fo_bring.proofs.Bringing.{loaded_here}
use Rattle.fo_facts.specs.declared.fact.Fact.{Fact}
use Rattle.fo_mind.specs.Parts.{Parts, IsPinned, bytes_of, bytes_at, label_at, memory}
use Rattle.fo_mind.specs.Sound.{Placed, Holding}
use Rattle.fo_mind.specs.Frames.{SameMarks, Brings}
use Rattle.fo_mind.specs.Got.{Got, IsHeldAs, IsSource}
use Rattle.fo_mind.specs.Laws.{held_bytes, held_content, not_one, pinned_held, beyond}
use Rattle.fo_mind.proofs.Keeping.{Pins, MayBring}

module _ (p : Parts) (first count at : ℕ) (kind : Kind) (is_kind : (label_at p.region at).kind ≡ kind) (one : nat_eq at 1 ≡ false) where
  -- what memory has of a block with these bytes
  content : (bytes : List ℕ) → bytes_at p.held p.disk at ≡ bytes → memory p at ≡ read kind bytes
  content bytes is = not_one p at one ∙ ap (read (label_at p.region at).kind) is ∙ ap (λ (k : Kind). read k bytes) is_kind

  pub got : (rank : ℕ) (bytes into : List ℕ) → bytes_at p.held p.disk at ≡ bytes → Good first count kind bytes → Gets kind rank bytes into → Got first count kind rank p at into
  got rank bytes into is good gets =
      let same = sym (content bytes is) in
      record {
        reads = subst (λ (c : Content). Reads kind c into) same gets.reads;
        slots = subst (λ (c : Content). ReadsSlots kind c into) same gets.slots;
        formed = gets.formed;
        names = λ i below leads. good.within.each i below (ap (λ (c : Content). target (c.slot i)) same ∙ leads);
      }

  pub got_held : (rank : ℕ) (into : List ℕ) (o : Option Buffer) → held_at p.held at ≡ o → GoodIn first count kind o → GetsIn kind rank o into → Got first count kind rank p at into
  got_held rank into None is good gets = absurd good
  got_held rank into (Some x) is good gets = got rank x.block into (held_bytes p at x is) good gets

  pub got_clean : (rank : ℕ) (into bytes : List ℕ) → held_at p.held at ≡ None → lookup (nat_eq at) p.held.clean ≡ Some bytes → GetsGood first count kind rank bytes into → Got first count kind rank p at into
  got_clean rank into bytes none is g =
      got rank bytes into
      (ap (λ (o : Option Buffer). bytes_of o (lookup (nat_eq at) p.held.clean) (latest_of (versions_of p.disk at))) none ∙ ap (λ (o : Option (List ℕ)). bytes_of None o (latest_of (versions_of p.disk at))) is)
      g.good g.gets

  pub ranks_in : (rank : ℕ) → IsPinned p.held at → IsRanked kind rank ((memory p at).bytes) → RanksIn kind rank (held_at p.held at)
  ranks_in rank pinned ranked =
      let x = pinned_held (held_at p.held at) pinned in
      subst (RanksIn kind rank) (sym x.1) (subst (λ (c : Content). IsRanked kind rank c.bytes) (content x.0.block (held_bytes p at x.0 x.1)) ranked)

-- a pinned block is held
pub is_held : (o : Option Buffer) → option_map_or is_pinned o false ≡ true → is_some o ≡ true
is_held (Some x) e = refl
is_held None e = absurd (cc)

-- what is held has good bytes
pub good_held : {low first count : ℕ} {region : Region} {held : Held} (at : ℕ) (kind : Kind) → Holding low first count region held → (label_at region at).kind ≡ kind → is_some (held_at held at) ≡ true → GoodIn first count kind (held_at held at)
good_held {low} {first} {count} {region} {held} at kind holding is_kind some = by (held_at held at) refl some
  where
    by : (o : Option Buffer) → held_at held at ≡ o → is_some o ≡ true → GoodIn first count kind o
    by (Some x) is t = subst (λ (k : Kind). Good first count k x.block) is_kind (holding.good at x is)
    by None is t = absurd (cc)

-- data blocks come after block 1
pub not_first : {region : Region} {low first count : ℕ} {held : Held} (at : ℕ) → 1 < first → Holding low first count region held → is_some (held_at held at) ≡ true → nat_eq at 1 ≡ false
not_first {region} {low} {first} {count} {held} at begins holding some = by (held_at held at) refl some
  where
    by : (o : Option Buffer) → held_at held at ≡ o → is_some o ≡ true → nat_eq at 1 ≡ false
    by (Some x) is t = beyond at first begins (holding.block at x is).0
    by None is t = absurd (cc)

pub held_as : (kind : Kind) (rank : ℕ) (o : Option Buffer) (into : List ℕ) → GetsIn kind rank o into → IsHeldAs o into
held_as kind rank (Some x) into gets = gets.same
held_as kind rank None into gets = gets

-- what was held is its source
pub from_held : (disk : Holds) (at : ℕ) (h : Held) (into : List ℕ) → IsHeldAs (held_at h at) into → IsFrom disk at h into
from_held disk at h into is = by (held_at h at) is
  where
    by : (o : Option Buffer) → IsHeldAs o into → IsFromIn disk at o (lookup (nat_eq at) h.clean) into
    by (Some x) e = e
    by None e = absurd e

-- what was brought is as it was held, or as it was found
pub from_source : (disk : Holds) (at : ℕ) (h : Held) (o : Option Buffer) (into : List ℕ) → IsSource disk at h o → IsHeldAs o into → IsFrom disk at h into
from_source disk at h (Some y) into source is = subst (λ (b : List ℕ). IsFrom disk at h b) (sym is) source
from_source disk at h None into source is = absurd is

pub from_none : (disk : Holds) (at : ℕ) (h : Held) (bytes : List ℕ) → held_at h at ≡ None → IsFound disk at (lookup (nat_eq at) h.clean) bytes → IsFrom disk at h bytes
from_none disk at h bytes none found = subst (λ (o : Option Buffer). IsFromIn disk at o (lookup (nat_eq at) h.clean) bytes) (sym none) found

pub from_glance : {first count : ℕ} {kind : Kind} {rank : ℕ} {disk : Holds} {at : ℕ} {old new : Held} {into : List ℕ} → held_at old at ≡ None → Glanced first count kind rank disk at old new into → IsFrom disk at old into
from_glance {first} {count} {kind} {rank} {disk} {at} {old} {new} {into} none g = subst (λ (b : List ℕ). IsFrom disk at old b) (sym g.gets.gets.same) (from_none disk at old g.seen.bytes none g.seen.found)

pub source_brought : {T E : Type 0} (first count : ℕ) (kind : Kind) (disk : Holds) (at : ℕ) (old new : Held) (r : Result T E) → held_at old at ≡ None → OnOk r (Brought first count kind disk at old new) → OnOk r (IsSource disk at old (held_at new at))
source_brought first count kind disk at old new (Ok x) none b = subst (IsSource disk at old) (sym (loaded_here b.loaded)) (from_none disk at old b.loaded.bytes none b.loaded.found)
source_brought first count kind disk at old new (Err e) none b = tt

pub pinned_brought : {T E : Type 0} (first count : ℕ) (kind : Kind) (disk : Holds) (at : ℕ) (old new : Held) (r : Result T E) → OnOk r (Brought first count kind disk at old new) → OnOk r (IsPinned new at)
pinned_brought first count kind disk at old new (Ok x) b = ap (λ (o : Option Buffer). option_map_or is_pinned o false) (loaded_here b.loaded)
pinned_brought first count kind disk at old new (Err e) b = tt

pub source_pins : (disk : Holds) {at : ℕ} {old new : Held} → Pins at old new → IsSource disk at old (held_at new at)
source_pins disk {at} {old} {new} p = subst (IsSource disk at old) (sym p.here) (from_held disk at old p.was.block (subst (λ (o : Option Buffer). IsHeldAs o p.was.block) (sym p.held) refl))

-- ---- frames

pub marks_owed : (facts new : List Fact) (at rank : ℕ) → at < length facts → new ≡ set facts at (owing_as rank (fact_at facts at)) → SameMarks facts new
marks_owed facts new at rank lt is = subst (SameMarks facts) (sym is) (record {
  as_long = length-set facts at f;
  apart = λ b. each b (λ (x : Fact). x.apart) refl;
  origin = λ b. each b (λ (x : Fact). x.origin) refl;
  linked = λ b. each b (λ (x : Fact). x.linked) refl;
  fresh = λ b. each b (λ (x : Fact). x.fresh) refl;
  sealed = λ b. each b (λ (x : Fact). x.sealed) refl;
})
  where
    f : Fact
    f = owing_as rank (fact_at facts at)

    each : {X : Type 0} (b : ℕ) (g : Fact → X) → g f ≡ g (fact_at facts at) → g (fact_at (set facts at f) b) ≡ g (fact_at facts b)
    each b g same = ⊎_elim
        (λ e. subst (λ n. g (fact_at (set facts at f) n) ≡ g (fact_at facts n)) (sym e) (ap g (get_or-set_same facts at f no_fact lt) ∙ same))
        (λ ne. ap g (get_or-set_other facts at b f no_fact ne))
        (cases_eq b at)

pub same_marks : (old new : List Fact) → new ≡ old → SameMarks old new
same_marks old new e = subst (SameMarks old) (sym e) (record { as_long = refl; apart = λ k. refl; origin = λ k. refl; linked = λ k. refl; fresh = λ k. refl; sealed = λ k. refl })

-- a step that holds nothing new
pub nothing_brought : (p : Parts) (at : ℕ) → Brings at p p
nothing_brought p at = record {
  others = λ q ne. refl;
  bytes = λ x is. (x, is, refl, refl, λ h. h);
  clean = λ is. ap (λ (o : Option Buffer). option_map_or is_dirty o false) is;
  marks = same_marks p.facts p.facts refl;
  faults = omega arith;
  rest = refl;
}

module _ (p q : Parts) (at : ℕ) (disk : q.disk ≡ p.disk) (faults : p.faults ≤ q.faults) (is : q ≡ record p { held = q.held; facts = q.facts; pins = q.pins; disk = q.disk; faults = q.faults }) where
  rest_of : q ≡ record p { held = q.held; facts = q.facts; pins = q.pins; faults = q.faults }
  rest_of = is ∙ ap (λ (d : Holds). record p { held = q.held; facts = q.facts; pins = q.pins; disk = d; faults = q.faults }) disk

  -- the same blocks are held
  pub brings_same : q.facts ≡ p.facts → ((k : ℕ) → held_at q.held k ≡ held_at p.held k) → Brings at p q
  brings_same facts same = record {
    others = λ k ne. same k;
    bytes = λ x here. (x, same at ∙ here, refl, refl, λ h. h);
    clean = λ none. ap (λ (o : Option Buffer). option_map_or is_dirty o false) (same at ∙ none);
    marks = same_marks p.facts q.facts facts;
    faults = faults;
    rest = rest_of;
  }

  pub brings_pins : (marks : SameMarks p.facts q.facts) → Pins at p.held q.held → Brings at p q
  brings_pins marks s = record {
    others = s.others;
    bytes = λ x here. (pinned_as true s.was, s.here, same s.was x (sym s.held ∙ here), same_dirty s.was x (sym s.held ∙ here), λ h. refl);
    clean = λ none. absurd (clash s.was (sym none ∙ s.held));
    marks = marks;
    faults = faults;
    rest = rest_of;
  }
    where
      same : (x y : Buffer) → Some x ≡ Some y → x.block ≡ y.block
      same x y e = cc

      same_dirty : (x y : Buffer) → Some x ≡ Some y → x.dirty ≡ y.dirty
      same_dirty x y e = cc

      clash : (x : Buffer) → None ≡ Some x → ⊥
      clash x e = cc

  pub brings_brought : {first count : ℕ} {kind : Kind} (marks : SameMarks p.facts q.facts) → held_at p.held at ≡ None → Others at p.held q.held → MayBring first count kind p.disk at p.held q.held → Brings at p q
  brings_brought {first} {count} {kind} marks none o m = record {
    others = o.held;
    bytes = λ x here. absurd (clash x (sym none ∙ here));
    clean = λ _. ⊎_elim
        (λ (b : Brought first count kind p.disk at p.held q.held). ap (λ (o : Option Buffer). option_map_or is_dirty o false) (loaded_here b.loaded))
        (λ gone. ap (λ (o : Option Buffer). option_map_or is_dirty o false) gone)
        m;
    marks = marks;
    faults = faults;
    rest = rest_of;
  }
    where
      clash : (x : Buffer) → None ≡ Some x → ⊥
      clash x e = cc

-- what memory has of a held block
pub held_is : (p : Parts) (first count at : ℕ) (bytes : List ℕ) → Placed p.region p.turns p.facts first count → Holding p.one.low first count p.region p.held → Some bytes ≡ option_map block_in (held_at p.held at) → memory p at ≡ read (label_at p.region at).kind bytes
held_is p first count at bytes placed holding e = by (held_at p.held at) refl e
  where
    by : (o : Option Buffer) → held_at p.held at ≡ o → Some bytes ≡ option_map block_in o → memory p at ≡ read (label_at p.region at).kind bytes
    by (Some x) is same = let it : x.block ≡ bytes = cc in held_content p first count at x placed holding is ∙ ap (read (label_at p.region at).kind) it
    by None is same = absurd (cc)

pub not_none : (o : Option Buffer) → None ≡ option_map block_in o → option_map_or is_pinned o false ≡ true → ⊥
not_none (Some x) e p = cc
not_none None e p = cc

pub none_clash : {A : Type 0} (o : Option Buffer) → None ≡ option_map block_in o → is_some o ≡ true → A
none_clash (Some x) e t = cc
none_clash None e t = cc

-- ---- what is lent

pub lent_good : {low first count : ℕ} {region : Region} {held : Held} (at : ℕ) (kind : Kind) → Holding low first count region held → (label_at region at).kind ≡ kind → (x : Buffer) → held_at held at ≡ Some x → Good first count kind x.block
lent_good {low} {first} {count} {region} {held} at kind holding is_kind x is = subst (λ (k : Kind). Good first count k x.block) is_kind (holding.good at x is)

pub lent_some : (kind : Kind) (rank : ℕ) (o : Option Buffer) (bytes : List ℕ) → GetsIn kind rank o bytes → is_some o ≡ true
lent_some kind rank (Some x) bytes gets = refl
lent_some kind rank None bytes gets = absurd gets
