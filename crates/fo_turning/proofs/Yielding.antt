-- What turns leave, in the words of calls on blocks.
use Rattle.std.proofs.Common.{◌≡◌, inl, ⊎_elim, ℕ, ◌≤◌, Bool, true, false, cond, nat_eq, List, length, Option, Some, None, is_some, refl, sym, ap, ◌∙◌, subst, arith}
use Rattle.std.specs.List.{Contains}
use Rattle.std.specs.Map.{lookup}
use Rattle.std.specs.Option.{option_map_or}
use Rattle.fo_disk.specs.Disk.{latest_of, versions_of}
use Rattle.fo_image.specs.declared.types.Label.{Label}
use Rattle.fo_image.specs.Place.{label_block}
use Rattle.fo_buffers.specs.declared.block.Buffer.{Buffer}
use Rattle.fo_buffers.specs.Held.{held_at, is_dirty}
use Rattle.fo_crash.specs.Images.{Content}
use Rattle.fo_labels.specs.Region.{Region}
use Rattle.fo_ports.specs.State.{IsChanging, StaysKnown}
use Rattle.fo_buffers.specs.of_slots.Read.{read}
use Rattle.fo_facts.specs.Known.{fact_at}
use Rattle.fo_unlink.specs.declared.removal.Removal.{Removal}
use Rattle.fo_waits.specs.declared.listed.Clearing.{Clearing}
use Rattle.fo_waits.specs.declared.listed.Wait.{Wait}
use Rattle.fo_waits.specs.Listed.{Awaits, Clears}
use Rattle.fo_mind.specs.Laws.{keeps_joins}
use Rattle.fo_mind.specs.Parts.{IsBlock, IsDirty, Parts, bytes_of, label_at, memory, one_content, content_at, state_of}
use Rattle.fo_mind.specs.Sound.{Standing}
use Rattle.fo_mind.specs.Turning.{Turning}
use Rattle.fo_cache.proofs.Easing.{rests_joins, shut_dead}
use Rattle.fo_turning.specs.Freed.{Yields}

never : {A : Type 0} → true ≡ false → A
never e = cc

-- ---- one after the other

pub yields_on : {p m q : Parts} → Yields p m → Yields m q → Yields p q
yields_on {p} {m} {q} a b = record {
  rests = rests_joins p m q a.rests b.rests a.keeps (λ x ne is. b.far x ne (block_still (label_block x) is));
  keeps = keeps_joins p m q a.keeps b.keeps;
  far = λ x ne is. ⊎_elim
      (λ same. a.far x (λ e. ne (same ∙ e)) is)
      (λ c. b.far x (λ e. shut_dead (state_of m) (state_of q) x c (ap (λ (l : Label). l.state) e ∙ c.live)) (block_still (label_block x) is))
      (b.rests.labels x);
}
  where
    block_still : (k : ℕ) → IsBlock p k → IsBlock m k
    block_still k is =
        let e = a.keeps.first in
        let f = a.keeps.count in
        let lo = is.0 in
        let hi = is.1 in
        (omega (arith, lo, e), omega (arith, hi, e, f))

-- ---- a block that is changed is held

dirty_held : (o : Option Buffer) → option_map_or is_dirty o false ≡ true → (x : Buffer) × (o ≡ Some x)
dirty_held (Some x) e = (x, refl)
dirty_held None e = never (sym e)

some_held : (o : Option Buffer) → is_some o ≡ true → (x : Buffer) × (o ≡ Some x)
some_held (Some x) e = (x, refl)
some_held None e = never (sym e)

pub changing_held : (p : Parts) {first : ℕ} (b : ℕ) → Turning first p.held p.turns p.facts → Standing p.held p.facts p.clears → p.region.first ≡ first → IsBlock p b → IsChanging (state_of p) b → (x : Buffer) × (held_at p.held b ≡ Some x)
changing_held p b turning standing is_first is c = ⊎_elim
    (λ d. ⊎_elim
    (λ turn. dirty_held (held_at p.held b) ((turning.each b).held turn (subst (λ n. n ≤ b) is_first is.0)))
    (λ changed. dirty_held (held_at p.held b) changed)
    d)
    (λ w. some_held (held_at p.held b) (standing.still b w.0 w.1))
    c

-- what is held of a block is what memory has of it
pub same_memory : (p q : Parts) (b : ℕ) (x y : Buffer) → label_at q.region b ≡ label_at p.region b → q.one ≡ p.one → q.one_bytes ≡ p.one_bytes → held_at p.held b ≡ Some x → held_at q.held b ≡ Some y → y.block ≡ x.block → memory q b ≡ memory p b
same_memory p q b x y label one bytes was is same = by (nat_eq b 1)
  where
    content : content_at q.region q.held q.disk b ≡ content_at p.region p.held p.disk b
    content =
        ap (λ (o : Option Buffer). read (label_at q.region b).kind (bytes_of o (lookup (nat_eq b) q.held.clean) (latest_of (versions_of q.disk b)))) is
        ∙ ap (λ (bs : List ℕ). read (label_at q.region b).kind bs) same
        ∙ ap (λ (l : Label). read l.kind x.block) label
        ∙ sym (ap (λ (o : Option Buffer). read (label_at p.region b).kind (bytes_of o (lookup (nat_eq b) p.held.clean) (latest_of (versions_of p.disk b)))) was)

    by : (c : Bool) → cond c (one_content q.one q.one_bytes) (content_at q.region q.held q.disk b) ≡ cond c (one_content p.one p.one_bytes) (content_at p.region p.held p.disk b)
    by true = ap (λ s. one_content s q.one_bytes) one ∙ ap (λ (bs : List ℕ). one_content p.one bs) bytes
    by false = content

pub known_of : (p q : Parts) (b : ℕ) → q.clears ≡ p.clears → memory q b ≡ memory p b → StaysKnown (state_of p) (state_of q) b
known_of p q b clears same = record {
  bytes = ap (λ (c : Content). c.bytes) same;
  slots = λ j. inl (ap (λ (c : Content). c.slot j) same, λ h. subst (λ (cs : List Clearing). Clears cs b j) (sym clears) h);
}

-- ---- labels stay

-- What a step leaves that changes no label: what it may not change is the same, and blocks that are changed before and after it are as they were.
pub record Still (p q : Parts) : Type 0 where
  pub region : q.region ≡ p.region
  pub one : q.one ≡ p.one
  pub apart : (b : ℕ) → (fact_at q.facts b).apart ≡ (fact_at p.facts b).apart
  pub origin : (b : ℕ) → (fact_at q.facts b).origin ≡ (fact_at p.facts b).origin
  pub linked : (b : ℕ) → (fact_at q.facts b).linked ≡ (fact_at p.facts b).linked
  pub clears : q.clears ≡ p.clears
  pub waits : q.waits ≡ p.waits
  pub removals : length q.removals ≤ length p.removals
  pub only : (r : Removal) → Contains q.removals r → Contains p.removals r
  pub next : q.next ≡ p.next
  pub granted : q.granted ≡ p.granted
  pub dirty : (b : ℕ) → IsDirty q.turns q.held b → IsDirty p.turns p.held b
  pub known : (b : ℕ) → IsBlock p b → IsChanging (state_of p) b → IsChanging (state_of q) b → memory q b ≡ memory p b
  pub faults : p.faults ≤ q.faults

pub yields_still : (p q : Parts) → Still p q → Yields p q
yields_still p q s = record {
  rests = record {
    blocks = λ tells. absurd tells;
    images = record { each = λ image h. absurd h };
    passes = record { later = omega arith; before = λ n image le h. h; within = λ n image lo hi h. absurd h };
    fills = λ tells. absurd tells;
    order = λ b j h. subst (λ (cs : List Clearing). Clears cs b j) s.clears h;
    no_wait = record { each = λ a on j none w. subst (λ (ws : List Wait). Awaits ws a on j) s.waits w };
    dirty = λ b d. inl (s.dirty b d);
    closes = λ tells. absurd tells;
    leaves = λ tells. absurd tells;
    apart = λ b. (λ h. sym (s.apart b) ∙ h, λ h. s.apart b ∙ h);
    instead = λ b x. (λ h. (sym (s.apart b) ∙ h.0, sym (s.origin b) ∙ h.1), λ h. (s.apart b ∙ h.0, s.origin b ∙ h.1));
    newborn = λ b h. sym (s.linked b) ∙ h;
    newborns = λ b h. s.linked b ∙ h;
    removes = λ r e w h. inl (h.0, s.only h.0 h.1, h.2, h.3, h.4);
    kept = λ b is was now. known_of p q b s.clears (s.known b is was now);
    labels = λ b. inl (ap (λ (r : Region). label_at r b) s.region);
    queues = λ some. inl (let n = s.removals in omega (arith, n, some));
    usable = usable_up;
    settled = λ was. (
      record {
        settled = record { each = λ image h. absurd h };
        clean = λ b d. (s.linked b ∙ (was.clean b (s.dirty b d)).0, λ tells. absurd tells);
        empty = (let n = s.removals in let e = was.empty in omega (arith, n, e));
        cleared = λ b j h. was.cleared b j (subst (λ (cs : List Clearing). Clears cs b j) s.clears h);
      },
      same_usable,
    );
    numbers = record { next = s.next; grants = λ h. s.granted ∙ h };
  };
  keeps = record {
    first = ap (λ (r : Region). r.first) s.region;
    count = ap (λ (r : Region). length r.labels) s.region;
    high = ap (λ x. x.high) s.one;
    low = ap (λ x. x.low) s.one;
    root = ap (λ x. x.active) s.one;
    faults = s.faults;
  };
  far = λ x ne. absurd (ne (ap (λ (r : Region). label_at r x) s.region));
}
  where
    same_usable : (state_of q).usable ≡ (state_of p).usable
    same_usable = ap (λ (r : Region). (state_of (record q { region = r })).usable) s.region ∙ ap (λ o. (state_of (record q { region = p.region; one = o })).usable) s.one

    usable_up : (state_of p).usable ≤ (state_of q).usable
    usable_up = let e = same_usable in omega (arith, e)
