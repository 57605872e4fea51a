-- What was settled is given up.
use Rattle.std.proofs.Common.{◌≡◌, ◌≢◌, ◌⊎◌, inl, inr, ⊎_elim, ℕ, ◌≤◌, ◌<◌, ◌&&◌, ◌==◌, ◌++◌, Bool, true, false, not, List, [], ◌∷◌, length, map, Option, Some, None, Ok, refl, sym, ap, ◌∙◌, subst, arith}
use Rattle.std.specs.List.{Contains, list_any}
use Rattle.std.specs.Option.{option_map_or}
use Rattle.std.proofs.lemmas.Bool.{cases_eq}
use Rattle.std.proofs.lemmas.List.{map-append}
use Rattle.std.proofs.lemmas.List.Elements.{Contains-append_left, Contains-push, Contains-push_cases}
use Rattle.lru.proofs.Splits.{Contains-nil}
use Rattle.fo_disk.specs.Disk.{DiskState, IsSettled, IsSync}
use Rattle.fo_disk.specs.Disk.{Content as Holds}
use Rattle.fo_disk.specs.declared.disk.Failed.{Failed}
use Rattle.fo_buffers.specs.declared.block.Buffer.{Buffer}
use Rattle.fo_buffers.specs.Held.{held_at, is_pinned}
use Rattle.fo_order.specs.declared.marks.Mark.{Mark}
use Rattle.fo_order.specs.Marks.{mark_at}
use Rattle.fo_order.specs.declared.marks.Tried.TheVariants.{Written}
use Rattle.fo_order.specs.Turns.{IsDue, flag_at}
use Rattle.fo_facts.specs.Known.{fact_at}
use Rattle.fo_waits.specs.declared.listed.Clearing.{Clearing}
use Rattle.fo_waits.specs.declared.listed.Wait.{Wait}
use Rattle.fo_mind.specs.of_bring.Blocks.{IsData}
use Rattle.fo_mind.specs.Laws.{pinned_held}
use Rattle.fo_mind.specs.Parts.{IsBlock, IsPinned, Parts, bytes_at, label_at}
use Rattle.fo_mind.specs.Sound.{Holding, Placed, Standing}
use Rattle.fo_mind.specs.Turning.{Released, Synced, Turning, is_changed, is_settled, may_release}
use Rattle.fo_mind.proofs.Releasing.{Cuts, MayBe, cuts_of, may_be}
use Rattle.fo_cache.specs.Easing.{Eases}
use Rattle.fo_cache.specs.Supers.{Overruled}
use Rattle.fo_cache.proofs.Easing.{eases_none}
use Rattle.fo_turning.specs.Flushes.{IsMarked, LetsGo, Releases, Syncs}
use Rattle.fo_turning.specs.Freed.{Yields}
use Rattle.fo_turning.proofs.Freeing.{loosens_released, released_at}
use Rattle.fo_turning.proofs.Yielding.{known_of, same_memory}

pub never : {A : Type 0} → true ≡ false → A
never e = cc

none_some : {A : Type 0} {x : Buffer} → None ≡ Some x → A
none_some e = cc

-- ---- whether a block may be given up, by what is held of it

abbrev may : Parts → ℕ → Option Buffer → Bool
may p b o = not (option_map_or is_pinned o true) && (not (is_changed o) && (is_settled (flag_at p.turns b).tried && (not (list_any (λ (w : Wait). w.on == b) p.waits) && (not (list_any (λ (c : Clearing). c.at == b) p.clears) && (fact_at p.facts b).linked))))

pub none_may : (p : Parts) (b : ℕ) → held_at p.held b ≡ None → may_release p b ≡ false
none_may p b e = ap (may p b) e

-- ---- one step after another

pub lets_none : (is : ℕ → Type 0) (disk : Holds) (p q : Parts) → q ≡ p → LetsGo is disk p q
lets_none is disk p q e = subst (LetsGo is disk p) (sym e) (record { held = λ b. inl refl; bytes = λ b le lt. refl; room = refl; rest = refl })

module _ {is : ℕ → Type 0} {disk : Holds} {p q : Parts} (l : LetsGo is disk p q) where
  pub may_same : (b : ℕ) → held_at q.held b ≡ held_at p.held b → may_release q b ≡ may_release p b
  may_same b e = ap (λ (z : Parts). may z b (held_at q.held b)) l.rest ∙ ap (may p b) e

  pub still_not : (b : ℕ) → may_release p b ≡ false → may_release q b ≡ false
  still_not b may_not = ⊎_elim (λ e. may_same b e ∙ may_not) (λ gone. none_may q b gone.2) (l.held b)

pub lets_more : {is more : ℕ → Type 0} {disk : Holds} {p q : Parts} → ((b : ℕ) → is b → more b) → LetsGo is disk p q → LetsGo more disk p q
lets_more {is} {more} {disk} {p} {q} f l = record { held = λ b. ⊎_elim (λ e. inl e) (λ gone. inr (f b gone.0, gone.1, gone.2)) (l.held b); bytes = l.bytes; room = l.room; rest = l.rest }

pub lets_on : {is : ℕ → Type 0} {disk : Holds} {p m q : Parts} → LetsGo is disk p m → LetsGo is disk m q → LetsGo is disk p q
lets_on {is} {disk} {p} {m} {q} a b = record {
  held = λ k. ⊎_elim
      (λ same. ⊎_elim (λ e. inl (same ∙ e)) (λ gone. inr (gone.0, gone.1, same ∙ gone.2)) (a.held k))
      (λ gone. ⊎_elim (λ e. inr (gone.0, sym (may_same a k e) ∙ gone.1, gone.2)) (λ was. inr (was.0, was.1, gone.2)) (a.held k))
      (b.held k);
  bytes = λ k le lt. b.bytes k (subst (λ (z : Parts). z.region.first ≤ k) (sym a.rest) le) lt ∙ a.bytes k le lt;
  room = b.room ∙ a.room;
  rest = b.rest ∙ ap (λ (z : Parts). record z { held = q.held }) a.rest;
}

-- ---- a block is given up, or stays

-- what is no data block isn't held
pub unheld : (p : Parts) {low first count : ℕ} (b : ℕ) → Holding low first count p.region p.held → (IsData first count b → ⊥) → held_at p.held b ≡ None
unheld p b holding other = by (held_at p.held b) refl
  where
    by : (o : Option Buffer) → held_at p.held b ≡ o → o ≡ None
    by (Some x) e = let k = holding.block b x e in absurd (other (k.0, k.1))
    by None e = refl

pub data_block : (p : Parts) {first count : ℕ} (b : ℕ) → Placed p.region p.turns p.facts first count → IsData first count b → IsBlock p b
data_block p b placed is = (subst (λ n. n ≤ b) (sym placed.is_first) is.0, subst (λ n. b < n) (sym placed.is_count) is.1)

module _ (p q : Parts) (at : ℕ) (gone : may_release p at ≡ true → Released at p q) (kept : may_release p at ≡ false → q ≡ p) where
  pub gone_may : may_release q at ≡ false
  gone_may = by (may_release p at) refl
    where
      by : (t : Bool) → may_release p at ≡ t → may_release q at ≡ false
      by true e = let r = gone e in none_may q at (cuts_of at p.held q.held r.was.block r.is).here
      by false e = ap (λ (z : Parts). may_release z at) (kept e) ∙ e

  pub lets_released : (disk : Holds) → ((b : ℕ) → p.region.first ≤ b → b < length disk → bytes_at q.held disk b ≡ bytes_at p.held disk b) → LetsGo (λ b. b ≡ at) disk p q
  lets_released disk bytes = by (may_release p at) refl
    where
      by : (t : Bool) → may_release p at ≡ t → LetsGo (λ b. b ≡ at) disk p q
      by true e =
          let r = gone e in
          let c = cuts_of at p.held q.held r.was.block r.is in
          record {
            held = λ b. ⊎_elim
                (λ is. inr (is, ap (may_release p) is ∙ e, ap (held_at q.held) is ∙ c.here))
                (λ ne. inl (c.others b ne))
                (cases_eq b at);
            bytes = bytes;
            room = c.room;
            rest = r.rest;
          }
      by false e = lets_none (λ b. b ≡ at) disk p q (kept e)

-- what is pinned stays, and so do labels and seals
module _ (p q : Parts) (at : ℕ) {first : ℕ} (turning : Turning first p.held p.turns p.facts) (standing : Standing p.held p.facts p.clears) (is_first : p.region.first ≡ first) (gone : may_release p at ≡ true → Released at p q) (kept : may_release p at ≡ false → q ≡ p) where
  yields : Yields p q
  yields = (loosens_released p q at turning standing is_first gone kept).yields

  eases_gone : may_release p at ≡ true → Released at p q → Eases p q
  eases_gone may_be_so r = record {
    rests = yields.rests;
    known = λ b pinned.
        let h = pinned_held (held_at p.held b) pinned in
        known_of p q b (ap (λ (z : Parts). z.clears) r.rest)
        (same_memory p q b h.0 h.0 (ap (λ (z : Parts). label_at z.region b) r.rest) (ap (λ (z : Parts). z.one) r.rest) (ap (λ (z : Parts). z.one_bytes) r.rest) h.1 (c.others b (apart b pinned) ∙ h.1) refl);
    blocks = λ b. (
      ap (λ (z : Parts). label_at z.region b) r.rest,
      λ pinned. ap (λ (o : Option Buffer). option_map_or is_pinned o false) (c.others b (apart b pinned)) ∙ pinned,
      λ sealed. ap (λ (z : Parts). (fact_at z.facts b).sealed) r.rest ∙ sealed,
    );
    room = (ap (λ (z : Parts). z.spare) r.rest, ap (λ (z : Parts). z.pins) r.rest, ap (λ (z : Parts). z.room) r.rest);
    queued = let e = ap (λ (z : Parts). length z.removals) r.rest in omega (arith, e);
    keeps = yields.keeps;
  }
    where
      c : Cuts at p.held q.held
      c = cuts_of at p.held q.held r.was.block r.is

      m : MayBe p at
      m = may_be p at may_be_so

      apart : (b : ℕ) → IsPinned p.held b → b ≢ at
      apart b pinned e = never (sym (subst (IsPinned p.held) e pinned) ∙ ap (λ (o : Option Buffer). option_map_or is_pinned o false) m.held ∙ m.free)

  pub eases_released : Eases p q
  eases_released = by (may_release p at) refl
    where
      by : (t : Bool) → may_release p at ≡ t → Eases p q
      by true e = eases_gone e (gone e)
      by false e = subst (Eases p) (sym (kept e)) (eases_none p)

-- over any device
module _ (disk : Holds) (faults : ℕ) (p q : Parts) (at : ℕ) {first : ℕ} (turning : Turning first p.held p.turns p.facts) (standing : Standing p.held p.facts p.clears) (is_first : p.region.first ≡ first) (gone : may_release p at ≡ true → Released at p q) (kept : may_release p at ≡ false → q ≡ p) where
  abbrev at_disk : Parts → Parts
  at_disk z = record z { disk = disk; faults = faults }

  pub eases_over : Eases (at_disk p) (at_disk q)
  eases_over = eases_released (at_disk p) (at_disk q) at turning standing is_first (λ e. released_at disk faults p q at (gone e)) (λ e. ap at_disk (kept e))

-- ---- blocks that were written, the last first

pushed : (marks left : List Mark) (m : Mark) → marks ≡ left ++ m ∷ [] → map mark_at marks ≡ map mark_at left ++ m.at ∷ []
pushed marks left m e = ap (map mark_at) e ∙ map-append mark_at left (m ∷ [])

pub marked_left : (marks left : List Mark) (m : Mark) (b : ℕ) → marks ≡ left ++ m ∷ [] → IsMarked marks b → IsMarked left b ⊎ (b ≡ m.at)
marked_left marks left m b e c = ⊎_elim
    (λ before. inl before)
    (λ last. inr (sym last))
    (Contains-push_cases (map mark_at left) m.at b (subst (λ (xs : List ℕ). Contains xs b) (pushed marks left m e) c))

pub marked_more : (marks left : List Mark) (m : Mark) (b : ℕ) → marks ≡ left ++ m ∷ [] → IsMarked left b → IsMarked marks b
marked_more marks left m b e c = subst (λ (xs : List ℕ). Contains xs b) (sym (pushed marks left m e)) (Contains-append_left (map mark_at left) (m.at ∷ []) b c)

pub marked_last : (marks left : List Mark) (m : Mark) → marks ≡ left ++ m ∷ [] → IsMarked marks m.at
marked_last marks left m e = subst (λ (xs : List ℕ). Contains xs m.at) (sym (pushed marks left m e)) (Contains-push (map mark_at left) m.at)

pub none_marked : (marks : List Mark) (b : ℕ) → marks ≡ [] → IsMarked marks b → ⊥
none_marked marks b e c = Contains-nil b (subst (λ (ms : List Mark). IsMarked ms b) e c)

-- ---- a device that is the same

pub lets_moved : {M : Type 0} (holds : M → Holds) (a b : M) (is : ℕ → Type 0) (p q : Parts) → b ≡ a → LetsGo is (holds b) p q → LetsGo is (holds a) p q
lets_moved {M} holds a b is p q e l = subst (λ (m : M). LetsGo is (holds m) p q) e l

pub releases_moved : {M : Type 0} (holds : M → Holds) (a b : M) (p q : Parts) → b ≡ a → {marks written : List Mark} → marks ≡ written → Releases marks (holds a) p q → Releases written (holds b) p q
releases_moved {M} holds a b p q e {marks} {written} same r = subst (λ (m : M). Releases written (holds m) p q) (sym e) (subst (λ (ms : List Mark). Releases ms (holds a) p q) same r)

pub moved_overruled : {M : Type 0} (state : M → DiskState) (x a b : M) (p q : Parts) → b ≡ a → Overruled (state x) (state a) p q → Overruled (state x) (state b) p q
moved_overruled {M} state x a b p q e o = subst (λ (m : M). Overruled (state x) (state m) p q) (sym e) o

pub syncs_moved : {M : Type 0} (state : M → DiskState) (x a b : M) (p m q : Parts) → b ≡ a → IsDue p.turns → IsSync {E = Failed} (Ok tt) (state x) (state a) → Synced p m
    → ((k : ℕ) → p.region.first ≤ k → k < length (state a).holds → (flag_at p.turns k).tried ≡ Written → IsSettled (state a).holds k) → Releases p.turns.written (state b).holds m q → Syncs (state x) (state b) p q
syncs_moved {M} state x a b p m q e due sync synced each r = record {
  due = due;
  device = subst (λ (y : M). IsSync {E = Failed} (Ok tt) (state x) (state y)) (sym e) sync;
  settled = m;
  synced = synced;
  each = subst (λ (y : M). (k : ℕ) → p.region.first ≤ k → k < length (state y).holds → (flag_at p.turns k).tried ≡ Written → IsSettled (state y).holds k) (sym e) each;
  releases = r;
}
