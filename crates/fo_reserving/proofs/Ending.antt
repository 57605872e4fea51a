-- What may be given up, and no more is.
use Rattle.std.proofs.Common.{◌≡◌, ◌≢◌, inl, inr, ⊎_elim, ℕ, ◌≤◌, ◌<◌, ◌&&◌, ◌==◌, Bool, true, false, not, List, [], Option, Some, None, is_some, refl, sym, ap, ◌∙◌, subst, arith}
use Rattle.std.specs.List.{list_any}
use Rattle.std.specs.Option.{option_map_or}
use Rattle.std.proofs.lemmas.Bool.{cases_eq}
use Rattle.std.proofs.lemmas.List.{get_or-set_other}
use Rattle.fo_buffers.specs.declared.block.Buffer.{Buffer}
use Rattle.fo_buffers.specs.Held.{held_at, is_pinned}
use Rattle.fo_order.specs.Turns.{IsQuiet, flag_at}
use Rattle.fo_waits.specs.declared.listed.Clearing.{Clearing}
use Rattle.fo_waits.specs.declared.listed.Wait.{Wait}
use Rattle.fo_facts.specs.declared.fact.Fact.{Fact}
use Rattle.fo_facts.specs.Known.{fact_at, no_fact}
use Rattle.fo_closing.specs.of_mind.Parts.{IsBlock, IsNewborn, IsPinned, Parts}
use Rattle.fo_closing.specs.of_mind.Sound.{Holding, Placed}
use Rattle.fo_closing.specs.of_mind.Turning.{Released, Turning, Unpinned, is_changed, is_settled, may_release, unpinned_fact}
use Rattle.fo_closing.proofs.of_mind.Releasing.{cuts_of}
use Rattle.fo_closing.proofs.of_mind.Unpinning.{Unpins, unpins_of}
use Rattle.fo_reserving.specs.Steps.{IsKept, Lets}

never : {A : Type 0} → false ≡ true → A
never e = cc

-- whether a block may be given up, by what is held of it
abbrev may : Parts → ℕ → Option Buffer → Bool
may p b o = not (option_map_or is_pinned o true) && (not (is_changed o) && (is_settled (flag_at p.turns b).tried && (not (list_any (λ (w : Wait). w.on == b) p.waits) && (not (list_any (λ (c : Clearing). c.at == b) p.clears) && (fact_at p.facts b).linked))))

pub none_may : (p : Parts) (b : ℕ) → is_some (held_at p.held b) ≡ false → may_release p b ≡ false
none_may p b e = by (held_at p.held b) refl e
  where
    by : (o : Option Buffer) → held_at p.held b ≡ o → is_some o ≡ false → may_release p b ≡ false
    by (Some x) is e = never (sym e)
    by None is e = ap (may p b) is

module _ (p q : Parts) (at : ℕ) where
  pub gone_may : (may_release p at ≡ true → Released at p q) → (may_release p at ≡ false → q ≡ p) → may_release q at ≡ false
  gone_may gone kept = by (may_release p at) refl
    where
      by : (t : Bool) → may_release p at ≡ t → may_release q at ≡ false
      by true e = let r = gone e in ap (may q at) (cuts_of at p.held q.held r.was.block r.is).here
      by false e = ap (λ (z : Parts). may_release z at) (kept e) ∙ e

  pub others_may : (may_release p at ≡ true → Released at p q) → (may_release p at ≡ false → q ≡ p) → (b : ℕ) → may_release p b ≡ false → may_release q b ≡ false
  others_may gone kept b was = by (may_release p at) refl
    where
      by : (t : Bool) → may_release p at ≡ t → may_release q b ≡ false
      by true e =
          let r = gone e in
          let c = cuts_of at p.held q.held r.was.block r.is in
          ⊎_elim
          (λ same. ap (may_release q) same ∙ ap (may q at) c.here)
          (λ ne. ap (λ (z : Parts). may z b (held_at q.held b)) r.rest ∙ ap (may p b) (c.others b ne) ∙ was)
          (cases_eq b at)
      by false e = ap (λ (z : Parts). may_release z b) (kept e) ∙ was

-- the same, by whether it is in the tree
abbrev gives : Parts → ℕ → Option Buffer → Bool → Bool
gives p b o linked = not (option_map_or is_pinned o true) && (not (is_changed o) && (is_settled (flag_at p.turns b).tried && (not (list_any (λ (w : Wait). w.on == b) p.waits) && (not (list_any (λ (c : Clearing). c.at == b) p.clears) && linked))))

module _ (p m q : Parts) (at : ℕ) where
  -- another block is unpinned
  kept_unpinned : Unpinned at p m → (b : ℕ) → b ≢ at → IsKept p b → IsKept m b
  kept_unpinned u b ne k = ⊎_elim
      (λ pinned. inl (ap (λ (o : Option Buffer). option_map_or is_pinned o false) (z.others b ne) ∙ pinned))
      (λ may_not. inr (
      ap (λ (x : Parts). gives x b (held_at m.held b) (fact_at m.facts b).linked) u.rest
      ∙ ap (λ (o : Option Buffer). gives p b o (fact_at m.facts b).linked) (z.others b ne)
      ∙ ap (λ (f : Fact). gives p b (held_at p.held b) f.linked) (ap (λ (fs : List Fact). fact_at fs b) u.facts ∙ get_or-set_other p.facts at b (unpinned_fact (fact_at p.facts at)) no_fact ne)
      ∙ may_not))
      k
    where
      z : Unpins at p.held m.held
      z = unpins_of at p.held m.held (record { is = u.pinned }) u.held

  -- another block is given up, or none is
  kept_released : (may_release m at ≡ true → Released at m q) → (may_release m at ≡ false → q ≡ m) → (b : ℕ) → b ≢ at → IsKept m b → IsKept q b
  kept_released gone kept b ne k = ⊎_elim (λ pinned. inl (by (may_release m at) refl pinned)) (λ may_not. inr (others_may m q at gone kept b may_not)) k
    where
      by : (t : Bool) → may_release m at ≡ t → IsPinned m.held b → IsPinned q.held b
      by true e pinned = let r = gone e in ap (λ (o : Option Buffer). option_map_or is_pinned o false) ((cuts_of at m.held q.held r.was.block r.is).others b ne) ∙ pinned
      by false e pinned = subst (λ (x : Parts). IsPinned x.held b) (sym (kept e)) pinned

  -- a block is unpinned, and given up where it may be
  pub kept_next : Unpinned at p m → (may_release m at ≡ true → Released at m q) → (may_release m at ≡ false → q ≡ m) → (b : ℕ) → IsKept p b → IsKept q b
  kept_next u gone kept b k = ⊎_elim
      (λ e. inr (ap (may_release q) e ∙ gone_may m q at gone kept))
      (λ ne. kept_released gone kept b ne (kept_unpinned u b ne k))
      (cases_eq b at)

-- what was pinned, where nothing is any more
pub kept_gone : (q : Parts) (b : ℕ) → (IsPinned q.held b → ⊥) → IsKept q b → may_release q b ≡ false
kept_gone q b free k = ⊎_elim (λ pinned. absurd (free pinned)) (λ may_not. may_not) k

-- Where all is settled, nothing is pinned and nothing waits, what is held and may not be given up is newborn.
pub held_newborn : (p : Parts) {first count : ℕ} → Placed p.region p.turns p.facts first count → Holding p.one.low first count p.region p.held → Turning first p.held p.turns p.facts → IsQuiet p.turns → ((b : ℕ) → IsPinned p.held b → ⊥) → p.waits ≡ [] → p.clears ≡ [] → ((b : ℕ) → IsBlock p b → may_release p b ≡ false)
    → (b : ℕ) → is_some (held_at p.held b) ≡ true → IsNewborn p.facts b
held_newborn p {first} {count} placed holding turning quiet free waits clears none b some = by (held_at p.held b) refl some
  where
    linked_may : (x : Buffer) → held_at p.held b ≡ Some x → (fact_at p.facts b).linked ≡ true → may_release p b ≡ true
    linked_may x is linked =
        ap (may p b) is
        ∙ ap (λ c. not c && (not x.dirty && (is_settled (flag_at p.turns b).tried && (not (list_any (λ (w : Wait). w.on == b) p.waits) && (not (list_any (λ (c : Clearing). c.at == b) p.clears) && (fact_at p.facts b).linked))))) unpinned
        ∙ ap (λ c. not c && (is_settled (flag_at p.turns b).tried && (not (list_any (λ (w : Wait). w.on == b) p.waits) && (not (list_any (λ (c : Clearing). c.at == b) p.clears) && (fact_at p.facts b).linked)))) calm
        ∙ ap (λ t. is_settled t && (not (list_any (λ (w : Wait). w.on == b) p.waits) && (not (list_any (λ (c : Clearing). c.at == b) p.clears) && (fact_at p.facts b).linked))) (quiet.settled b)
        ∙ ap (λ (ws : List Wait). not (list_any (λ (w : Wait). w.on == b) ws) && (not (list_any (λ (c : Clearing). c.at == b) p.clears) && (fact_at p.facts b).linked)) waits
        ∙ ap (λ (cs : List Clearing). not (list_any (λ (c : Clearing). c.at == b) cs) && (fact_at p.facts b).linked) clears
        ∙ linked
      where
        off : (t : Bool) → (t ≡ true → ⊥) → t ≡ false
        off true never_so = absurd (never_so refl)
        off false never_so = refl

        unpinned : x.pinned ≡ false
        unpinned = off x.pinned (λ e. free b (ap (λ (o : Option Buffer). option_map_or is_pinned o false) is ∙ e))

        calm : x.dirty ≡ false
        calm = off x.dirty (λ e. never (sym (quiet.clean b) ∙ (turning.each b).turn (ap is_changed is ∙ e) linked))

    block : (x : Buffer) → held_at p.held b ≡ Some x → IsBlock p b
    block x is =
        let k = holding.block b x is in
        let f = placed.is_first in
        let n = placed.is_count in
        let lo = k.0 in
        let hi = k.1 in
        (omega (arith, f, lo), omega (arith, n, hi))

    unlinked : (x : Buffer) → held_at p.held b ≡ Some x → (t : Bool) → (fact_at p.facts b).linked ≡ t → (fact_at p.facts b).linked ≡ false
    unlinked x is true e = never (sym (none b (block x is)) ∙ linked_may x is e)
    unlinked x is false e = e

    by : (o : Option Buffer) → held_at p.held b ≡ o → is_some o ≡ true → IsNewborn p.facts b
    by (Some x) is e = unlinked x is (fact_at p.facts b).linked refl
    by None is e = never e

-- ---- over all addresses

pub within : (p q : Parts) (at : ℕ) {first count : ℕ} → Placed p.region p.turns p.facts first count → Lets p q → first ≤ at → at < count → IsBlock q at
within p q at {first} {count} placed l lo hi =
    let f = placed.is_first in
    let n = placed.is_count in
    let is : IsBlock p at = (omega (arith, lo, f), omega (arith, hi, n)) in
    subst (λ (z : Parts). IsBlock z at) (sym l.rest) is

pub within_was : (p q : Parts) (at : ℕ) {first count : ℕ} → Placed p.region p.turns p.facts first count → Lets p q → IsBlock q at → (first ≤ at) × (at < count)
within_was p q at {first} {count} placed l is =
    let was : IsBlock p at = subst (λ (z : Parts). IsBlock z at) l.rest is in
    let f = placed.is_first in
    let n = placed.is_count in
    let lo = was.0 in
    let hi = was.1 in
    (omega (arith, lo, f), omega (arith, hi, n))
