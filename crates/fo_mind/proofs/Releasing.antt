-- A block is given up.
use Rattle.std.proofs.Common.{◌≡◌, ◌≢◌, ◌⊎◌, ⊎_elim, ℕ, ◌*◌, ◌||◌, ◌==◌, Bool, true, false, not, nat_eq, List, [], ◌∷◌, Option, Some, None, is_some, refl, sym, ap, ◌∙◌, subst}
use Rattle.std.specs.Cmp.{nat_eq_equiv}
use Rattle.std.specs.List.{Contains, list_any}
use Rattle.std.specs.Map.{remove_entry}
use Rattle.std.specs.Option.{IfSome, MatchOption, option_map_or}
use Rattle.std.proofs.lemmas.Bool.{and_parts, cases_eq}
use Rattle.lru.specs.LruCache.{lru_cache, put_entries}
use Rattle.fo_buffers.specs.declared.block.Buffer.{Buffer}
use Rattle.fo_buffers.specs.Held.{Held, cut, held_at, is_pinned, unlisted}
use Rattle.fo_order.specs.declared.marks.Tried.TheVariants.{Settled, Written, Failed}
use Rattle.fo_order.specs.declared.marks.Tried.{Tried}
use Rattle.fo_order.specs.Keeps.{Turns}
use Rattle.fo_order.specs.Turns.{flag_at}
use Rattle.fo_labels.specs.Region.{Region}
use Rattle.fo_slots.specs.Read.{read}
use Rattle.fo_bring.proofs.Buffering.{cut_other, cut_same}
use Rattle.fo_facts.specs.declared.fact.Fact.{Fact}
use Rattle.fo_facts.specs.Known.{fact_at}
use Rattle.fo_waits.specs.declared.listed.Wait.{Wait}
use Rattle.fo_waits.specs.declared.listed.Clearing.{Clearing}
use Rattle.fo_waits.specs.Listed.{Listed, is_active}
use Rattle.fo_mind.specs.Parts.{Parts, label_at}
use Rattle.fo_mind.specs.Sound.{Holding, Waiting, Owing}
use Rattle.fo_mind.specs.Turning.{Released, Turning, is_changed, is_settled, may_release}
use Rattle.fo_mind.proofs.Keeping.{holding_less}
use Rattle.fo_mind.proofs.Turning.{one_differs}

never : {A : Type 0} → false ≡ true → A
never e = cc

no_some : {A : Type 0} (x : Buffer) → None ≡ Some x → A
no_some x e = cc

-- what is held then
pub record Cuts (at : ℕ) (old new : Held) : Type 0 where
  pub here : held_at new at ≡ None
  pub others : (q : ℕ) → q ≢ at → held_at new q ≡ held_at old q
  pub room : new.room ≡ old.room

pub cuts_of : (at : ℕ) (old new : Held) (bytes : List ℕ) → (new ≡ record (cut old at) { clean = put_entries nat_eq (lru_cache (remove_entry (nat_eq at) old.clean) 1024) at bytes }) ⊎ (new ≡ cut (unlisted old at) at) → Cuts at old new
cuts_of at old new bytes is = ⊎_elim
    (λ e. record {
      here = ap (λ (h : Held). held_at h at) e ∙ cut_same old at;
      others = λ q ne. ap (λ (h : Held). held_at h q) e ∙ cut_other old at q ne;
      room = ap (λ (h : Held). h.room) e;
    })
    (λ e. record {
      here = ap (λ (h : Held). held_at h at) e ∙ cut_same (unlisted old at) at;
      others = λ q ne. ap (λ (h : Held). held_at h q) e ∙ cut_other (unlisted old at) at q ne;
      room = ap (λ (h : Held). h.room) e;
    })
    is

none_listed : (waits : List Wait) (on : ℕ) → list_any (λ (w : Wait). w.on == on) waits ≡ false → (a k : ℕ) → Listed waits a on k → ⊥
none_listed [] on e a k l = l
none_listed (w ∷ ws) on e a k l =
    let p = parts_false (w.on == on) (list_any (λ (w : Wait). w.on == on) ws) e in
    ⊎_elim (λ here. same here.1 p.0) (λ later. none_listed ws on p.1 a k later) l
  where
    parts_false : (a b : Bool) → (a || b) ≡ false → (a ≡ false) × (b ≡ false)
    parts_false false b e = (refl, e)
    parts_false true b e = never (sym e)

    same : w.on ≡ on → (w.on == on) ≡ false → ⊥
    same e f = never (sym f ∙ ap (λ n. n == on) e ∙ nat_eq_equiv.refl on)

module _ {at : ℕ} {old new : Held} (c : Cuts at old new) where
  pub holding_cut : {low first count : ℕ} {region : Region} → Holding low first count region old → Holding low first count region new
  holding_cut h = holding_less c.others c.here h

  pub waiting_cut : {region : Region} (waits : List Wait) → list_any (λ (w : Wait). w.on == at) waits ≡ false → Waiting region old waits → Waiting region new waits
  waiting_cut {region} waits free w = record {
    within = w.within;
    used = λ a on k l. ⊎_elim
        (λ e. absurd (none_listed waits at free a k (subst (λ n. Listed waits a n k) e l)))
        (λ ne. ap (λ (o : Option Buffer). option_map_or (λ (x : Buffer). is_active ((read (label_at region on).kind x.block).slot (2 * k))) o false) (c.others on ne) ∙ w.used a on k l)
        (cases_eq on at);
  }

  pub owing_cut : {turns : Turns} {facts : List Fact} → Owing old turns facts → Owing new turns facts
  owing_cut owing = record {
    each = λ b x is pinned. ⊎_elim
        (λ e. no_some x (sym c.here ∙ ap (held_at new) (sym e) ∙ is))
        (λ ne. owing.each b x (sym (c.others b ne) ∙ is) pinned)
        (cases_eq b at);
  }

  pub turning_cut : {first : ℕ} {turns : Turns} {facts : List Fact} → is_changed (held_at old at) ≡ false → (flag_at turns at).tried ≡ Settled → Turning first old turns facts → Turning first new turns facts
  turning_cut {first} {turns} {facts} calm settled turning =
      let was = turning.each at in
      one_differs at c.others (λ q ne. refl) (λ q ne. refl)
      (record {
        begins = was.begins;
        held = λ d le. never (sym calm ∙ was.held d le);
        turn = λ d l. never (sym (ap is_changed c.here) ∙ d);
        unheld = λ le e. settled;
      }) turning

-- ---- what is asked

not_true : (b : Bool) → not b ≡ true → b ≡ false
not_true true e = never e
not_true false e = refl

pub record MayBe (p : Parts) (at : ℕ) : Type 0 where
  pub was : Buffer
  pub held : held_at p.held at ≡ Some was
  pub unchanged : was.dirty ≡ false
  pub free : was.pinned ≡ false
  pub calm : is_changed (held_at p.held at) ≡ false
  pub settled : (flag_at p.turns at).tried ≡ Settled
  pub unawaited : list_any (λ (w : Wait). w.on == at) p.waits ≡ false
  pub uncleared : list_any (λ (c : Clearing). c.at == at) p.clears ≡ false
  pub linked : (fact_at p.facts at).linked ≡ true

pub may_be : (p : Parts) (at : ℕ) → may_release p at ≡ true → MayBe p at
may_be p at e =
    let a = and_parts (not (option_map_or is_pinned (held_at p.held at) true)) _ e in
    let b = and_parts (not (is_changed (held_at p.held at))) _ a.1 in
    let c = and_parts (is_settled (flag_at p.turns at).tried) _ b.1 in
    let d = and_parts (not (list_any (λ (w : Wait). w.on == at) p.waits)) _ c.1 in
    let f = and_parts (not (list_any (λ (c : Clearing). c.at == at) p.clears)) _ d.1 in
    by (held_at p.held at) refl a.0 b.0 c.0 (not_true (list_any (λ (w : Wait). w.on == at) p.waits) d.0) (not_true (list_any (λ (c : Clearing). c.at == at) p.clears) f.0) f.1
  where
    tried : (t : Tried) → is_settled t ≡ true → t ≡ Settled
    tried Settled e = refl
    tried Written e = never e
    tried Failed e = never e

    by : (o : Option Buffer) → held_at p.held at ≡ o → not (option_map_or is_pinned o true) ≡ true → not (is_changed o) ≡ true → is_settled (flag_at p.turns at).tried ≡ true → list_any (λ (w : Wait). w.on == at) p.waits ≡ false → list_any (λ (c : Clearing). c.at == at) p.clears ≡ false → (fact_at p.facts at).linked ≡ true → MayBe p at
    by (Some x) is free clean settled calm still linked = record {
      was = x;
      held = is;
      unchanged = not_true x.dirty clean;
      free = not_true x.pinned free;
      calm = ap is_changed is ∙ not_true x.dirty clean;
      settled = tried (flag_at p.turns at).tried settled;
      unawaited = calm;
      uncleared = still;
      linked = linked;
    }
    by None is free clean settled calm still linked = never free

pub then_free : (o : Option Buffer) → is_some o ≡ true → not (option_map_or is_pinned o false) ≡ not (option_map_or is_pinned o true)
then_free (Some x) e = refl
then_free None e = never e

pub else_free : (o : Option Buffer) → is_some o ≡ false → false ≡ not (option_map_or is_pinned o true)
else_free (Some x) e = never (sym e)
else_free None e = refl

pub if_free : (o : Option Buffer) (x : Buffer) → o ≡ Some x → x.dirty ≡ false → x.pinned ≡ false → IfSome o (λ b. (b.dirty ≡ false) × (b.pinned ≡ false))
if_free o x is clean free = subst (λ (z : Option Buffer). IfSome z (λ b. (b.dirty ≡ false) × (b.pinned ≡ false))) (sym is) (clean, free)

module _ (p : Parts) (at : ℕ) (new : Held) where
  abbrev Is : Buffer → Type 0
  Is b = (new ≡ record (cut p.held at) { clean = put_entries nat_eq (lru_cache (remove_entry (nat_eq at) p.held.clean) 1024) at b.block }) ⊎ (new ≡ cut (unlisted p.held at) at)

  abbrev Alone : Buffer → Type 0
  Alone b = (bytes : List ℕ) → Contains new.clean (at, bytes) → bytes ≡ b.block

  pub given_up : MayBe p at → MatchOption (held_at p.held at) (new ≡ p.held) (λ b. Is b) → IfSome (held_at p.held at) (λ b. Alone b) → Released at p (record p { held = new })
  given_up m is alone = record {
    was = m.was;
    held = m.held;
    is = subst (λ (o : Option Buffer). MatchOption o (new ≡ p.held) (λ b. Is b)) m.held is;
    alone = subst (λ (o : Option Buffer). IfSome o (λ b. Alone b)) m.held alone;
    rest = refl;
  }
