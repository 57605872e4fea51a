-- Blocks in which a slot waits stay held, and the root stays in the tree.
use Rattle.std.proofs.Common.{◌≡◌, ◌≢◌, ⊎_elim, ℕ, ◌<◌, ◌||◌, ◌==◌, Bool, true, false, cond, List, [], ◌∷◌, ◌++◌, length, replicate, set, Option, Some, None, is_some, refl, sym, ap, ◌∙◌, subst}
use Rattle.std.specs.Cmp.{nat_eq_equiv}
use Rattle.std.specs.List.{list_any}
use Rattle.std.specs.Option.{option_map_or}
use Rattle.std.proofs.lemmas.Bool.{cases_eq}
use Rattle.std.proofs.lemmas.List.{get_or-set_same, get_or-set_other}
use Rattle.fo_image.specs.declared.types.Label.{Label}
use Rattle.fo_image.specs.Usable.{is_usable}
use Rattle.fo_buffers.specs.declared.block.Buffer.{Buffer}
use Rattle.fo_buffers.specs.Held.{Held, held_at, settled}
use Rattle.fo_order.specs.Keeps.{Turns}
use Rattle.fo_labels.specs.Region.{Region, IsDataBlock, label_of, relabeled}
use Rattle.fo_facts.specs.declared.fact.Fact.{Fact}
use Rattle.fo_facts.specs.Known.{fact_at, no_fact}
use Rattle.fo_rooms.specs.of_linking.Joined.{Joins}
use Rattle.fo_waits.specs.declared.listed.Clearing.{Clearing}
use Rattle.fo_waits.specs.Listed.{Clears}
use Rattle.fo_mind.specs.Frames.{SameMarks}
use Rattle.fo_mind.specs.Parts.{IsHeld, label_at}
use Rattle.fo_mind.specs.Sound.{RootIn, Standing}
use Rattle.fo_mind.proofs.Ending.{clears_push}
use Rattle.fo_mind.proofs.Giving.{data_label, label_other}
use Rattle.fo_mind.proofs.Making.{known_of, unlike}
use Rattle.fo_mind.proofs.Turning.{Settles}

-- of each address stays whether it is in the tree
abbrev pub SameLinks : List Fact → List Fact → Type 0
SameLinks old new = (b : ℕ) → (fact_at new b).linked ≡ (fact_at old b).linked

pub links_set : (facts new : List Fact) (at : ℕ) (f : Fact) → at < length facts → new ≡ set facts at f → f.linked ≡ (fact_at facts at).linked → SameLinks facts new
links_set facts new at f lt is same = λ b. ap (λ (fs : List Fact). (fact_at fs b).linked) is ∙ ⊎_elim
    (λ e. ap (λ n. (fact_at (set facts at f) n).linked) e ∙ ap (λ (x : Fact). x.linked) (get_or-set_same facts at f no_fact lt) ∙ same ∙ ap (λ n. (fact_at facts n).linked) (sym e))
    (λ ne. ap (λ (x : Fact). x.linked) (get_or-set_other facts at b f no_fact ne))
    (cases_eq b at)

-- ---- what is held

pub standing_like : {old new : Held} {facts fs : List Fact} {cs : List Clearing} → ((b : ℕ) → IsHeld old b → IsHeld new b) → SameLinks facts fs → Standing old facts cs → Standing new fs cs
standing_like kept same s = record { still = λ b j h. kept b (s.still b j h); newborn = λ b e. kept b (s.newborn b (sym (same b) ∙ e)) }

pub standing_same : {old new : Held} {facts : List Fact} {cs : List Clearing} → ((q : ℕ) → held_at new q ≡ held_at old q) → Standing old facts cs → Standing new facts cs
standing_same {old} {new} {facts} {cs} same s = standing_like {old = old} {new = new} {facts = facts} {fs = facts} {cs = cs} (λ b h. ap is_some (same b) ∙ h) (λ b. refl) s

pub standing_here : {at : ℕ} {old new : Held} {facts fs : List Fact} {cs : List Clearing} (y : Buffer) → ((q : ℕ) → q ≢ at → held_at new q ≡ held_at old q) → held_at new at ≡ Some y → SameLinks facts fs → Standing old facts cs → Standing new fs cs
standing_here {at} {old} {new} {facts} {fs} {cs} y others here same s = standing_like {old = old} {new = new} {facts = facts} {fs = fs} {cs = cs} (λ b h. ⊎_elim
    (λ e. ap (λ n. is_some (held_at new n)) e ∙ ap is_some here)
    (λ ne. ap is_some (others b ne) ∙ h)
    (cases_eq b at)) same s

-- a block that is given out is held
pub standing_given : {at : ℕ} {old new : Held} (facts : List Fact) (f : Fact) {cs : List Clearing} (y : Buffer) → ((q : ℕ) → q ≢ at → held_at new q ≡ held_at old q) → held_at new at ≡ Some y → Standing old facts cs → Standing new (set facts at f) cs
standing_given {at} {old} {new} facts f {cs} y others here s = record {
  still = λ b j h. ⊎_elim (now b) (λ ne. ap is_some (others b ne) ∙ s.still b j h) (cases_eq b at);
  newborn = λ b e. ⊎_elim (now b) (λ ne. ap is_some (others b ne) ∙ s.newborn b (sym (ap (λ (x : Fact). x.linked) (get_or-set_other facts at b f no_fact ne)) ∙ e)) (cases_eq b at);
}
  where
    now : (b : ℕ) → b ≡ at → IsHeld new b
    now b e = ap (λ n. is_some (held_at new n)) e ∙ ap is_some here

-- one that wasn't held has no slot that waits
pub standing_brought : {at : ℕ} {old new : Held} {facts fs : List Fact} {cs : List Clearing} → held_at old at ≡ None → ((q : ℕ) → q ≢ at → held_at new q ≡ held_at old q) → SameLinks facts fs → Standing old facts cs → Standing new fs cs
standing_brought {at} {old} {new} {facts} {fs} {cs} none others same s = standing_like {old = old} {new = new} {facts = facts} {fs = fs} {cs = cs} (λ b h. ⊎_elim
    (λ e. unlike (sym h ∙ ap (λ n. is_some (held_at old n)) e ∙ ap is_some none))
    (λ ne. ap is_some (others b ne) ∙ h)
    (cases_eq b at)) same s

pub standing_settles : {at : ℕ} {linked : Bool} {old new : Held} {facts fs : List Fact} {cs : List Clearing} → Settles at linked old new → SameLinks facts fs → Standing old facts cs → Standing new fs cs
standing_settles {at} {linked} {old} {new} {facts} {fs} {cs} k same s = standing_like {old = old} {new = new} {facts = facts} {fs = fs} {cs = cs} (λ b h. ⊎_elim
    (λ e. ap (λ n. is_some (held_at new n)) e ∙ ap is_some k.here ∙ still linked (held_at old at) (ap (λ n. is_some (held_at old n)) (sym e) ∙ h))
    (λ ne. ap is_some (k.others b ne) ∙ h)
    (cases_eq b at)) same s
  where
    still : (l : Bool) (o : Option Buffer) → is_some o ≡ true → is_some (cond l (option_map_or (λ (x : Buffer). Some (settled x)) o None) o) ≡ true
    still true (Some x) e = refl
    still true None e = e
    still false o e = e

none_clearing : (cs : List Clearing) (at : ℕ) → list_any (λ (c : Clearing). c.at == at) cs ≡ false → (j : ℕ) → Clears cs at j → ⊥
none_clearing [] at e j h = h
none_clearing (c ∷ cs) at e j h =
    let p = parts_false (c.at == at) (list_any (λ (c : Clearing). c.at == at) cs) e in
    ⊎_elim (λ here. same here.0 p.0) (λ later. none_clearing cs at p.1 j later) h
  where
    parts_false : (a b : Bool) → (a || b) ≡ false → (a ≡ false) × (b ≡ false)
    parts_false false b e = (refl, e)
    parts_false true b e = unlike e

    same : c.at ≡ at → (c.at == at) ≡ false → ⊥
    same e f = unlike (sym (ap (λ n. n == at) e ∙ nat_eq_equiv.refl at) ∙ f)

pub standing_cut : {at : ℕ} {old new : Held} {facts : List Fact} {cs : List Clearing} → ((q : ℕ) → q ≢ at → held_at new q ≡ held_at old q) → (fact_at facts at).linked ≡ true → list_any (λ (c : Clearing). c.at == at) cs ≡ false → Standing old facts cs → Standing new facts cs
standing_cut {at} {old} {new} {facts} {cs} others linked free s = record {
  still = λ b j h. ⊎_elim
      (λ e. absurd (none_clearing cs at free j (subst (λ n. Clears cs n j) e h)))
      (λ ne. ap is_some (others b ne) ∙ s.still b j h)
      (cases_eq b at);
  newborn = λ b h. ⊎_elim
      (λ e. unlike (sym linked ∙ ap (λ n. (fact_at facts n).linked) (sym e) ∙ h))
      (λ ne. ap is_some (others b ne) ∙ s.newborn b h)
      (cases_eq b at);
}

pub standing_more : {held : Held} {facts : List Fact} (cs new : List Clearing) (at i after : ℕ) → new ≡ cs ++ (record { at = at; slot = i; after = after }) ∷ [] → IsHeld held at → Standing held facts cs → Standing held facts new
standing_more {held} {facts} cs new at i after is here s = subst (Standing held facts) (sym is) (record {
  still = λ b j h. ⊎_elim
      (λ old. s.still b j old)
      (λ e. subst (IsHeld held) e.0 here)
      (clears_push cs (record { at = at; slot = i; after = after }) b j h);
  newborn = s.newborn;
})

pub standing_fewer : {held : Held} {facts fs : List Fact} {cs new : List Clearing} → ((b j : ℕ) → Clears new b j → Clears cs b j) → SameLinks facts fs → Standing held facts cs → Standing held fs new
standing_fewer only same s = record { still = λ b j h. s.still b j (only b j h); newborn = λ b e. s.newborn b (sym (same b) ∙ e) }

pub standing_joins : {held : Held} {old new : List Fact} {t u : Turns} {cs : List Clearing} → Joins held old new t u → Standing held old cs → Standing held new cs
standing_joins l s = record {
  still = s.still;
  newborn = λ b e. ⊎_elim
      (λ same. s.newborn b (ap (λ (f : Fact). f.linked) (sym same) ∙ e))
      (λ h. unlike (sym h.0.1 ∙ e))
      (l.facts b);
}

pub standing_opened : (held : Held) (n : ℕ) (facts : List Fact) (cs : List Clearing) → facts ≡ replicate n no_fact → cs ≡ [] → Standing held facts cs
standing_opened held n facts cs known is = subst (Standing held facts) (sym is) (subst (λ (fs : List Fact). Standing held fs []) (sym known) (record {
  still = λ b j h. absurd h;
  newborn = λ b e. unlike (sym (ap (λ (f : Fact). f.linked) (known_of n b)) ∙ e);
}))

-- ---- the root

pub root_like : {low root : ℕ} {region : Region} {old new : List Fact} → ((b : ℕ) → (fact_at new b).linked ≡ (fact_at old b).linked) → RootIn low region old root → RootIn low region new root
root_like {low} {root} same r = record { linked = same root ∙ r.linked; kept = r.kept }

pub root_marks : {low root : ℕ} {region : Region} {old new : List Fact} → SameMarks old new → RootIn low region old root → RootIn low region new root
root_marks m r = root_like m.linked r

pub root_set : {low root : ℕ} {region : Region} (facts new : List Fact) (at : ℕ) (f : Fact) → at < length facts → new ≡ set facts at f → f.linked ≡ (fact_at facts at).linked → RootIn low region facts root → RootIn low region new root
root_set {low} {root} {region} facts new at f lt is same r = root_like {low = low} {root = root} {region = region} {old = facts} {new = new} (links_set facts new at f lt is same) r

pub root_joins : {low root : ℕ} {region : Region} {held : Held} {old new : List Fact} {t u : Turns} → Joins held old new t u → RootIn low region old root → RootIn low region new root
root_joins {low} {root} l r = record {
  linked = ⊎_elim
      (λ same. ap (λ (f : Fact). f.linked) same ∙ r.linked)
      (λ h. unlike (sym r.linked ∙ h.0.0))
      (l.facts root);
  kept = r.kept;
}

-- it is none of the blocks that may be given out
pub root_given : {low root : ℕ} (region : Region) (facts : List Fact) (at : ℕ) (l : Label) (f : Fact) → IsDataBlock region at → is_usable low (label_of region at) ≡ true → RootIn low region facts root → RootIn low (relabeled region at l) (set facts at f) root
root_given {low} {root} region facts at l f is usable r = record {
  linked = ap (λ (x : Fact). x.linked) (get_or-set_other facts at root f no_fact other) ∙ r.linked;
  kept = ap (is_usable low) (label_other region at l root is other) ∙ r.kept;
}
  where
    other : root ≢ at
    other e = unlike (sym usable ∙ ap (is_usable low) (sym (data_label region at is.from)) ∙ ap (λ n. is_usable low (label_at region n)) (sym e) ∙ r.kept)

pub root_opened : {low root : ℕ} {region : Region} (n : ℕ) (facts : List Fact) → facts ≡ replicate n no_fact → is_usable low (label_at region root) ≡ false → RootIn low region facts root
root_opened {low} {root} {region} n facts is kept = subst (λ (fs : List Fact). RootIn low region fs root) (sym is) (record { linked = ap (λ (f : Fact). f.linked) (known_of n root); kept = kept })
