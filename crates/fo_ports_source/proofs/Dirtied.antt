-- How many blocks the calls of a plain source leave to be written.
use Rattle.std.proofs.Common.{◌≡◌, ◌+◌, ◌-◌, ◌*◌, ◌%◌, ◌<◌, ◌≤◌, ℕ, Bool, true, false, cond, nat_le, [], ◌∷◌, ◌++◌, min, inl, inr, ⊎_elim, refl, sym, ap, ◌∙◌, arith}
use Rattle.std.proofs.lemmas.Bool.{cases_eq, lt-leb}
use Rattle.std.proofs.lemmas.List.{length-append}
use Rattle.std.proofs.lemmas.List.Elements.{Contains-append_left}
use Rattle.fo_image.specs.declared.types.Label.{Label}
use Rattle.fo_crash.specs.Images.{Content}
use Rattle.fo_ports.specs.State.{State, KeepsAll, Calm, Gives, none}
use Rattle.fo_ports.specs.Sources.{Dirties, depth_for, most_for, most_to_own}
use Rattle.fo_looks.proofs.Dirtied.{dirties_joins, dirties_put}
use Rattle.fo_ports_source.specs.Source.{leaves_for, Spent}
use Rattle.fo_ports_source.specs.Steps.{DirtiesFor}
use Rattle.fo_ports_source.proofs.Puts.{spent_more, few_leaves}

-- a leaf of the current epoch stays as it is
pub dirties_here : (s : State) (at : ℕ) → Dirties 2 (λ b. b ≡ at) s s
dirties_here s at = record {
  blocks = at ∷ [];
  few = omega arith;
  within = record { dirty = λ b d. inl d; made = λ b m. absurd (m.0 m.1); clearing = λ b j h. inl h; places = λ b. refl };
  each = λ b e. (0, omega arith, sym e);
}

-- a leaf is given out
pub dirties_given : {old new : State} {at : ℕ} {content : Content} {l : Label} → KeepsAll old new → Gives at content l old new → Dirties 2 (λ b. b ≡ at) old new
dirties_given {old} {new} {at} {content} {l} all g = record {
  blocks = at ∷ new.label_block at ∷ [];
  few = omega arith;
  within = record {
    dirty = λ b d. ⊎_elim (λ h. inl h) (λ h. inr (inl (⊎_elim (λ e. (0, omega arith, sym e)) (λ e. (1, omega arith, sym e)) h))) (g.dirty b d);
    made = λ b m. ⊎_elim
        (λ e. ((0, omega arith, sym e), (1, omega arith, ap new.label_block (sym e))))
        (λ ne. absurd (m.0 (ap (λ (x : Label). x.state) (sym (g.stays.labels b ne)) ∙ m.1)))
        (cases_eq b at);
    clearing = λ b j h. inl (g.order.clearing b j h).1;
    places = all.same_label_blocks;
  };
  each = λ b e. (0, omega arith, sym e);
}

-- bytes are put into a leaf that was owned
pub dirties_after : {a b c : State} {at : ℕ} → KeepsAll b c → Dirties 2 (λ x. x ≡ at) a b → Calm (λ x. x ≡ at) 0 b c → Dirties 2 (λ x. x ≡ at) a c
dirties_after {a} {b} {c} {at} all own calm = record {
  blocks = own.blocks;
  few = own.few;
  within = dirties_put at all own.within (own.each at refl) calm.frame.dirty (λ x. calm.frame.stays.labels x (λ n. n)) (λ x j h. inl (calm.order.clearing x j h).1);
  each = own.each;
}

-- one call after another
pub dirties_then : {a b c : State} {n m : ℕ} {first second : ℕ → Type 0} → Dirties n first a b → Dirties m second b c → Dirties (n + m) second a c
dirties_then {a} {b} {c} {n} {m} {first} {second} p q = record {
  blocks = q.blocks ++ p.blocks;
  few = let few = p.few in let more = q.few in let both = length-append q.blocks p.blocks in omega (arith, few, more, both);
  within = dirties_joins p.within q.within;
  each = λ x h. Contains-append_left q.blocks p.blocks x (q.each x h);
}

pub dirties_few : {a b : State} {n m : ℕ} {counted : ℕ → Type 0} → n ≤ m → Dirties n counted a b → Dirties m none a b
dirties_few {n = n} {m = m} le d = record { blocks = d.blocks; few = let few = d.few in omega (arith, few, le); within = d.within; each = λ b h. absurd h }

-- nothing is changed
pub dirties_still : (n : ℕ) (s : State) → Dirties n none s s
dirties_still n s = record { blocks = []; few = omega arith; within = record { dirty = λ b d. inl d; made = λ b m. absurd (m.0 m.1); clearing = λ b j h. inl h; places = λ b. refl }; each = λ b h. absurd h }

-- parts that are put one after another
pub dirties_none : (len offset : ℕ) (s : State) → DirtiesFor len offset 0 s s
dirties_none len offset s = record {
  leaves = 0;
  spent = record { is = inl (refl, omega arith) };
  is = dirties_still 0 s;
}

one_more : (len offset done n : ℕ) → Spent len offset done n 0 → Spent len offset done (n + 1) 1
one_more len offset done n spent = record { is = ⊎_elim (λ h. inl (h.0, let le = h.1 in omega (arith, le))) (λ h. inr (h.0, let le = h.1 in omega (arith, le))) spent.is }

pub dirties_more : {a b c : State} {at : ℕ} (len offset done count : ℕ) → done < len → count ≡ min (8192 - (offset + done) % 8192) (len - done) → DirtiesFor len offset done a b → Dirties 2 (λ x. x ≡ at) b c → DirtiesFor len offset (done + count) a c
dirties_more len offset done count lt is d part = record {
  leaves = d.leaves + 1;
  spent = spent_more len offset done count (d.leaves + 1) 1 0 lt is (omega arith) (one_more len offset done d.leaves d.spent);
  is = dirties_few (omega arith) (dirties_then d.is part);
}

pub dirties_all : {a b : State} (len offset done : ℕ) → done ≡ len → DirtiesFor len offset done a b → Dirties (2 * leaves_for len) none a b
dirties_all len offset done whole d = dirties_few (⊎_elim (λ h. let le = h.1 in omega (arith, le)) (λ h. let le = h.1 in omega (arith, le, whole)) d.spent.is) d.is

-- a source leaves no more to be written than the trait allows
pub dirties_written : {a b : State} (end len : ℕ) → Dirties (2 * leaves_for len) none a b → Dirties (2 * most_for end len) none a b
dirties_written end len d = dirties_few (let few = few_leaves end len in omega (arith, few)) d

least : (whole : Bool) (n m : ℕ) → 1 ≤ cond whole (n + 1) (2 * (m + 1))
least true n m = omega arith
least false n m = omega arith

grown : (whole : Bool) (n m : ℕ) → whole ≡ false → 2 ≤ cond whole (n + 1) (2 * (m + 1))
grown true n m e = absurd (cc)
grown false n m e = omega arith

up_to : {a b : State} {n : ℕ} {counted : ℕ → Type 0} (most : ℕ) → n ≤ most → Dirties (2 * n) counted a b → Dirties (2 * most) counted a b
up_to most le d = record { blocks = d.blocks; few = let few = d.few in omega (arith, few, le); within = d.within; each = d.each }

pub dirties_owned : {a b : State} {counted : ℕ → Type 0} (size i : ℕ) → Dirties 2 counted a b → Dirties (2 * most_to_own size i) counted a b
dirties_owned size i d = up_to {n = 1} (most_to_own size i) (least (nat_le (8192 * (i + 1)) size) (depth_for size) (depth_for (8192 * (i + 1)))) d

pub dirties_grown : {a b : State} {counted : ℕ → Type 0} (size i : ℕ) → size < 8192 * (i + 1) → Dirties 4 counted a b → Dirties (2 * most_to_own size i) counted a b
dirties_grown size i lt d = up_to {n = 2} (most_to_own size i) (grown (nat_le (8192 * (i + 1)) size) (depth_for size) (depth_for (8192 * (i + 1))) (lt-leb (8192 * (i + 1)) size lt)) d
