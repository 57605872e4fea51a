-- A source that was emptied may be linked.
use Rattle.std.proofs.Common.{◌≡◌, ◌^◌, ◌<◌, ◌≤◌, ℕ, Bool, true, false, List, inl, refl, sym, ◌∙◌, ap, subst, arith}
use Rattle.fo_image.specs.declared.types.Score.{Score}
use Rattle.fo_image.specs.declared.types.Pointer.{Pointer}
use Rattle.fo_image.specs.declared.types.Pointer.TheVariants.{Nil, Local, Score as Held}
use Rattle.fo_image.specs.Format.{PointerHolds}
use Rattle.fo_crash.specs.declared.slot.Slot.TheVariants.{Entry as Head}
use Rattle.fo_crash.specs.Images.{Reaches}
use Rattle.fo_ports.specs.State.{State}
use Rattle.fo_ports.specs.Sources.{depth_for}
use Rattle.fo_tree_read.specs.declared.tree.Tree.{Tree}
use Rattle.fo_tree_read.specs.Tree.{block_at}
use Rattle.fo_tree_look.specs.declared.ways.Kept.{Kept}
use Rattle.fo_tree_look.specs.Source.{Over}
use Rattle.fo_tree_open.specs.Open.{NamesRank}
use Rattle.fo_tree_link.specs.Link.{entry_of, CanLink}
use Rattle.fo_tree_link.proofs.Linked.{Linked, from_entry, none_waits}

nil_local : (b : ℕ) → Nil ≡ Local b → ⊥
nil_local b e = cc

nil_held : (score : Score) → Nil ≡ Held score → ⊥
nil_held score e = cc

-- A source that hung from its entry has no bytes now.
pub record Empty (s : State) (t new : Tree) (kept : List Kept) (limit generation at i : ℕ) : Type 0 where
  pub was : Linked s t kept limit generation at i
  pub same : (new.dir ≡ t.dir) × (new.rank ≡ t.rank)
  pub empty : (new.size ≡ 0) × (new.depth ≡ 0) × (new.top ≡ Nil)
  pub settled : t.dir ≡ true → (b j : ℕ) → s.clearing b j → Reaches s.now (Head (entry_of t generation)) b → ⊥

module _ {s : State} {t new : Tree} {kept : List Kept} {limit generation at i : ℕ} (x : Empty s t new kept limit generation at i) where
  still : (b j : ℕ) → s.clearing b j → Reaches s.now ((s.now at).slot i) b → ⊥
  still b j waits r = by t.dir refl
    where
      by : (d : Bool) → t.dir ≡ d → ⊥
      by true dir = x.settled dir b j waits (from_entry x.was b r)
      by false plain = none_waits x.was plain b j waits r

  no_top : (b : ℕ) → new.top ≡ Local b → ⊥
  no_top b is = nil_local b (sym x.empty.2 ∙ is)

  no_leaf : (d k a : ℕ) → d ≡ 0 → block_at s new d k ≡ Local a → ⊥
  no_leaf d k a none is = no_top a (subst (λ m. block_at s new m k ≡ Local a) none is)

  pub can_empty : CanLink s new generation at i
  can_empty = record {
    in_tree = x.was.linked.in_tree;
    ranked = λ p stands.
        subst (λ d. NamesRank p.kind p.rank i d new.rank) (sym x.same.0)
        (subst (λ r. NamesRank p.kind p.rank i t.dir r) (sym x.same.1) (x.was.linked.ranked p stands));
    comes = inl (record { none = x.empty.0; still = still });
    only = λ y z h r. absurd (x.was.linked.none y z h);
    names = λ dir k a j b is leads. absurd (no_leaf new.depth k a x.empty.1 is);
    down = λ some b is. absurd (no_top b is);
    still = λ some b j waits r. absurd (still b j waits r);
  }

-- a source without bytes stands over any blocks
pub over_empty : {s : State} {t new : Tree} {kept : List Kept} {limit : ℕ} → Over s t kept limit → new.rank ≡ t.rank → (new.size ≡ 0) × (new.depth ≡ 0) × (new.top ≡ Nil) → Over s new kept limit
over_empty {s = s} {t = t} {new = new} {limit = limit} over rank empty =
    let size = empty.0 in
    let depth = empty.1 in
    record {
      hangs = record {
        few = omega (arith, depth);
        room = omega (arith, size);
        low = subst (λ r. r < 2 ^ 31) (sym rank) over.hangs.low;
        is_one = λ at is. absurd (nil_local at (sym empty.2 ∙ is));
        told = λ told at is. absurd (nil_local at (sym empty.2 ∙ is));
        rooted = λ told at is. absurd (nil_local at (sym empty.2 ∙ is));
      };
      least = depth ∙ sym (ap (λ n. depth_for n) size);
      within = omega (arith, size);
      low = over.low;
      empty = λ none. empty.2;
      holds = subst (λ (p : Pointer). PointerHolds p) (sym empty.2) tt;
      free = λ told b is. absurd (nil_local b (sym empty.2 ∙ is));
      told = λ told at has. let within = has.within in absurd (nil_local at (sym empty.2 ∙ subst (λ m. block_at s new m has.index ≡ Local at) (zero_of has.down new.depth within depth) has.is));
      unheld = λ told other i score is. absurd (nil_held score (sym empty.2 ∙ subst (λ m. block_at s new m i ≡ Held score) depth is));
      held = over.held;
    }
  where
    zero_of : (n d : ℕ) → n ≤ d → d ≡ 0 → n ≡ 0
    zero_of n d le none = omega (arith, le, none)
