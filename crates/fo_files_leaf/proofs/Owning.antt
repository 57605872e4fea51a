-- A leaf is owned, within a source or behind its last, and its source linked.
use Rattle.std.proofs.Common.{◌≡◌, ◌≢◌, ◌⊎◌, ◌+◌, ◌*◌, ◌<◌, ◌≤◌, ℕ, List, Some, None, Option, length, inl, inr, ⊎_elim, refl, sym, ap, subst, ◌∙◌, arith}
use Rattle.std.specs.Prelude.{max, MatchOption}
use Rattle.std.proofs.lemmas.Bool.{cases_eq}
use Rattle.fo_image.specs.declared.types.Label.{Label}
use Rattle.fo_image.specs.declared.types.Entry.{Entry}
use Rattle.fo_image.specs.declared.types.Pointer.{Pointer}
use Rattle.fo_image.specs.declared.types.Pointer.TheVariants.{Nil, Local, Score as Held}
use Rattle.fo_crash.specs.declared.slot.Slot.TheVariants.{Entry as Head}
use Rattle.fo_crash.specs.Images.{SameContent, target}
use Rattle.fo_crash.specs.Names.{SameUse}
use Rattle.fo_ports.specs.Blocks.{cost, dropped, ends, blank}
use Rattle.fo_ports.specs.State.{State, KeepsAll, none}
use Rattle.fo_ports.specs.Sources.{Form, Made, Touched, Changes, Owned, Grows, MayZero, IsCut, IsReady, StaysReady, StaysMarked}
use Rattle.fo_tree.specs.declared.source.Source.{Source}
use Rattle.fo_tree_read.specs.Tree.{kind_at}
use Rattle.fo_tree_look.specs.Source.{HasBlock, Over, Prepared, address_here, held_here, form_of, leaves_of}
use Rattle.fo_tree_shorten.specs.of_tree_link.Link.{entry_of}
use Rattle.fo_tree_shorten.specs.of_tree_link.Change.{SameSource}
use Rattle.fo_tree.proofs.Relinking.{same_source}
use Rattle.fo_tree_shorten.specs.Shorten.{EntryAt, Links}
use Rattle.fo_tree_shorten.proofs.Entries.{entry_owned, entry_put}
use Rattle.fo_files_leaf.specs.Alters.{Alters}
use Rattle.fo_files_leaf.specs.Leaf.{IsAbove, IsOwnLeaf, IsFor, OwnsLeaf}
use Rattle.fo_files_leaf.proofs.Altering.{content_joins, known_of, same_use}
use Rattle.fo_files_leaf.proofs.Prepared.{leaf_ready, top_prepared}
use Rattle.fo_files_leaf.proofs.Stays.{address_stays}
use Rattle.fo_files_leaf.proofs.Ways.{NamesBlocks, leaf_one}

-- A leaf was owned: what `own_leaf` says of it over a device that tells nothing.
pub record Took (s m : State) (x y : Source) (i leaf : ℕ) : Type 0 where
  pub all : KeepsAll s m
  pub source : IsFor s x i
  pub names : NamesBlocks s
  pub changes : Changes x.ways.tree.tag (HasBlock s x.ways.tree) (MayZero (form_of x.ways.tree x.ways.generation x.ways.limit) x.ways.tree.size i s (leaves_of s x.ways.tree x.ways.kept.items x.ways.limit)) s m
  pub owned : Owned (form_of x.ways.tree x.ways.generation x.ways.limit) x.ways.tree.size i leaf s m (leaves_of s x.ways.tree x.ways.kept.items x.ways.limit) (leaves_of m y.ways.tree y.ways.kept.items y.ways.limit)
  pub over : Over m y.ways.tree y.ways.kept.items y.ways.limit
  pub form : form_of y.ways.tree y.ways.generation y.ways.limit ≡ form_of x.ways.tree x.ways.generation x.ways.limit
  pub size : y.ways.tree.size ≡ max x.ways.tree.size (8192 * (i + 1))
  pub grows : Grows s m (leaves_of s x.ways.tree x.ways.kept.items x.ways.limit) (leaves_of m y.ways.tree y.ways.kept.items y.ways.limit)
  pub top : (leaves_of m y.ways.tree y.ways.kept.items y.ways.limit).current

longer : (a n : ℕ) → a ≤ max a n
longer a n = omega arith

head_same : (a b : Entry) → Head a ≡ Head b → a ≡ b
head_same a b e = cc

ends_local : (p : Pointer) (b : ℕ) → ends p (Local b) ≡ 0
ends_local Nil b = refl
ends_local (Local x) b = refl
ends_local (Held score) b = refl

module _ {s m : State} {x y : Source} {i leaf at j : ℕ} (k : Took s m x y i leaf) (e : EntryAt s x.ways.tree x.ways.generation at j) where
  same : SameSource x.ways.tree y.ways.tree
  same = same_source x.ways.tree y.ways.tree x.ways.generation x.ways.limit y.ways.generation y.ways.limit k.form k.source.over.least k.over.least (subst (λ n. x.ways.tree.size ≤ n) (sym k.size) (longer x.ways.tree.size (8192 * (i + 1)))) (let within = k.over.within in let low = k.over.low in omega (arith, within, low))

  pub tag_same : y.ways.tree.tag ≡ x.ways.tree.tag
  tag_same = ap (λ (f : Form). f.tag) k.form

  pub entry_m : EntryAt m x.ways.tree x.ways.generation at j
  entry_m = entry_owned e k.changes k.all

  prepared_m : Prepared m y.ways.tree y.ways.kept.items y.ways.limit (8192 * i) 8192
  prepared_m = k.grows.still (8192 * i) 8192 k.source.prepared

  -- what is asked where it is linked
  pub use_same : SameUse (Head (entry_of y.ways.tree y.ways.generation)) ((m.now at).slot j)
  use_same = subst (λ q. SameUse (Head (entry_of y.ways.tree y.ways.generation)) q) (sym entry_m.is) (ap (λ (f : Form). f.generation) k.form, refl, same.dir, tag_same)

  pub top_other : (c : ℕ) → y.ways.tree.top ≡ Local c → c ≢ at
  top_other c is here =
      let ready = top_prepared m y.ways.tree y.ways.kept.items y.ways.limit i c k.over prepared_m is in
      entry_m.apart (sym (ap (λ n. (m.label n).tag) here) ∙ ready.tagged ∙ tag_same)

  levels : dropped ((m.now at).slot j) (Head (entry_of y.ways.tree y.ways.generation)) ≡ 0
  levels = ap (λ q. dropped q (Head (entry_of y.ways.tree y.ways.generation))) entry_m.is ∙ (let more = same.more in omega (arith, more))

  pub cost_none : cost ((m.now at).slot j) (Head (entry_of y.ways.tree y.ways.generation)) ≡ 0
  cost_none =
      let none = levels in
      let end : ends (target ((m.now at).slot j)) y.ways.tree.top ≡ 0 = ap (λ p. ends (target ((m.now at).slot j)) p) k.top.is ∙ ends_local (target ((m.now at).slot j)) k.top.at in
      omega (arith, none, end)

  pub no_levels : (n : ℕ) → n < dropped ((m.now at).slot j) (Head (entry_of y.ways.tree y.ways.generation)) → ⊥
  no_levels n lt = let none = levels in omega (arith, none, lt)

  -- no block is changed but blocks above the leaves
  touched_above : (c : ℕ) → Touched s m x.ways.tree.tag (MayZero (form_of x.ways.tree x.ways.generation x.ways.limit) x.ways.tree.size i s (leaves_of s x.ways.tree x.ways.kept.items x.ways.limit)) c → Made s m c ⊎ (((s.label c).epoch ≡ s.high) × IsAbove x.ways.tree.tag x.ways.tree.dir (s.label c))
  touched_above c touched = ⊎_elim
      (λ made. inl made)
      (λ own. inr (own.1, (own.2, ⊎_elim (λ inner. inner.1) (λ last. absurd (k.source.other last.1.0)) own.0)))
      touched

  -- the leaf, where one stood
  had : (c : ℕ) → address_here s x.ways.tree i ≡ Some c → s.is_block c × ((s.label c).kind ≡ kind_at x.ways.tree.dir 0) × ((s.label c).tag ≡ x.ways.tree.tag)
  had c is =
      let ready = leaf_ready s x.ways.tree x.ways.kept.items x.ways.limit i c k.source.prepared is in
      (leaf_one s x.ways.tree x.ways.kept.items x.ways.limit i c k.names k.source.over.hangs k.source.prepared is, ready.has_kind, ready.tagged)

  copied_from : (o : Option ℕ) → address_here s x.ways.tree i ≡ o → MatchOption o (Made s m leaf) (λ z. ((z ≡ leaf) × ((s.label z).epoch ≡ s.high)) ⊎ (((s.label z).epoch < s.high) × Made s m leaf)) → m.is_block leaf
  copied_from None is made = (k.changes.made leaf made).is_one
  copied_from (Some c) is copied = ⊎_elim
      (λ one. (k.all.same_blocks leaf).1 (subst (λ z. s.is_block z) one.0 (had c is).0))
      (λ made. (k.changes.made leaf made.1).is_one)
      copied

  leaf_block : m.is_block leaf
  leaf_block = copied_from (address_here s x.ways.tree i) refl k.owned.copied

  module _ {u : State} (l : Links m u y.ways.tree y.ways.generation at j) (more : KeepsAll m u) (over_u : Over u y.ways.tree y.ways.kept.items y.ways.limit) where
    label_u : (c : ℕ) → u.label c ≡ m.label c
    label_u c = l.frame.stays.labels c (λ h. h)

    made_back : (c : ℕ) → Made s u c → Made s m c
    made_back c made = (made.0, ap (λ (z : Label). z.state) (sym (label_u c)) ∙ made.1)

    made_on : (c : ℕ) → Made s m c → Made s u c
    made_on c made = (made.0, ap (λ (z : Label). z.state) (label_u c) ∙ made.1)

    marked : (c : ℕ) → (Made s u c → ⊥) → StaysMarked s m c
    marked c not_made = k.changes.others c (λ made. not_made (made_on c made))

    content_u : (c : ℕ) → c ≢ at → SameContent (u.now c) (m.now c)
    content_u c ne = record { bytes = l.bytes c; slots = λ n. l.now.others c n (inl ne) }

    at_stays : Made s u at → ⊥
    at_stays made = made.0 e.live

    at_apart : Touched s m x.ways.tree.tag (MayZero (form_of x.ways.tree x.ways.generation x.ways.limit) x.ways.tree.size i s (leaves_of s x.ways.tree x.ways.kept.items x.ways.limit)) at → ⊥
    at_apart touched = ⊎_elim (λ made. made.0 e.live) (λ own. e.apart own.2) touched

    goes_on_u : (c n : ℕ) → (Made s u c → ⊥) → s.clearing c n → u.clearing c n
    goes_on_u c n none h = l.order.goes_on c n (λ no. no) (k.changes.goes_on c n (λ made. none (made_on c made)) h)

    at_slot : (n : ℕ) → n ≢ j → (u.now at).slot n ≡ (s.now at).slot n
    at_slot n ne = l.now.others at n (inr ne) ∙ (k.changes.memory at at_apart).slots n

    altered : Alters at (λ n. n ≡ j) (λ t. t ≡ x.ways.tree.tag) (IsAbove x.ways.tree.tag x.ways.tree.dir) none s u
    altered = record {
      labels = λ c not_made. label_u c ∙ (marked c not_made).label;
      marks = λ c not_made. let was = (marked c not_made).marks in let marks = l.frame.stays.marks c (λ h. h) in (λ h. marks.0 (was.0 h), λ h. marks.1 (was.1 h));
      made = λ c made. let is = k.changes.made c (made_back c made) in (
        is.was.0,
        ap (λ (z : Label). z.epoch) (label_u c) ∙ is.labelled.0,
        ap (λ (z : Label). z.tag) (label_u c) ∙ is.labelled.1,
        (l.frame.stays.marks c (λ h. h)).0 is.is_pinned,
      );
      known = λ c is not_made not_put. known_of
          (content_joins (content_u c (λ here. not_put (inl here))) (k.changes.memory c (λ touched. ⊎_elim (λ made. not_made (made_on c made)) (λ above. not_put (inr (inl above))) (touched_above c touched))))
          (λ n h. goes_on_u c n not_made h);
      bytes = l.bytes at ∙ (k.changes.memory at at_apart).bytes;
      others = λ n ne. inl (at_slot n ne, λ h. goes_on_u at n at_stays h);
      uses = λ n still. ⊎_elim
          (λ here f is. let was = head_same f (entry_of x.ways.tree x.ways.generation) (sym is ∙ ap (λ z. (s.now at).slot z) here ∙ e.is) in (
            entry_of y.ways.tree y.ways.generation,
            ap (λ z. (u.now at).slot z) here ∙ l.now.here,
            ap (λ (z : Form). z.generation) k.form ∙ sym (ap (λ (z : Entry). z.generation) was),
            sym (ap (λ (z : Entry). z.active) was),
            same.dir ∙ sym (ap (λ (z : Entry). z.dir) was),
            tag_same ∙ sym (ap (λ (z : Entry). z.tag) was),
          ))
          (λ ne. same_use s u at n (at_slot n ne))
          (cases_eq n j);
      clearing = λ c n h. let was = k.changes.clearing c n (l.order.clearing c n h).1 in (λ made. was.0 (made_back c made), was.1);
      usable = let first = k.changes.usable in let spare = l.frame.uses.spare in let usable = l.frame.uses.usable in omega (arith, first, spare, usable);
      numbers = record { next = l.frame.numbers.next ∙ k.changes.numbers.next; grants = λ h. l.frame.numbers.grants (k.changes.numbers.grants h) };
    }

    ready_u : (c : ℕ) → IsReady y.ways.tree.tag m c → StaysReady m u c
    ready_u c ready = l.ready c (inl (λ here. entry_m.apart (sym (ap (λ n. (m.label n).tag) here) ∙ ready.tagged ∙ tag_same))) ready.is_pinned

    leaf_label : (u.label leaf).tag ≡ x.ways.tree.tag
    leaf_label = ap (λ (z : Label). z.tag) (label_u leaf) ∙ k.owned.label.2

    leaf_other : leaf ≢ at
    leaf_other here = entry_m.apart (sym (ap (λ n. (m.label n).tag) here) ∙ k.owned.label.2)

    own_u : IsOwnLeaf u x.ways.tree.tag x.ways.tree.dir leaf
    own_u = record {
      is_one = (more.same_blocks leaf).1 leaf_block;
      is_pinned = (l.frame.stays.marks leaf (λ h. h)).0 k.owned.ready.1;
      live = ap (λ (z : Label). z.state) (label_u leaf) ∙ k.owned.label.0;
      current = ap (λ (z : Label). z.epoch) (label_u leaf) ∙ k.owned.label.3 ∙ sym more.same_high;
      tagged = leaf_label;
      leaf_kind = ap (λ (z : Label). z.kind) (label_u leaf) ∙ k.owned.label.1;
      whole = ap (λ (z : List ℕ). length z) (l.bytes leaf) ∙ k.owned.ready.2;
    }

    has : (c : ℕ) → address_here s x.ways.tree i ≡ Some c → ((m.now leaf).bytes ≡ (s.now c).bytes) × ((n : ℕ) → (m.now leaf).slot n ≡ (s.now c).slot n)
    has c is =
        let content = subst (λ (o : Option ℕ). MatchOption o (MatchOption (held_here s x.ways.tree x.ways.kept.items i) (SameContent (m.now leaf) (blank (kind_at x.ways.tree.dir 0))) (λ bytes. IsCut (form_of x.ways.tree x.ways.generation x.ways.limit) x.ways.tree.size i ((m.now leaf).bytes) bytes)) (λ z. IsCut (form_of x.ways.tree x.ways.generation x.ways.limit) x.ways.tree.size i ((m.now leaf).bytes) ((s.now z).bytes) × ((n : ℕ) → (m.now leaf).slot n ≡ (s.now z).slot n))) is k.owned.content in
        (content.0.whole (λ ends. k.source.other ends.0), content.1)

    none_of : (o : Option ℕ) (h : Option (List ℕ)) → o ≡ None → h ≡ None → MatchOption o (MatchOption h (SameContent (m.now leaf) (blank (kind_at x.ways.tree.dir 0))) (λ bytes. IsCut (form_of x.ways.tree x.ways.generation x.ways.limit) x.ways.tree.size i ((m.now leaf).bytes) bytes)) (λ z. IsCut (form_of x.ways.tree x.ways.generation x.ways.limit) x.ways.tree.size i ((m.now leaf).bytes) ((s.now z).bytes) × ((n : ℕ) → (m.now leaf).slot n ≡ (s.now z).slot n)) → SameContent (m.now leaf) (blank (kind_at x.ways.tree.dir 0))
    none_of None None is_none nothing content = content
    none_of None (Some bytes) is_none nothing content = absurd (let f = nothing in cc)
    none_of (Some c) h is_none nothing content = absurd (let f = is_none in cc)

    clears : (c n : ℕ) → address_here s x.ways.tree i ≡ Some c → m.clearing leaf n → s.clearing c n
    clears c n is h =
        let was = k.changes.clearing leaf n h in
        ⊎_elim
        (λ one. subst (λ z. s.clearing z n) (sym one.0) was.1)
        (λ copy. absurd (was.0 copy.1))
        (subst (λ (o : Option ℕ). MatchOption o (Made s m leaf) (λ z. ((z ≡ leaf) × ((s.label z).epoch ≡ s.high)) ⊎ (((s.label z).epoch < s.high) × Made s m leaf))) is k.owned.copied)

    pub leaf_owned : u.room ≡ s.room → OwnsLeaf s u x y i at j leaf
    leaf_owned room = record {
      alters = altered;
      own = own_u;
      carries = λ c is. record {
        same = content_joins (content_u leaf leaf_other) (record { bytes = (has c is).0; slots = (has c is).1 });
        clearing = λ n h. clears c n is (l.order.clearing leaf n h).1;
      };
      blank_is = λ is_none nothing. content_joins (content_u leaf leaf_other) (none_of (address_here s x.ways.tree i) (held_here s x.ways.tree x.ways.kept.items i) is_none nothing k.owned.content);
      size = k.size;
      there = address_stays y.ways.tree y.ways.kept.items m u more ready_u y.ways.limit i leaf prepared_m k.owned.is;
      entry = entry_put entry_m tag_same more l.now l.frame l.order;
      form = k.form;
      room = room;
      pins = l.frame.uses.pins ∙ k.changes.pins;
    }
