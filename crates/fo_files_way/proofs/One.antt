-- A leaf is owned, and its source linked.
use Rattle.std.proofs.Common.{◌≡◌, ◌≢◌, ◌⊎◌, ◌+◌, ◌*◌, ◌<◌, ◌≤◌, ℕ, Some, Option, inl, inr, ⊎_elim, refl, sym, ap, subst, ◌∙◌, arith}
use Rattle.std.specs.Prelude.{max, MatchOption}
use Rattle.std.proofs.lemmas.Bool.{cases_eq}
use Rattle.fo_image.specs.declared.types.Label.{Label}
use Rattle.fo_image.specs.declared.types.Pointer.{Pointer}
use Rattle.fo_image.specs.declared.types.Pointer.TheVariants.{Nil, Local, Score as Held}
use Rattle.fo_crash.specs.declared.slot.Slot.TheVariants.{Entry as Head}
use Rattle.fo_crash.specs.Images.{Content, SameContent, target}
use Rattle.fo_crash.specs.Names.{SameUse}
use Rattle.fo_ports.specs.Blocks.{cost, dropped, ends, blank}
use Rattle.fo_ports.specs.State.{State, KeepsAll}
use Rattle.fo_ports.specs.Sources.{Form, Made, Touched, Changes, Owned, Grows, MayZero, IsCut, IsReady, StaysReady, StaysMarked, IsPlain}
use Rattle.fo_files_at.specs.of_tree.declared.source.Source.{Source}
use Rattle.fo_tree_read.specs.Tree.{kind_at}
use Rattle.fo_tree_look.specs.Source.{HasBlock, Over, Prepared, address_here, held_here, form_of, leaves_of}
use Rattle.fo_tree_shorten.specs.of_tree_link.Link.{entry_of}
use Rattle.fo_tree_shorten.specs.of_tree_link.Change.{SameSource}
use Rattle.fo_files_at.proofs.of_tree.Relinking.{same_source}
use Rattle.fo_files_at.specs.of_tree.Laws.{keeps_prepared}
use Rattle.fo_tree_shorten.proofs.of_tree_down.Join.{local_cases}
use Rattle.fo_tree_shorten.specs.Shorten.{EntryAt, Links}
use Rattle.fo_tree_shorten.proofs.Entries.{entry_owned, entry_put}
use Rattle.fo_files_way.specs.Plan.{IsLeafReady}
use Rattle.fo_files_way.specs.Owns.{Owns, OwnsOne, IsAboveOf}
use Rattle.fo_files_way.proofs.Prepared.{leaf_ready, top_prepared}
use Rattle.fo_files_way.proofs.Stays.{address_stays}

pub content_joins : {a b c : Content} → SameContent a b → SameContent b c → SameContent a c
content_joins p q = record { bytes = p.bytes ∙ q.bytes; slots = λ i. p.slots i ∙ q.slots i }

-- A leaf was owned: what `own_leaf` says of it over a device that tells nothing.
pub record Took (s m : State) (x y : Source) (i b leaf : ℕ) : Type 0 where
  pub all : KeepsAll s m
  pub ready : IsLeafReady s x i b
  pub changes : Changes x.ways.tree.tag (HasBlock s x.ways.tree) (MayZero (form_of x.ways.tree x.ways.generation x.ways.limit) x.ways.tree.size i s (leaves_of s x.ways.tree x.ways.kept.items x.ways.limit)) s m
  pub owned : Owned (form_of x.ways.tree x.ways.generation x.ways.limit) x.ways.tree.size i leaf s m (leaves_of s x.ways.tree x.ways.kept.items x.ways.limit) (leaves_of m y.ways.tree y.ways.kept.items y.ways.limit)
  pub over : Over m y.ways.tree y.ways.kept.items y.ways.limit
  pub form : form_of y.ways.tree y.ways.generation y.ways.limit ≡ form_of x.ways.tree x.ways.generation x.ways.limit
  pub size : y.ways.tree.size ≡ max x.ways.tree.size (8192 * (i + 1))
  pub grows : Grows s m (leaves_of s x.ways.tree x.ways.kept.items x.ways.limit) (leaves_of m y.ways.tree y.ways.kept.items y.ways.limit)
  pub top : (leaves_of m y.ways.tree y.ways.kept.items y.ways.limit).current

longer : (a n : ℕ) → a ≤ max a n
longer a n = omega arith

stays_size : (a n : ℕ) → n ≤ a → max a n ≡ a
stays_size a n le = omega (arith, le)

ends_local : (p : Pointer) (b : ℕ) → ends p (Local b) ≡ 0
ends_local Nil b = refl
ends_local (Local x) b = refl
ends_local (Held score) b = refl

module _ {s m : State} {x y : Source} {i b leaf at j : ℕ} (k : Took s m x y i b leaf) (e : EntryAt s x.ways.tree x.ways.generation at j) where
  same : SameSource x.ways.tree y.ways.tree
  same = same_source x.ways.tree y.ways.tree x.ways.generation x.ways.limit y.ways.generation y.ways.limit k.form k.ready.over.least k.over.least (subst (λ n. x.ways.tree.size ≤ n) (sym k.size) (longer x.ways.tree.size (8192 * (i + 1)))) (let within = k.over.within in let low = k.over.low in omega (arith, within, low))

  pub tag_same : y.ways.tree.tag ≡ x.ways.tree.tag
  tag_same = ap (λ (f : Form). f.tag) k.form

  pub entry_m : EntryAt m x.ways.tree x.ways.generation at j
  entry_m = entry_owned e k.changes k.all

  pub prepared_m : Prepared m y.ways.tree y.ways.kept.items y.ways.limit (8192 * i) 8192
  prepared_m = k.grows.still (8192 * i) 8192 k.ready.prepared

  -- what is asked where it is linked
  pub use_same : SameUse (Head (entry_of y.ways.tree y.ways.generation)) ((m.now at).slot j)
  use_same = subst (λ q. SameUse (Head (entry_of y.ways.tree y.ways.generation)) q) (sym entry_m.is) (ap (λ (f : Form). f.generation) k.form, refl, same.dir, tag_same)

  pub top_other : (c : ℕ) → y.ways.tree.top ≡ Local c → c ≢ at
  top_other c is here =
      let ready = top_prepared m y.ways.tree y.ways.kept.items y.ways.limit i c k.over prepared_m is in
      entry_m.apart (sym (ap (λ n. (m.label n).tag) here) ∙ ready.tagged ∙ tag_same)

  levels : dropped ((m.now at).slot j) (Head (entry_of y.ways.tree y.ways.generation)) ≡ 0
  levels = ap (λ q. dropped q (Head (entry_of y.ways.tree y.ways.generation))) entry_m.is ∙ (let more = same.more in omega (arith, more))

  pub cost_none : cost ((m.now at).slot j) (Head (entry_of y.ways.tree y.ways.generation)) ≡ 0
  cost_none =
      let none = levels in
      let end : ends (target ((m.now at).slot j)) y.ways.tree.top ≡ 0 = ap (λ p. ends (target ((m.now at).slot j)) p) k.top.is ∙ ends_local (target ((m.now at).slot j)) k.top.at in
      omega (arith, none, end)

  pub no_levels : (n : ℕ) → n < dropped ((m.now at).slot j) (Head (entry_of y.ways.tree y.ways.generation)) → ⊥
  no_levels n lt = let none = levels in omega (arith, none, lt)

  module _ {u : State} (l : Links m u y.ways.tree y.ways.generation at j) (more : KeepsAll m u) (over_u : Over u y.ways.tree y.ways.kept.items y.ways.limit) where
    label_u : (c : ℕ) → u.label c ≡ m.label c
    label_u c = l.frame.stays.labels c (λ h. h)

    made_back : (c : ℕ) → Made s u c → Made s m c
    made_back c made = (made.0, ap (λ (z : Label). z.state) (sym (label_u c)) ∙ made.1)

    made_on : (c : ℕ) → Made s m c → Made s u c
    made_on c made = (made.0, ap (λ (z : Label). z.state) (label_u c) ∙ made.1)

    marked : (c : ℕ) → (Made s u c → ⊥) → StaysMarked s m c
    marked c not_made = k.changes.others c (λ made. not_made (made_on c made))

    content_u : (c : ℕ) → c ≢ at → SameContent (u.now c) (m.now c)
    content_u c ne = record { bytes = l.bytes c; slots = λ n. l.now.others c n (inl ne) }

    apart_u : (c : ℕ) → u.apart c → m.apart c
    apart_u c h = ⊎_elim
        (λ top. absurd ((l.hangs.put c top).0 h))
        (λ other. ⊎_elim
        (λ here. subst (λ n. m.apart n) (sym here) ((l.hangs.at_apart (λ up. top_other at up refl)).0 (subst (λ n. u.apart n) here h)))
        (λ away. (l.frame.stays.apart c (λ no. no) (λ put. ⊎_elim away other put)).0 h)
        (cases_eq c at))
        (local_cases y.ways.tree.top c)

    inner_label : (c : ℕ) → MayZero (form_of x.ways.tree x.ways.generation x.ways.limit) x.ways.tree.size i s (leaves_of s x.ways.tree x.ways.kept.items x.ways.limit) c → (s.label c).kind ≢ kind_at x.ways.tree.dir 0
    inner_label c own = ⊎_elim (λ inner. inner.1) (λ last. absurd (k.ready.other last.1.0)) own

    moved : u.room ≡ s.room → Owns (λ b. b ≡ at) (IsAboveOf x) (λ tag. x.ways.tree.tag ≡ tag) s u
    moved room = record {
      memory = λ c not_made not_put. content_joins (content_u c (λ here. not_put (inl here))) (k.changes.memory c (λ touched. ⊎_elim (λ made. not_made (made_on c made)) (λ own. not_put (inr (own.1, (sym own.2, inner_label c own.0)))) touched));
      made = λ c made. let is = k.changes.made c (made_back c made) in let marks = l.frame.stays.marks c (λ h. h) in (
        is.was.0,
        ap (λ (z : Label). z.epoch) (label_u c) ∙ is.labelled.0,
        sym (ap (λ (z : Label). z.tag) (label_u c) ∙ is.labelled.1),
        (more.same_blocks c).1 is.is_one,
        marks.0 is.is_pinned,
        marks.2 is.is_fresh,
      );
      others = λ c not_made. let was = marked c not_made in let marks = l.frame.stays.marks c (λ h. h) in record {
        label = label_u c ∙ was.label;
        marks = (λ h. marks.0 (was.marks.0 h), λ h. marks.1 (was.marks.1 h), λ h. marks.2 (was.marks.2 h));
      };
      apart = λ c not_made h. (k.changes.apart c (λ made. not_made (made_on c made))).0 (apart_u c h);
      waits = λ a on n first second h. l.hangs.waits a on n (inr (inr use_same)) (k.changes.waits a on n (λ made. first (made_on a made)) (λ made. second (made_on on made)) h);
      no_wait = record { each = λ a on n none h. k.changes.no_wait.each a on n none (l.no_wait.each a on n none h) };
      clearing = λ c n h. let was = k.changes.clearing c n (l.order.clearing c n h).1 in (λ made. was.0 (made_back c made), was.1);
      goes_on = λ c n not_made h. l.order.goes_on c n (λ no. no) (k.changes.goes_on c n (λ made. not_made (made_on c made)) h);
      dirty = λ c h. ⊎_elim
          (λ was. ⊎_elim
          (λ old. inl old)
          (λ new. inr (⊎_elim
          (λ touched. ⊎_elim (λ made. inl (made_on c made)) (λ own. inr (inl (inr (own.1, sym own.2)))) touched)
          (λ block. inr (inr (block.0, made_on block.0 block.1, block.2 ∙ k.all.same_label_blocks block.0)))
          new))
          (k.changes.dirty c was))
          (λ here. inr (inr (inl (inl here))))
          (l.frame.dirty c h);
      moments = l.frame.uses.moments ∙ k.changes.moments;
      left = λ n image h. k.changes.left n image (l.frame.uses.left n image h);
      pins = l.frame.uses.pins ∙ k.changes.pins;
      room = room;
      usable = let first = k.changes.usable in let spare = l.frame.uses.spare in let usable = l.frame.uses.usable in omega (arith, first, spare, usable);
      numbers = record { next = l.frame.numbers.next ∙ k.changes.numbers.next; grants = λ h. l.frame.numbers.grants (k.changes.numbers.grants h) };
    }

    ready_u : (c : ℕ) → IsReady y.ways.tree.tag m c → StaysReady m u c
    ready_u c ready = l.ready c (inl (λ here. entry_m.apart (sym (ap (λ n. (m.label n).tag) here) ∙ ready.tagged ∙ tag_same))) ready.is_pinned

    leaf_label : (u.label leaf).tag ≡ x.ways.tree.tag
    leaf_label = ap (λ (z : Label). z.tag) (label_u leaf) ∙ k.owned.label.2

    leaf_other : leaf ≢ at
    leaf_other here = entry_m.apart (sym (ap (λ n. (m.label n).tag) here) ∙ k.owned.label.2)

    was_ready : (c : ℕ) → address_here s x.ways.tree i ≡ Some c → ((s.label c).kind ≡ kind_at x.ways.tree.dir 0) × ((s.label c).tag ≡ x.ways.tree.tag)
    was_ready c is = let ready = leaf_ready s x.ways.tree x.ways.kept.items x.ways.limit i c k.ready.prepared is in (ready.has_kind, ready.tagged)

    has : (c : ℕ) → address_here s x.ways.tree i ≡ Some c → ((m.now leaf).bytes ≡ (s.now c).bytes) × ((n : ℕ) → (m.now leaf).slot n ≡ (s.now c).slot n)
    has c is =
        let content = subst (λ (o : Option ℕ). MatchOption o (MatchOption (held_here s x.ways.tree x.ways.kept.items i) (SameContent (m.now leaf) (blank (kind_at x.ways.tree.dir 0))) (λ bytes. IsCut (form_of x.ways.tree x.ways.generation x.ways.limit) x.ways.tree.size i ((m.now leaf).bytes) bytes)) (λ z. IsCut (form_of x.ways.tree x.ways.generation x.ways.limit) x.ways.tree.size i ((m.now leaf).bytes) ((s.now z).bytes) × ((n : ℕ) → (m.now leaf).slot n ≡ (s.now z).slot n))) is k.owned.content in
        (content.0.whole (λ ends. k.ready.other ends.0), content.1)

    clears : (c n : ℕ) → address_here s x.ways.tree i ≡ Some c → m.clearing leaf n → s.clearing c n
    clears c n is h =
        let was = k.changes.clearing leaf n h in
        ⊎_elim
        (λ one. subst (λ z. s.clearing z n) (sym one.0) was.1)
        (λ copy. absurd (was.0 copy.1))
        (subst (λ (o : Option ℕ). MatchOption o (Made s m leaf) (λ z. ((z ≡ leaf) × ((s.label z).epoch ≡ s.high)) ⊎ (((s.label z).epoch < s.high) × Made s m leaf))) is k.owned.copied)

    pub one_owned : u.room ≡ s.room → OwnsOne s u x y i at j leaf
    one_owned room = record {
      owns = moved room;
      held = record {
        is_pinned = (l.frame.stays.marks leaf (λ h. h)).0 k.owned.ready.1;
        live = ap (λ (z : Label). z.state) (label_u leaf) ∙ k.owned.label.0;
        tagged = leaf_label;
      };
      current = ap (λ (z : Label). z.epoch) (label_u leaf) ∙ k.owned.label.3 ∙ sym more.same_high;
      copied = λ c is. ⊎_elim
          (λ one. inl (sym one.0))
          (λ copy. inr (made_on leaf copy.1))
          (subst (λ (o : Option ℕ). MatchOption o (Made s m leaf) (λ z. ((z ≡ leaf) × ((s.label z).epoch ≡ s.high)) ⊎ (((s.label z).epoch < s.high) × Made s m leaf))) is k.owned.copied);
      carries = λ c is. (
        record {
          kind = ap (λ (z : Label). z.kind) (label_u leaf) ∙ k.owned.label.1 ∙ sym (was_ready c is).0;
          tag = leaf_label ∙ sym (was_ready c is).1;
          bytes = l.bytes leaf ∙ (has c is).0;
          clearing = λ n h. clears c n is (l.order.clearing leaf n h).1;
        },
        λ n. l.now.others leaf n (inl leaf_other) ∙ (has c is).1 n,
      );
      slots = λ n ne. l.now.others at n (inr ne) ∙ (k.changes.memory at at_apart).slots n;
      bytes = l.bytes at ∙ (k.changes.memory at at_apart).bytes;
      entry = entry_put entry_m tag_same more l.now l.frame l.order;
      form = k.form;
      ready = record {
        over = over_u;
        prepared = keeps_prepared m u y.ways.tree y.ways.kept.items y.ways.limit more ready_u (8192 * i) 8192 prepared_m;
        within = let size = k.size in let within = k.ready.within in omega (arith, size, within);
        there = address_stays y.ways.tree y.ways.kept.items m u more ready_u y.ways.limit i leaf prepared_m k.owned.is;
        other = λ plain. k.ready.other (subst (λ f. IsPlain f) k.form plain);
      };
    }
      where
        at_apart : Touched s m x.ways.tree.tag (MayZero (form_of x.ways.tree x.ways.generation x.ways.limit) x.ways.tree.size i s (leaves_of s x.ways.tree x.ways.kept.items x.ways.limit)) at → ⊥
        at_apart touched = ⊎_elim (λ made. made.0 e.live) (λ own. e.apart own.2) touched
