-- What calls on blocks see of a block that is given out.
use Rattle.std.proofs.Common.{◌≡◌, ◌≢◌, ◌↔◌, ◌⊎◌, inl, inr, ⊎_elim, ℕ, ◌+◌, ◌-◌, ◌/◌, ◌*◌, ◌<◌, ◌≤◌, Bool, true, false, cond, nat_eq, List, length, set, Option, Some, None, refl, sym, ap, ◌∙◌, subst, arith}
use Rattle.std.specs.Option.{option_map_or}
use Rattle.std.specs.Map.{lookup}
use Rattle.std.proofs.lemmas.Bool.{cases_eq}
use Rattle.std.proofs.lemmas.List.{length-set}
use Rattle.fo_disk.specs.Disk.{versions_of, latest_of}
use Rattle.fo_image.specs.declared.types.Label.{Label}
use Rattle.fo_image.specs.declared.types.Kind.{Kind}
use Rattle.fo_image.specs.declared.types.Kind.TheVariants.{Data, Dir, Root}
use Rattle.fo_image.specs.declared.types.State.{State as Use}
use Rattle.fo_image.specs.declared.types.State.TheVariants.{Free, Live, Closed}
use Rattle.fo_image.specs.Format.{KindHolds, StateHolds}
use Rattle.fo_ports.specs.Blocks.{IsLevel}
use Rattle.fo_image.specs.Place.{label_block}
use Rattle.fo_image.specs.Usable.{live_label, is_usable}
use Rattle.fo_buffers.specs.declared.block.Buffer.{Buffer}
use Rattle.fo_buffers.specs.Held.{Held, held_at, buffer_of, put, unlisted, used, is_dirty, is_pinned}
use Rattle.fo_order.specs.declared.marks.Flags.{Flags}
use Rattle.fo_order.specs.Keeps.{Turns}
use Rattle.fo_order.specs.Turns.{changed}
use Rattle.fo_labels.specs.Region.{Region, IsDataBlock, label_of, relabeled, usable_count}
use Rattle.fo_crash.specs.Images.{Content, SameContent}
use Rattle.fo_slots.specs.Read.{read}
use Rattle.fo_ports.specs.State.{Gives}
use Rattle.fo_facts.specs.Known.{fact_at, made_fact}
use Rattle.fo_bring.proofs.Buffering.{put_same, put_other, lookup_other}
use Rattle.fo_facts.specs.declared.fact.Fact.{Fact}
use Rattle.fo_waits.specs.Listed.{Clears, Listed, is_active}
use Rattle.fo_mind.specs.Parts.{Parts, state_of, bytes_of, bytes_at, content_at, label_at, memory, one_content, IsDirty, IsHeld, Instead}
use Rattle.fo_mind.specs.Sound.{Placed, Labelled, Holding, Waiting, Clearable}
use Rattle.fo_mind.specs.Changes.{Given}
use Rattle.fo_mind.specs.Laws.{beyond, some_held}
use Rattle.fo_mind.proofs.Looking.{same_content}
use Rattle.fo_mind.proofs.Giving.{label_here, label_other, data_label, not_live, not_held, change_other, fact_here, fact_other, clash}

module _ (p : Parts) (first count at : ℕ) (kind : Kind) (tag rank : ℕ) (bytes : List ℕ) (origin : Option ℕ) (s : ℕ)
    (placed : Placed p.region p.turns p.facts first count) (holding : Holding p.one.low first count p.region p.held)
    (waiting : Waiting p.region p.held p.waits) (clearable : Clearable p.region p.one.low p.one.high p.clears)
    (is : IsDataBlock p.region at) (usable : is_usable p.one.low (label_of p.region at) ≡ true) (less : s + 1 ≡ p.spare)
    (fewer : usable_count p.one.low (relabeled p.region at (live_label kind tag p.one.high)) + 1 ≡ usable_count p.one.low p.region) where
  abbrev l : Label
  l = live_label kind tag p.one.high

  abbrev region : Region
  region = relabeled p.region at (live_label kind tag p.one.high)

  abbrev held : Held
  held = used (put (unlisted p.held at) at (buffer_of bytes true true))

  abbrev turns : Turns
  turns = changed p.turns (label_block at) 0

  abbrev facts : List Fact
  facts = set p.facts at (made_fact origin rank)

  within : at < length p.facts
  within = let hi = is.to in let n = placed.is_count in let f = placed.fact_count in omega (arith, hi, n, f)

  far : nat_eq at 1 ≡ false
  far = let lo = is.from in beyond at first placed.begins (subst (λ n. n ≤ at) placed.is_first lo)

  held_here : held_at held at ≡ Some (buffer_of bytes true true)
  held_here = put_same (unlisted p.held at) at (buffer_of bytes true true)

  held_other : (b : ℕ) → b ≢ at → held_at held b ≡ held_at p.held b
  held_other b ne = put_other (unlisted p.held at) at (buffer_of bytes true true) b ne

  memory_here : cond (nat_eq at 1) (one_content p.one p.one_bytes) (content_at region held p.disk at) ≡ read kind bytes
  memory_here =
      ap (λ t. cond t (one_content p.one p.one_bytes) (content_at region held p.disk at)) far
      ∙ ap (λ (z : Label). read z.kind (bytes_at held p.disk at)) (label_here p.region at l is)
      ∙ ap (λ (o : Option Buffer). read kind (bytes_of o (lookup (nat_eq at) held.clean) (latest_of (versions_of p.disk at)))) held_here

  memory_other : (b : ℕ) → b ≢ at → cond (nat_eq b 1) (one_content p.one p.one_bytes) (content_at region held p.disk b) ≡ memory p b
  memory_other b ne = ap (cond (nat_eq b 1) (one_content p.one p.one_bytes))
      (ap (λ (z : Label). read z.kind (bytes_at held p.disk b)) (label_other p.region at l b is ne)
      ∙ ap (λ (o : Option Buffer). read (label_at p.region b).kind (bytes_of o (lookup (nat_eq b) held.clean) (latest_of (versions_of p.disk b)))) (held_other b ne)
      ∙ ap (λ (o : Option (List ℕ)). read (label_at p.region b).kind (bytes_of (held_at p.held b) o (latest_of (versions_of p.disk b)))) (lookup_other at b p.held.clean ne))

  none_waits : (a on k : ℕ) → on ≡ at → Listed p.waits a on k → ⊥
  none_waits a on k e w = by (held_at p.held on) refl (λ (x : Buffer). is_active ((read (label_at p.region on).kind x.block).slot (2 * k))) (waiting.used a on k w)
    where
      by : (o : Option Buffer) → held_at p.held on ≡ o → (f : Buffer → Bool) → option_map_or f o false ≡ true → ⊥
      by (Some x) h f active = not_held p.region at l is p.held x usable holding (ap (held_at p.held) (sym e) ∙ h)
      by None h f active = clash (sym active)

  not_cleared : (b j : ℕ) → Clears p.clears b j → b ≡ at → ⊥
  not_cleared b j c e = clash (sym usable ∙ ap (is_usable p.one.low) (sym (data_label p.region at is.from)) ∙ ap (λ n. is_usable p.one.low (label_at p.region n)) (sym e) ∙ clearable.kept b j c)

  marks : {X : Type 0} (g : Fact → X) (b : ℕ) → b ≢ at → g (fact_at facts b) ≡ g (fact_at p.facts b)
  marks g b ne = ap g (fact_other p.facts at (made_fact origin rank) b ne)

  dirty_was : (b : ℕ) → IsDirty turns held b → IsDirty p.turns p.held b ⊎ ((b ≡ at) ⊎ (b ≡ label_block at))
  dirty_was b d = ⊎_elim
      (λ e. inr (inl e))
      (λ ne. ⊎_elim
      (λ e. inr (inr e))
      (λ far. inl (⊎_elim
      (λ t. inl (sym (ap (λ (f : Flags). f.dirty) (change_other p.turns (label_block at) 0 b far)) ∙ t))
      (λ h. inr (sym (ap (λ (o : Option Buffer). option_map_or is_dirty o false) (held_other b ne)) ∙ h))
      d))
      (cases_eq b (label_block at)))
      (cases_eq b at)

  given_at_rest : (c : Content) → SameContent (read kind bytes) c → Gives at c (live_label kind tag p.one.high) (state_of p) (state_of (record p { region = region; held = held; turns = turns; facts = facts; spare = s }))
  given_at_rest c same = record {
    memory = record {
      here = record {
        bytes = ap (λ (z : Content). z.bytes) memory_here ∙ same.bytes;
        slots = λ i. ap (λ (z : Content). z.slot i) memory_here ∙ same.slots i;
      };
      others = λ b ne. same_content (memory_other b ne);
    };
    images = record { apart = λ image h. absurd h; holds = λ image h. absurd h; before = λ image h. absurd h };
    label = label_here p.region at l is;
    free = ap (is_usable p.one.low) (data_label p.region at is.from) ∙ usable;
    was = (
      λ live. not_live p.one.low (label_of p.region at) usable (sym (ap (λ (z : Label). z.state) (data_label p.region at is.from)) ∙ live),
      λ e. let lo = is.from in let f = placed.is_first in let b = placed.begins in omega (arith, lo, f, b, e),
      λ h. h,
      λ t. absurd t,
    );
    alone = λ t. absurd t;
    is = (
      (is.from, let hi = is.to in let n = length-set p.region.labels (at - p.region.first) l in omega (arith, hi, n)),
      ap (λ (o : Option Buffer). option_map_or is_pinned o false) held_here,
      ap (λ (f : Fact). f.fresh) (fact_here p.facts at (made_fact origin rank) within),
      ap (λ (f : Fact). f.apart) (fact_here p.facts at (made_fact origin rank) within),
      λ h. h,
      λ a j w. none_waits a at (j / 2) refl w,
    );
    stays = record {
      labels = λ b ne. label_other p.region at l b is ne;
      marks = λ b ne. (
        λ h. ap (λ (o : Option Buffer). option_map_or is_pinned o false) (held_other b ne) ∙ h,
        λ h. marks (λ (f : Fact). f.sealed) b ne ∙ h,
        λ h. marks (λ (f : Fact). f.fresh) b ne ∙ h,
      );
      places = λ t. absurd t;
      rooted = λ t. absurd t;
      newborn = λ b ne h. sym (marks (λ (f : Fact). f.linked) b ne) ∙ h;
      apart = λ b ne _. (λ h. sym (marks (λ (f : Fact). f.apart) b ne) ∙ h, λ h. marks (λ (f : Fact). f.apart) b ne ∙ h);
      instead = λ b x ne _. (
        λ h. (sym (marks (λ (f : Fact). f.apart) b ne) ∙ h.0, sym (marks (λ (f : Fact). f.origin) b ne) ∙ h.1),
        λ h. (marks (λ (f : Fact). f.apart) b ne ∙ h.0, marks (λ (f : Fact). f.origin) b ne ∙ h.1),
      );
      waits = λ a on j _ _ _ w. w;
    };
    order = record { clearing = λ b j c. (λ e. not_cleared b j c e, c); goes_on = λ b j _ c. c };
    covered = λ b ne. (λ h. h, λ h. h);
    no_wait = record { each = λ a on j _ w. w };
    dirty = dirty_was;
    uses = record { spare = less; usable = fewer; room = omega arith; pins = refl; moments = refl; left = λ k image h. h };
    queued = refl;
    no_removal = record { each = λ x e w h. h };
    numbers = record { next = refl; grants = λ h. h };
  }

-- What calls on blocks see of it.
pub gives : {p q : Parts} {first count at : ℕ} {kind : Kind} {tag rank : ℕ} {bytes : List ℕ} {origin : Option ℕ} (c : Content)
    → Placed p.region p.turns p.facts first count → Holding p.one.low first count p.region p.held → Waiting p.region p.held p.waits → Clearable p.region p.one.low p.one.high p.clears
    → Given at kind tag rank bytes origin p q → SameContent (read kind bytes) c → Gives at c (live_label kind tag p.one.high) (state_of p) (state_of q)
gives {p} {q} {first} {count} {at} {kind} {tag} {rank} {bytes} {origin} c placed holding waiting clearable g same =
    let all : q ≡ record p { region = relabeled p.region at (live_label kind tag p.one.high); held = used (put (unlisted p.held at) at (buffer_of bytes true true)); turns = changed p.turns (label_block at) 0; facts = set p.facts at (made_fact origin rank); spare = q.spare } =
    g.rest
    ∙ ap (λ (r : Region). record p { region = r; held = q.held; turns = q.turns; facts = q.facts; spare = q.spare }) g.region
    ∙ ap (λ (h : Held). record p { region = relabeled p.region at (live_label kind tag p.one.high); held = h; turns = q.turns; facts = q.facts; spare = q.spare }) g.held
    ∙ ap (λ (t : Turns). record p { region = relabeled p.region at (live_label kind tag p.one.high); held = used (put (unlisted p.held at) at (buffer_of bytes true true)); turns = t; facts = q.facts; spare = q.spare }) g.turns
    ∙ ap (λ (fs : List Fact). record p { region = relabeled p.region at (live_label kind tag p.one.high); held = used (put (unlisted p.held at) at (buffer_of bytes true true)); turns = changed p.turns (label_block at) 0; facts = fs; spare = q.spare }) g.facts
    in
    subst (λ (z : Parts). Gives at c (live_label kind tag p.one.high) (state_of p) (state_of z)) (sym all)
    (given_at_rest p first count at kind tag rank bytes origin q.spare placed holding waiting clearable g.usable.block g.usable.usable g.spare (ap (λ (r : Region). usable_count p.one.low r + 1) (sym g.region) ∙ g.count) c same)

pub level_holds : (kind : Kind) → IsLevel kind → KindHolds kind
level_holds (Data level) is = is
level_holds (Dir level) is = is
level_holds Root is = absurd is

-- what a block that was given out is to come in the place of
pub instead_given : {p q : Parts} {first count at : ℕ} {kind : Kind} {tag rank : ℕ} {bytes : List ℕ} {origin : Option ℕ} → Placed p.region p.turns p.facts first count → Given at kind tag rank bytes origin p q → (x : ℕ) → Instead q.facts at x ↔ (origin ≡ Some x)
instead_given {p} {q} {first} {count} {at} {kind} {tag} {rank} {bytes} {origin} placed g x =
    let hi = g.usable.block.to in
    let n = placed.is_count in
    let f = placed.fact_count in
    let lt : at < length p.facts = omega (arith, hi, n, f) in
    let here : fact_at q.facts at ≡ made_fact origin rank = ap (λ (fs : List Fact). fact_at fs at) g.facts ∙ fact_here p.facts at (made_fact origin rank) lt in
    (λ h. sym (ap (λ (z : Fact). z.origin) here) ∙ h.1, λ e. (ap (λ (z : Fact). z.apart) here, ap (λ (z : Fact). z.origin) here ∙ e))

-- ---- copies

holds_kind : (s : Use) (label : Label) → StateHolds s label → KindHolds label.kind
holds_kind Free label holds = subst KindHolds (sym holds.0) (omega arith)
holds_kind Live label holds = holds.0
holds_kind Closed label holds = holds.0

-- the kind of a held block has a spelling
pub kind_held : {region : Region} {turns : Turns} {facts : List Fact} {held : Held} {low first count : ℕ} (at : ℕ) (label : Label) → label ≡ label_at region at → Placed region turns facts first count → Holding low first count region held → Labelled region → IsHeld held at → KindHolds label.kind
kind_held {region} {turns} {facts} {held} {low} {first} {count} at label e placed holding labelled some =
    let x = some_held (held_at held at) some in
    let b = holding.block at x.0 x.1 in
    let lo : region.first ≤ at = subst (λ n. n ≤ at) (sym placed.is_first) b.0 in
    let holds = labelled.each at (lo, subst (λ n. at < n) (sym placed.is_count) b.1) in
    holds_kind label.state label (subst (λ (z : Label). StateHolds z.state z) (sym (e ∙ data_label region at lo)) holds.state_holds)

pub same_as : (p : Parts) (bytes : List ℕ) (at : ℕ) (label : Label) → label ≡ label_at p.region at → memory p at ≡ read (label_at p.region at).kind bytes → SameContent (read label.kind bytes) (memory p at)
same_as p bytes at label e is = same_content (ap (λ (z : Label). read z.kind bytes) e ∙ sym is)
