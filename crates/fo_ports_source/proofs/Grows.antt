-- A leaf is owned where the source grows or not, and what stands behind the end of data.
use Rattle.std.proofs.Common.{◌≡◌, ◌≢◌, ◌⊎◌, ◌+◌, ◌-◌, ◌*◌, ◌/◌, ◌%◌, ◌<◌, ◌≤◌, ℕ, List, length, take, drop, slice_index, slice_set, Option, Some, None, IsSome, MatchOption, inl, inr, ⊎_elim, sym, refl, ap, ◌∙◌, subst, arith}
use Rattle.std.proofs.lemmas.Bool.{cases_lt, cases_eq}
use Rattle.std.proofs.lemmas.List.{length-take, length-take-le, get_or-take, get_or-drop, get_or_past, get_or-set_same, get_or-set_other}
use Rattle.fo_image.specs.declared.types.Kind.{Kind}
use Rattle.fo_image.specs.declared.types.Label.{Label}
use Rattle.fo_image.specs.declared.types.State.TheVariants.{Live}
use Rattle.fo_crash.specs.Images.{Content, Image, SameContent}
use Rattle.fo_sparse.specs.Written.{resized}
use Rattle.fo_sparse.proofs.Lists.{is_resized}
use Rattle.fo_ports.specs.Blocks.{blank, put_at}
use Rattle.fo_ports.proofs.Lengths.{length_put_at}
use Rattle.fo_ports.specs.State.{State, KeepsAll}
use Rattle.fo_ports.specs.Sources.{Form, Made, EndsWithin, IsCut, StaysLeaf, Renewed, Owned}
use Rattle.fo_ports_source.specs.Source.{leaf_of, leaves_of, form_of, HasLeaf, Over, IsOwn, Puts}
use Rattle.fo_ports_source.specs.Steps.{Steps, PutsOwn, Cuts, Longer, IsEnd}
use Rattle.fo_ports_source.proofs.Steps.{made_first, made_second, steps_joins}
use Rattle.fo_ports_source.proofs.Leaves.{never, put_before, put_within}

never_none : (leaf : Option ℕ) → leaf ≡ None → IsSome leaf → ⊥
never_none None e h = cc
never_none (Some x) e h = cc

-- zeros from a place on, to the end of a leaf
module _ (from : ℕ) (zeros bytes : List ℕ) (lt : from < 8192) (long : length bytes ≡ 8192) (many : length zeros ≡ 8192 - from) (zero : (k : ℕ) → slice_index zeros k ≡ 0) where
  fits : from + length zeros ≤ length bytes
  fits = omega (arith, lt, long, many)

  whole : length (put_at from zeros bytes) ≡ 8192
  whole = length_put_at from zeros bytes fits ∙ long

  front : length (take from bytes) ≡ from
  front = length-take-le from bytes (omega (arith, lt, long))

  each : (k : ℕ) → k < 8192 → (k < from) ⊎ (from ≤ k) → slice_index (put_at from zeros bytes) k ≡ slice_index (take from bytes) k
  each k below (inl lt) = put_before from zeros bytes fits k lt ∙ sym (get_or-take from bytes k 0 lt)
  each k below (inr ge) =
      let back : from + (k - from) ≡ k = omega (arith, ge) in
      let part : k - from < length zeros = omega (arith, ge, below, many) in
      ap (λ n. slice_index (put_at from zeros bytes) n) (sym back) ∙ put_within from zeros bytes fits (k - from) part ∙ zero (k - from) ∙ sym (get_or_past (take from bytes) k 0 (omega (arith, front, ge)))

  pub zeros_cut : put_at from zeros bytes ≡ resized (take from bytes) 8192
  zeros_cut = is_resized (take from bytes) (put_at from zeros bytes) (λ k below. each k (omega (arith, whole, below)) (cases_lt k from)) ∙ ap (λ n. resized (take from bytes) n) whole

-- a part of zeros
pub part_zero : (from m : ℕ) (zeros : List ℕ) → ((k : ℕ) → slice_index zeros k ≡ 0) → (k : ℕ) → slice_index (take m (drop from zeros)) k ≡ 0
part_zero from m zeros zero k = ⊎_elim
    (λ lt. get_or-take m (drop from zeros) k 0 lt ∙ get_or-drop from zeros k 0 ∙ zero (from + k))
    (λ ge. get_or_past (take m (drop from zeros)) k 0 (omega (arith, length-take m (drop from zeros), ge)))
    (cases_lt k m)

-- zeros that are put where there were zeros
pub puts_zeros : (f g : ℕ → ℕ) (from : ℕ) (zeros : List ℕ) → ((k : ℕ) → slice_index zeros k ≡ 0) → ((k : ℕ) → from ≤ k → f k ≡ 0) → Puts f g from zeros → (k : ℕ) → g k ≡ f k
puts_zeros f g from zeros zero tail puts k = ⊎_elim
    (λ lt. puts.before k lt)
    (λ ge. ⊎_elim
    (λ lt.
    let back : from + (k - from) ≡ k = omega (arith, ge) in
    ap g (sym back) ∙ puts.within (k - from) (omega (arith, lt, ge)) ∙ zero (k - from) ∙ sym (tail k ge))
    (λ past. puts.behind k past)
    (cases_lt k (from + length zeros)))
    (cases_lt k from)

-- What is said of a leaf that was owned.
pub record OwnsLeaf (kind : Kind) (tag rank : ℕ) (leaves new_leaves : List (Option ℕ)) (i at : ℕ) (old new : State) : Type 0 where
  pub inside : i < length leaves
  pub set_is : new_leaves ≡ slice_set leaves i (Some at)
  pub content : MatchOption (leaf_of leaves i) (SameContent (new.now at) (blank kind)) (λ b. SameContent (new.now at) (old.now b))
  pub copied : MatchOption (leaf_of leaves i) (Made old new at) (λ b. ((b ≡ at) × ((old.label b).epoch ≡ old.high)) ⊎ (((old.label b).epoch < old.high) × Made old new at))
  pub own : IsOwn new kind tag rank at
  pub steps : Steps tag (HasLeaf leaves) (λ b. ⊥) old new

pub owns_same : {kind other : Kind} {tag more rank turn i at : ℕ} {leaves new_leaves : List (Option ℕ)} {old new : State} → kind ≡ other → tag ≡ more → rank ≡ turn → OwnsLeaf kind tag rank leaves new_leaves i at old new → OwnsLeaf other more turn leaves new_leaves i at old new
owns_same {kind = kind} {tag = tag} {more = more} {rank = rank} {turn = turn} {i = i} {at = at} {leaves = leaves} {new_leaves = new_leaves} {old = old} {new = new} same_kind same_tag same_rank o =
    subst (λ k. OwnsLeaf k more turn leaves new_leaves i at old new) same_kind (subst (λ t. OwnsLeaf kind t turn leaves new_leaves i at old new) same_tag (subst (λ r. OwnsLeaf kind tag r leaves new_leaves i at old new) same_rank o))

-- the content of a leaf within which no data ended, and of one within which some did
module _ (form : Form) (size i : ℕ) (kind : Kind) (now : Image) (c : Content) where
  whole_content : (leaf : Option ℕ) → (EndsWithin form size i → ⊥) → MatchOption leaf (SameContent c (blank kind)) (λ b. SameContent c (now b)) → MatchOption leaf (SameContent c (blank kind)) (λ b. IsCut form size i c.bytes ((now b).bytes) × ((k : ℕ) → c.slot k ≡ (now b).slot k))
  whole_content None apart same = same
  whole_content (Some b) apart same = (record { whole = λ h. same.bytes; cut = λ h. absurd (apart h) }, same.slots)

module _ {kind : Kind} {tag rank i at : ℕ} {leaves new_leaves : List (Option ℕ)} {old new : State} (o : OwnsLeaf kind tag rank leaves new_leaves i at old new) where
  pub leaf_is : leaf_of new_leaves i ≡ Some at
  leaf_is = subst (λ ls. leaf_of ls i ≡ Some at) (sym o.set_is) (get_or-set_same leaves i (Some at) None o.inside)

  pub leaf_other : (j : ℕ) → j ≢ i → leaf_of new_leaves j ≡ leaf_of leaves j
  leaf_other j ne = subst (λ ls. leaf_of ls j ≡ leaf_of leaves j) (sym o.set_is) (get_or-set_other leaves i j (Some at) None ne)

  -- The source has the leaf already, or doesn't grow.
  pub owned_here : (end_kind : Kind) (end_tag size end : ℕ) → 8192 * (i + 1) ≤ size → Owned (form_of kind tag rank leaves) size i at old new (leaves_of old kind tag size leaves) (leaves_of new end_kind end_tag end new_leaves)
  owned_here end_kind end_tag size end within = record {
    is = leaf_is;
    others = λ told j ne. inl (record { at = leaf_other j ne; held = inl refl });
    content = whole_content (form_of kind tag rank leaves) size i kind old.now (new.now at) (leaf_of leaves i) (λ h. let past = h.2 in omega (arith, past, within)) o.content;
    copied = o.copied;
    label = (o.own.held.labelled.is_live, o.own.held.labelled.has_kind, o.own.held.labelled.has_tag, o.own.current);
    ready = (record { number = i; is = leaf_is }, o.own.held.is_pinned, o.own.held.long);
  }

-- A source grew, and its new last leaf was owned.
module _ {kind : Kind} {tag rank size i at : ℕ} {leaves mid_leaves new_leaves : List (Option ℕ)} {a b c : State} (over : Over a kind tag rank size leaves) (grows : size < 8192 * (i + 1))
    (live : (x : ℕ) → leaf_of leaves (size / 8192) ≡ Some x → (a.label x).state ≡ Live) (all : KeepsAll a c)
    (longer : Longer (form_of kind tag rank leaves) size leaves mid_leaves a b) (first : Steps tag (HasLeaf leaves) (IsEnd (form_of kind tag rank leaves) size leaves) a b)
    (grew : (x : ℕ) → HasLeaf mid_leaves x → HasLeaf leaves x ⊎ Made a b x) (o : OwnsLeaf kind tag rank mid_leaves new_leaves i at b c) where
  pub next_steps : Steps tag (HasLeaf leaves) (IsEnd (form_of kind tag rank leaves) size leaves) a c
  next_steps = steps_joins all first o.steps grew (λ x h. absurd h)

  first_made : (x : ℕ) → Made a b x → Made a c x
  first_made = made_first all first o.steps grew (λ x h. absurd h)

  then_made : (x : ℕ) → Made b c x → Made a c x
  then_made = made_second all first o.steps grew (λ x h. absurd h)

  -- what was given out stays as it is when the leaf is owned
  made_stays : (x : ℕ) → Made a b x → SameContent (c.now x) (b.now x)
  made_stays x m = o.steps.memory x (λ t. ⊎_elim (λ n. n.0 m.1) (λ h. h.0) t)

  -- the new last leaf is another one, and was missing
  was_none : i ≢ size / 8192 → leaf_of leaves i ≡ None
  was_none ne = over.none i (omega (arith, ne, grows))

  mid_none : i ≢ size / 8192 → leaf_of mid_leaves i ≡ None
  mid_none ne = longer.others i ne ∙ was_none ne

  last_at : i ≡ size / 8192 → MatchOption (leaf_of leaves i) (leaf_of mid_leaves i ≡ None) (λ was. Cuts (form_of kind tag rank leaves) size (leaf_of mid_leaves i) was a b)
  last_at e = subst (λ n. MatchOption (leaf_of leaves n) (leaf_of mid_leaves n ≡ None) (λ was. Cuts (form_of kind tag rank leaves) size (leaf_of mid_leaves n) was a b)) (sym e) longer.last

  content_at : i ≡ size / 8192 → (leaf : Option ℕ) → MatchOption leaf (leaf_of mid_leaves i ≡ None) (λ was. Cuts (form_of kind tag rank leaves) size (leaf_of mid_leaves i) was a b)
      → MatchOption leaf (SameContent (c.now at) (blank kind)) (λ x. IsCut (form_of kind tag rank leaves) size i ((c.now at).bytes) ((a.now x).bytes) × ((k : ℕ) → (c.now at).slot k ≡ (a.now x).slot k))
  content_at e None none = subst (λ leaf. MatchOption leaf (SameContent (c.now at) (blank kind)) (λ x. SameContent (c.now at) (b.now x))) none o.content
  content_at e (Some was) cut =
      let same = subst (λ leaf. MatchOption leaf (SameContent (c.now at) (blank kind)) (λ x. SameContent (c.now at) (b.now x))) cut.is o.content in (
        subst (λ n. IsCut (form_of kind tag rank leaves) size n ((c.now at).bytes) ((a.now was).bytes)) (sym e) (subst (λ bytes. IsCut (form_of kind tag rank leaves) size (size / 8192) bytes ((a.now was).bytes)) (sym same.bytes) cut.bytes),
        λ k. same.slots k ∙ cut.slots k,
      )

  next_content : MatchOption (leaf_of leaves i) (SameContent (c.now at) (blank kind)) (λ x. IsCut (form_of kind tag rank leaves) size i ((c.now at).bytes) ((a.now x).bytes) × ((k : ℕ) → (c.now at).slot k ≡ (a.now x).slot k))
  next_content = ⊎_elim
      (λ e. content_at e (leaf_of leaves i) (last_at e))
      (λ ne. subst (λ leaf. MatchOption leaf (SameContent (c.now at) (blank kind)) (λ x. IsCut (form_of kind tag rank leaves) size i ((c.now at).bytes) ((a.now x).bytes) × ((k : ℕ) → (c.now at).slot k ≡ (a.now x).slot k))) (sym (was_none ne))
      (subst (λ leaf. MatchOption leaf (SameContent (c.now at) (blank kind)) (λ x. SameContent (c.now at) (b.now x))) (mid_none ne) o.content))
      (cases_eq i (size / 8192))

  copied_at : i ≡ size / 8192 → (leaf : Option ℕ) → leaf_of leaves i ≡ leaf → MatchOption leaf (leaf_of mid_leaves i ≡ None) (λ was. Cuts (form_of kind tag rank leaves) size (leaf_of mid_leaves i) was a b)
      → MatchOption leaf (Made a c at) (λ x. ((x ≡ at) × ((a.label x).epoch ≡ a.high)) ⊎ (((a.label x).epoch < a.high) × Made a c at))
  copied_at e None f none = then_made at (subst (λ leaf. MatchOption leaf (Made b c at) (λ x. ((x ≡ at) × ((b.label x).epoch ≡ b.high)) ⊎ (((b.label x).epoch < b.high) × Made b c at))) none o.copied)
  copied_at e (Some was) f cut =
      let now = subst (λ leaf. MatchOption leaf (Made b c at) (λ x. ((x ≡ at) × ((b.label x).epoch ≡ b.high)) ⊎ (((b.label x).epoch < b.high) × Made b c at))) cut.is o.copied in
      let high : b.high ≡ a.high = first.all.same_high in
      let was_live : (a.label was).state ≡ Live = live was (subst (λ n. leaf_of leaves n ≡ Some was) e f) in
      let label : b.label was ≡ a.label was = (first.others was (λ m. m.0 was_live)).label in
      ⊎_elim
      (λ same. let epoch : (b.label cut.block).epoch ≡ (a.label was).epoch = ap (λ x. (b.label x).epoch) (sym same) ∙ ap (λ (l : Label). l.epoch) label in ⊎_elim
      (λ h. inl (same ∙ h.0, sym epoch ∙ h.1 ∙ high))
      (λ h. inr (let older : (b.label cut.block).epoch < b.high = h.0 in omega (arith, older, epoch, high), then_made at h.1))
      now)
      (λ made. inr (made.0, ⊎_elim (λ h. subst (λ x. Made a c x) h.0 (first_made cut.block made.1)) (λ h. then_made at h.1) now))
      cut.copied

  next_copied : MatchOption (leaf_of leaves i) (Made a c at) (λ x. ((x ≡ at) × ((a.label x).epoch ≡ a.high)) ⊎ (((a.label x).epoch < a.high) × Made a c at))
  next_copied = ⊎_elim
      (λ e. copied_at e (leaf_of leaves i) refl (last_at e))
      (λ ne. subst (λ leaf. MatchOption leaf (Made a c at) (λ x. ((x ≡ at) × ((a.label x).epoch ≡ a.high)) ⊎ (((a.label x).epoch < a.high) × Made a c at))) (sym (was_none ne))
      (then_made at (subst (λ leaf. MatchOption leaf (Made b c at) (λ x. ((x ≡ at) × ((b.label x).epoch ≡ b.high)) ⊎ (((b.label x).epoch < b.high) × Made b c at))) (mid_none ne) o.copied)))
      (cases_eq i (size / 8192))

  module _ (end_kind : Kind) (end_tag end : ℕ) where
    -- the leaf that was the last stays, or is a copy
    renewed : (j was : ℕ) → j ≢ i → leaf_of leaves j ≡ Some was → j ≡ size / 8192 → Cuts (form_of kind tag rank leaves) size (leaf_of mid_leaves j) was a b
        → StaysLeaf (leaves_of a kind tag size leaves) (leaves_of c end_kind end_tag end new_leaves) j ⊎ Renewed (form_of kind tag rank leaves) size j a c (leaves_of a kind tag size leaves) (leaves_of c end_kind end_tag end new_leaves)
    renewed j was ne e is cut = ⊎_elim
        (λ same. inl (record { at = leaf_other o j ne ∙ cut.is ∙ ap (λ x. Some x) (sym same) ∙ sym e; held = inl refl }))
        (λ made. inr (record {
          last = (⊎_elim (λ lt. lt) (λ le. absurd (never e (over.none j le))) (cases_lt (8192 * j) size), omega (arith, is));
          block = cut.block;
          is = (leaf_other o j ne ∙ cut.is, refl);
          made = first_made cut.block made.1;
          content = subst (λ leaf. MatchOption leaf ⊥ (λ x. ((a.label x).epoch < a.high) × IsCut (form_of kind tag rank leaves) size j ((c.now cut.block).bytes) ((a.now x).bytes) × ((k : ℕ) → (c.now cut.block).slot k ≡ (a.now x).slot k))) (sym e) (
            made.0,
            subst (λ n. IsCut (form_of kind tag rank leaves) size n ((c.now cut.block).bytes) ((a.now was).bytes)) (sym is) (subst (λ bytes. IsCut (form_of kind tag rank leaves) size (size / 8192) bytes ((a.now was).bytes)) (sym (made_stays cut.block made.1).bytes) cut.bytes),
            λ k. (made_stays cut.block made.1).slots k ∙ cut.slots k,
          );
        }))
        cut.copied

    stays_or_renewed : (j : ℕ) (leaf : Option ℕ) → j ≢ i → leaf_of leaves j ≡ leaf → j ≡ size / 8192 → MatchOption leaf (leaf_of mid_leaves j ≡ None) (λ was. Cuts (form_of kind tag rank leaves) size (leaf_of mid_leaves j) was a b)
        → StaysLeaf (leaves_of a kind tag size leaves) (leaves_of c end_kind end_tag end new_leaves) j ⊎ Renewed (form_of kind tag rank leaves) size j a c (leaves_of a kind tag size leaves) (leaves_of c end_kind end_tag end new_leaves)
    stays_or_renewed j None ne e is none = inl (record { at = leaf_other o j ne ∙ none ∙ sym e; held = inl refl })
    stays_or_renewed j (Some was) ne e is cut = renewed j was ne e is cut

    pub owned_next : Owned (form_of kind tag rank leaves) size i at a c (leaves_of a kind tag size leaves) (leaves_of c end_kind end_tag end new_leaves)
    owned_next = record {
      is = leaf_is o;
      others = λ told j ne. ⊎_elim
          (λ e. ⊎_elim (λ stays. inl stays) (λ new. inr (grows, new)) (stays_or_renewed j (leaf_of leaves j) ne refl e
          (subst (λ n. MatchOption (leaf_of leaves n) (leaf_of mid_leaves n ≡ None) (λ was. Cuts (form_of kind tag rank leaves) size (leaf_of mid_leaves n) was a b)) (sym e) longer.last)))
          (λ off. inl (record { at = leaf_other o j ne ∙ longer.others j off; held = inl refl }))
          (cases_eq j (size / 8192));
      content = next_content;
      copied = next_copied;
      label = (o.own.held.labelled.is_live, o.own.held.labelled.has_kind, o.own.held.labelled.has_tag, o.own.current);
      ready = (record { number = i; is = leaf_is o }, o.own.held.is_pinned, o.own.held.long);
    }

-- The leaf of the end is owned, and has zeros behind the end.
module _ (form : Form) (size at : ℕ) (leaves new_leaves : List (Option ℕ)) (zeros : List ℕ) (a b : State) (ends : EndsWithin form size (size / 8192)) (inside : size / 8192 < length leaves)
    (set_is : new_leaves ≡ slice_set leaves (size / 8192) (Some at)) (long : (was : ℕ) → leaf_of leaves (size / 8192) ≡ Some was → length ((a.now was).bytes) ≡ 8192)
    (many : length zeros ≡ 8192 - size % 8192) (zero : (k : ℕ) → slice_index zeros k ≡ 0) (puts : (was : ℕ) → leaf_of leaves (size / 8192) ≡ Some was → PutsOwn a b was at (size % 8192) zeros) where
  last_put : (leaf : Option ℕ) → leaf_of leaves (size / 8192) ≡ leaf → IsSome leaf → MatchOption leaf (leaf_of new_leaves (size / 8192) ≡ None) (λ was. Cuts form size (leaf_of new_leaves (size / 8192)) was a b)
  last_put None e some = absurd (never_none None refl some)
  last_put (Some was) e some =
      let put = puts was e in
      let same : size % 8192 ≡ size - 8192 * (size / 8192) = omega arith in
      record {
        block = at;
        is = subst (λ ls. leaf_of ls (size / 8192) ≡ Some at) (sym set_is) (get_or-set_same leaves (size / 8192) (Some at) None inside);
        bytes = record {
          whole = λ apart. absurd (apart ends);
          cut = λ h. put.bytes ∙ zeros_cut (size % 8192) zeros ((a.now was).bytes) (omega arith) (long was e) many zero ∙ ap (λ n. resized (take n ((a.now was).bytes)) 8192) same;
        };
        slots = put.slots;
        copied = put.copied;
      }

  pub longer_put : IsSome (leaf_of leaves (size / 8192)) → Longer form size leaves new_leaves a b
  longer_put some = record {
    others = λ j ne. subst (λ ls. leaf_of ls j ≡ leaf_of leaves j) (sym set_is) (get_or-set_other leaves (size / 8192) j (Some at) None ne);
    last = last_put (leaf_of leaves (size / 8192)) refl some;
  }
