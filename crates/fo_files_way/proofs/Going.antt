-- Levels of a plan are owned one after another.
use Rattle.std.proofs.Common.{◌≡◌, ◌⊎◌, ◌+◌, ◌<◌, ◌≤◌, ◌++◌, ℕ, List, [], ◌∷◌, length, get_or, inl, inr, ⊎_elim, refl, sym, ap, subst, ◌∙◌, append_assoc, arith}
use Rattle.fo_image.specs.declared.types.Label.{Label}
use Rattle.std.proofs.lemmas.Bool.{cases_eq}
use Rattle.fo_ports.specs.State.{State, KeepsAll}
use Rattle.fo_ports.specs.Sources.{Made, most_to_own}
use Rattle.fo_files_way.specs.declared.plan.Level.{Level}
use Rattle.fo_files_way.specs.Plan.{MayOwnAll, most_for_levels}
use Rattle.fo_files_way.specs.Owns.{Owns, IsTag, IsIn, IsAboveOf, IsAboveLeaves, IsFreeOf, AreCarried, AreLinked, AreCurrent, IsOwned}
use Rattle.fo_files_way.proofs.Joining.{owns_wider, owns_joins, made_first, made_second}
use Rattle.fo_files_way.proofs.Next.{may_next, carried, own_tag, linked_next, next_level}
use Rattle.std.proofs.lemmas.List.{append-nil}

-- The levels before number k were owned, and these are left.
pub record Going (s u : State) (k : ℕ) (all rest : List Level) (old at tags : List ℕ) : Type 0 where
  pub keeps : KeepsAll s u
  pub may : MayOwnAll u k at tags rest
  pub owns : Owns (IsIn old) (IsAboveLeaves all) (IsTag tags) s u
  pub stays : (i : ℕ) → i < length old → (get_or at i 0 ≡ get_or old i 0) ⊎ Made s u (get_or at i 0)
  pub has : AreCarried s u all old at
  pub done : List Level
  pub split : all ≡ done ++ rest
  pub so_many : length done ≡ k
  pub linked : AreLinked u at 0 done
  pub free : (i j : ℕ) → IsFreeOf all i j → IsFreeOf rest i j
  pub spare : s.spare + most_for_levels rest ≤ u.spare + most_for_levels all
  pub enough : most_for_levels rest ≤ u.spare

nothing : (s : State) (b : ℕ) → Made s s b → ⊥
nothing s b made = made.0 made.1

owns_none : (s : State) (here : ℕ → Type 0) (labels : Label → Type 0) (tags : ℕ → Type 0) → Owns here labels tags s s
owns_none s here labels tags = record {
  memory = λ b no put. record { bytes = refl; slots = λ i. refl };
  made = λ b made. absurd (nothing s b made);
  others = λ b no. record { label = refl; marks = (λ h. h, λ h. h, λ h. h) };
  apart = λ b no h. h;
  waits = λ a on j no none h. h;
  no_wait = record { each = λ a on j no h. h };
  clearing = λ b j h. (nothing s b, h);
  goes_on = λ b j no h. h;
  dirty = λ b h. inl h;
  moments = refl;
  left = λ k image h. h;
  pins = refl;
  room = refl;
  usable = refl;
  numbers = record { next = refl; grants = λ h. h };
}

pub going_none : (s : State) (all : List Level) (at tags : List ℕ) → KeepsAll s s → MayOwnAll s 0 at tags all → most_for_levels all ≤ s.spare → Going s s 0 all all at at tags
going_none s all at tags keeps may enough = record {
  keeps = keeps;
  may = may;
  owns = owns_none s (IsIn at) (IsAboveLeaves all) (IsTag tags);
  stays = λ i lt. inl refl;
  has = record {
    count = refl;
    root = refl;
    carries = λ i lt. record { kind = refl; tag = refl; bytes = refl; clearing = λ j h. h };
    slots = λ i j lt free. refl;
  };
  done = [];
  split = refl;
  so_many = refl;
  linked = tt;
  free = λ i j free. free;
  spare = omega arith;
  enough = enough;
}

keeps_joins : {a b c : State} → KeepsAll a b → KeepsAll b c → KeepsAll a c
keeps_joins p q = record {
  same_high = q.same_high ∙ p.same_high;
  same_low = q.same_low ∙ p.same_low;
  same_root = q.same_root ∙ p.same_root;
  same_tops = λ t. (λ h. (p.same_tops t).0 ((q.same_tops t).0 h), λ h. (q.same_tops t).1 ((p.same_tops t).1 h));
  same_blocks = λ b. (λ h. (p.same_blocks b).0 ((q.same_blocks b).0 h), λ h. (q.same_blocks b).1 ((p.same_blocks b).1 h));
  same_held = λ score kind. q.same_held score kind ∙ p.same_held score kind;
  same_limit = λ c. q.same_limit c ∙ p.same_limit c;
  same_label_blocks = λ b. q.same_label_blocks b ∙ p.same_label_blocks b;
  still_tells = (λ h. p.still_tells.0 (q.still_tells.0 h), λ h. q.still_tells.1 (p.still_tells.1 h));
  more_faults = let first = p.more_faults in let second = q.more_faults in omega (arith, first, second);
  more_arena_faults = let first = p.more_arena_faults in let second = q.more_arena_faults in omega (arith, first, second);
}

one_more : (done : List Level) (l : Level) → length (done ++ l ∷ []) ≡ length done + 1
one_more [] l = refl
one_more (x ∷ done) l = let more = one_more done l in omega (arith, more)

above_in : (done rest : List Level) (x : Level) (label : Label) → IsAboveOf x.source label → IsAboveLeaves (done ++ x ∷ rest) label
above_in [] rest x label is = inl is
above_in (y ∷ done) rest x label is = inr (above_in done rest x label is)

pub going_next : (s m u : State) (k : ℕ) (all : List Level) (l : Level) (rest : List Level) (old at new tags : List ℕ) → (s.tells → ⊥) → Going s m k all (l ∷ rest) old at tags → KeepsAll m u → IsOwned m u l k at new
    → m.spare ≤ u.spare + most_to_own l.source.ways.tree.size l.leaf → Going s u (k + 1) all rest old new tags
going_next s m u k all l rest old at new tags silent going more owned took =
    let quiet : m.tells → ⊥ = λ h. silent (going.keeps.still_tells.0 h) in
    let root : get_or at 0 0 ≡ get_or old 0 0 = going.has.root in
    let level = next_level going.may in
    let above : l.above < length old = subst (λ n. l.above < n) going.has.count level.1 in
    let step : Owns (λ b. IsIn old b ⊎ Made s m b) (IsAboveLeaves all) (IsTag tags) m u = owns_wider
    (λ b is. ⊎_elim (λ same. inl (l.above, above, sym same ∙ sym is)) (λ made. inr (subst (λ c. Made s m c) (sym is) made)) (going.stays l.above above))
    (λ label is. subst (λ xs. IsAboveLeaves xs label) (sym going.split) (above_in going.done rest l label is))
    (own_tag quiet more going.may owned.one owned.sets) owned.one.owns in
    let count = going.may.count in
    record {
      keeps = keeps_joins going.keeps more;
      may = may_next quiet more going.may owned.one owned.sets;
      owns = owns_joins going.keeps more going.owns step;
      stays = λ i lt. ⊎_elim
          (λ is. subst (λ n. (get_or new n 0 ≡ get_or old n 0) ⊎ Made s u (get_or new n 0)) (sym is)
          (subst (λ c. (c ≡ get_or old (k + 1) 0) ⊎ Made s u c) (sym owned.sets.here) (⊎_elim
          (λ one. ⊎_elim (λ same. inl (one ∙ same)) (λ made. inr (subst (λ c. Made s u c) (sym one) (made_first going.keeps more going.owns step (get_or at (k + 1) 0) made))) (going.stays (k + 1) (subst (λ n. n < length old) is lt)))
          (λ copy. inr (made_second going.keeps more going.owns step owned.leaf copy))
          (owned.one.copied (get_or at (k + 1) 0) level.0))))
          (λ ne. subst (λ c. (c ≡ get_or old i 0) ⊎ Made s u c) (sym (owned.sets.others i ne)) (⊎_elim (λ same. inl same) (λ made. inr (made_first going.keeps more going.owns step (get_or at i 0) made)) (going.stays i lt)))
          (cases_eq i (k + 1));
      has = record {
        count = owned.sets.count ∙ going.has.count;
        root = owned.sets.others 0 (λ e. omega (arith, e)) ∙ root;
        carries = λ i lt. let c = (carried quiet more going.may owned.one owned.sets i (subst (λ n. i < n) (sym going.has.count) lt)).0 in let was = going.has.carries i lt in record {
          kind = c.kind ∙ was.kind;
          tag = c.tag ∙ was.tag;
          bytes = c.bytes ∙ was.bytes;
          clearing = λ j h. was.clearing j (c.clearing j h);
        };
        slots = λ i j lt free. (carried quiet more going.may owned.one owned.sets i (subst (λ n. i < n) (sym going.has.count) lt)).1 j (going.free i j free).0 ∙ going.has.slots i j lt free;
      };
      done = going.done ++ l ∷ [];
      split = going.split ∙ sym (append_assoc going.done (l ∷ []) rest);
      so_many = one_more going.done l ∙ ap (λ n. n + 1) going.so_many;
      linked = linked_next quiet more going.may owned.one owned.sets going.done going.so_many going.linked;
      free = λ i j free. (going.free i j free).1;
      spare = let spare = going.spare in omega (arith, spare, took);
      enough = let enough = going.enough in omega (arith, enough, took);
    }

-- all were owned
pub going_all : (s u : State) (k : ℕ) (all : List Level) (old at tags : List ℕ) → Going s u k all [] old at tags → AreCurrent u tags at
going_all s u k all old at tags going = record {
  held = going.may.held;
  current = λ i lt. let count = going.may.count in going.may.current i (omega (arith, lt, count));
}

-- so each hangs from the block above it
pub linked_all : (s u : State) (k : ℕ) (all : List Level) (old at tags : List ℕ) → Going s u k all [] old at tags → AreLinked u at 0 all
linked_all s u k all old at tags going = subst (λ xs. AreLinked u at 0 xs) (sym (going.split ∙ append-nil going.done)) going.linked
