-- The numbers of all files to which names lead, while directories are walked: each is that of another record.
use Rattle.std.proofs.Common.{◌≡◌, ◌⊎◌, ⊎_elim, inl, inr, ℕ, zero, suc, ◌+◌, ◌-◌, ◌*◌, ◌<◌, ◌≤◌, Bool, true, List, [], ◌∷◌, ◌++◌, map, length, length-append, get_or, IsPermutation, Option, Some, refl, sym, ap, ◌∙◌, subst, arith}
use Rattle.std.specs.List.{Any}
use Rattle.std.proofs.lemmas.Bool.{cases_lt}
use Rattle.std.proofs.lemmas.List.{length-map, get_or_append_left, get_or-append-add, get_or-map}
use Rattle.fo_disk.specs.Disk.{Block}
use Rattle.fo_image.specs.declared.types.Kind.{Kind}
use Rattle.fo_image.specs.declared.types.Kind.TheVariants.{Data}
use Rattle.fo_image.specs.declared.types.Label.{Label}
use Rattle.fo_image.specs.declared.types.Super.{Super}
use Rattle.fo_image.specs.declared.types.Pointer.TheVariants.{Local}
use Rattle.fo_image.specs.declared.record.Record.{Record}
use Rattle.fo_crash.specs.Images.{Image, Arena, Link, target, goes, leaf_path, entry_of as entry_at}
use Rattle.fo_sound.specs.Image.{block_of}
use Rattle.fo_good.specs.Trees.{IsDir}
use Rattle.fo_good.specs.Trees.IsDir.{top as dir_top, below as dir_below}
use Rattle.fo_good.specs.Sound.{Kept}
use Rattle.fo_check_names.specs.Names.{named_in, number_in, number_of, holder_of, IsTwice, IsNoFile}
use Rattle.fo_check_names.specs.declared.names.Named.{Named}
use Rattle.fo_check_names.specs.declared.names.Number.{Number}
use Rattle.fo_check_names.proofs.Moved.{moved}
use Rattle.fo_check_tree.specs.declared.broken.Broken.{Broken}
use Rattle.fo_check_labels.specs.declared.labels.Known.{Known}
use Rattle.fo_check_tree.specs.declared.walk.Folder.{Folder}
use Rattle.fo_check_tree.specs.declared.walk.Step.{Step}
use Rattle.fo_check_tree.specs.declared.walk.Walk.{Walk}
use Rattle.fo_check_tree.specs.Answer.{BreaksNumbers, NamesNumbers}
use Rattle.fo_check_tree.specs.Answer.BreaksNumbers.{outside as breaks_outside, twice as breaks_twice}
use Rattle.fo_check_tree.specs.Follows.{Reaches, Follows}
use Rattle.fo_check_tree.specs.Follows.Reaches.{again, enters}
use Rattle.fo_check_tree.specs.Follows.Follows.{nowhere, held, local}
use Rattle.fo_check_tree.specs.Listing.{AddsNamed, Adds, IsInSource, IsListing}
use Rattle.fo_check_tree.specs.Listing.AddsNamed.{none as added_none, some as added_some}
use Rattle.fo_check_tree.specs.Lower.{level}
use Rattle.fo_check_tree.specs.Numbers.{AreFresh, IsNumberAt, AreNumbers}
use Rattle.fo_check_tree.specs.Pairing.{IsListedAt, AreInOrder, IsOfDir}
use Rattle.fo_check_tree.specs.Pairing.{MissesBy}
use Rattle.fo_check_tree.specs.Walking.{Reached, Walking}
use Rattle.fo_check_tree.proofs.Leaves.{one_source}
use Rattle.fo_check_tree.proofs.Reaching.{reached_kept, not_before, reached_new}

-- ---- one trail leads to one directory

cons_parts : (a b : ℕ) (p q : List ℕ) → a ∷ p ≡ b ∷ q → (a ≡ b) × (p ≡ q)
cons_parts a b p q e = (cc, cc)

nil_cons : {a : ℕ} {p : List ℕ} → [] ≡ a ∷ p → ⊥
nil_cons e = cc

nil_end : (t : List ℕ) (x : ℕ) → [] ≡ t ++ x ∷ [] → ⊥
nil_end [] x e = nil_cons e
nil_end (y ∷ t) x e = nil_cons e

end_parts : (t u : List ℕ) (x y : ℕ) → t ++ x ∷ [] ≡ u ++ y ∷ [] → (t ≡ u) × (x ≡ y)
end_parts [] [] x y e = (refl, (cons_parts x y [] [] e).0)
end_parts [] (b ∷ u) x y e = absurd (nil_end u y (cons_parts x b [] (u ++ y ∷ []) e).1)
end_parts (a ∷ t) [] x y e = absurd (nil_end t x (sym (cons_parts a y (t ++ x ∷ []) [] e).1))
end_parts (a ∷ t) (b ∷ u) x y e =
    let c = cons_parts a b (t ++ x ∷ []) (u ++ y ∷ []) e in
    let r = end_parts t u x y c.1 in
    (ap (λ (n : ℕ). n ∷ t) c.0 ∙ ap (λ (p : List ℕ). b ∷ p) r.0, r.1)

module _ (arena : Arena) (image : Image) (root : ℕ) where
  one_dir : (trail other : List ℕ) (entries meta entries' meta' : Link) → IsDir arena image root trail entries meta → IsDir arena image root other entries' meta' → trail ≡ other → (entries ≡ entries') × (meta ≡ meta')
  one_dir trail other entries meta entries' meta' dir_top dir_top e = (refl, refl)
  one_dir trail other entries meta entries' meta' dir_top (dir_below t v m n j r dir h mode) e = absurd (nil_end t r.slot e)
  one_dir trail other entries meta entries' meta' (dir_below t v m n j r dir h mode) dir_top e = absurd (nil_end t r.slot (sym e))
  one_dir trail other entries meta entries' meta' (dir_below t v m n j r dir h mode) (dir_below t' v' m' n' j' r' dir' h' mode') e =
      let p = end_parts t t' r.slot r'.slot e in
      let same = one_dir t t' v m v' m' dir dir' p.0 in (
        ap (λ (u : Link). entry_at arena image u (2 * r.slot)) same.0 ∙ ap (λ (x : ℕ). entry_at arena image v' (2 * x)) p.1,
        ap (λ (u : Link). entry_at arena image u (2 * r.slot + 1)) same.0 ∙ ap (λ (x : ℕ). entry_at arena image v' (2 * x + 1)) p.1,
      )

-- ---- records of leaves that are new

pub fresh_moved : (before known : List Known) (xs ys : List Named) → IsPermutation xs ys → AreFresh before known xs → AreFresh before known ys
fresh_moved before known xs ys p a =
    let m = moved xs ys p in
    record {
      kept = a.kept;
      fresh = λ i d lt l h. a.fresh (m.from i) d (m.within i lt) l (subst (λ (x : Named). Reached before x.leaf l) (m.is i d lt) h);
      seen = λ i d lt. let s = a.seen (m.from i) d (m.within i lt) in (s.0, subst (λ (x : Named). Reached known x.leaf s.0) (sym (m.is i d lt)) s.1);
    }

pub fresh_first : (known : List Known) → AreFresh known known []
fresh_first known = record { kept = λ at l h. h; fresh = λ i d lt l h. omega (arith, lt); seen = λ i d lt. absurd (omega (arith, lt)) }

module _ (arena : Arena) (device : List Block) (image : Image) (s : Super) (k : Kept) (rest : List Step) (step : Step) (old new : Walk) (w : Walking arena device image s k (step ∷ rest) old) (depth : ℕ) (named : Bool) where
  pub reached_on : Follows device image depth named step old new → (at : ℕ) (l : Label) → Reached old.labels.known.items at l → Reached new.labels.known.items at l
  reached_on (nowhere nil same) at l h = subst (λ (v : Walk). Reached v.labels.known.items at l) (sym same) h
  reached_on (held x is same) at l h = subst (λ (v : Walk). Reached v.labels.known.items at l) (sym same) h
  reached_on (local here is r) at l h = by r
    where
      by : Reaches device image depth named step here old new → Reached new.labels.known.items at l
      by (again m allowed marks same same' noted kept) = subst (λ (ks : List Known). Reached ks at l) (sym marks.same) h
      by (enters m allowed marks steps folders notes read adds leafs seeks bytes deeps clean asks eights heads) = reached_kept old.labels.known.items new.labels.known.items here w.goes.table.up marks at l h

  module _ (meta : Link) (listing : IsListing arena image k meta old.labels.known.items (old.steps.items ++ step ∷ []) old.named.items) (before : List Known) (a : AreFresh before old.labels.known.items old.named.items) where
    same_fresh : (known : List Known) (names : List Named) → ((at : ℕ) (l : Label) → Reached old.labels.known.items at l → Reached known at l) → names ≡ old.named.items → AreFresh before known names
    same_fresh known names kept is = subst (λ (xs : List Named). AreFresh before known xs) (sym is) (record {
      kept = λ at l h. kept at l (a.kept at l h);
      fresh = a.fresh;
      seen = λ i d lt. let x = a.seen i d lt in (x.0, kept (get_or old.named.items i d).leaf x.0 x.1);
    })

    after_block : (at : ℕ) → step.pointer ≡ Local at → Reaches device image depth named step at old new → AreFresh before new.labels.known.items new.named.items
    after_block at is (again m allowed marks same same' noted kept) =
        let o : IsInSource arena image meta step = one_source arena image w.holds.empty k meta old.labels.known.items old.steps.items step old.named.items listing in
        same_fresh new.labels.known.items new.named.items (λ b l h. subst (λ (ks : List Known). Reached ks b l) (sym marks.same) h) (subst (λ (d : Kind). MissesBy step d old.named.items new.named.items) o.kind kept)
    after_block at is (enters m allowed marks steps folders notes read adds leafs seeks bytes deeps clean asks eights heads) = by o.level o.kind
      where
        o : IsInSource arena image meta step
        o = one_source arena image w.holds.empty k meta old.labels.known.items old.steps.items step old.named.items listing

        kept' : (b : ℕ) (l : Label) → Reached old.labels.known.items b l → Reached new.labels.known.items b l
        kept' b l h = reached_kept old.labels.known.items new.labels.known.items at w.goes.table.up marks b l h

        by_names : AddsNamed step at (block_of device at) old.named.items new.named.items → AreFresh before new.labels.known.items new.named.items
        by_names (added_none same past) = same_fresh new.labels.known.items new.named.items kept' same
        by_names (added_some records spelled within grown) = subst (λ (xs : List Named). AreFresh before new.labels.known.items xs) (sym grown) (record {
          kept = λ b l h. kept' b l (a.kept b l h);
          fresh = λ i d lt l h. ⊎_elim
              (λ (less : i < length old.named.items). a.fresh i d less l (subst (λ (x : Named). Reached before x.leaf l) (get_or_append_left old.named.items (map (named_in at) records) d i less) h))
              (λ (ge : length old.named.items ≤ i). not_before old.labels.known.items new.labels.known.items at w.goes.table.up marks l (a.kept at l (subst (λ (n : ℕ). Reached before n l) (leaf_is i d lt ge) h)))
              (cases_lt i (length old.named.items));
          seen = λ i d lt. ⊎_elim
              (λ (less : i < length old.named.items).
              let x = a.seen i d less in
              (x.0, subst (λ (y : Named). Reached new.labels.known.items y.leaf x.0) (sym (get_or_append_left old.named.items (map (named_in at) records) d i less)) (kept' (get_or old.named.items i d).leaf x.0 x.1)))
              (λ (ge : length old.named.items ≤ i). (m, subst (λ (n : ℕ). Reached new.labels.known.items n m) (sym (leaf_is i d lt ge)) (reached_new old.labels.known.items new.labels.known.items at w.goes.table.up marks m allowed.known)))
              (cases_lt i (length old.named.items));
        })
          where
            leaf_is : (i : ℕ) (d : Named) → i < length (old.named.items ++ map (named_in at) records) → length old.named.items ≤ i → (get_or (old.named.items ++ map (named_in at) records) i d).leaf ≡ at
            leaf_is i d lt ge =
                let p : ℕ = i - length old.named.items in
                let number : i ≡ length old.named.items + p = omega (arith, ge) in
                let all : length (old.named.items ++ map (named_in at) records) ≡ length old.named.items + length (map (named_in at) records) = length-append old.named.items (map (named_in at) records) in
                let many : length (map (named_in at) records) ≡ length records = length-map records (named_in at) in
                leaf_at records p d (omega (arith, lt, all, many, number)) (ap (λ (n : ℕ). get_or (old.named.items ++ map (named_in at) records) n d) number ∙ get_or-append-add old.named.items (map (named_in at) records) p d)
              where
                leaf_at : (rs : List Record) (p : ℕ) (d : Named) → p < length rs → {x : Named} → x ≡ get_or (map (named_in at) rs) p d → x.leaf ≡ at
                leaf_at [] p d lt' e = absurd (omega (arith, lt'))
                leaf_at (r ∷ rs) p d lt' e = ap (λ (y : Named). y.leaf) (e ∙ get_or-map (named_in at) (r ∷ rs) p r d lt')

        by : (down : ℕ) → step.kind ≡ Data down → AreFresh before new.labels.known.items new.named.items
        by zero kind = by_names (subst (λ (d : Kind). Adds step at (block_of device at) d old.named.items new.named.items) kind adds)
        by (suc down) kind = same_fresh new.labels.known.items new.named.items kept' (subst (λ (d : Kind). Adds step at (block_of device at) d old.named.items new.named.items) kind adds)

    pub fresh_on : Follows device image depth named step old new → AreFresh before new.labels.known.items new.named.items
    fresh_on (nowhere nil same) = subst (λ (v : Walk). AreFresh before v.labels.known.items v.named.items) (sym same) (same_fresh old.labels.known.items old.named.items (λ at l h. h) refl)
    fresh_on (held x is same) = subst (λ (v : Walk). AreFresh before v.labels.known.items v.named.items) (sym same) (same_fresh old.labels.known.items old.named.items (λ at l h. h) refl)
    fresh_on (local at is r) = after_block at is r

-- ---- numbers of one directory more

join : (n : ℕ) (f g : ℕ → ℕ) (i : ℕ) → (i < n) ⊎ (n ≤ i) → ℕ
join n f g i (inl lt) = f i
join n f g i (inr ge) = g (i - n)

module _ (arena : Arena) (image : Image) (k : Kept) where
  pub numbers_none : (known : List Known) → AreNumbers arena image k known []
  numbers_none known = record { place = λ i. 0; each = λ i d lt. absurd (omega (arith, lt)); own = λ i j d li lj other same h. omega (arith, li); seen = λ i d lt. absurd (omega (arith, lt)) }

  pub numbers_seen : (before known : List Known) (numbers : List Number) → ((at : ℕ) (l : Label) → Reached before at l → Reached known at l) → AreNumbers arena image k before numbers → AreNumbers arena image k known numbers
  numbers_seen before known numbers kept a = record { place = a.place; each = a.each; own = a.own; seen = λ i d lt. let x = a.seen i d lt in (x.0, kept (get_or numbers i d).leaf x.0 x.1) }

  module _ (before known : List Known) (numbers : List Number) (a : AreNumbers arena image k before numbers) (f : Folder) (d : IsOfDir arena image k f) (noted : Option Broken) (names : List Named) (o : AreInOrder arena image k d.meta true noted names) (fresh : AreFresh before known names) where
    long : length (numbers ++ map number_in names) ≡ length numbers + length names
    long = let e : length (map number_in names) ≡ length names = length-map names number_in in omega (arith, length-append numbers (map number_in names), e)

    -- an element that came, by its record
    came : (i : ℕ) (x : Number) (n : Named) → length numbers ≤ i → i < length (numbers ++ map number_in names) → get_or (numbers ++ map number_in names) i x ≡ number_in (get_or names (i - length numbers) n)
    came i x n ge lt =
        let number : i ≡ length numbers + (i - length numbers) = omega (arith, ge) in
        ap (λ (j : ℕ). get_or (numbers ++ map number_in names) j x) number ∙ get_or-append-add numbers (map number_in names) (i - length numbers) x
        ∙ get_or-map number_in names (i - length numbers) n x (omega (arith, lt, long, ge))

    stays : (i : ℕ) (x : Number) → i < length numbers → get_or (numbers ++ map number_in names) i x ≡ get_or numbers i x
    stays i x lt = get_or_append_left numbers (map number_in names) x i lt

    some_of : (xs : List Named) (p : ℕ) → p < length xs → Named
    some_of [] p lt = absurd (omega (arith, lt))
    some_of (x ∷ xs) p lt = x

    each_by : (i : ℕ) (x : Number) → i < length (numbers ++ map number_in names) → (c : (i < length numbers) ⊎ (length numbers ≤ i)) → IsNumberAt arena image k (join (length numbers) a.place o.place i c) (get_or (numbers ++ map number_in names) i x)
    unfolding join
    each_by i x lt (inl less) = subst (λ (y : Number). IsNumberAt arena image k (a.place i) y) (sym (stays i x less)) (a.each i x less)
    each_by i x lt (inr ge) =
        let p : ℕ = i - length numbers in
        let n : Named = some_of names p (omega (arith, lt, long, ge)) in
        let l : IsListedAt arena image d.meta (o.place p) (get_or names p n) = o.places p n (omega (arith, lt, long, ge)) in
        subst (λ (y : Number). IsNumberAt arena image k (o.place p) y) (sym (came i x n ge lt)) (record {
          one = (get_or names p n).listed;
          has = record { trail = d.trail; entries = d.entries; meta = d.meta; leaf = l.leaf; place = o.place p; dir = d.dir; lists = l.lists; leads = l.leads };
          place_is = refl;
          number = refl;
        })

    -- a leaf that was counted before is none of those that came
    two_lists : (i j : ℕ) (x : Number) → i < length numbers → length numbers ≤ j → j < length (numbers ++ map number_in names) → (get_or (numbers ++ map number_in names) i x).leaf ≡ (get_or (numbers ++ map number_in names) j x).leaf → ⊥
    two_lists i j x less ge lj same =
        let q : ℕ = j - length numbers in
        let n : Named = some_of names q (omega (arith, lj, long, ge)) in
        let seen = a.seen i x less in
        let leaf : (get_or numbers i x).leaf ≡ (get_or names q n).leaf = sym (ap (λ (y : Number). y.leaf) (stays i x less)) ∙ same ∙ ap (λ (y : Number). y.leaf) (came j x n ge lj) in
        fresh.fresh q n (omega (arith, lj, long, ge)) seen.0 (subst (λ (b : ℕ). Reached before b seen.0) leaf seen.1)

    own_by : (i j : ℕ) (x : Number) → i < length (numbers ++ map number_in names) → j < length (numbers ++ map number_in names) → (i ≡ j → ⊥) → (get_or (numbers ++ map number_in names) i x).leaf ≡ (get_or (numbers ++ map number_in names) j x).leaf
        → (c : (i < length numbers) ⊎ (length numbers ≤ i)) (e : (j < length numbers) ⊎ (length numbers ≤ j)) → join (length numbers) a.place o.place i c ≡ join (length numbers) a.place o.place j e → ⊥
    unfolding join
    own_by i j x li lj other same (inl less) (inl less') h = a.own i j x less less' other (sym (ap (λ (y : Number). y.leaf) (stays i x less)) ∙ same ∙ ap (λ (y : Number). y.leaf) (stays j x less')) h
    own_by i j x li lj other same (inl less) (inr ge) h = two_lists i j x less ge lj same
    own_by i j x li lj other same (inr ge) (inl less) h = two_lists j i x less ge li (sym same)
    own_by i j x li lj other same (inr ge) (inr ge') h =
        let p : ℕ = i - length numbers in
        let q : ℕ = j - length numbers in
        let n : Named = some_of names p (omega (arith, li, long, ge)) in
        o.own p q n (omega (arith, li, long, ge)) (omega (arith, lj, long, ge')) (λ e. other (omega (arith, e, ge, ge'))) (sym (ap (λ (y : Number). y.leaf) (came i x n ge li)) ∙ same ∙ ap (λ (y : Number). y.leaf) (came j x n ge' lj)) h

    seen_by : (i : ℕ) (x : Number) → i < length (numbers ++ map number_in names) → (c : (i < length numbers) ⊎ (length numbers ≤ i)) → (l : Label) × Reached known (get_or (numbers ++ map number_in names) i x).leaf l
    seen_by i x lt (inl less) =
        let seen = a.seen i x less in
        (seen.0, subst (λ (y : Number). Reached known y.leaf seen.0) (sym (stays i x less)) (fresh.kept (get_or numbers i x).leaf seen.0 seen.1))
    seen_by i x lt (inr ge) =
        let p : ℕ = i - length numbers in
        let n : Named = some_of names p (omega (arith, lt, long, ge)) in
        let seen = fresh.seen p n (omega (arith, lt, long, ge)) in
        (seen.0, subst (λ (y : Number). Reached known y.leaf seen.0) (sym (came i x n ge lt)) seen.1)

    pub numbers_more : AreNumbers arena image k known (numbers ++ map number_in names)
    numbers_more = record {
      place = λ i. join (length numbers) a.place o.place i (cases_lt i (length numbers));
      each = λ i x lt. each_by i x lt (cases_lt i (length numbers));
      own = λ i j x li lj other same h. own_by i j x li lj other same (cases_lt i (length numbers)) (cases_lt j (length numbers)) h;
      seen = λ i x lt. seen_by i x lt (cases_lt i (length numbers));
    }

  -- ---- what is noted of all numbers

  local_is : (a b : ℕ) → Local a ≡ Local b → a ≡ b
  local_is a b e = cc

  module _ (known : List Known) (numbers : List Number) (a : AreNumbers arena image k known numbers) (limit : ℕ) where
    outside_at : (at : ℕ) → Any (IsNoFile limit at) numbers → BreaksNumbers arena image k limit at
    outside_at at h =
        let x : IsNumberAt arena image k (a.place h.0) h.1 = subst (λ (y : Number). IsNumberAt arena image k (a.place h.0) y) h.3 (a.each h.0 h.1 h.2) in
        subst (λ (b : ℕ). BreaksNumbers arena image k limit b) h.4.leaf_is (breaks_outside h.1.leaf x.one x.has (λ file. h.4.outside (record { least = omega (arith, file.0, x.number); below = omega (arith, file.1, x.number) })))

    twice_at : (at : ℕ) → IsTwice number_of holder_of numbers at → BreaksNumbers arena image k limit at
    twice_at at w =
        let d : Number = record { number = 0; leaf = 0 } in
        let p : IsNumberAt arena image k (a.place w.second) (get_or numbers w.second d) = a.each w.second d w.within in
        let q : IsNumberAt arena image k (a.place w.first) (get_or numbers w.first d) = a.each w.first d w.before in
        subst (λ (b : ℕ). BreaksNumbers arena image k limit b) (w.leaf_is d)
        (breaks_twice (get_or numbers w.second d).leaf (get_or numbers w.first d).leaf p.one q.one p.has q.has (p.number ∙ sym (w.same d) ∙ sym q.number)
        (λ same.
        let metas : p.has.meta ≡ q.has.meta = (one_dir arena image k.at p.has.trail q.has.trail p.has.entries p.has.meta q.has.entries q.has.meta p.has.dir q.has.dir same.0).1 in
        let blocks = sym p.has.leads ∙ ap (λ (u : Link). target ((goes arena image u (leaf_path u.slot p.has.leaf)).slot)) metas ∙ ap (λ (n : ℕ). target ((goes arena image q.has.meta (leaf_path q.has.meta.slot n)).slot)) same.1 ∙ q.has.leads in
        a.own w.second w.first d w.within w.before (λ e. w.apart (sym e)) (local_is (get_or numbers w.second d).leaf (get_or numbers w.first d).leaf blocks) (sym p.place_is ∙ same.2 ∙ q.place_is)))

  pub names_numbers : (limit : ℕ) (old new : Option Broken) (known : List Known) (numbers : List Number) → (6 < level old → AreNumbers arena image k known numbers)
      → ((b : Broken) → new ≡ Some b → b.rule ≡ 8 → (old ≡ Some b) ⊎ ((8 < level old) × (Any (IsNoFile limit b.block) numbers ⊎ IsTwice number_of holder_of numbers b.block))) → NamesNumbers arena image k limit old → NamesNumbers arena image k limit new
  names_numbers limit old new known numbers a notes n = record {
    each = λ b e eight. ⊎_elim
        (λ (before : old ≡ Some b). n.each b before eight)
        (λ (now : (8 < level old) × (Any (IsNoFile limit b.block) numbers ⊎ IsTwice number_of holder_of numbers b.block)).
        let all : AreNumbers arena image k known numbers = a (omega (arith, now.0)) in
        ⊎_elim (λ (x : Any (IsNoFile limit b.block) numbers). outside_at known numbers all limit b.block x) (λ (y : IsTwice number_of holder_of numbers b.block). twice_at known numbers all limit b.block y) now.1)
        (notes b e eight);
  }
