-- A source of a directory at a trail of slot pairs is that at the end of a trail of entries.
use Rattle.std.proofs.Common.{◌≡◌, ℕ, ◌+◌, ◌*◌, ◌/◌, ◌%◌, ◌^◌, ◌<◌, List, [], ◌∷◌, length, refl, sym, ◌∙◌, ap, subst, arith}
use Rattle.fo_image.specs.declared.types.Pointer.TheVariants.{Local}
use Rattle.fo_crash.specs.declared.slot.Slot.{Slot}
use Rattle.fo_crash.specs.Images.{Image, Arena, Link, target, goes, step, to_block, from_block, kind_of_top, depth_of, leaf_path, entry_of, file_link}
use Rattle.fo_dir_images.specs.Leaves.{Side, Entries, Records, records_link, source_link, HasWay, IsLeafOf}
use Rattle.fo_dir_images.proofs.Trailing.{link_of, Rooms, AtTrail}

-- the numbers of the entries on the way, the last one first
abbrev along_entries : List ℕ → List ℕ → List ℕ
along_entries way [] = way
along_entries way (pair ∷ trail) = along_entries (2 * pair ∷ way) trail

abbrev pub along_records : List ℕ → List ℕ → List ℕ → List ℕ
along_records way meta [] = meta
along_records way meta (pair ∷ trail) = along_records (2 * pair ∷ way) ((2 * pair + 1) ∷ way) trail

abbrev pub numbers : Side → List ℕ → List ℕ
numbers Entries trail = along_entries (0 ∷ 0 ∷ []) trail
numbers Records trail = along_records (0 ∷ 0 ∷ []) (1 ∷ 0 ∷ []) trail

-- ---- one list, one source

first_is : {m n : ℕ} {xs ys : List ℕ} → m ∷ xs ≡ n ∷ ys → m ≡ n
first_is e = cc

rest_is : {m n : ℕ} {xs ys : List ℕ} → m ∷ xs ≡ n ∷ ys → xs ≡ ys
rest_is e = cc

both : {i j : ℕ} {p q : List ℕ} → i ≡ j → p ≡ q → i ∷ p ≡ j ∷ q
both {i} {j} {p} {q} e f = ap (λ k. k ∷ p) e ∙ ap (λ k. j ∷ k) f

long : (way trail : List ℕ) → length (along_entries way trail) ≡ length way + length trail
long way [] = omega arith
long way (pair ∷ trail) = let e = long (2 * pair ∷ way) trail in omega (arith, e)

same_entries : (trail other way back : List ℕ) → length way ≡ length back → along_entries way trail ≡ along_entries back other → (way ≡ back) × (trail ≡ other)
same_entries [] [] way back l e = (e, refl)
same_entries [] (pair ∷ other) way back l e = let more = long back (pair ∷ other) in let same = ap length e in absurd (omega (arith, l, more, same))
same_entries (pair ∷ trail) [] way back l e = let more = long way (pair ∷ trail) in let same = ap length e in absurd (omega (arith, l, more, same))
same_entries (pair ∷ trail) (next ∷ other) way back l e =
    let rest = same_entries trail other (2 * pair ∷ way) (2 * next ∷ back) (omega (arith, l)) e in
    let twice = first_is rest.0 in
    (rest_is rest.0, both (omega (arith, twice)) rest.1)

-- the second entry of the pair in place of the first
abbrev raised : List ℕ → List ℕ
raised [] = []
raised (e ∷ way) = (e + 1) ∷ way

unraised : (way back : List ℕ) → raised way ≡ raised back → way ≡ back
unraised [] [] e = refl
unraised [] (x ∷ back) e = absurd (cc)
unraised (x ∷ way) [] e = absurd (cc)
unraised (x ∷ way) (y ∷ back) e = let more = first_is e in both (omega (arith, more)) (rest_is e)

records_raised : (trail way meta : List ℕ) → meta ≡ raised way → along_records way meta trail ≡ raised (along_entries way trail)
records_raised [] way meta e = e
records_raised (pair ∷ trail) way meta e = records_raised trail (2 * pair ∷ way) ((2 * pair + 1) ∷ way) refl

abbrev IsEven : List ℕ → Type 0
IsEven [] = ⊥
IsEven (e ∷ way) = e % 2 ≡ 0

entries_even : (trail way : List ℕ) → IsEven way → IsEven (along_entries way trail)
entries_even [] way e = e
entries_even (pair ∷ trail) way e = entries_even trail (2 * pair ∷ way) (omega arith)

never : (way : List ℕ) → IsEven way → IsEven (raised way) → ⊥
never [] e f = e
never (x ∷ way) e f = omega (arith, e, f)

apart : (trail other : List ℕ) → numbers Entries trail ≡ numbers Records other → ⊥
apart trail other e = never (numbers Entries other) (entries_even other (0 ∷ 0 ∷ []) refl)
    (subst IsEven (e ∙ records_raised other (0 ∷ 0 ∷ []) (1 ∷ 0 ∷ []) refl) (entries_even trail (0 ∷ 0 ∷ []) refl))

pub one_source : (side other : Side) (trail way : List ℕ) → numbers side trail ≡ numbers other way → (side ≡ other) × (trail ≡ way)
one_source Entries Entries trail way e = (refl, (same_entries trail way (0 ∷ 0 ∷ []) (0 ∷ 0 ∷ []) refl e).1)
one_source Entries Records trail way e = absurd (apart trail way e)
one_source Records Entries trail way e = absurd (apart way trail (sym e))
one_source Records Records trail way e = (refl, (same_entries trail way (0 ∷ 0 ∷ []) (0 ∷ 0 ∷ []) refl (unraised (numbers Entries trail) (numbers Entries way) (sym (records_raised trail (0 ∷ 0 ∷ []) (1 ∷ 0 ∷ []) refl) ∙ e ∙ records_raised way (0 ∷ 0 ∷ []) (1 ∷ 0 ∷ []) refl))).1)

-- ---- links

half : (pair : ℕ) → 2 * pair / 204 ≡ pair / 102
half pair = omega arith

half_more : (pair : ℕ) → (2 * pair + 1) / 204 ≡ pair / 102
half_more pair = omega arith

module _ (arena : Arena) (image : Image) where
  entries_are : (trail way : List ℕ) → file_link arena image (link_of arena image way) trail ≡ link_of arena image (along_entries way trail)
  entries_are [] way = refl
  entries_are (pair ∷ trail) way = entries_are trail (2 * pair ∷ way)

  records_are : (trail way meta : List ℕ) → records_link arena image (link_of arena image way) (link_of arena image meta) trail ≡ link_of arena image (along_records way meta trail)
  records_are [] way meta = refl
  records_are (pair ∷ trail) way meta = records_are trail (2 * pair ∷ way) ((2 * pair + 1) ∷ way)

  abbrev Within : List ℕ → ℕ → Type 0
  Within way leaf = leaf < 409 ^ depth_of (link_of arena image way).slot

  -- the pairs on the way lie within the depths that hold them
  entries_rooms : (trail way : List ℕ) → Rooms arena image way → HasWay arena image (link_of arena image way) trail → Rooms arena image (along_entries way trail)
  entries_rooms [] way r h = r
  entries_rooms (pair ∷ trail) way r h = entries_rooms trail (2 * pair ∷ way) (subst (λ x. Within way x) (sym (half pair)) h.0, r) h.1

  records_rooms : (trail way meta : List ℕ) → Rooms arena image way → Rooms arena image meta → HasWay arena image (link_of arena image way) trail → Rooms arena image (along_records way meta trail)
  records_rooms [] way meta r m h = m
  records_rooms (pair ∷ trail) way meta r m h = records_rooms trail (2 * pair ∷ way) ((2 * pair + 1) ∷ way) (subst (λ x. Within way x) (sym (half pair)) h.0, r) (subst (λ x. Within way x) (sym (half_more pair)) h.0, r) h.1

  entries_way : (trail way : List ℕ) → Rooms arena image (along_entries way trail) → Rooms arena image way × HasWay arena image (link_of arena image way) trail
  entries_way [] way r = (r, tt)
  entries_way (pair ∷ trail) way r =
      let rest = entries_way trail (2 * pair ∷ way) r in
      (rest.0.1, (subst (λ x. Within way x) (half pair) rest.0.0, rest.1))

  records_front : (trail way meta : List ℕ) → (Rooms arena image meta → Rooms arena image way) → Rooms arena image (along_records way meta trail) → Rooms arena image way
  records_front [] way meta f r = f r
  records_front (pair ∷ trail) way meta f r = (records_front trail (2 * pair ∷ way) ((2 * pair + 1) ∷ way) (λ m. (subst (λ x. Within way x) (half_more pair ∙ sym (half pair)) m.0, m.1)) r).1

  records_way : (trail way meta : List ℕ) → Rooms arena image (along_records way meta trail) → HasWay arena image (link_of arena image way) trail
  records_way [] way meta r = tt
  records_way (pair ∷ trail) way meta r =
      let rest = records_front trail (2 * pair ∷ way) ((2 * pair + 1) ∷ way) (λ m. (subst (λ x. Within way x) (half_more pair ∙ sym (half pair)) m.0, m.1)) r in
      (subst (λ x. Within way x) (half pair) rest.0, records_way trail (2 * pair ∷ way) ((2 * pair + 1) ∷ way) r)

  module _ (root : ℕ) (named : (image 1).slot 0 ≡ to_block root) where
    root_link : link_of arena image (0 ∷ []) ≡ from_block root
    root_link = ap (λ (s : Slot). record { kind = kind_of_top s; slot = s }) named

    pub entries_top : link_of arena image (0 ∷ 0 ∷ []) ≡ step arena image (from_block root) 0
    entries_top = ap (λ w. entry_of arena image w 0) root_link

    pub records_top : link_of arena image (1 ∷ 0 ∷ []) ≡ step arena image (from_block root) 1
    records_top = ap (λ w. entry_of arena image w 1) root_link

    root_room : 0 < 409 ^ depth_of (link_of arena image (0 ∷ [])).slot
    root_room = subst (λ (s : Slot). 0 < 409 ^ depth_of s) (sym named) (omega arith)

    super_room : 0 < 409 ^ depth_of (link_of arena image []).slot
    super_room = omega arith

    pub entries_begin : Rooms arena image (0 ∷ 0 ∷ [])
    entries_begin = (root_room, (super_room, tt))

    pub records_begin : Rooms arena image (1 ∷ 0 ∷ [])
    records_begin = (root_room, (super_room, tt))

    pub source_is : (side : Side) (trail : List ℕ) → source_link side arena image root trail ≡ link_of arena image (numbers side trail)
    source_is Entries trail = ap (λ w. file_link arena image w trail) (sym entries_top) ∙ entries_are trail (0 ∷ 0 ∷ [])
    source_is Records trail =
        ap (λ w. records_link arena image w (step arena image (from_block root) 1) trail) (sym entries_top)
        ∙ ap (λ w. records_link arena image (link_of arena image (0 ∷ 0 ∷ [])) w trail) (sym records_top)
        ∙ records_are trail (0 ∷ 0 ∷ []) (1 ∷ 0 ∷ [])

    pub rooms_of : (side : Side) (trail : List ℕ) → HasWay arena image (step arena image (from_block root) 0) trail → Rooms arena image (numbers side trail)
    rooms_of Entries trail h = entries_rooms trail (0 ∷ 0 ∷ []) entries_begin (subst (λ w. HasWay arena image w trail) (sym entries_top) h)
    rooms_of Records trail h = records_rooms trail (0 ∷ 0 ∷ []) (1 ∷ 0 ∷ []) entries_begin records_begin (subst (λ w. HasWay arena image w trail) (sym entries_top) h)

    way_of : (side : Side) (trail : List ℕ) → Rooms arena image (numbers side trail) → HasWay arena image (step arena image (from_block root) 0) trail
    way_of Entries trail r = subst (λ w. HasWay arena image w trail) entries_top (entries_way trail (0 ∷ 0 ∷ []) r).1
    way_of Records trail r = subst (λ w. HasWay arena image w trail) entries_top (records_way trail (0 ∷ 0 ∷ []) (1 ∷ 0 ∷ []) r)

    pub to_trail : (side : Side) (trail : List ℕ) (n b : ℕ) → IsLeafOf side arena image root trail n b → AtTrail arena image (numbers side trail) n b
    to_trail side trail n b leaf = record {
      rooms = rooms_of side trail leaf.way;
      room = subst (λ (w : Link). n < 409 ^ depth_of w.slot) (source_is side trail) leaf.room;
      leads = subst (λ (w : Link). target ((goes arena image w (leaf_path w.slot n)).slot) ≡ Local b) (source_is side trail) leaf.leads;
    }

    pub from_trail : (side : Side) (trail : List ℕ) (n b : ℕ) → AtTrail arena image (numbers side trail) n b → IsLeafOf side arena image root trail n b
    from_trail side trail n b leaf = record {
      way = way_of side trail leaf.rooms;
      room = subst (λ (w : Link). n < 409 ^ depth_of w.slot) (sym (source_is side trail)) leaf.room;
      leads = subst (λ (w : Link). target ((goes arena image w (leaf_path w.slot n)).slot) ≡ Local b) (sym (source_is side trail)) leaf.leads;
    }
