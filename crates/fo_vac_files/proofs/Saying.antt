-- What the file step says of a file that was reached.
use Rattle.std.proofs.Common.{◌≡◌, ◌∙◌, inl, inr, ℕ, Bool, true, false, List, [], ◌∷◌, length, take, drop, nat_eq, cond, Option, Some, None, Result, Ok, Err, MatchResult, refl, sym, ap, subst, arith}
use Rattle.std.proofs.lemmas.List.FromFn.{length-map-range_with_len}
use Rattle.std.proofs.lemmas.Bool.{eqb-true}
use Rattle.fo_image.specs.Record.{RecordHolds}
use Rattle.fo_world.specs.declared.tree.Node.{Node}
use Rattle.fo_world.specs.declared.tree.Body.{Body}
use Rattle.fo_world.specs.declared.tree.Body.TheVariants.{File, Dir}
use Rattle.fo_world.specs.declared.place.Place.{Place}
use Rattle.fo_world.specs.declared.place.View.{View}
use Rattle.fo_world.specs.declared.place.View.TheVariants.{Archive}
use Rattle.fo_world.specs.declared.place.Info.{Info}
use Rattle.fo_world.specs.declared.error.FileError.{FileError}
use Rattle.fo_world.specs.declared.error.FileError.TheVariants as error
use Rattle.fo_world.specs.Names.{Names}
use Rattle.fo_world.specs.World.{World}
use Rattle.fo_world.specs.Fits.{InfoFits}
use Rattle.fo_world.specs.Chain.{and_then}
use Rattle.fo_world.specs.Tree.{first, named, length_of, is_dir, front, node_of}
use Rattle.fo_world.specs.Step.{reached, as_dir, as_file, by_view, info, info_of, find, file_found, next_name, next_found, next_above, parent, above, view_above, root_at, read, below, path_of}
use Rattle.fo_good.specs.Reading.{stat_in}
use Rattle.fo_vac_files.specs.declared.opened.Opened.{Opened}
use Rattle.fo_vac_walk.specs.Walk.{Holding, byte_of}
use Rattle.fo_vac_dir.specs.declared.choice.Wanted.TheVariants.{Name, Next}
use Rattle.fo_vac_dir.specs.Choice.{test_of}
use Rattle.fo_good.specs.Trees.{size_of}
use Rattle.fo_vac_files.specs.declared.reach.Inside.{Inside}
use Rattle.fo_vac_files.specs.declared.reach.Inside.TheVariants as inside
use Rattle.fo_vac_files.specs.declared.reach.Reached.{Reached}
use Rattle.fo_vac_files.specs.Causes.{IsRefusal, IsLoss, IsSaid, Tells}
use Rattle.fo_vac_files.specs.Stands.{HasInside, Stands, Picks}
use Rattle.fo_vac_files.specs.Told.{length_in, is_dir_in, told_of, told_next, next_in, LeadsHere, HasKind}
use Rattle.fo_vac_files.proofs.Entered.{body_of}

-- what is said ends a longer step
pub said_on : {A B : Type 0} (h : Holding) (o : Opened) (told : Result A FileError) (more : A → Result B FileError) (e : FileError) → IsSaid h o told e → IsSaid h o (and_then told more) e
said_on h o told more e (inl p) = inl (p.0, ap (λ r. and_then r more) p.1)
said_on h o told more e (inr loss) = inr loss

-- ---- what is told

length_is : (h : Holding) (o : Opened) (i : Inside) (body : Body) → HasInside h o i body → length_in i ≡ length_of body
length_is h o (inside.File source) body d = sym (ap length_of d.bytes ∙ length-map-range_with_len (byte_of h d.link) 0 (size_of d.link.slot) ∙ d.is.is.size)
length_is h o (inside.Dir folder) body d = sym (ap length_of d.names)

pub told_is : (h : Holding) (o : Opened) (at : Place) (f : Reached) (n : List ℕ × Node) → Stands h o f n → told_of at f ≡ info_of at n
told_is h o at f n s =
    let len = length_is h o f.inside s.body s.has in
    let here : told_of at f ≡ info_of at (f.named.name, node_of (stat_in f.named) s.body) =
    λ k. record { place = at; name = f.named.name; path = path_of at.view f.named.number; vers = f.named.vers; mode = f.named.mode; atime = f.named.atime; mtime = f.named.mtime; length = len k; uid = f.named.uid; gid = f.named.gid; muid = f.named.muid } in
    here ∙ ap (info_of at) (sym s.is)

pub told_fits : (at : Place) (f : Reached) → RecordHolds f.named → InfoFits (told_of at f)
told_fits at f holds = record {
  name = record { some = holds.name_is.some; short = holds.name_is.within; text = holds.name_is.is_text };
  uid = record { some = holds.uid_is.some; short = holds.uid_is.within; text = holds.uid_is.is_text };
  gid = record { some = holds.gid_is.some; short = holds.gid_is.within; text = holds.gid_is.is_text };
  muid = record { some = holds.muid_is.some; short = holds.muid_is.within; text = holds.muid_is.is_text };
}

pub info_told : (h : Holding) (o : Opened) (w : World) (at : Place) (f : Reached) → LeadsHere h o (reached false w at) f → info false w at ≡ Ok (told_of at f, w)
info_told h o w at f l = ap (λ (r : Result (List ℕ × Node) FileError). and_then r (λ n. Ok (info_of at n, w))) l.is ∙ ap (λ (i : Info). Ok (i, w)) (sym (told_is h o at f l.node l.stands))

-- ---- in a directory

apart : true ≡ false → ⊥
apart e = cc

not_dir : (h : Holding) (o : Opened) (i : Inside) (body : Body) → HasInside h o i body → is_dir_in i ≡ false → as_dir body ≡ Err error.NotDir
not_dir h o (inside.File source) body d file = ap as_dir d.bytes
not_dir h o (inside.Dir folder) body d file = absurd (apart file)

pub not_dir_said : (h : Holding) (o : Opened) (test : List ℕ → ℕ → Bool) (w : World) (at : Place) (f : Reached) (e : FileError) → LeadsHere h o (reached false w at) f → is_dir_in f.inside ≡ false → e ≡ error.NotDir → IsSaid h o (next_in test w at) e
not_dir_said h o test w at f e l file is =
    inl (
      subst IsRefusal (sym is) tt,
      ap (λ (r : Result (List ℕ × Node) FileError). and_then r (λ (n : List ℕ × Node). and_then (as_dir n.1.body) (λ names. next_found w at (first test names)))) l.is
          ∙ ap (λ (r : Result Names FileError). and_then r (λ names. next_found w at (first test names))) (ap as_dir (body_of h o f l.node l.stands) ∙ not_dir h o f.inside l.stands.body l.stands.has file)
          ∙ ap Err (sym is),
    )

next_told : (h : Holding) (o : Opened) (w : World) (at : Place) (there : Option (List ℕ × Node)) (found : Option Reached) → Picks h o there found → next_found w at there ≡ Ok (told_next at found, w)
next_told h o w at None None p = refl
next_told h o w at None (Some f) p = absurd p
next_told h o w at (Some n) None p = absurd p
next_told h o w at (Some n) (Some f) s =
    let number : n.1.number ≡ f.named.number = ap (λ (m : List ℕ × Node). m.1.number) s.is in
    ap (λ k. Ok (Some (info_of (below at k) n), w)) number ∙ ap (λ (i : Info). Ok (Some i, w)) (sym (told_is h o (below at f.named.number) f n s))

-- the names of the directory that was reached
pub next_is : (h : Holding) (o : Opened) (test : List ℕ → ℕ → Bool) (w : World) (at : Place) (f : Reached) (names : Names) (found : Option Reached) (l : LeadsHere h o (reached false w at) f)
    → l.node.1.body ≡ Dir names → Picks h o (first test names) found → next_in test w at ≡ Ok (told_next at found, w)
next_is h o test w at f names found l is p =
    ap (λ (r : Result (List ℕ × Node) FileError). and_then r (λ (n : List ℕ × Node). and_then (as_dir n.1.body) (λ ns. next_found w at (first test ns)))) l.is
    ∙ ap (λ b. and_then (as_dir b) (λ ns. next_found w at (first test ns))) is
    ∙ next_told h o w at (first test names) found p

-- ---- by name

abbrev found_or : Option Info × World → Result (Info × World) FileError
found_or (None, w) = Err error.Absent
found_or (Some i, w) = Ok (i, w)

same_found : (w : World) (at : Place) (there : Option (List ℕ × Node)) → file_found w at there ≡ and_then (next_found w at there) found_or
same_found w at None = refl
same_found w at (Some n) = refl

find_body : (e : ℕ) (w : World) (at : Place) (name : List ℕ) (more : Bool → ℕ → ℕ → Result (Info × World) FileError) → at.view ≡ Archive e → (b : Body)
    → and_then (as_dir b) (λ names. by_view at.view (file_found w at (named name names)) more) ≡ and_then (and_then (as_dir b) (λ names. next_found w at (first (test_of (Name name)) names))) found_or
find_body e w at name more is (File bytes) = refl
find_body e w at name more is (Dir names) = ap (λ (v : View). by_view v (file_found w at (named name names)) more) is ∙ same_found w at (named name names)

find_from : (e : ℕ) (w : World) (at : Place) (name : List ℕ) (more : Bool → ℕ → ℕ → Result (Info × World) FileError) → at.view ≡ Archive e → (r : Result (List ℕ × Node) FileError)
    → and_then r (λ f. and_then (as_dir f.1.body) (λ names. by_view at.view (file_found w at (named name names)) more)) ≡ and_then (and_then r (λ f. and_then (as_dir f.1.body) (λ names. next_found w at (first (test_of (Name name)) names)))) found_or
find_from e w at name more is (Ok f) = find_body e w at name more is f.1.body
find_from e w at name more is (Err why) = refl

find_of : (e : ℕ) (w : World) (at : Place) (name : List ℕ) → at.view ≡ Archive e → find false w at name ≡ and_then (next_in (test_of (Name name)) w at) found_or
unfolding find
find_of e w at name is = find_from e w at name _ is (reached false w at)

pub find_said : (h : Holding) (o : Opened) (ep : ℕ) (w : World) (at : Place) (name : List ℕ) (e : FileError) → at.view ≡ Archive ep → IsSaid h o (next_in (test_of (Name name)) w at) e → IsSaid h o (find false w at name) e
find_said h o ep w at name e is s = subst (λ (r : Result (Info × World) FileError). IsSaid h o r e) (sym (find_of ep w at name is)) (said_on h o (next_in (test_of (Name name)) w at) found_or e s)

pub find_some : (ep : ℕ) (w : World) (at : Place) (name : List ℕ) (i : Info) → at.view ≡ Archive ep → next_in (test_of (Name name)) w at ≡ Ok (Some i, w) → find false w at name ≡ Ok (i, w)
find_some ep w at name i is told = find_of ep w at name is ∙ ap (λ (r : Result (Option Info × World) FileError). and_then r found_or) told

pub find_none : (h : Holding) (o : Opened) (ep : ℕ) (w : World) (at : Place) (name : List ℕ) → at.view ≡ Archive ep → next_in (test_of (Name name)) w at ≡ Ok (None, w) → IsSaid h o (find false w at name) error.Absent
find_none h o ep w at name is told = inl (tt, find_of ep w at name is ∙ ap (λ (r : Result (Option Info × World) FileError). and_then r found_or) told)

next_body : (e : ℕ) (w : World) (at : Place) (after : Option (List ℕ)) (more : Bool → ℕ → ℕ → Result (Option Info × World) FileError) → at.view ≡ Archive e → (b : Body)
    → and_then (as_dir b) (λ names. by_view at.view (next_found w at (next_above after names)) more) ≡ and_then (as_dir b) (λ names. next_found w at (first (test_of (Next after)) names))
next_body e w at after more is (File bytes) = refl
next_body e w at after more is (Dir names) = ap (λ (v : View). by_view v (next_found w at (next_above after names)) more) is

next_from : (e : ℕ) (w : World) (at : Place) (after : Option (List ℕ)) (more : Bool → ℕ → ℕ → Result (Option Info × World) FileError) → at.view ≡ Archive e → (r : Result (List ℕ × Node) FileError)
    → and_then r (λ f. and_then (as_dir f.1.body) (λ names. by_view at.view (next_found w at (next_above after names)) more)) ≡ and_then r (λ f. and_then (as_dir f.1.body) (λ names. next_found w at (first (test_of (Next after)) names)))
next_from e w at after more is (Ok f) = next_body e w at after more is f.1.body
next_from e w at after more is (Err why) = refl

next_of : (e : ℕ) (w : World) (at : Place) (after : Option (List ℕ)) → at.view ≡ Archive e → next_name false w at after ≡ next_in (test_of (Next after)) w at
unfolding next_name
next_of e w at after is = next_from e w at after _ is (reached false w at)

pub next_tells : (h : Holding) (o : Opened) (e : ℕ) (w : World) (at : Place) (after : Option (List ℕ)) (r : Result (Option Info) FileError) → at.view ≡ Archive e → Tells h o (next_in (test_of (Next after)) w at) w r → Tells h o (next_name false w at after) w r
next_tells h o e w at after r is t = subst (λ (told : Result (Option Info × World) FileError). Tells h o told w r) (sym (next_of e w at after is)) t

-- ---- above

none_front : (trail : List ℕ) → length trail ≡ 0 → [] ≡ front trail
none_front [] is = refl
none_front (k ∷ ks) is = absurd (omega (arith, is))

above_is : (e : ℕ) (w : World) (at : Place) → at.view ≡ Archive e → above false w at ≡ record { view = at.view; trail = front at.trail }
above_is e w at is = by (nat_eq (length at.trail) 0) refl
  where
    same : view_above false w at.view ≡ at.view
    same = ap (view_above false w) is ∙ sym is

    by : (b : Bool) → nat_eq (length at.trail) 0 ≡ b → cond b (root_at (view_above false w at.view)) (record { view = at.view; trail = front at.trail }) ≡ record { view = at.view; trail = front at.trail }
    by true z = λ k. record { view = same k; trail = none_front at.trail (eqb-true (length at.trail) 0 z) k }
    by false z = refl

pub parent_said : (h : Holding) (o : Opened) (w : World) (at : Place) (e : FileError) → IsSaid h o (reached false w at) e → IsSaid h o (parent false w at) e
unfolding parent
parent_said h o w at e s = said_on h o (reached false w at) (λ f. info false w (above false w at)) e s

pub parent_tells : (h : Holding) (o : Opened) (e : ℕ) (w : World) (at up : Place) (f : Reached) (r : Result Info FileError) → at.view ≡ Archive e → up.view ≡ at.view → up.trail ≡ front at.trail → LeadsHere h o (reached false w at) f → Tells h o (info false w up) w r → Tells h o (parent false w at) w r
unfolding parent
parent_tells h o e w at up f r is view trail l t =
    let there : up ≡ record { view = at.view; trail = front at.trail } = λ k. record { view = view k; trail = trail k } in
    let same : up ≡ above false w at = there ∙ sym (above_is e w at is) in
    subst (λ (q : Result (List ℕ × Node) FileError). Tells h o (and_then q (λ n. info false w (above false w at))) w r) (sym l.is) (subst (λ (p : Place). Tells h o (info false w p) w r) same t)

-- ---- bytes

pub read_said : (h : Holding) (o : Opened) (w : World) (at : Place) (offset count : ℕ) (e : FileError) → IsSaid h o (reached false w at) e → IsSaid h o (read false w at offset count) e
unfolding read
read_said h o w at offset count e s = said_on h o (reached false w at) _ e s

pub read_dir : (h : Holding) (o : Opened) (w : World) (at : Place) (offset count : ℕ) (f : Reached) (names : Names) (l : LeadsHere h o (reached false w at) f) → l.node.1.body ≡ Dir names → read false w at offset count ≡ Err error.IsDir
unfolding read
read_dir h o w at offset count f names l is =
    ap (λ (r : Result (List ℕ × Node) FileError). and_then r (λ (n : List ℕ × Node). and_then (as_file n.1.body) (λ bytes. Ok (take count (drop offset bytes), w)))) l.is
    ∙ ap (λ b. and_then (as_file b) (λ bytes. Ok (take count (drop offset bytes), w))) is

pub read_file : (h : Holding) (o : Opened) (w : World) (at : Place) (offset count : ℕ) (f : Reached) (bytes given : List ℕ) (l : LeadsHere h o (reached false w at) f) → l.node.1.body ≡ File bytes → given ≡ take count (drop offset bytes) → read false w at offset count ≡ Ok (given, w)
unfolding read
read_file h o w at offset count f bytes given l is same =
    ap (λ (r : Result (List ℕ × Node) FileError). and_then r (λ (n : List ℕ × Node). and_then (as_file n.1.body) (λ bytes. Ok (take count (drop offset bytes), w)))) l.is
    ∙ ap (λ b. and_then (as_file b) (λ bytes. Ok (take count (drop offset bytes), w))) is
    ∙ ap (λ (bs : List ℕ). Ok (bs, w)) (sym same)

-- ---- kinds

kind_in : (h : Holding) (o : Opened) (i : Inside) (body : Body) → HasInside h o i body → is_dir body ≡ is_dir_in i
kind_in h o (inside.File source) body d = ap is_dir d.bytes
kind_in h o (inside.Dir folder) body d = ap is_dir d.names

pub kind_is : (h : Holding) (o : Opened) (where_to : Result (List ℕ × Node) FileError) (f : Reached) → LeadsHere h o where_to f → HasKind where_to (is_dir_in f.inside)
kind_is h o where_to f l = record { node = l.node; is = l.is; kind = ap is_dir (body_of h o f l.node l.stands) ∙ kind_in h o f.inside l.stands.body l.stands.has }

pub read_given : (h : Holding) (o : Opened) (w : World) (at : Place) (offset count : ℕ) (f : Reached) (new bytes : List ℕ) (l : LeadsHere h o (reached false w at) f) → l.node.1.body ≡ File bytes → (r : Result ℕ FileError)
    → MatchResult r (λ n. take n new ≡ take count (drop offset bytes)) (IsLoss h o) → MatchResult r (λ n. read false w at offset count ≡ Ok (take n new, w)) (IsSaid h o (read false w at offset count))
read_given h o w at offset count f new bytes l is (Ok n) given = read_file h o w at offset count f bytes (take n new) l is given
read_given h o w at offset count f new bytes l is (Err e) loss = inr loss
