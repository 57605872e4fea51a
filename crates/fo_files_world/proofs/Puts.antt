-- Names that are put, taken out and changed, in any order of the records.
use Rattle.std.proofs.Common.{◌≡◌, ◌∙◌, ℕ, suc, ◌+◌, length, arith, Bool, true, false, cond, List, [], ◌∷◌, ◌++◌, refl, sym, ap}
use Rattle.std.specs.Prelude.{nat_eq}
use Rattle.std.proofs.lemmas.Cmp.{nat_list_cmp_total}
use Rattle.std.proofs.lemmas.Map.Text.{is_eq-slice_cmp}
use Rattle.std.specs.Cmp.Lexicographic.{slice_cmp}
use Rattle.std.specs.Ordering.{nat_cmp, is_lt, is_eq, ordering_reverse}
use Rattle.std.specs.declared.cmp.Ordering.{Ordering}
use Rattle.std.specs.declared.cmp.Ordering.TheVariants.{Less, Equal, Greater}
use Rattle.std.specs.Str.{bytes_eq}
use Rattle.fo_image.specs.declared.record.Record.{Record}
use Rattle.fo_crash.specs.Images.{Arena, Image, Link}
use Rattle.fo_world.specs.declared.tree.Node.{Node}
use Rattle.fo_world.specs.declared.tree.Body.{Body}
use Rattle.fo_world.specs.declared.tree.Body.TheVariants.{File, Dir}
use Rattle.fo_world.specs.Names.{Stat, Names, no_names, file, folder}
use Rattle.fo_world.specs.Tree.{stat_of, node_of, and_body, and_node, comes_before, put_name, without, change_first, name_count}
use Rattle.fo_good.specs.Reading.{names_in, stat_in, body_in}
use Rattle.fo_files_world.specs.Same.{LackName, LackNumber}
use Rattle.fo_files_world.proofs.Order.{ranks, contrary, before_all}

-- one of two names that differ comes before the other
pub one_before : (a b : List ℕ) → comes_before a b ≡ false → bytes_eq a b ≡ false → comes_before b a ≡ true
one_before a b before differs = ap is_lt (nat_list_cmp_total.antisymm b a) ∙ go (slice_cmp nat_cmp a b) before (is_eq-slice_cmp a b ∙ differs)
  where
    go : (o : Ordering) → is_lt o ≡ false → is_eq o ≡ false → is_lt (ordering_reverse o) ≡ true
    go Less h k = cc
    go Equal h k = cc
    go Greater h k = refl

-- ---- a name is put before the first that comes after it

put_and : (k : List ℕ) (n : Node) (c : List ℕ) (s : Stat) (body : Body) (rest : Names) → put_name k n (and_body c s body rest) ≡ cond (comes_before k c) (and_node k n (and_body c s body rest)) (and_body c s body (put_name k n rest))
put_and k n c s (File bytes) rest = refl
put_and k n c s (Dir inside) rest = refl

front : (k : List ℕ) (n : Node) (c : List ℕ) (s : Stat) (body : Body) (rest : Names) → comes_before k c ≡ true → put_name k n (and_body c s body rest) ≡ and_node k n (and_body c s body rest)
front k n c s body rest e = put_and k n c s body rest ∙ ap (λ v. cond v (and_node k n (and_body c s body rest)) (and_body c s body (put_name k n rest))) e

behind : (k : List ℕ) (n : Node) (c : List ℕ) (s : Stat) (body : Body) (rest : Names) → comes_before k c ≡ false → put_name k n (and_body c s body rest) ≡ and_body c s body (put_name k n rest)
behind k n c s body rest e = put_and k n c s body rest ∙ ap (λ v. cond v (and_node k n (and_body c s body rest)) (and_body c s body (put_name k n rest))) e

module _ (a b : List ℕ) (x y : Node) (lt : comes_before a b ≡ true) where
  two_step : (c : List ℕ) (s : Stat) (body : Body) (rest : Names) → put_name a x (put_name b y rest) ≡ put_name b y (put_name a x rest)
      → put_name a x (put_name b y (and_body c s body rest)) ≡ put_name b y (put_name a x (and_body c s body rest))
  two_step c s body rest ih = ap (put_name a x) (put_and b y c s body rest) ∙ by (comes_before b c) (comes_before a c) refl refl ∙ sym (ap (put_name b y) (put_and a x c s body rest))
    where
      by : (p q : Bool) → comes_before b c ≡ p → comes_before a c ≡ q → put_name a x (cond p (and_node b y (and_body c s body rest)) (and_body c s body (put_name b y rest))) ≡ put_name b y (cond q (and_node a x (and_body c s body rest)) (and_body c s body (put_name a x rest)))
      by true true e d = front a x b (stat_of y) y.body (and_body c s body rest) lt ∙ sym (behind b y a (stat_of x) x.body (and_body c s body rest) (ranks.one_way a b lt) ∙ ap (and_node a x) (front b y c s body rest e))
      by true false e d = absurd (contrary (comes_before a c) (before_all a b c lt e) d)
      by false true e d = front a x c s body (put_name b y rest) d ∙ sym (behind b y a (stat_of x) x.body (and_body c s body rest) (ranks.one_way a b lt) ∙ ap (and_node a x) (behind b y c s body rest e))
      by false false e d = behind a x c s body (put_name b y rest) d ∙ ap (and_body c s body) ih ∙ sym (behind b y c s body (put_name a x rest) e)

  put_two : (ns : Names) → put_name a x (put_name b y ns) ≡ put_name b y (put_name a x ns)
  put_two no_names = front a x b (stat_of y) y.body no_names lt ∙ sym (behind b y a (stat_of x) x.body no_names (ranks.one_way a b lt))
  put_two (file c s bytes rest) = two_step c s (File bytes) rest (put_two rest)
  put_two (folder c s inside rest) = two_step c s (Dir inside) rest (put_two rest)

-- two names that differ may be put in either order
pub put_swap : (a b : List ℕ) (x y : Node) (ns : Names) → bytes_eq a b ≡ false → put_name a x (put_name b y ns) ≡ put_name b y (put_name a x ns)
put_swap a b x y ns differ = by (comes_before a b) refl
  where
    by : (v : Bool) → comes_before a b ≡ v → put_name a x (put_name b y ns) ≡ put_name b y (put_name a x ns)
    by true e = put_two a b x y e ns
    by false e = sym (put_two b a y x (one_before a b e differ) ns)

-- ---- taking out what was put

without_and : (k c : List ℕ) (s : Stat) (body : Body) (rest : Names) → without k (and_body c s body rest) ≡ cond (bytes_eq c k) rest (and_body c s body (without k rest))
without_and k c s (File bytes) rest = refl
without_and k c s (Dir inside) rest = refl

name_itself : (k : List ℕ) → bytes_eq k k ≡ true
name_itself k = sym (is_eq-slice_cmp k k) ∙ same (slice_cmp nat_cmp k k) (ap is_lt (nat_list_cmp_total.antisymm k k))
  where
    same : (o : Ordering) → is_lt o ≡ is_lt (ordering_reverse o) → is_eq o ≡ true
    same Less h = cc
    same Equal h = refl
    same Greater h = cc

-- no name of these is this one
abbrev pub NamesLack : List ℕ → Names → Type 0
NamesLack k no_names = Unit {0}
NamesLack k (file name stat bytes rest) = (bytes_eq name k ≡ false) × NamesLack k rest
NamesLack k (folder name stat inside rest) = (bytes_eq name k ≡ false) × NamesLack k rest

taken_front : (k : List ℕ) (n : Node) (rest : Names) → without k (and_node k n rest) ≡ rest
taken_front k n rest = without_and k k (stat_of n) n.body rest ∙ ap (λ v. cond v rest (and_node k n (without k rest))) (name_itself k)

taken_step : (k : List ℕ) (n : Node) (c : List ℕ) (s : Stat) (body : Body) (rest : Names) → bytes_eq c k ≡ false → without k (put_name k n rest) ≡ rest → without k (put_name k n (and_body c s body rest)) ≡ and_body c s body rest
taken_step k n c s body rest differ ih = ap (without k) (put_and k n c s body rest) ∙ by (comes_before k c)
  where
    by : (v : Bool) → without k (cond v (and_node k n (and_body c s body rest)) (and_body c s body (put_name k n rest))) ≡ and_body c s body rest
    by true = taken_front k n (and_body c s body rest)
    by false = without_and k c s body (put_name k n rest) ∙ ap (λ v. cond v (put_name k n rest) (and_body c s body (without k (put_name k n rest)))) differ ∙ ap (and_body c s body) ih

pub without_put : (k : List ℕ) (n : Node) (ns : Names) → NamesLack k ns → without k (put_name k n ns) ≡ ns
without_put k n no_names lack = taken_front k n no_names
without_put k n (file c s bytes rest) lack = taken_step k n c s (File bytes) rest lack.0 (without_put k n rest lack.1)
without_put k n (folder c s inside rest) lack = taken_step k n c s (Dir inside) rest lack.0 (without_put k n rest lack.1)

lack_and : (k c : List ℕ) (s : Stat) (body : Body) (rest : Names) → bytes_eq c k ≡ false → NamesLack k rest → NamesLack k (and_body c s body rest)
lack_and k c s (File bytes) rest differ lack = (differ, lack)
lack_and k c s (Dir inside) rest differ lack = (differ, lack)

lack_put : (k c : List ℕ) (n : Node) (ns : Names) → bytes_eq c k ≡ false → NamesLack k ns → NamesLack k (put_name c n ns)
lack_put k c n no_names differ lack = lack_and k c (stat_of n) n.body no_names differ tt
lack_put k c n (file d s bytes rest) differ lack = by (comes_before c d) (lack_put k c n rest differ lack.1)
  where
    by : (v : Bool) → NamesLack k (put_name c n rest) → NamesLack k (cond v (and_node c n (file d s bytes rest)) (file d s bytes (put_name c n rest)))
    by true ih = lack_and k c (stat_of n) n.body (file d s bytes rest) differ lack
    by false ih = (lack.0, ih)
lack_put k c n (folder d s inside rest) differ lack = by (comes_before c d) (lack_put k c n rest differ lack.1)
  where
    by : (v : Bool) → NamesLack k (put_name c n rest) → NamesLack k (cond v (and_node c n (folder d s inside rest)) (folder d s inside (put_name c n rest)))
    by true ih = lack_and k c (stat_of n) n.body (folder d s inside rest) differ lack
    by false ih = (lack.0, ih)

-- ---- a file of a number is changed

change_and : (k : ℕ) (f : Node → Node) (c : List ℕ) (s : Stat) (body : Body) (rest : Names) → change_first k f (and_body c s body rest) ≡ cond (nat_eq s.number k) (and_node c (f (node_of s body)) rest) (and_body c s body (change_first k f rest))
change_and k f c s (File bytes) rest = refl
change_and k f c s (Dir inside) rest = refl

-- no file of these has this number
abbrev pub NumbersLack : ℕ → Names → Type 0
NumbersLack k no_names = Unit {0}
NumbersLack k (file name stat bytes rest) = (nat_eq stat.number k ≡ false) × NumbersLack k rest
NumbersLack k (folder name stat inside rest) = (nat_eq stat.number k ≡ false) × NumbersLack k rest

numbers_and : (k : ℕ) (c : List ℕ) (s : Stat) (body : Body) (rest : Names) → nat_eq s.number k ≡ false → NumbersLack k rest → NumbersLack k (and_body c s body rest)
numbers_and k c s (File bytes) rest differ lack = (differ, lack)
numbers_and k c s (Dir inside) rest differ lack = (differ, lack)

numbers_put : (k : ℕ) (c : List ℕ) (n : Node) (ns : Names) → nat_eq n.number k ≡ false → NumbersLack k ns → NumbersLack k (put_name c n ns)
numbers_put k c n no_names differ lack = numbers_and k c (stat_of n) n.body no_names differ tt
numbers_put k c n (file d s bytes rest) differ lack = by (comes_before c d) (numbers_put k c n rest differ lack.1)
  where
    by : (v : Bool) → NumbersLack k (put_name c n rest) → NumbersLack k (cond v (and_node c n (file d s bytes rest)) (file d s bytes (put_name c n rest)))
    by true ih = numbers_and k c (stat_of n) n.body (file d s bytes rest) differ lack
    by false ih = (lack.0, ih)
numbers_put k c n (folder d s inside rest) differ lack = by (comes_before c d) (numbers_put k c n rest differ lack.1)
  where
    by : (v : Bool) → NumbersLack k (put_name c n rest) → NumbersLack k (cond v (and_node c n (folder d s inside rest)) (folder d s inside (put_name c n rest)))
    by true ih = numbers_and k c (stat_of n) n.body (folder d s inside rest) differ lack
    by false ih = (lack.0, ih)

module _ (k : ℕ) (f : Node → Node) (a : List ℕ) (x : Node) (is : nat_eq x.number k ≡ true) where
  changed_front : (rest : Names) → change_first k f (and_node a x rest) ≡ and_node a (f x) rest
  changed_front rest = change_and k f a (stat_of x) x.body rest ∙ ap (λ v. cond v (and_node a (f x) rest) (and_node a x (change_first k f rest))) is

  changed_step : (c : List ℕ) (s : Stat) (body : Body) (rest : Names) → nat_eq s.number k ≡ false → change_first k f (put_name a x rest) ≡ put_name a (f x) rest
      → change_first k f (put_name a x (and_body c s body rest)) ≡ put_name a (f x) (and_body c s body rest)
  changed_step c s body rest differ ih = ap (change_first k f) (put_and a x c s body rest) ∙ by (comes_before a c) ∙ sym (put_and a (f x) c s body rest)
    where
      by : (v : Bool) → change_first k f (cond v (and_node a x (and_body c s body rest)) (and_body c s body (put_name a x rest))) ≡ cond v (and_node a (f x) (and_body c s body rest)) (and_body c s body (put_name a (f x) rest))
      by true = changed_front (and_body c s body rest)
      by false = change_and k f c s body (put_name a x rest) ∙ ap (λ v. cond v (and_node c (f (node_of s body)) (put_name a x rest)) (and_body c s body (change_first k f (put_name a x rest)))) differ ∙ ap (and_body c s body) ih

  -- the file that was put is changed, where it alone has the number
  pub change_put : (ns : Names) → NumbersLack k ns → change_first k f (put_name a x ns) ≡ put_name a (f x) ns
  change_put no_names lack = changed_front no_names
  change_put (file c s bytes rest) lack = changed_step c s (File bytes) rest lack.0 (change_put rest lack.1)
  change_put (folder c s inside rest) lack = changed_step c s (Dir inside) rest lack.0 (change_put rest lack.1)

-- ---- names of records

pub lack_front : (k : List ℕ) (before after : List Record) → LackName k (before ++ after) → LackName k before
lack_front k [] after lack = tt
lack_front k (q ∷ before) after lack = (lack.0, lack_front k before after lack.1)

module _ (names : Link → Link → Names) (arena : Arena) (image : Image) (entries : Link) where
  -- the file of a record, as a node
  abbrev node : Record → Node
  node r = node_of (stat_in r) (body_in names arena image entries r)

  -- where a record stands among those of other names doesn't count
  pub names_put : (before after : List Record) (r : Record) → LackName r.name before → names_in names arena image entries (before ++ r ∷ after) ≡ put_name r.name (node r) (names_in names arena image entries (before ++ after))
  names_put [] after r lack = refl
  names_put (q ∷ before) after r lack = ap (put_name q.name (node q)) (names_put before after r lack.1) ∙ put_swap q.name r.name (node q) (node r) (names_in names arena image entries (before ++ after)) lack.0

  pub names_lack : (k : List ℕ) (rs : List Record) → LackName k rs → NamesLack k (names_in names arena image entries rs)
  names_lack k [] lack = tt
  names_lack k (r ∷ rs) lack = lack_put k r.name (node r) (names_in names arena image entries rs) lack.0 (names_lack k rs lack.1)

  pub numbers_lack : (k : ℕ) (rs : List Record) → LackNumber k rs → NumbersLack k (names_in names arena image entries rs)
  numbers_lack k [] lack = tt
  numbers_lack k (r ∷ rs) lack = numbers_put k r.name (node r) (names_in names arena image entries rs) lack.0 (numbers_lack k rs lack.1)

  -- the names without that of a record are those of the other records
  pub names_without : (before after : List Record) (r : Record) → LackName r.name (before ++ after) → without r.name (names_in names arena image entries (before ++ r ∷ after)) ≡ names_in names arena image entries (before ++ after)
  names_without before after r lack =
      ap (without r.name) (names_put before after r (lack_front r.name before after lack))
      ∙ without_put r.name (node r) (names_in names arena image entries (before ++ after)) (names_lack r.name (before ++ after) lack)

  -- the file of a record is changed
  pub names_change : (k : ℕ) (f : Node → Node) (before after : List Record) (r : Record) → nat_eq r.number k ≡ true → LackNumber k (before ++ after) → LackName r.name (before ++ after)
      → change_first k f (names_in names arena image entries (before ++ r ∷ after)) ≡ put_name r.name (f (node r)) (names_in names arena image entries (before ++ after))
  names_change k f before after r is alone apart =
      ap (change_first k f) (names_put before after r (lack_front r.name before after apart))
      ∙ change_put k f r.name (node r) is (names_in names arena image entries (before ++ after)) (numbers_lack k (before ++ after) alone)

-- ---- how many there are

count_and : (c : List ℕ) (s : Stat) (body : Body) (rest : Names) → name_count (and_body c s body rest) ≡ name_count rest + 1
count_and c s (File bytes) rest = refl
count_and c s (Dir inside) rest = refl

count_put : (k : List ℕ) (n : Node) (ns : Names) → name_count (put_name k n ns) ≡ name_count ns + 1
count_put k n no_names = count_and k (stat_of n) n.body no_names
count_put k n (file c s bytes rest) = by (comes_before k c) (count_put k n rest)
  where
    by : (v : Bool) → name_count (put_name k n rest) ≡ name_count rest + 1 → name_count (cond v (and_node k n (file c s bytes rest)) (file c s bytes (put_name k n rest))) ≡ name_count rest + 1 + 1
    by true ih = count_and k (stat_of n) n.body (file c s bytes rest)
    by false ih = ap (λ m. m + 1) ih
count_put k n (folder c s inside rest) = by (comes_before k c) (count_put k n rest)
  where
    by : (v : Bool) → name_count (put_name k n rest) ≡ name_count rest + 1 → name_count (cond v (and_node k n (folder c s inside rest)) (folder c s inside (put_name k n rest))) ≡ name_count rest + 1 + 1
    by true ih = count_and k (stat_of n) n.body (folder c s inside rest)
    by false ih = ap (λ m. m + 1) ih

-- a directory has as many names as records
pub count_names : (names : Link → Link → Names) (arena : Arena) (image : Image) (entries : Link) (rs : List Record) → name_count (names_in names arena image entries rs) ≡ length rs
count_names names arena image entries [] = refl
count_names names arena image entries (r ∷ rs) =
    let one : length rs + 1 ≡ suc (length rs) = omega arith in
    count_put r.name (node_of (stat_in r) (body_in names arena image entries r)) (names_in names arena image entries rs) ∙ ap (λ m. m + 1) (count_names names arena image entries rs) ∙ one
