-- The records of a directory as its names: what is found among the names is what is chosen among the records.
use Rattle.std.proofs.Common.{◌≡◌, ◌∙◌, ℕ, Bool, true, false, cond, List, [], ◌∷◌, Option, Some, None, refl, sym, ap, if◌then◌else◌}
use Rattle.std.proofs.lemmas.Cmp.{nat_list_cmp_total}
use Rattle.std.proofs.lemmas.List.MinMax.{ranks_by}
use Rattle.std.specs.Cmp.{IsStrictWeakOrder}
use Rattle.std.specs.Option.{option_map}
use Rattle.fo_image.specs.declared.record.Record.{Record}
use Rattle.fo_crash.specs.Images.{Arena, Image, Link}
use Rattle.fo_world.specs.declared.tree.Node.{Node}
use Rattle.fo_world.specs.declared.tree.Body.{Body}
use Rattle.fo_world.specs.declared.tree.Body.TheVariants.{File, Dir}
use Rattle.fo_world.specs.Names.{Stat, Names, no_names, file, folder}
use Rattle.fo_world.specs.Tree.{stat_of, node_of, and_body, and_node, first, comes_before, put_name}
use Rattle.fo_good.specs.Reading.{names_in, stat_in, body_in}
use Rattle.fo_files_world.specs.Choice.{passes, better, least}

pub ranks : IsStrictWeakOrder comes_before
ranks = ranks_by nat_list_cmp_total (λ name. name)

pub contrary : (b : Bool) → b ≡ true → b ≡ false → ⊥
contrary b p q = let e : true ≡ false = sym p ∙ q in cc

-- a name that comes before one that comes before a third comes before that
pub before_all : (a b c : List ℕ) → comes_before a b ≡ true → comes_before b c ≡ true → comes_before a c ≡ true
before_all a b c one two = go (comes_before a c) refl
  where
    go : (v : Bool) → comes_before a c ≡ v → v ≡ true
    go true e = refl
    go false e = absurd (contrary (comes_before a b) one (ranks.chain a c b e (ranks.one_way b c two)))

-- ---- names in order

-- no name comes before this one; each comes after it
abbrev pub NoneBefore : List ℕ → Names → Type 0
NoneBefore k no_names = Unit {0}
NoneBefore k (file name stat bytes rest) = (comes_before name k ≡ false) × NoneBefore k rest
NoneBefore k (folder name stat inside rest) = (comes_before name k ≡ false) × NoneBefore k rest

abbrev pub AllAfter : List ℕ → Names → Type 0
AllAfter k no_names = Unit {0}
AllAfter k (file name stat bytes rest) = (comes_before k name ≡ true) × AllAfter k rest
AllAfter k (folder name stat inside rest) = (comes_before k name ≡ true) × AllAfter k rest

abbrev pub Ascending : Names → Type 0
Ascending no_names = Unit {0}
Ascending (file name stat bytes rest) = NoneBefore name rest × Ascending rest
Ascending (folder name stat inside rest) = NoneBefore name rest × Ascending rest

-- what comes before a name comes before each that isn't before that name
pub before_later : (a b c : List ℕ) → comes_before a b ≡ true → comes_before c b ≡ false → comes_before a c ≡ true
before_later a b c before later = go (comes_before a c) refl
  where
    go : (v : Bool) → comes_before a c ≡ v → v ≡ true
    go true e = refl
    go false e = absurd (contrary (comes_before a b) before (ranks.chain a c b e later))

pub all_after : (k name : List ℕ) (names : Names) → comes_before k name ≡ true → NoneBefore name names → AllAfter k names
all_after k name no_names before none = tt
all_after k name (file other stat bytes rest) before none = (before_later k name other before none.0, all_after k name rest before none.1)
all_after k name (folder other stat inside rest) before none = (before_later k name other before none.0, all_after k name rest before none.1)

pub none_before : (k : List ℕ) (names : Names) → AllAfter k names → NoneBefore k names
none_before k no_names all = tt
none_before k (file other stat bytes rest) all = (ranks.one_way k other all.0, none_before k rest all.1)
none_before k (folder other stat inside rest) all = (ranks.one_way k other all.0, none_before k rest all.1)

pub none_and : (k name : List ℕ) (s : Stat) (body : Body) (rest : Names) → comes_before name k ≡ false → NoneBefore k rest → NoneBefore k (and_body name s body rest)
none_and k name s (File bytes) rest e none = (e, none)
none_and k name s (Dir inside) rest e none = (e, none)

pub ascending_and : (name : List ℕ) (s : Stat) (body : Body) (rest : Names) → NoneBefore name rest → Ascending rest → Ascending (and_body name s body rest)
ascending_and name s (File bytes) rest none up = (none, up)
ascending_and name s (Dir inside) rest none up = (none, up)

pub none_put : (k name : List ℕ) (n : Node) (names : Names) → comes_before name k ≡ false → NoneBefore k names → NoneBefore k (put_name name n names)
none_put k name n no_names e none = none_and k name (stat_of n) n.body no_names e tt
none_put k name n (file other stat bytes rest) e none = by (comes_before name other) (none_put k name n rest e none.1)
  where
    by : (v : Bool) → NoneBefore k (put_name name n rest) → NoneBefore k (cond v (and_node name n (file other stat bytes rest)) (file other stat bytes (put_name name n rest)))
    by true ih = none_and k name (stat_of n) n.body (file other stat bytes rest) e none
    by false ih = (none.0, ih)
none_put k name n (folder other stat inside rest) e none = by (comes_before name other) (none_put k name n rest e none.1)
  where
    by : (v : Bool) → NoneBefore k (put_name name n rest) → NoneBefore k (cond v (and_node name n (folder other stat inside rest)) (folder other stat inside (put_name name n rest)))
    by true ih = none_and k name (stat_of n) n.body (folder other stat inside rest) e none
    by false ih = (none.0, ih)

pub ascending_put : (k : List ℕ) (n : Node) (names : Names) → Ascending names → Ascending (put_name k n names)
ascending_put k n no_names up = ascending_and k (stat_of n) n.body no_names tt tt
ascending_put k n (file name stat bytes rest) up = by (comes_before k name) refl (ascending_put k n rest up.1)
  where
    by : (v : Bool) → comes_before k name ≡ v → Ascending (put_name k n rest) → Ascending (cond v (and_node k n (file name stat bytes rest)) (file name stat bytes (put_name k n rest)))
    by true e ih = ascending_and k (stat_of n) n.body (file name stat bytes rest) (none_before k (file name stat bytes rest) (e, all_after k name rest e up.0)) up
    by false e ih = (none_put name k n rest e up.0, ih)
ascending_put k n (folder name stat inside rest) up = by (comes_before k name) refl (ascending_put k n rest up.1)
  where
    by : (v : Bool) → comes_before k name ≡ v → Ascending (put_name k n rest) → Ascending (cond v (and_node k n (folder name stat inside rest)) (folder name stat inside (put_name k n rest)))
    by true e ih = ascending_and k (stat_of n) n.body (folder name stat inside rest) (none_before k (folder name stat inside rest) (e, all_after k name rest e up.0)) up
    by false e ih = (none_put name k n rest e up.0, ih)

-- ---- the first that passes, with one name more

abbrev pick : List ℕ × Node → Option (List ℕ × Node) → List ℕ × Node
pick x None = x
pick x (Some y) = if comes_before x.0 y.0 then x else y

pub first_and : (test : List ℕ → ℕ → Bool) (k : List ℕ) (s : Stat) (body : Body) (rest : Names) → first test (and_body k s body rest) ≡ (if test k s.number then Some (k, node_of s body) else first test rest)
first_and test k s (File bytes) rest = refl
first_and test k s (Dir inside) rest = refl

pick_after : (test : List ℕ → ℕ → Bool) (x : List ℕ × Node) (names : Names) → AllAfter x.0 names → pick x (first test names) ≡ x
pick_after test x no_names all = refl
pick_after test x (file name stat bytes rest) all = by (test name stat.number) (pick_after test x rest all.1)
  where
    by : (v : Bool) → pick x (first test rest) ≡ x → pick x (cond v (Some (name, node_of stat (File bytes))) (first test rest)) ≡ x
    by true ih = ap (λ v. cond v x (name, node_of stat (File bytes))) all.0
    by false ih = ih
pick_after test x (folder name stat inside rest) all = by (test name stat.number) (pick_after test x rest all.1)
  where
    by : (v : Bool) → pick x (first test rest) ≡ x → pick x (cond v (Some (name, node_of stat (Dir inside))) (first test rest)) ≡ x
    by true ih = ap (λ v. cond v x (name, node_of stat (Dir inside))) all.0
    by false ih = ih

-- a name that stands in front stays in front of one that doesn't come before it
keep_front : (p q : Bool) (x y : List ℕ × Node) (rest more : Option (List ℕ × Node)) → comes_before x.0 y.0 ≡ false → more ≡ cond q (Some (pick x rest)) rest → cond p (Some y) more ≡ cond q (Some (pick x (cond p (Some y) rest))) (cond p (Some y) rest)
keep_front true true x y rest more e is = ap Some (sym (ap (λ v. cond v x y) e))
keep_front true false x y rest more e is = refl
keep_front false true x y rest more e is = is
keep_front false false x y rest more e is = is

pub first_put : (test : List ℕ → ℕ → Bool) (k : List ℕ) (n : Node) (names : Names) → Ascending names → first test (put_name k n names) ≡ (if test k n.number then Some (pick (k, n) (first test names)) else first test names)
first_put test k n no_names up = first_and test k (stat_of n) n.body no_names
first_put test k n (file name stat bytes rest) up = by (comes_before k name) refl (first_put test k n rest up.1)
  where
    by : (v : Bool) → comes_before k name ≡ v → first test (put_name k n rest) ≡ cond (test k n.number) (Some (pick (k, n) (first test rest))) (first test rest) → first test (cond v (and_node k n (file name stat bytes rest)) (file name stat bytes (put_name k n rest))) ≡ cond (test k n.number) (Some (pick (k, n) (first test (file name stat bytes rest)))) (first test (file name stat bytes rest))
    by true e ih = first_and test k (stat_of n) n.body (file name stat bytes rest)
        ∙ sym (ap (λ x. cond (test k n.number) (Some x) (first test (file name stat bytes rest))) (pick_after test (k, n) (file name stat bytes rest) (e, all_after k name rest e up.0)))
    by false e ih = keep_front (test name stat.number) (test k n.number) (k, n) (name, node_of stat (File bytes)) (first test rest) (first test (put_name k n rest)) e ih
first_put test k n (folder name stat inside rest) up = by (comes_before k name) refl (first_put test k n rest up.1)
  where
    by : (v : Bool) → comes_before k name ≡ v → first test (put_name k n rest) ≡ cond (test k n.number) (Some (pick (k, n) (first test rest))) (first test rest) → first test (cond v (and_node k n (folder name stat inside rest)) (folder name stat inside (put_name k n rest))) ≡ cond (test k n.number) (Some (pick (k, n) (first test (folder name stat inside rest)))) (first test (folder name stat inside rest))
    by true e ih = first_and test k (stat_of n) n.body (folder name stat inside rest)
        ∙ sym (ap (λ x. cond (test k n.number) (Some x) (first test (folder name stat inside rest))) (pick_after test (k, n) (folder name stat inside rest) (e, all_after k name rest e up.0)))
    by false e ih = keep_front (test name stat.number) (test k n.number) (k, n) (name, node_of stat (Dir inside)) (first test rest) (first test (put_name k n rest)) e ih

-- ---- the names of records

-- a record as a name with its node, by what is read in directories below
abbrev pub named_node : (Link → Link → Names) → Arena → Image → Link → Record → List ℕ × Node
named_node names arena image entries r = (r.name, node_of (stat_in r) (body_in names arena image entries r))

abbrev pub named_in : (Link → Link → Names) → Arena → Image → Link → Option Record → Option (List ℕ × Node)
named_in names arena image entries found = option_map (named_node names arena image entries) found

pub ascending_in : (names : Link → Link → Names) (arena : Arena) (image : Image) (entries : Link) (rs : List Record) → Ascending (names_in names arena image entries rs)
ascending_in names arena image entries [] = tt
ascending_in names arena image entries (r ∷ rs) = ascending_put r.name _ (names_in names arena image entries rs) (ascending_in names arena image entries rs)

pick_better : (names : Link → Link → Names) (arena : Arena) (image : Image) (entries : Link) (r : Record) (best : Option Record) → pick (named_node names arena image entries r) (option_map (named_node names arena image entries) best) ≡ named_node names arena image entries (better r best)
pick_better names arena image entries r None = refl
pick_better names arena image entries r (Some b) = by (comes_before r.name b.name)
  where
    by : (v : Bool) → cond v (named_node names arena image entries r) (named_node names arena image entries b) ≡ named_node names arena image entries (cond v r b)
    by true = refl
    by false = refl

pub first_in : (test : List ℕ → ℕ → Bool) (names : Link → Link → Names) (arena : Arena) (image : Image) (entries : Link) (rs : List Record) → first test (names_in names arena image entries rs) ≡ named_in names arena image entries (least test rs)
first_in test names arena image entries [] = refl
first_in test names arena image entries (r ∷ rs) =
    first_put test r.name _ (names_in names arena image entries rs) (ascending_in names arena image entries rs)
    ∙ ap (λ f. cond (passes test r) (Some (pick (named_node names arena image entries r) f)) f) (first_in test names arena image entries rs)
    ∙ by (passes test r)
  where
    by : (v : Bool) → cond v (Some (pick (named_node names arena image entries r) (named_in names arena image entries (least test rs)))) (named_in names arena image entries (least test rs)) ≡ named_in names arena image entries (cond v (Some (better r (least test rs))) (least test rs))
    by true = ap Some (pick_better names arena image entries r (least test rs))
    by false = refl
