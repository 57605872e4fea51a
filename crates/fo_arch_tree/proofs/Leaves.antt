-- Leaves that are alike: the bytes of files, and the records of directories.
use Rattle.std.proofs.Common.{◌≡◌, ◌∙◌, ⊎_elim, ℕ, zero, suc, ◌+◌, ◌-◌, ◌/◌, ◌%◌, ◌<◌, Bool, false, List, [], ◌∷◌, ◌++◌, length, slice_index_or, map, refl, sym, ap, subst, append_assoc, arith}
use Rattle.std.specs.List.{AllByRecursion, flat_map, range_with_len}
use Rattle.std.proofs.lemmas.List.{length-append}
use Rattle.fo_image.specs.declared.types.Score.{Score}
use Rattle.fo_image.specs.declared.types.Entry.{Entry}
use Rattle.fo_image.specs.declared.types.Kind.{Kind}
use Rattle.fo_image.specs.declared.types.Kind.TheVariants.{Data}
use Rattle.fo_image.specs.declared.types.Pointer.{Pointer}
use Rattle.fo_image.specs.declared.types.Pointer.TheVariants.{Nil, Local, Score as ToScore}
use Rattle.fo_image.specs.declared.record.Record.{Record}
use Rattle.fo_image.specs.Field.{zeros}
use Rattle.fo_image.proofs.Padding.{length-zeros}
use Rattle.fo_image.specs.Format.{kind_code}
use Rattle.fo_crash.specs.Images.{Link, target, meant, leaf_path, source_byte, bytes_at}
use Rattle.fo_meta.specs.Leaf.{records_bytes, SpellsLeaf, IsLeaf}
use Rattle.fo_good.specs.Trees.{size_of}
use Rattle.fo_good.specs.Reading.{leaf_records, leaves_in, dir_records, source_in}
use Rattle.fo_good.proofs.Leaf.{leaf_is_read}
use Rattle.fo_vacput.specs.declared.types.Tail.TheVariants.{Zeros}
use Rattle.fo_vacput.specs.Cut.{grown}
use Rattle.fo_vac_open.specs.Held.{held, block_held}
use Rattle.fo_vac_open.specs.Tree.{no_image}
use Rattle.fo_arch_tree.proofs.Alike.{finds}
use Rattle.fo_arch_tree.proofs.Sides.{Sides, Holds, archive, shown, read_back, along, along_back, HeldAt, IsClean, AreBoth, AreEntries}
use Rattle.fo_arch_tree.proofs.Sources.{leaf_comes}
use Rattle.fo_arch_tree.proofs.Tails.{none_read, read_behind, zeros_read}

-- what is a leaf of records, below a link
abbrev pub LeafAt : Sides → Link → Type 0
LeafAt s w = (at : ℕ) → target w.slot ≡ Local at → IsLeaf ((s.image at).bytes)

leaf_len : (rs : List Record) (leaf : List ℕ) → SpellsLeaf rs leaf → length leaf ≡ 8192
leaf_len rs leaf s =
    let rest : ℕ = 8188 - length (records_bytes rs) in
    ap length s.bytes_are ∙ omega (arith, length-append (records_bytes rs) (zeros rest), length-zeros rest, s.room)

module _ (s : Sides) (h : Holds s) (w v : Link) (b : AreBoth s false 0 w v) (c : IsClean s w) where
  abbrev bytes_here : List ℕ
  bytes_here = (shown s w.kind w.slot).bytes

  abbrev bytes_there : List ℕ
  bytes_there = (read_back s v.kind v.slot).bytes

  module _ (at : ℕ) (f : HeldAt s (Data 0) w.slot v.slot at) where
    here_is : bytes_here ≡ f.form
    here_is = ap (λ (q : Pointer). (meant s.arena s.image w.kind q).bytes) f.leads ∙ sym f.is.bytes

    there_empty : target v.slot ≡ Nil → bytes_there ≡ []
    there_empty nil = ap (λ (q : Pointer). (meant (archive s) no_image v.kind q).bytes) nil

    there_full : (score : Score) → target v.slot ≡ ToScore score → held s.lines s.stored score.0 0 ≡ f.bytes → bytes_there ≡ grown Zeros 8192 f.bytes
    there_full score leads is =
        ap (λ (q : Pointer). (meant (archive s) no_image v.kind q).bytes) leads
        ∙ ap (λ (k : Kind). block_held s.lines s.stored (kind_code k) score) b.there
        ∙ ap (grown Zeros 8192) is

    same_byte : (j : ℕ) → slice_index_or bytes_here j 0 ≡ slice_index_or bytes_there j 0
    same_byte j =
        ap (λ xs. slice_index_or xs j 0) (here_is ∙ sym f.again)
        ∙ read_behind f.bytes (length f.form - length f.bytes) j
        ∙ ⊎_elim
        (λ none. ap (λ xs. slice_index_or xs j 0) (none.1 ∙ sym (there_empty none.0)))
        (λ some. sym (ap (λ xs. slice_index_or xs j 0) (there_full some.0 some.1 some.2) ∙ read_behind f.bytes (8192 - length f.bytes) j))
        f.found

    same_records : IsLeaf ((s.image at).bytes) → leaf_records bytes_here ≡ leaf_records bytes_there
    same_records leaf =
        let long : length f.form ≡ 8192 = ap length f.is.bytes ∙ leaf_len leaf.records ((s.image at).bytes) leaf.spells in
        ap leaf_records here_is
        ∙ ⊎_elim
        (λ none. sym (ap leaf_records (ap (grown Zeros (length f.form)) (sym none.1) ∙ f.again)) ∙ zeros_read (length f.form - 0) ∙ sym (ap leaf_records (there_empty none.0)))
        (λ some. sym (ap leaf_records (there_full some.0 some.1 some.2 ∙ sym (ap (λ n. grown Zeros n f.bytes) long) ∙ f.again)))
        f.found

  pub leaf_byte : (j : ℕ) → slice_index_or bytes_here j 0 ≡ slice_index_or bytes_there j 0
  leaf_byte j = ⊎_elim
      (λ none. ap (λ (q : Pointer). slice_index_or ((meant s.arena s.image w.kind q).bytes) j 0) none.0 ∙ sym (ap (λ (q : Pointer). slice_index_or ((meant (archive s) no_image v.kind q).bytes) j 0) none.1))
      (λ (at, f). same_byte at f j)
      (finds s h (Data 0) w.slot v.slot b.alike (c.none []))

  pub leaf_same : LeafAt s w → leaf_records bytes_here ≡ leaf_records bytes_there
  leaf_same leaf = ⊎_elim
      (λ none. ap (λ (q : Pointer). leaf_records ((meant s.arena s.image w.kind q).bytes)) none.0 ∙ sym (ap (λ (q : Pointer). leaf_records ((meant (archive s) no_image v.kind q).bytes)) none.1))
      (λ (at, f). same_records at f (leaf at f.leads))
      (finds s h (Data 0) w.slot v.slot b.alike (c.none []))

-- ---- sources of bytes

module _ (s : Sides) (h : Holds s) (e : Entry) (w v : Link) (a : AreEntries s e w v) (dir : e.dir ≡ false) (c : IsClean s w) where
  size_is : size_of w.slot ≡ size_of v.slot
  size_is = ap (λ (x : Link). size_of x.slot) a.here ∙ sym (ap (λ (y : Link). size_of y.slot) a.there)

  leaf_is : (k : ℕ) → AreBoth s false 0 (along s w (leaf_path w.slot k)) (along_back s v (leaf_path v.slot k))
  leaf_is k = subst (λ (d : Bool). AreBoth s d 0 (along s w (leaf_path w.slot k)) (along_back s v (leaf_path v.slot k))) dir (leaf_comes s h e w v k a c).both

  leaf_clean : (k : ℕ) → IsClean s (along s w (leaf_path w.slot k))
  leaf_clean k = (leaf_comes s h e w v k a c).clean

  byte_is : (j : ℕ) → source_byte s.arena s.image w j ≡ source_byte (archive s) no_image v j
  byte_is j = leaf_byte s h (along s w (leaf_path w.slot (j / 8192))) (along_back s v (leaf_path v.slot (j / 8192))) (leaf_is (j / 8192)) (leaf_clean (j / 8192)) (j % 8192)

  -- the bytes of a file
  pub same_source : source_in s.arena s.image w ≡ source_in (archive s) no_image v
  same_source = λ t. map (λ j. byte_is j t) (range_with_len 0 (size_is t))

  records_is : ((k : ℕ) → LeafAt s (along s w (leaf_path w.slot k))) → (k : ℕ) → leaf_records (bytes_at s.arena s.image w (leaf_path w.slot k)) ≡ leaf_records (bytes_at (archive s) no_image v (leaf_path v.slot k))
  records_is leaves k = leaf_same s h (along s w (leaf_path w.slot k)) (along_back s v (leaf_path v.slot k)) (leaf_is k) (leaf_clean k) (leaves k)

  -- the records of a directory
  pub same_records_in : ((k : ℕ) → LeafAt s (along s w (leaf_path w.slot k))) → dir_records s.arena s.image w ≡ dir_records (archive s) no_image v
  same_records_in leaves = λ t. flat_map (λ k. records_is leaves k t) (range_with_len 0 (leaves_in (size_is t)))

  pub leaf_kind : (k : ℕ) → (along s w (leaf_path w.slot k)).kind ≡ Data 0
  leaf_kind k = (leaf_is k).here

-- ---- each record stands in a leaf

each_split : (P : Record → Type 0) (front back all : List Record) → all ≡ front ++ back → ((before after : List Record) (r : Record) → all ≡ before ++ r ∷ after → P r) → AllByRecursion P back
each_split P front [] all is each = tt
each_split P front (r ∷ back) all is each = (each front back r is, each_split P (front ++ r ∷ []) back all (is ∙ sym (append_assoc front (r ∷ []) back)) each)

all_append : (P : Record → Type 0) (xs ys : List Record) → AllByRecursion P xs → AllByRecursion P ys → AllByRecursion P (xs ++ ys)
all_append P [] ys p q = q
all_append P (x ∷ xs) ys p q = (p.0, all_append P xs ys p.1 q)

all_leaves : (P : Record → Type 0) (f : ℕ → List Record) (from n : ℕ) → ((k : ℕ) → k < from + n → AllByRecursion P (f k)) → AllByRecursion P (flat_map f (range_with_len from n))
all_leaves P f from zero each = tt
all_leaves P f from (suc n) each = all_append P (f from) (flat_map f (range_with_len (from + 1) n)) (each from (omega arith)) (all_leaves P f (from + 1) n (λ k lt. each k (omega (arith, lt))))

module _ (s : Sides) (w : Link) (P : Record → Type 0) where
  -- a leaf that is nowhere has no records
  none_all : target w.slot ≡ Nil → AllByRecursion P (leaf_records ((shown s w.kind w.slot).bytes))
  none_all nil = subst (AllByRecursion P) (sym (ap (λ (q : Pointer). leaf_records ((meant s.arena s.image w.kind q).bytes)) nil ∙ none_read)) tt

  leaf_all : (at : ℕ) → target w.slot ≡ Local at → IsLeaf ((s.image at).bytes) → ((before after : List Record) (r : Record) → SpellsLeaf (before ++ r ∷ after) ((shown s w.kind w.slot).bytes) → P r) → AllByRecursion P (leaf_records ((shown s w.kind w.slot).bytes))
  leaf_all at leads leaf each =
      let bytes : (shown s w.kind w.slot).bytes ≡ (s.image at).bytes = ap (λ (q : Pointer). (meant s.arena s.image w.kind q).bytes) leads in
      let spells : SpellsLeaf leaf.records ((shown s w.kind w.slot).bytes) = subst (SpellsLeaf leaf.records) (sym bytes) leaf.spells in
      subst (AllByRecursion P) (sym (leaf_is_read leaf.records ((shown s w.kind w.slot).bytes) spells))
      (each_split P [] leaf.records leaf.records refl (λ before after r is. each before after r (subst (λ (rs : List Record). SpellsLeaf rs ((shown s w.kind w.slot).bytes)) is spells)))

  pub records_all : IsClean s w → LeafAt s w → ((before after : List Record) (r : Record) → SpellsLeaf (before ++ r ∷ after) ((shown s w.kind w.slot).bytes) → P r) → AllByRecursion P (leaf_records ((shown s w.kind w.slot).bytes))
  records_all c leaf each = by (target w.slot) refl
    where
      by : (p : Pointer) → target w.slot ≡ p → AllByRecursion P (leaf_records ((shown s w.kind w.slot).bytes))
      by Nil e = none_all e
      by (ToScore score) e = absurd (c.none [] score e)
      by (Local at) e = leaf_all at e (leaf at e) each

pub dir_all : (s : Sides) (w : Link) (P : Record → Type 0) → ((k : ℕ) → k < leaves_in (size_of w.slot) → AllByRecursion P (leaf_records (bytes_at s.arena s.image w (leaf_path w.slot k)))) → AllByRecursion P (dir_records s.arena s.image w)
dir_all s w P each = all_leaves P (λ k. leaf_records (bytes_at s.arena s.image w (leaf_path w.slot k))) 0 (leaves_in (size_of w.slot)) (λ k lt. each k (omega (arith, lt)))
