-- What is asked where a source of data is put, and its entry.
use Rattle.std.proofs.Common.{◌≡◌, ◌≢◌, ◌⊎◌, ◌+◌, ◌-◌, ◌*◌, ◌/◌, ◌<◌, ◌≤◌, ℕ, zero, suc, false, List, inl, ⊎_elim, refl, sym, ap, subst, ◌∙◌, arith}
use Rattle.std.specs.Prelude.{max, Result, Ok, Err, IfOk, IfErr}
use Rattle.fo_ports.specs.declared.error.BlockError.{BlockError}
use Rattle.std.proofs.lemmas.Bool.{cases_lt}
use Rattle.fo_image.specs.declared.types.Label.{Label}
use Rattle.fo_image.specs.declared.types.Entry.{Entry}
use Rattle.fo_image.specs.declared.types.Pointer.{Pointer}
use Rattle.fo_image.specs.declared.types.Pointer.TheVariants.{Nil, Local, Score as Held}
use Rattle.fo_crash.specs.declared.slot.Slot.TheVariants.{Entry as Head}
use Rattle.fo_crash.specs.Images.{target}
use Rattle.fo_crash.specs.Names.{SameUse}
use Rattle.fo_ports.specs.Blocks.{cost, dropped, ends}
use Rattle.fo_ports.specs.State.{State, KeepsAll, Looks}
use Rattle.fo_image.specs.declared.types.Kind.TheVariants.{Dir}
use Rattle.fo_ports.specs.Sources.{Form, Grows, Changes, StaysReady, most_for}
use Rattle.fo_tree.specs.declared.source.Source.{Source}
use Rattle.fo_tree_read.specs.declared.tree.Tree.{Tree}
use Rattle.fo_tree_read.specs.Tree.{kind_at}
use Rattle.fo_tree_look.specs.declared.ways.Kept.{Kept}
use Rattle.fo_tree_look.specs.Source.{Over, HasBlock, Prepared, IsPrepared, Ready, WayReady, form_of, leaves_of}
use Rattle.fo_tree_trim.proofs.of_tree_down.Topping.{ready_local}
use Rattle.fo_files_dir.specs.of_tree_open.Open.{HasEntry}
use Rattle.fo_tree_shorten.specs.of_tree_link.Link.{entry_of}
use Rattle.fo_tree_shorten.specs.of_tree_link.Change.{SameSource}
use Rattle.fo_tree.specs.Laws.{keeps_prepared}
use Rattle.fo_tree.proofs.Relinking.{same_source}
use Rattle.fo_tree_shorten.specs.Shorten.{EntryAt}
use Rattle.fo_tree_shorten.proofs.Entries.{entry_owned}
use Rattle.fo_tree_trim.proofs.Least.{few_for}
use Rattle.fo_files_dir.specs.declared.dir.FileAt.{FileAt}
use Rattle.fo_files_write.specs.Data.{HasData, PutsPiece, SameData, most_of}
use Rattle.fo_files_write.specs.Alters.{Alters, is_above}

-- ---- entries

pub entry_looks : {s u : State} {t : Tree} {generation at j : ℕ} → KeepsAll s u → Looks s u → EntryAt s t generation at j → EntryAt u t generation at j
entry_looks {u = u} {j = j} all looks e =
    let same = looks.stays.labels _ (λ n. n) in
    record {
      is = (looks.known _ e.is_pinned).slots j ∙ e.is;
      is_pinned = (looks.stays.marks _ (λ n. n)).0 e.is_pinned;
      live = ap (λ (l : Label). l.state) same ∙ e.live;
      current = ap (λ (l : Label). l.epoch) same ∙ e.current ∙ sym all.same_high;
      apart = λ f. e.apart (sym (ap (λ (l : Label). l.tag) same) ∙ f);
      leaf = subst (λ (l : Label). HasEntry l.kind j) (sym same) e.leaf;
      settled = λ h. e.settled (looks.order.clearing _ j h).1;
    }

-- the entry of a source that was looked at
pub entry_same : {s : State} {t new : Tree} {generation other at j : ℕ} → new ≡ t → other ≡ generation → EntryAt s t generation at j → EntryAt s new other at j
entry_same {s = s} {t = t} {generation = generation} {other = other} {at = at} {j = j} tree is e = subst (λ (y : Tree). EntryAt s y other at j) (sym tree) (subst (λ n. EntryAt s t n at j) (sym is) e)

pub data_at : (s : State) (file : FileAt) (t : Tree) (generation : ℕ) → EntryAt s t generation file.at file.slot → t.dir ≡ false → t.tag ≡ 32 + 2 * file.number → HasData s file generation t.size
data_at s file t generation e plain tag = record { entry = entry_of t generation; is = e.is; generation_is = refl; used = refl; is_data = plain; tagged = tag; long = refl }

head_size : (a b : Entry) → Head a ≡ Head b → a.size ≡ b.size
head_size a b e = let same : a ≡ b = cc in ap (λ (x : Entry). x.size) same

head_generation : (a b : Entry) → Head a ≡ Head b → a.generation ≡ b.generation
head_generation a b e = let same : a ≡ b = cc in ap (λ (x : Entry). x.generation) same

-- a generation and a length are those of the source
pub data_generation : (s : State) (file : FileAt) (t : Tree) (generation other size : ℕ) → EntryAt s t generation file.at file.slot → HasData s file other size → other ≡ generation
data_generation s file t generation other size e has = sym has.generation_is ∙ head_generation has.entry (entry_of t generation) (sym has.is ∙ e.is)

pub data_size : (s : State) (file : FileAt) (t : Tree) (generation other size : ℕ) → EntryAt s t generation file.at file.slot → HasData s file other size → size ≡ t.size
data_size s file t generation other size e has = sym has.long ∙ head_size has.entry (entry_of t generation) (sym has.is ∙ e.is)

-- ---- how much it takes

pub most_few : (end n : ℕ) → most_for end n ≤ most_of n
most_few end n = let few = few_for end in omega (arith, few)

-- ---- what is asked where a source is linked

way_top : (s : State) (t : Tree) (kept : List Kept) (n k : ℕ) → WayReady s t kept n k → Ready s t kept zero t.top
way_top s t kept zero k ready = ready
way_top s t kept (suc n) k ready = way_top s t kept n (k / 409) ready.0

nil_local : (at : ℕ) → Nil ≡ Local at → ⊥
nil_local at e = cc

pub top_prepared : (s : State) (t : Tree) (kept : List Kept) (limit offset n at : ℕ) → Over s t kept limit → Prepared s t kept limit offset n → 0 < n → t.top ≡ Local at → IsPrepared s (kind_at t.dir t.depth) t.tag at
top_prepared s t kept limit offset n at over was some is = ready_local s t kept at is (⊎_elim
    (λ inside. way_top s t kept t.depth (offset / 8192) (was.each offset (omega arith) (omega (arith, some)) inside))
    (λ past. ⊎_elim
    (λ bytes. way_top s t kept t.depth ((t.size - 1) / 8192) (was.last (omega (arith, past, some)) bytes))
    (λ none. absurd (nil_local at (sym (over.empty (omega (arith, none))) ∙ is)))
    (cases_lt 0 t.size))
    (cases_lt offset t.size))

ends_few : (p q : Pointer) → ends p q ≤ 1
ends_few Nil q = omega arith
ends_few (Local x) Nil = omega arith
ends_few (Local x) (Local y) = omega arith
ends_few (Local x) (Held score) = omega arith
ends_few (Held score) q = omega arith

-- A piece was put into a source: what `write` says of it.
pub record Wrote (s m : State) (x y : Source) (offset n at j : ℕ) : Type 0 where
  pub over : Over s x.ways.tree x.ways.kept.items x.ways.limit
  pub over_now : Over m y.ways.tree y.ways.kept.items y.ways.limit
  pub form : form_of y.ways.tree y.ways.generation y.ways.limit ≡ form_of x.ways.tree x.ways.generation x.ways.limit
  pub size : y.ways.tree.size ≡ max x.ways.tree.size (offset + n)
  pub some : 0 < n
  pub prepared : Prepared m y.ways.tree y.ways.kept.items y.ways.limit offset n
  pub entry : EntryAt m x.ways.tree x.ways.generation at j

longer : (a n : ℕ) → a ≤ max a n
longer a n = omega arith

module _ {s m : State} {x y : Source} {offset n at j : ℕ} (w : Wrote s m x y offset n at j) where
  same : SameSource x.ways.tree y.ways.tree
  same = same_source x.ways.tree y.ways.tree x.ways.generation x.ways.limit y.ways.generation y.ways.limit w.form w.over.least w.over_now.least (subst (λ z. x.ways.tree.size ≤ z) (sym w.size) (longer x.ways.tree.size (offset + n))) (let within = w.over_now.within in let low = w.over_now.low in omega (arith, within, low))

  pub tag_same : y.ways.tree.tag ≡ x.ways.tree.tag
  tag_same = ap (λ (f : Form). f.tag) w.form

  pub generation_same : y.ways.generation ≡ x.ways.generation
  generation_same = ap (λ (f : Form). f.generation) w.form

  pub dir_same : y.ways.tree.dir ≡ x.ways.tree.dir
  dir_same = same.dir

  pub use_same : SameUse (Head (entry_of y.ways.tree y.ways.generation)) ((m.now at).slot j)
  use_same = subst (λ q. SameUse (Head (entry_of y.ways.tree y.ways.generation)) q) (sym w.entry.is) (ap (λ (f : Form). f.generation) w.form, refl, same.dir, tag_same)

  pub top_other : (c : ℕ) → y.ways.tree.top ≡ Local c → c ≢ at
  top_other c is here =
      let ready = top_prepared m y.ways.tree y.ways.kept.items y.ways.limit offset n c w.over_now w.prepared w.some is in
      w.entry.apart (sym (ap (λ z. (m.label z).tag) here) ∙ ready.tagged ∙ tag_same)

  levels : dropped ((m.now at).slot j) (Head (entry_of y.ways.tree y.ways.generation)) ≡ 0
  levels = ap (λ q. dropped q (Head (entry_of y.ways.tree y.ways.generation))) w.entry.is ∙ (let more = same.more in omega (arith, more))

  pub cost_few : cost ((m.now at).slot j) (Head (entry_of y.ways.tree y.ways.generation)) ≤ 1
  cost_few = let none = levels in let end = ends_few (target ((m.now at).slot j)) y.ways.tree.top in omega (arith, none, end)

  pub no_levels : (i : ℕ) → i < dropped ((m.now at).slot j) (Head (entry_of y.ways.tree y.ways.generation)) → ⊥
  no_levels i lt = let none = levels in omega (arith, none, lt)

-- what was prepared stays so where the source is linked
pub prepared_linked : (m u : State) (y : Source) (tag offset n at : ℕ) → KeepsAll m u → (m.label at).tag ≢ tag → y.ways.tree.tag ≡ tag → ((b : ℕ) → (b ≢ at) ⊎ ((m.label b).kind ≡ Dir 0) → m.pinned b → StaysReady m u b)
    → Prepared m y.ways.tree y.ways.kept.items y.ways.limit offset n → Prepared u y.ways.tree y.ways.kept.items y.ways.limit offset n
prepared_linked m u y tag offset n at more apart is ready was = keeps_prepared m u y.ways.tree y.ways.kept.items y.ways.limit more (λ c r. ready c (inl (λ here. apart (sym (ap (λ z. (m.label z).tag) here) ∙ r.tagged ∙ is))) r.is_pinned) offset n was

pub wrote_of : (s m : State) (x y : Source) (offset n at j : ℕ) → KeepsAll s m → Over s x.ways.tree x.ways.kept.items x.ways.limit → EntryAt s x.ways.tree x.ways.generation at j → 0 < n → Prepared s x.ways.tree x.ways.kept.items x.ways.limit offset n
    → Over m y.ways.tree y.ways.kept.items y.ways.limit → form_of y.ways.tree y.ways.generation y.ways.limit ≡ form_of x.ways.tree x.ways.generation x.ways.limit → y.ways.tree.size ≡ max x.ways.tree.size (offset + n)
    → Grows s m (leaves_of s x.ways.tree x.ways.kept.items x.ways.limit) (leaves_of m y.ways.tree y.ways.kept.items y.ways.limit) → Changes x.ways.tree.tag (HasBlock s x.ways.tree) (HasBlock s x.ways.tree) s m → Wrote s m x y offset n at j
wrote_of s m x y offset n at j all over entry some prepared over_now form size grows changes = record {
  over = over;
  over_now = over_now;
  form = form;
  size = size;
  some = some;
  prepared = grows.still offset n prepared;
  entry = entry_owned entry changes all;
}

-- ---- results

pub ok_of : {A : Type 0} (r : Result A BlockError) (P : Type 0) → P → IfOk r (λ x. P)
ok_of (Ok x) P h = h
ok_of (Err why) P h = tt

pub ok_under : {A : Type 0} (r : Result A BlockError) (P Q : Type 0) → IfOk r (λ x. P) → IfOk r (λ x. Q → P)
ok_under (Ok x) P Q h = λ q. h
ok_under (Err why) P Q h = tt

pub same_tree : (t new : Tree) → new ≡ t → SameData t new
same_tree t new is = record { dir = ap (λ (y : Tree). y.dir) is; tag = ap (λ (y : Tree). y.tag) is; rank = ap (λ (y : Tree). y.rank) is; size = ap (λ (y : Tree). y.size) is }

pub same_joins : {a b c : Tree} → SameData a b → SameData b c → SameData a c
same_joins p q = record { dir = q.dir ∙ p.dir; tag = q.tag ∙ p.tag; rank = q.rank ∙ p.rank; size = q.size ∙ p.size }

-- what is answered of the data
pub long_with : (s u : State) (file : FileAt) (t new : Tree) (generation other n offset : ℕ) (r : Result ℕ BlockError) → EntryAt s t generation file.at file.slot → t.dir ≡ false → t.tag ≡ 32 + 2 * file.number → EntryAt u new other file.at file.slot → new.dir ≡ false → new.tag ≡ 32 + 2 * file.number → other ≡ generation
    → 0 < n → IfOk r (λ z. (z ≡ new.size) × (z ≡ max t.size (offset + n)))
    → IfOk r (λ z. (g size : ℕ) × HasData s file g size × HasData u file g z × (n ≡ 0 → z ≡ size) × (0 < n → z ≡ max size (offset + n)))
long_with s u file t new generation other n offset (Ok z) e plain tag f plain_now tag_now same some is =
    let has : HasData u file generation z = subst (λ g. HasData u file g z) same (subst (λ y. HasData u file other y) (sym is.0) (data_at u file new other f plain_now tag_now)) in
    (generation, t.size, data_at s file t generation e plain tag, has, λ none. absurd (omega (arith, some, none)), λ more. is.1)
long_with s u file t new generation other n offset (Err why) e plain tag f plain_now tag_now same some is = tt

pub stays_with : (s u : State) (file : FileAt) (t new : Tree) (generation other : ℕ) (r : Result ℕ BlockError) → EntryAt s t generation file.at file.slot → EntryAt u new other file.at file.slot → new.dir ≡ false → new.tag ≡ 32 + 2 * file.number → other ≡ generation → IfErr r (λ why. new.size ≡ t.size)
    → IfErr r (λ why. (g size : ℕ) → HasData s file g size → HasData u file g size)
stays_with s u file t new generation other (Ok z) e f plain tag one is = tt
stays_with s u file t new generation other (Err why) e f plain tag one is = λ g size has.
    subst (λ k. HasData u file k size) (one ∙ sym (data_generation s file t generation g size e has)) (subst (λ z. HasData u file other z) (is ∙ sym (data_size s file t generation g size e has)) (data_at u file new other f plain tag))

-- where a piece was put
pub puts_since : {B : Type 0} (state : B → State) (s u : State) (file : FileAt) (tag other offset n : ℕ) (r : Result ℕ BlockError) → tag ≡ other → IfOk r (λ z. (m : B) × Alters file.at file.slot tag is_above s (state m) × PutsPiece (state m) u file offset n)
    → IfOk r (λ z. 0 < n → (m : B) × Alters file.at file.slot other is_above s (state m) × PutsPiece (state m) u file offset n)
puts_since state s u file tag other offset n (Ok z) is h = λ some. (h.0, subst (λ t. Alters file.at file.slot t is_above s (state h.0)) is h.1, h.2)
puts_since state s u file tag other offset n (Err why) is h = tt

-- and where it is refused
pub err_since : (s u : State) (file : FileAt) (tag other : ℕ) (r : Result ℕ BlockError) → tag ≡ other → IfErr r (λ why. Alters file.at file.slot tag is_above s u) → IfErr r (λ why. Alters file.at file.slot other is_above s u)
err_since s u file tag other (Ok z) is h = tt
err_since s u file tag other (Err why) is h = subst (λ t. Alters file.at file.slot t is_above s u) is h
