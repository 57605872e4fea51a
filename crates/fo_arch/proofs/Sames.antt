-- Forms of contents that are the same.
use Rattle.std.proofs.Common.{◌≡◌, ◌≢◌, ◌-◌, ℕ, zero, suc, List, [], ◌∷◌, take, drop, sym, ◌∙◌, ap, subst}
use Rattle.std.specs.Prelude.{Option, Some, None}
use Rattle.std.specs.List.{AllByRecursion}
use Rattle.fo_image.specs.declared.types.Kind.{Kind}
use Rattle.fo_image.specs.declared.types.Kind.TheVariants.{Data, Dir, Root}
use Rattle.fo_image.specs.declared.types.ArenaLine.{ArenaLine}
use Rattle.fo_image.specs.Format.{KindHolds, kind_code}
use Rattle.fo_crash.specs.declared.slot.Slot.{Slot}
use Rattle.fo_crash.specs.Images.{Content, Image, SameContent, target}
use Rattle.fo_vacput.specs.declared.types.VacEntry.{VacEntry}
use Rattle.fo_ports.specs.State.{State}
use Rattle.fo_arch_hash.specs.Batch.{IsSame as SaysSame}
use Rattle.fo_arch_hash.specs.declared.types.Piece.{Piece}
use Rattle.fo_arch_hash.specs.declared.types.Batch.{Batch}
use Rattle.fo_arch_form.specs.declared.stored.Stored.{Stored}
use Rattle.fo_arch_form.specs.Stored.{found, score_under}
use Rattle.fo_arch_form.specs.Root.{IsTop}
use Rattle.fo_arch_walk.specs.Entries.{IsEntriesForm}
use Rattle.fo_arch_walk.specs.Pointers.{IsPointersForm}
use Rattle.fo_arch_walk.specs.Forms.{HasHead, IsTopForm, IsForm}
use Rattle.fo_arch_walk.specs.Pieces.{Kept, AreFresh, AreApart, IsCutForm, IsPiece, IsPieceOf}
use Rattle.fo_arch_walk.specs.Spots.{arena_code}
use Rattle.fo_arch.specs.declared.archive.Archive.{Archive}
use Rattle.fo_arch.specs.Archive.{IsOf}
use Rattle.fo_arch_tree.specs.Forms.{StoresForms}
use Rattle.fo_arch.specs.Forms.{AreNamed}

pointers_same : (done : Stored) (kind : Kind) (c d : Content) (form : List ℕ) → SameContent d c → IsPointersForm done kind c form → IsPointersForm done kind d form
pointers_same done kind c d form same f = record {
  each = λ i lt. let s = f.each i lt in record { score = s.score; stored = ap (λ (x : Slot). score_under done (kind_code kind - 1) (target x)) (same.slots i) ∙ s.stored; here = s.here };
  behind = f.behind ∙ ap (λ (b : List ℕ). drop 8180 b) (sym same.bytes);
  length_is = f.length_is;
}

entries_same : (done : Stored) (c d : Content) (form : List ℕ) → SameContent d c → IsEntriesForm done c form → IsEntriesForm done d form
entries_same done c d form same f = record {
  each = λ i lt. let s = f.each i lt in record { entry = s.entry; score = s.score; slot_is = same.slots i ∙ s.slot_is; stored = s.stored; here = s.here };
  behind = f.behind ∙ ap (λ (b : List ℕ). drop 8160 b) (sym same.bytes);
  length_is = f.length_is;
}

head_same : (done : Stored) (c d : Content) (i : ℕ) (v : VacEntry) → SameContent d c → HasHead done c i v → HasHead done d i v
head_same done c d i v same h = record { entry = h.entry; score = h.score; slot_is = same.slots i ∙ h.slot_is; stored = h.stored; is = h.is }

top_same : (done : Stored) (c d : Content) (form : List ℕ) → SameContent d c → IsTopForm done c form → IsTopForm done d form
top_same done c d form same f = record {
  entries = f.entries;
  meta = f.meta;
  entries_are = head_same done c d 0 f.entries same f.entries_are;
  meta_are = head_same done c d 1 f.meta same f.meta_are;
  is = subst (λ (b : List ℕ). IsTop f.entries f.meta (take 8088 (drop 104 b)) form) (sym same.bytes) f.is;
}

form_same : (done : Stored) (kind : Kind) (c d : Content) (form : List ℕ) → SameContent d c → IsForm done kind c form → IsForm done kind d form
form_same done (Data zero) c d form same f = record { bytes = f.bytes ∙ sym same.bytes }
form_same done (Data (suc level)) c d form same f = pointers_same done (Data (suc level)) c d form same f
form_same done (Dir zero) c d form same f = entries_same done c d form same f
form_same done (Dir (suc level)) c d form same f = pointers_same done (Dir (suc level)) c d form same f
form_same done Root c d form same f = top_same done c d form same f

pub cut_same : (done : Stored) (kind : Kind) (c d : Content) (bytes : List ℕ) → SameContent d c → IsCutForm done kind c bytes → IsCutForm done kind d bytes
cut_same done kind c d bytes same f = record { form = f.form; is = form_same done kind c d f.form same f.is; stored = f.stored }

-- where the device tells, a piece is that of what memory has
piece_told : (done : Stored) (s : State) (root : ℕ) (p : Piece) → s.tells → IsPiece done s root p → IsPieceOf done s.now p
piece_told done s root p told is = record {
  kind = is.spot.kind;
  holds = is.here.holds;
  code_is = is.code_is;
  is = subst (λ (at : ℕ). IsCutForm done is.spot.kind (s.now at) p.bytes.items) (sym is.at_is) (cut_same done is.spot.kind is.content (s.now is.spot.at) p.bytes.items (is.known told) is.is);
}

pub pieces_told : (done : Stored) (s : State) (root : ℕ) (pieces : List Piece) → s.tells → AllByRecursion (IsPiece done s root) pieces → AllByRecursion (IsPieceOf done s.now) pieces
pieces_told done s root [] told all = tt
pieces_told done s root (p ∷ pieces) told all = (piece_told done s root p told all.0, pieces_told done s root pieces told all.1)

is_some : {X : Type 0} (o : Option X) (x : X) → o ≡ Some x → o ≢ None
is_some o x is none = absurd (apart (sym is ∙ none))
  where
    apart : Some x ≡ None → ⊥
    apart e = cc

pub forms_other : (done : Stored) (image other : Image) (lines : List ArenaLine) (stored : List (List ℕ)) → ((at : ℕ) (kind : Kind) → KindHolds kind → found done at (arena_code kind) ≢ None → SameContent (other at) (image at)) → StoresForms done image lines stored → StoresForms done other lines stored
forms_other done image other lines stored same f = record {
  each = λ at kind score holds is.
      let s = f.each at kind score holds is in record {
        bytes = s.bytes;
        is = cut_same done kind (image at) (other at) s.bytes (same at kind holds (is_some (found done at (arena_code kind)) score is)) s.is;
        hash = s.hash;
        held = s.held;
      };
}

pub of_same : (a : Archive) (b c : Batch) → SaysSame c b → IsOf a b → IsOf a c
of_same a b c same is = record {
  epoch_is = same.epoch ∙ is.epoch_is;
  stored_is = same.stored ∙ is.stored_is;
  fresh = subst (λ (ks : List Kept). AreFresh a.done ks) (sym same.pieces) is.fresh;
  apart = subst (λ (ks : List Kept). AreApart ks) (sym same.pieces) is.apart;
}

pub forms_begin : (done : Stored) → ((at kind : ℕ) → found done at kind ≡ None) → (image : Image) (lines : List ArenaLine) (stored : List (List ℕ)) → StoresForms done image lines stored
forms_begin done none image lines stored = record { each = λ at kind score holds is. absurd (is_some (found done at (arena_code kind)) score is (none at (arena_code kind))) }

pub named_begin : (done : Stored) → ((at kind : ℕ) → found done at kind ≡ None) → (lines : List ArenaLine) → AreNamed done lines
named_begin done none lines = record { each = λ at kind score is. absurd (is_some (found done at kind) score is (none at kind)) }
