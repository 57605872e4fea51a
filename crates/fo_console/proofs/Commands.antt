-- Commands: the words that a command is are read as it, and what is read is said.
use Rattle.std.proofs.Common.{◌≡◌, ℕ, ◌≤◌, ◌==◌, List, [], ◌∷◌, length, Bool, true, false, not, nat_le, ◌&&◌, Option, Some, None, option_and_then, cond, codes, refl, sym, ap, subst, ◌∙◌}
use Rattle.std.specs.List.{list_all, join_with_byte}
use Rattle.std.specs.Option.{option_map}
use Rattle.std.specs.Str.{bytes_eq}
use Rattle.std.specs.Fmt.{decimal}
use Rattle.std.proofs.lemmas.Bool.{and_parts, and_from, le-leb, leb-true}
use Rattle.std.specs.Str.{IsUtf8, is_utf8}
use Rattle.std.proofs.lemmas.Str.{IsUtf8-from_is_utf8}
use Rattle.std.proofs.lemmas.Slice.Eq.{bytes_eq-Decides}
use Rattle.std.proofs.lemmas.List.Splits.{join_with_byte-slice_split}
use Rattle.fo_base.specs.Text.{is_text, has_zero}
use Rattle.fo_console.specs.Command.{Said, sync, snap, epoch, low, cancel, df, check, halt, unhalt, create, remove, stat, users}
use Rattle.fo_console.specs.Line.{is_part, IsCommand, Says}
use Rattle.fo_base.specs.Parts.{parts_at}
use Rattle.fo_console.specs.Reading.{is_some_text, number_of, perm_of, path_of, alone, with_one, with_two, with_four, command_of, is_line}
use Rattle.fo_base.proofs.Cutting.{lacks, cut_joined, parts_lack, both_pass, all_pass}
use Rattle.fo_console.proofs.WordLemmas.{number_here, number_says, perm_read, perm_says, path_read, path_says}

-- ---- what is said is read

pub command_read : (words : List (List ℕ)) (s : Said) → IsCommand words s → command_of words ≡ Some s
command_read words sync e = ap command_of e
command_read words (snap false) e = ap command_of e
command_read words (snap true) e = ap command_of e
command_read words epoch e = ap command_of e
command_read words (low n) e = ap command_of e.1 ∙ ap (option_map low) (number_here n (decimal n) e.0 refl)
command_read words cancel e = ap command_of e
command_read words df e = ap command_of e
command_read words check e = ap command_of e
command_read words halt e = ap command_of e
command_read words unhalt e = ap command_of e
command_read words (create path uid gid perm) e =
    ap command_of e.words_are ∙ (λ k. option_and_then (λ p. option_map (λ names. create names uid gid p) (path_read e.path_word path e.path_is k)) (perm_read e.perm_word perm e.perm_is k))
command_read words (remove path) e = ap command_of e.words_are ∙ ap (option_map remove) (path_read e.path_word path e.path_is)
command_read words (stat path) e = ap command_of e.words_are ∙ ap (option_map stat) (path_read e.path_word path e.path_is)
command_read words users e = ap command_of e

-- ---- what is read is said

choose : (b : Bool) (x y : Option Said) (s : Said) (P : Type 0) → (b ≡ true → x ≡ Some s → P) → (b ≡ false → y ≡ Some s → P) → cond b x y ≡ Some s → P
choose true x y s P t f e = t refl e
choose false x y s P t f e = f refl e

mapped : {A : Type 0} (f : A → Said) (o : Option A) (s : Said) → option_map f o ≡ Some s → (a : A) × (o ≡ Some a) × (f a ≡ s)
mapped f None s e = absurd (cc)
mapped f (Some a) s e = (a, refl, cc)

chained : {A : Type 0} (f : A → Option Said) (o : Option A) (s : Said) → option_and_then f o ≡ Some s → (a : A) × (o ≡ Some a) × (f a ≡ Some s)
chained f None s e = absurd (cc)
chained f (Some a) s e = (a, refl, e)

is_word : (w word : List ℕ) → bytes_eq w word ≡ true → w ≡ word
is_word w word h = (bytes_eq-Decides w word).0 h

-- one more word that may stand alone
one_of : (w word : List ℕ) (a s : Said) (rest : Option Said) → IsCommand (word ∷ []) a → (rest ≡ Some s → IsCommand (w ∷ []) s) → cond (bytes_eq w word) (Some a) rest ≡ Some s → IsCommand (w ∷ []) s
one_of w word a s rest here later =
    choose (bytes_eq w word) (Some a) rest s (IsCommand (w ∷ []) s)
    (λ h e.
    let same : a ≡ s = cc in
    subst (λ t. IsCommand (w ∷ []) t) same (subst (λ (v : List ℕ). IsCommand (v ∷ []) a) (sym (is_word w word h)) here))
    (λ h e. later e)

alone_says : (w : List ℕ) (s : Said) → alone w ≡ Some s → IsCommand (w ∷ []) s
alone_says w s =
    one_of w (codes "sync") sync s _ refl (one_of w (codes "snap") (snap false) s _ refl (one_of w (codes "epoch") epoch s _ refl (one_of w (codes "cancel") cancel s _ refl (one_of w (codes "df") df s _ refl (one_of w (codes "check") check s _ refl (one_of w (codes "halt") halt s _ refl (one_of w (codes "unhalt") unhalt s _ refl (one_of w (codes "users") users s _ refl (λ e. absurd (cc))))))))))

remove_says : (a : List ℕ) (s : Said) → option_map remove (path_of a) ≡ Some s → IsCommand (codes "remove" ∷ a ∷ []) s
remove_says a s e =
    let m = mapped remove (path_of a) s e in
    subst (λ t. IsCommand (codes "remove" ∷ a ∷ []) t) m.2 (record { path_word = a; path_is = path_says a m.0 m.1; words_are = refl })

stat_says : (a : List ℕ) (s : Said) → option_map stat (path_of a) ≡ Some s → IsCommand (codes "stat" ∷ a ∷ []) s
stat_says a s e =
    let m = mapped stat (path_of a) s e in
    subst (λ t. IsCommand (codes "stat" ∷ a ∷ []) t) m.2 (record { path_word = a; path_is = path_says a m.0 m.1; words_are = refl })

snap_says : (a : List ℕ) (s : Said) → cond (bytes_eq a (codes "-a")) (Some (snap true)) None ≡ Some s → IsCommand (codes "snap" ∷ a ∷ []) s
snap_says a s =
    choose (bytes_eq a (codes "-a")) (Some (snap true)) None s (IsCommand (codes "snap" ∷ a ∷ []) s)
    (λ h e.
    let same : snap true ≡ s = cc in
    subst (λ t. IsCommand (codes "snap" ∷ a ∷ []) t) same (ap (λ v. codes "snap" ∷ v ∷ []) (is_word a (codes "-a") h)))
    (λ h e. absurd (cc))

-- the first word is this one
begins : (w word : List ℕ) (more : List (List ℕ)) (s : Said) → bytes_eq w word ≡ true → IsCommand (word ∷ more) s → IsCommand (w ∷ more) s
begins w word more s h c = subst (λ (v : List ℕ). IsCommand (v ∷ more) s) (sym (is_word w word h)) c

with_one_says : (w a : List ℕ) (s : Said) → with_one w a ≡ Some s → IsCommand (w ∷ a ∷ []) s
with_one_says w a s =
    choose (bytes_eq w (codes "snap")) _ _ s (IsCommand (w ∷ a ∷ []) s)
    (λ h e. begins w (codes "snap") (a ∷ []) s h (snap_says a s e))
    (λ n. choose (bytes_eq w (codes "remove")) _ _ s (IsCommand (w ∷ a ∷ []) s)
    (λ h e. begins w (codes "remove") (a ∷ []) s h (remove_says a s e))
    (λ m. choose (bytes_eq w (codes "stat")) _ _ s (IsCommand (w ∷ a ∷ []) s)
    (λ h e. begins w (codes "stat") (a ∷ []) s h (stat_says a s e))
    (λ h e. absurd (cc))))

with_two_says : (w f a : List ℕ) (s : Said) → with_two w f a ≡ Some s → IsCommand (w ∷ f ∷ a ∷ []) s
with_two_says w f a s =
    choose (bytes_eq w (codes "epoch") && bytes_eq f (codes "-y")) (option_map low (number_of a)) None s (IsCommand (w ∷ f ∷ a ∷ []) s)
    (λ h e.
    let two = and_parts (bytes_eq w (codes "epoch")) (bytes_eq f (codes "-y")) h in
    let m = mapped low (number_of a) s e in
    let n = number_says m.0 a m.1 in
    let first = is_word w (codes "epoch") two.0 in
    let second = is_word f (codes "-y") two.1 in
    subst (λ t. IsCommand (w ∷ f ∷ a ∷ []) t) m.2 (n.0, λ k. first k ∷ second k ∷ n.1 k ∷ []))
    (λ h e. absurd (cc))

with_four_says : (w path uid gid perm : List ℕ) (s : Said) → with_four w path uid gid perm ≡ Some s → IsCommand (w ∷ path ∷ uid ∷ gid ∷ perm ∷ []) s
with_four_says w path uid gid perm s =
    choose (bytes_eq w (codes "create")) (option_and_then (λ p. option_map (λ names. create names uid gid p) (path_of path)) (perm_of perm)) None s (IsCommand (w ∷ path ∷ uid ∷ gid ∷ perm ∷ []) s)
    (λ h e.
    let p = chained (λ p. option_map (λ names. create names uid gid p) (path_of path)) (perm_of perm) s e in
    let m = mapped (λ names. create names uid gid p.0) (path_of path) s p.2 in
    subst (λ t. IsCommand (w ∷ path ∷ uid ∷ gid ∷ perm ∷ []) t) m.2 (record {
      path_word = path;
      perm_word = perm;
      path_is = path_says path m.0 m.1;
      perm_is = perm_says perm p.0 p.1;
      words_are = ap (λ v. v ∷ path ∷ uid ∷ gid ∷ perm ∷ []) (is_word w (codes "create") h);
    }))
    (λ h e. absurd (cc))

pub command_says : (words : List (List ℕ)) (s : Said) → command_of words ≡ Some s → IsCommand words s
command_says [] s e = absurd (cc)
command_says (w ∷ []) s e = alone_says w s e
command_says (w ∷ a ∷ []) s e = with_one_says w a s e
command_says (w ∷ f ∷ a ∷ []) s e = with_two_says w f a s e
command_says (a ∷ b ∷ c ∷ d ∷ []) s e = absurd (cc)
command_says (w ∷ path ∷ uid ∷ gid ∷ perm ∷ []) s e = with_four_says w path uid gid perm s e
command_says (a ∷ b ∷ c ∷ d ∷ e ∷ f ∷ more) s h = absurd (cc)

-- ---- lines

cut_words : (line : List ℕ) (words : List (List ℕ)) (s : Said) → list_all (is_part 32) words ≡ true → line ≡ join_with_byte 32 words → IsCommand words s → parts_at 32 line ≡ words
cut_words line [] s h e c = let none = command_read [] s c in absurd (cc)
cut_words line (w ∷ ws) s h e c =
    ap (parts_at 32) e ∙ cut_joined 32 w ws (all_pass (is_part 32) (lacks 32) (λ n p. (and_parts (is_some_text n) (lacks 32 n) p).1) (w ∷ ws) h)

-- the parts of a line that says a command
pub record Cut (line : List ℕ) (s : Said) : Type 0 where
  pub some : list_all is_some_text (parts_at 32 line) ≡ true
  pub read : command_of (parts_at 32 line) ≡ Some s

pub line_cut : (line : List ℕ) (s : Said) → Says line s → Cut line s
line_cut line s h =
    let cut = cut_words line h.words s h.each h.spaced h.command in
    record {
      some = ap (list_all is_some_text) cut ∙ all_pass (is_part 32) is_some_text (λ n p. (and_parts (is_some_text n) (lacks 32 n) p).0) h.words h.each;
      read = ap command_of cut ∙ command_read h.words s h.command;
    }

pub line_says : (line : List ℕ) (s : Said) → is_text line ≡ true → length line ≤ 1000 → Cut line s → Says line s
line_says line s t l c = record {
  text = t;
  short = l;
  words = parts_at 32 line;
  each = both_pass is_some_text (lacks 32) (parts_at 32 line) c.some (parts_lack 32 line);
  spaced = sym (join_with_byte-slice_split 32 line);
  command = command_says (parts_at 32 line) s c.read;
}

pub line_is : (line : List ℕ) (s : Said) → Says line s → is_line line ≡ true
line_is line s h = and_from _ _ (le-leb _ _ h.short) h.text

pub line_text : (line : List ℕ) (s : Said) → Says line s → IsUtf8 line
line_text line s h = IsUtf8-from_is_utf8 line (and_parts (is_utf8 line) (not (has_zero line)) h.text).0

pub line_parts : (line : List ℕ) → is_line line ≡ true → (length line ≤ 1000) × (is_text line ≡ true)
line_parts line h =
    let two = and_parts (nat_le (length line) 1000) (is_text line) h in
    (leb-true (length line) 1000 two.0, two.1)

pub said_same : (line : List ℕ) (r s : Said) → command_of (parts_at 32 line) ≡ Some r → Says line s → r ≡ s
said_same line r s e h = let read = (line_cut line s h).read in cc
