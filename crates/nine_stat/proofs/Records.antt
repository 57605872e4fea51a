-- A stat and its record.
use Rattle.std.proofs.Common.{◌≡◌, ℕ, zero, suc, ◌+◌, ◌<◌, ◌^◌, List, [], ◌∷◌, ◌++◌, length, Some, None, refl, sym, ap, subst, ◌∙◌, append_assoc, arith}
use Rattle.std.specs.declared.option.Option.{Option}
use Rattle.std.specs.List.{flat_map, AllByRecursion}
use Rattle.std.proofs.lemmas.List.{length-append, append-nil}
use Rattle.std.proofs.lemmas.List.Concat.{flat_map-append}
use Rattle.nine_fields.specs.declared.qid.Qid.{Qid}
use Rattle.nine_fields.specs.Field.{Two, Plain, Number, Text, Id, block, plain_bytes, PlainFits, StatFits, IsStat, stat_bytes}
use Rattle.nine_fields.specs.Reading.{stat_at}
use Rattle.nine_fields.proofs.Bytes.{IsBytes, some_is}
use Rattle.nine_fields.proofs.Taking.{stat_takes, stat_again, IsStat-again}
use Rattle.nine_stat.specs.declared.stat.Stat.{Stat}
use Rattle.nine_stat.specs.Stat.{stat_fields, spelling, IsSpellable, IsRecord}
use Rattle.nine_stat.specs.Writing.{number_fields, text_fields}

abbrev num : Plain → ℕ
num (Number size n) = n
num (Text bytes) = 0
num (Id q) = 0

abbrev one_qid : Plain → Qid
one_qid (Id q) = q
one_qid _ = record { kind = 0; vers = 0; path = 0 }

abbrev held : Plain → List ℕ
held (Text bytes) = bytes
held _ = []

abbrev nth : ℕ → List Plain → Plain
nth n [] = Text []
nth zero (p ∷ ps) = p
nth (suc n) (p ∷ ps) = nth n ps

-- the stat with these fields
stat_with : List Plain → Stat
stat_with ps = record { kind = num (nth 0 ps); dev = num (nth 1 ps); qid = one_qid (nth 2 ps); mode = num (nth 3 ps); atime = num (nth 4 ps); mtime = num (nth 5 ps); length = num (nth 6 ps); name = held (nth 7 ps); uid = held (nth 8 ps); gid = held (nth 9 ps); muid = held (nth 10 ps) }

-- a stat is told by its fields
stat_told : (s t : Stat) → stat_fields s ≡ stat_fields t → s ≡ t
unfolding stat_with
stat_told s t e = ap stat_with e

-- a record of a stat is one that a message may hold
pub record_is_stat : (bytes : List ℕ) (s : Stat) → IsRecord bytes s → IsStat bytes
unfolding spelling
record_is_stat bytes s r = record { fields = stat_fields s; fits = r.fits; spelled = r.spelled }

pub record_read : (bytes : List ℕ) (s : Stat) → IsBytes bytes → stat_at bytes ≡ Some (stat_fields s) → IsRecord bytes s
unfolding spelling
record_read bytes s fits e = let t = stat_takes bytes (stat_fields s) fits e in record { spelled = t.1; fits = t.0 }

record_again : (bytes : List ℕ) (s : Stat) → IsRecord bytes s → stat_at bytes ≡ Some (stat_fields s)
unfolding spelling
record_again bytes s r = ap stat_at r.spelled ∙ stat_again (stat_fields s) r.fits

-- the bytes are the record of at most one stat
pub record_once : (bytes : List ℕ) (s t : Stat) → stat_at bytes ≡ Some (stat_fields s) → IsRecord bytes t → s ≡ t
record_once bytes s t e r = stat_told s t (some_is (stat_fields s) (stat_fields t) (sym e ∙ record_again bytes t r))

none_some : {A : Type 0} (x : A) (r : Option A) → r ≡ None → r ≡ Some x → ⊥
none_some x r e f = let h = sym e ∙ f in absurd cc

pub no_stat : (bytes : List ℕ) → stat_at bytes ≡ None → IsStat bytes → ⊥
no_stat bytes e is = none_some is.fields (stat_at bytes) e (IsStat-again bytes is)

pub no_record : (bytes : List ℕ) (s : Stat) → stat_at bytes ≡ None → IsRecord bytes s → ⊥
no_record bytes s e r = no_stat bytes e (record_is_stat bytes s r)

-- the fields take 47 bytes and the texts
inside_len : (s : Stat) → length (flat_map plain_bytes (stat_fields s)) ≡ 47 + length s.name + length s.uid + length s.gid + length s.muid
inside_len s = simp length-append (omega arith)

pub spelling_len : (s : Stat) → length (spelling s) ≡ 49 + length s.name + length s.uid + length s.gid + length s.muid
unfolding spelling
spelling_len s = omega (arith, inside_len s)

pub parts_whole : (s : Stat) (start between inside : List ℕ) → start ≡ [] → between ≡ start ++ flat_map plain_bytes (number_fields s) → inside ≡ between ++ flat_map plain_bytes (text_fields s) → inside ≡ flat_map plain_bytes (stat_fields s)
parts_whole s start between inside empty first second =
    second ∙ ap (λ (x : List ℕ). x ++ flat_map plain_bytes (text_fields s)) (first ∙ ap (λ (x : List ℕ). x ++ flat_map plain_bytes (number_fields s)) empty) ∙ sym (flat_map-append plain_bytes (number_fields s) (text_fields s))

pub inside_short : (s : Stat) (inside : List ℕ) → IsSpellable s → inside ≡ flat_map plain_bytes (stat_fields s) → length inside < 2 ^ 16
inside_short s inside fits is = omega (arith, ap length is, inside_len s, fits.size_fits)

pub spelled_whole : (s : Stat) (old new inside : List ℕ) → inside ≡ flat_map plain_bytes (stat_fields s) → new ≡ old ++ block Two inside → new ≡ old ++ spelling s
unfolding spelling
spelled_whole s old new inside is e = e ∙ ap (λ (x : List ℕ). old ++ block Two x) is

pub record_made : (s : Stat) → IsSpellable s → AllByRecursion PlainFits (number_fields s) → IsRecord (spelling s) s
record_made s fits n = record {
  spelled = refl;
  fits = record {
    shaped = refl;
    fields_fit = (n.0, (n.1.0, (n.1.1.0, (n.1.1.1.0, (n.1.1.1.1.0, (n.1.1.1.1.1.0, (n.1.1.1.1.1.1.0, (fits.name_fits, (fits.uid_fits, (fits.gid_fits, (fits.muid_fits, tt)))))))))));
    size_fits = omega (arith, inside_len s, fits.size_fits);
  };
}

join : (o m n a b : List ℕ) → m ≡ o ++ a → n ≡ m ++ b → n ≡ o ++ (a ++ b)
join o m n a b first second = second ∙ ap (λ (x : List ℕ). x ++ b) first ∙ append_assoc o a b

-- seven parts added one after the other
pub seven_put : (o p q r s t u v a b c d e f g : List ℕ) → p ≡ o ++ a → q ≡ p ++ b → r ≡ q ++ c → s ≡ r ++ d → t ≡ s ++ e → u ≡ t ++ f → v ≡ u ++ g → v ≡ o ++ ((((((a ++ b) ++ c) ++ d) ++ e) ++ f) ++ g)
seven_put o p q r s t u v a b c d e f g h1 h2 h3 h4 h5 h6 h7 =
    join o u v _ g (join o t u _ f (join o s t _ e (join o r s _ d (join o q r _ c (join o p q a b h1 h2) h3) h4) h5) h6) h7

-- What has a spelling meets the condition of writing it.
pub record_spellable : (bytes : List ℕ) (s : Stat) → IsRecord bytes s → IsSpellable s
record_spellable bytes s r =
    let texts = r.fits.fields_fit.1.1.1.1.1.1.1 in
    record {
      name_fits = texts.0;
      uid_fits = texts.1.0;
      gid_fits = texts.1.1.0;
      muid_fits = texts.1.1.1.0;
      size_fits = omega (arith, r.fits.size_fits, inside_len s);
    }
