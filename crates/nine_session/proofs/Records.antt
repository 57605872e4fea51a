-- Stat records of messages.
use Rattle.std.proofs.Common.{◌≡◌, ℕ, ◌+◌, ◌<◌, ◌^◌, List, [], ◌∷◌, length, refl, ap, ◌∙◌, subst, arith}
use Rattle.std.specs.Prelude.{map}
use Rattle.std.proofs.lemmas.List.{length-append}
use Rattle.nine_fields.specs.declared.qid.Qid.{Qid}
use Rattle.nine_fields.specs.Field.{Two, Four, Eight, Size, Plain, Number, Text, Id, PlainShape, Numeric, Textual, Unique, plain_shape, stat_shapes, stat_bytes, StatFits, IsStat}
use Rattle.nine_wire.specs.declared.message.Reply.TheVariants as reply
use Rattle.nine_wire.specs.Message.{ReplyFits, spelling as message_spelling}
use Rattle.nine_stat.specs.declared.stat.Stat.{Stat}
use Rattle.nine_stat.specs.Stat.{stat_fields, spelling, IsRecord}
use Rattle.nine_stat.proofs.Records.{record_is_stat, spelling_len}
use Rattle.fo_world.specs.declared.place.Info.{Info}
use Rattle.fo_world.specs.Fits.{InfoFits}
use Rattle.nine_fids.specs.Told.{stat_of, record_of, reply_len}

-- ---- the stat that a record is

pub record Cons (p : PlainShape) (ps : List PlainShape) (list : List Plain) : Type 0 where
  pub head : Plain
  pub tail : List Plain
  pub is : list ≡ head ∷ tail
  pub first : plain_shape head ≡ p
  pub rest : map plain_shape tail ≡ ps

cons_of : (p : PlainShape) (ps : List PlainShape) (list : List Plain) → map plain_shape list ≡ p ∷ ps → Cons p ps list
cons_of p ps [] h = absurd cc
cons_of p ps (x ∷ xs) h = record { head = x; tail = xs; is = refl; first = cc; rest = cc }

number_of : (size : Size) (p : Plain) → plain_shape p ≡ Numeric size → (n : ℕ) × (p ≡ Number size n)
number_of size (Number k n) h = (n, ap (λ s. Number s n) (let same : k ≡ size = cc in same))
number_of size (Text bytes) h = absurd cc
number_of size (Id q) h = absurd cc

text_of : (p : Plain) → plain_shape p ≡ Textual → (bytes : List ℕ) × (p ≡ Text bytes)
text_of (Number k n) h = absurd cc
text_of (Text bytes) h = (bytes, refl)
text_of (Id q) h = absurd cc

qid_in : (p : Plain) → plain_shape p ≡ Unique → (q : Qid) × (p ≡ Id q)
qid_in (Number k n) h = absurd cc
qid_in (Text bytes) h = absurd cc
qid_in (Id q) h = (q, refl)

none_left : (list : List Plain) → map plain_shape list ≡ [] → list ≡ []
none_left [] h = refl
none_left (p ∷ ps) h = absurd cc

stat_in : (fields : List Plain) → map plain_shape fields ≡ stat_shapes → (s : Stat) × (fields ≡ stat_fields s)
stat_in fields h =
    let a = cons_of _ _ fields h in let b = cons_of _ _ a.tail a.rest in let c = cons_of _ _ b.tail b.rest in
    let d = cons_of _ _ c.tail c.rest in let e = cons_of _ _ d.tail d.rest in let f = cons_of _ _ e.tail e.rest in
    let g = cons_of _ _ f.tail f.rest in let i = cons_of _ _ g.tail g.rest in let j = cons_of _ _ i.tail i.rest in
    let k = cons_of _ _ j.tail j.rest in let l = cons_of _ _ k.tail k.rest in
    let a1 = number_of Two a.head a.first in let b1 = number_of Four b.head b.first in let c1 = qid_in c.head c.first in
    let d1 = number_of Four d.head d.first in let e1 = number_of Four e.head e.first in let f1 = number_of Four f.head f.first in
    let g1 = number_of Eight g.head g.first in let i1 = text_of i.head i.first in let j1 = text_of j.head j.first in
    let k1 = text_of k.head k.first in let l1 = text_of l.head l.first in
    let end = none_left l.tail l.rest in
    let s : Stat = record { kind = a1.0; dev = b1.0; qid = c1.0; mode = d1.0; atime = e1.0; mtime = f1.0; length = g1.0; name = i1.0; uid = j1.0; gid = k1.0; muid = l1.0 } in
    (s, a.is ∙ ap2 a1.1 (b.is ∙ ap2 b1.1 (c.is ∙ ap2 c1.1 (d.is ∙ ap2 d1.1 (e.is ∙ ap2 e1.1 (f.is ∙ ap2 f1.1 (g.is ∙ ap2 g1.1 (i.is ∙ ap2 i1.1 (j.is ∙ ap2 j1.1 (k.is ∙ ap2 k1.1 (l.is ∙ ap2 l1.1 end)))))))))))
  where
    ap2 : {p q : Plain} {ps qs : List Plain} → p ≡ q → ps ≡ qs → p ∷ ps ≡ q ∷ qs
    ap2 h k = cc

-- a record that a message may hold is that of a stat
pub record_there : (bytes : List ℕ) → IsStat bytes → (s : Stat) × IsRecord bytes s
unfolding spelling
record_there bytes is =
    let t = stat_in is.fields is.fits.shaped in
    (t.0, record { spelled = is.spelled ∙ ap stat_bytes t.1; fits = subst StatFits t.1 is.fits })

-- ---- replies to Tstat

pub reply_length : (bytes : List ℕ) → reply_len (reply.Stat bytes) ≡ 9 + length bytes
unfolding message_spelling
reply_length bytes = simp length-append (omega arith)

pub record_short : (i : Info) → InfoFits i → length (record_of i) < 2 ^ 16
record_short i fits = omega (arith, spelling_len (stat_of i), fits.name.short, fits.uid.short, fits.gid.short, fits.muid.short)

pub stat_sends : (i : Info) → InfoFits i → IsRecord (record_of i) (stat_of i) → ReplyFits (reply.Stat (record_of i))
stat_sends i fits is = (record_short i fits, record_is_stat (record_of i) (stat_of i) is)
