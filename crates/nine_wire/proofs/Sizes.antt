-- What is written: its size, and how its parts make the whole.
use Rattle.std.proofs.Common.{◌≡◌, ℕ, ◌+◌, ◌-◌, ◌*◌, ◌^◌, ◌<◌, ◌≤◌, List, [], ◌∷◌, ◌++◌, length, refl, sym, ap, ◌∙◌, append_assoc, arith}
use Rattle.std.specs.List.{flat_map, AllByRecursion}
use Rattle.std.proofs.lemmas.List.{length-append}
use Rattle.nine_fields.specs.declared.qid.Qid.{Qid}
use Rattle.nine_fields.specs.Field.{One, Two, Four, number, qid_bytes, block, Texts, spelled, FieldFits}
use Rattle.nine_wire.specs.declared.message.Request.{Request}
use Rattle.nine_wire.specs.declared.message.Request.TheVariants as t
use Rattle.nine_wire.specs.declared.message.Reply.{Reply}
use Rattle.nine_wire.specs.declared.message.Reply.TheVariants as r
use Rattle.nine_wire.specs.Message.{Message, request_message, reply_message, RequestFits, ReplyFits, body, after_size, spelling, HasSpelling}

qids_len : (qs : List Qid) → length (flat_map qid_bytes qs) ≡ 13 * length qs
qids_len [] = refl
qids_len (q ∷ qs) = omega (arith, qids_len qs)

pub reply_size : (x : Reply) → ReplyFits x → AllByRecursion FieldFits (reply_message x).fields → 7 + length (body (reply_message x)) < 2 ^ 32
reply_size (r.Version msize version) fits all = simp length-append (omega (arith, fits.0))
reply_size (r.Auth aqid) fits all = omega arith
reply_size (r.Attach qid) fits all = omega arith
reply_size (r.Error ename) fits all = simp length-append (omega (arith, all.0.0))
reply_size r.Flush fits all = omega arith
reply_size (r.Walk qids) fits all = simp length-append (omega (arith, fits, qids_len qids))
reply_size (r.Open qid iounit) fits all = omega arith
reply_size (r.Create qid iounit) fits all = omega arith
reply_size (r.Read bytes) fits all = simp length-append (omega (arith, fits))
reply_size (r.Write count) fits all = omega arith
reply_size r.Clunk fits all = omega arith
reply_size r.Remove fits all = omega arith
reply_size (r.Stat stat) fits all = simp length-append (omega (arith, fits.0))
reply_size r.Wstat fits all = omega arith

pub request_size : (x : Request) → RequestFits x → AllByRecursion FieldFits (request_message x).fields → 7 + length (body (request_message x)) < 2 ^ 32
request_size (t.Version msize version) fits all = simp length-append (omega (arith, fits.0))
request_size (t.Auth afid uname aname) fits all = simp length-append (omega (arith, fits.0.0, fits.1.0))
request_size (t.Attach fid afid uname aname) fits all = simp length-append (omega (arith, fits.0.0, fits.1.0))
request_size (t.Flush oldtag) fits all = omega arith
request_size (t.Walk fid newfid names) fits all = simp length-append (omega (arith, fits.1))
request_size (t.Open fid mode) fits all = omega arith
request_size (t.Create fid name perm mode) fits all = simp length-append (omega (arith, fits.0))
request_size (t.Read fid offset count) fits all = omega arith
request_size (t.Write fid offset bytes) fits all = simp length-append (omega (arith, fits))
request_size (t.Clunk fid) fits all = omega arith
request_size (t.Remove fid) fits all = omega arith
request_size (t.Stat fid) fits all = omega arith
request_size (t.Wstat fid stat) fits all = simp length-append (omega (arith, fits.0))

-- a header and a body in two parts
pub put_whole : (old between new first second : List ℕ) (size kind tag : ℕ) → between ≡ old ++ (number Four size ++ (number One kind ++ number Two tag)) → new ≡ (between ++ first) ++ second
    → size ≡ 7 + length first + length second → new ≡ old ++ (number Four (7 + length (first ++ second)) ++ after_size kind tag (first ++ second))
put_whole old between new first second size kind tag header whole is =
    let n = number Four size in
    let h = number One kind ++ number Two tag in
    let len : size ≡ 7 + length (first ++ second) = omega (arith, length-append first second) in
    let one : new ≡ old ++ (n ++ (h ++ (first ++ second))) =
    whole ∙ append_assoc between first second ∙ ap (λ (x : List ℕ). x ++ (first ++ second)) header ∙ append_assoc old (n ++ h) (first ++ second) ∙ ap (λ (x : List ℕ). old ++ x) (append_assoc n h (first ++ second)) in
    one ∙ ap (λ (k : ℕ). old ++ (number Four k ++ after_size kind tag (first ++ second))) len

-- a body that was written into an empty list but for its end
pub body_whole : (m : Message) (given head start tail : List ℕ) → given ≡ head → start ≡ [] → head ++ tail ≡ start ++ body m → given ++ tail ≡ body m
body_whole m given head start tail is empty whole = ap (λ (x : List ℕ). x ++ tail) is ∙ whole ∙ ap (λ (x : List ℕ). x ++ body m) empty

pub spelled_whole : (m : Message) (old new inside : List ℕ) (kind tag : ℕ) → inside ≡ body m → kind ≡ m.kind → new ≡ old ++ (number Four (7 + length inside) ++ after_size kind tag inside) → new ≡ old ++ spelling tag m
unfolding spelling
spelled_whole m old new inside kind tag whole is e = e ∙ ap (λ (x : List ℕ). old ++ (number Four (7 + length x) ++ after_size kind tag x)) whole ∙ ap (λ (k : ℕ). old ++ (number Four (7 + length (body m)) ++ after_size k tag (body m))) is

-- What has a spelling meets the condition of writing it.
pub request_fits : (tag : ℕ) (x : Request) → HasSpelling tag (request_message x) → RequestFits x
request_fits tag (t.Version msize version) h = h.fields_fit.1.0
request_fits tag (t.Auth afid uname aname) h = (h.fields_fit.1.0, h.fields_fit.1.1.0)
request_fits tag (t.Attach fid afid uname aname) h = (h.fields_fit.1.1.0, h.fields_fit.1.1.1.0)
request_fits tag (t.Flush oldtag) h = tt
request_fits tag (t.Walk fid newfid names) h = (h.fields_fit.1.1.0, omega (arith, h.size_fits, length-append (number Two (length names)) (flat_map (block Two) names), length-append (spelled (Texts names)) []))
request_fits tag (t.Open fid mode) h = tt
request_fits tag (t.Create fid name perm mode) h = h.fields_fit.1.0
request_fits tag (t.Read fid offset count) h = tt
request_fits tag (t.Write fid offset bytes) h = omega (arith, h.size_fits, length-append bytes [])
request_fits tag (t.Clunk fid) h = tt
request_fits tag (t.Remove fid) h = tt
request_fits tag (t.Stat fid) h = tt
request_fits tag (t.Wstat fid stat) h = h.fields_fit.1.0

pub reply_fits : (tag : ℕ) (x : Reply) → HasSpelling tag (reply_message x) → ReplyFits x
reply_fits tag (r.Version msize version) h = h.fields_fit.1.0
reply_fits tag (r.Auth aqid) h = tt
reply_fits tag (r.Attach qid) h = tt
reply_fits tag (r.Error ename) h = tt
reply_fits tag r.Flush h = tt
reply_fits tag (r.Walk qids) h = h.fields_fit.0.0
reply_fits tag (r.Open qid iounit) h = tt
reply_fits tag (r.Create qid iounit) h = tt
reply_fits tag (r.Read bytes) h = omega (arith, h.size_fits, length-append bytes [])
reply_fits tag (r.Write count) h = tt
reply_fits tag r.Clunk h = tt
reply_fits tag r.Remove h = tt
reply_fits tag (r.Stat stat) h = h.fields_fit.0
reply_fits tag r.Wstat h = tt
