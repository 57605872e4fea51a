-- Requests and replies, each with its table of shapes, and back from its fields.
use Rattle.std.proofs.Common.{◌≡◌, ℕ, zero, suc, List, [], ◌∷◌, Some, None, refl, ap, sym, ◌∙◌}
use Rattle.std.specs.Prelude.{map, ◌==◌, if◌then◌else◌}
use Rattle.std.specs.declared.option.Option.{Option}
use Rattle.nine_fields.specs.declared.qid.Qid.{Qid}
use Rattle.nine_fields.specs.Field.{Plain, Number, Text, Id, Field, Lone, Texts, Ids, Block, Stat, Brief, Shape, shape}
use Rattle.nine_fields.proofs.Bytes.{some_is}
use Rattle.nine_wire.specs.declared.message.Request.{Request}
use Rattle.nine_wire.specs.declared.message.Request.TheVariants as t
use Rattle.nine_wire.specs.declared.message.Reply.{Reply}
use Rattle.nine_wire.specs.declared.message.Reply.TheVariants as r
use Rattle.nine_wire.specs.Message.{Message, request_message, reply_message, request_shapes, reply_shapes}

-- Messages of one side: each has the fields of its type by the table, and is told by them.
pub record Kinds {A : Type 0} (view : A → Message) (table : ℕ → Option (List Shape)) : Type 0 where
  pub typed : (x : A) → table (view x).kind ≡ Some (map shape (view x).fields)
  pub told : (x y : A) → view x ≡ view y → x ≡ y

abbrev plain_number : Plain → ℕ
plain_number (Number size n) = n
plain_number (Text bytes) = 0
plain_number (Id q) = 0

abbrev plain_qid : Plain → Qid
plain_qid (Number size n) = record { kind = 0; vers = 0; path = 0 }
plain_qid (Text bytes) = record { kind = 0; vers = 0; path = 0 }
plain_qid (Id q) = q

abbrev plain_text : Plain → List ℕ
plain_text (Number size n) = []
plain_text (Text bytes) = bytes
plain_text (Id q) = []

-- the number, qid, bytes, names or qids that a field holds
abbrev num : Field → ℕ
num (Lone p) = plain_number p
num _ = 0

abbrev one_qid : Field → Qid
one_qid (Lone p) = plain_qid p
one_qid _ = record { kind = 0; vers = 0; path = 0 }

abbrev held : Field → List ℕ
held (Lone p) = plain_text p
held (Texts texts) = []
held (Ids qids) = []
held (Block size bytes) = bytes
held (Stat bytes) = bytes
held (Brief bytes) = bytes

abbrev texts_of : Field → List (List ℕ)
texts_of (Texts texts) = texts
texts_of _ = []

abbrev qids_of : Field → List Qid
qids_of (Ids qids) = qids
qids_of _ = []

abbrev nth : ℕ → List Field → Field
nth n [] = Texts []
nth zero (f ∷ fs) = f
nth (suc n) (f ∷ fs) = nth n fs

abbrev request_of : Message → Option Request
request_of m =
    let a = nth 0 m.fields in
    let b = nth 1 m.fields in
    let c = nth 2 m.fields in
    let d = nth 3 m.fields in
    if m.kind == 100 then Some (t.Version (num a) (held b))
    else if m.kind == 102 then Some (t.Auth (num a) (held b) (held c))
    else if m.kind == 104 then Some (t.Attach (num a) (num b) (held c) (held d))
    else if m.kind == 108 then Some (t.Flush (num a))
    else if m.kind == 110 then Some (t.Walk (num a) (num b) (texts_of c))
    else if m.kind == 112 then Some (t.Open (num a) (num b))
    else if m.kind == 114 then Some (t.Create (num a) (held b) (num c) (num d))
    else if m.kind == 116 then Some (t.Read (num a) (num b) (num c))
    else if m.kind == 118 then Some (t.Write (num a) (num b) (held c))
    else if m.kind == 120 then Some (t.Clunk (num a))
    else if m.kind == 122 then Some (t.Remove (num a))
    else if m.kind == 124 then Some (t.Stat (num a))
    else if m.kind == 126 then Some (t.Wstat (num a) (held b))
    else None

abbrev reply_of : Message → Option Reply
reply_of m =
    let a = nth 0 m.fields in
    let b = nth 1 m.fields in
    if m.kind == 101 then Some (r.Version (num a) (held b))
    else if m.kind == 103 then Some (r.Auth (one_qid a))
    else if m.kind == 105 then Some (r.Attach (one_qid a))
    else if m.kind == 107 then Some (r.Error (held a))
    else if m.kind == 109 then Some r.Flush
    else if m.kind == 111 then Some (r.Walk (qids_of a))
    else if m.kind == 113 then Some (r.Open (one_qid a) (num b))
    else if m.kind == 115 then Some (r.Create (one_qid a) (num b))
    else if m.kind == 117 then Some (r.Read (held a))
    else if m.kind == 119 then Some (r.Write (num a))
    else if m.kind == 121 then Some r.Clunk
    else if m.kind == 123 then Some r.Remove
    else if m.kind == 125 then Some (r.Stat (held a))
    else if m.kind == 127 then Some r.Wstat
    else None

request_told : (x : Request) → request_of (request_message x) ≡ Some x
request_told (t.Version msize version) = refl
request_told (t.Auth afid uname aname) = refl
request_told (t.Attach fid afid uname aname) = refl
request_told (t.Flush oldtag) = refl
request_told (t.Walk fid newfid names) = refl
request_told (t.Open fid mode) = refl
request_told (t.Create fid name perm mode) = refl
request_told (t.Read fid offset count) = refl
request_told (t.Write fid offset bytes) = refl
request_told (t.Clunk fid) = refl
request_told (t.Remove fid) = refl
request_told (t.Stat fid) = refl
request_told (t.Wstat fid stat) = refl

request_typed : (x : Request) → request_shapes (request_message x).kind ≡ Some (map shape (request_message x).fields)
request_typed (t.Version msize version) = refl
request_typed (t.Auth afid uname aname) = refl
request_typed (t.Attach fid afid uname aname) = refl
request_typed (t.Flush oldtag) = refl
request_typed (t.Walk fid newfid names) = refl
request_typed (t.Open fid mode) = refl
request_typed (t.Create fid name perm mode) = refl
request_typed (t.Read fid offset count) = refl
request_typed (t.Write fid offset bytes) = refl
request_typed (t.Clunk fid) = refl
request_typed (t.Remove fid) = refl
request_typed (t.Stat fid) = refl
request_typed (t.Wstat fid stat) = refl

reply_told : (x : Reply) → reply_of (reply_message x) ≡ Some x
reply_told (r.Version msize version) = refl
reply_told (r.Auth aqid) = refl
reply_told (r.Attach qid) = refl
reply_told (r.Error ename) = refl
reply_told r.Flush = refl
reply_told (r.Walk qids) = refl
reply_told (r.Open qid iounit) = refl
reply_told (r.Create qid iounit) = refl
reply_told (r.Read bytes) = refl
reply_told (r.Write count) = refl
reply_told r.Clunk = refl
reply_told r.Remove = refl
reply_told (r.Stat stat) = refl
reply_told r.Wstat = refl

reply_typed : (x : Reply) → reply_shapes (reply_message x).kind ≡ Some (map shape (reply_message x).fields)
reply_typed (r.Version msize version) = refl
reply_typed (r.Auth aqid) = refl
reply_typed (r.Attach qid) = refl
reply_typed (r.Error ename) = refl
reply_typed r.Flush = refl
reply_typed (r.Walk qids) = refl
reply_typed (r.Open qid iounit) = refl
reply_typed (r.Create qid iounit) = refl
reply_typed (r.Read bytes) = refl
reply_typed (r.Write count) = refl
reply_typed r.Clunk = refl
reply_typed r.Remove = refl
reply_typed (r.Stat stat) = refl
reply_typed r.Wstat = refl

pub requests : Kinds request_message request_shapes
requests = record { typed = request_typed; told = λ x y e. some_is x y (sym (request_told x) ∙ ap request_of e ∙ request_told y) }

pub replies : Kinds reply_message reply_shapes
replies = record { typed = reply_typed; told = λ x y e. some_is x y (sym (reply_told x) ∙ ap reply_of e ∙ reply_told y) }
