-- The messages of 9P2000, each with its type and its fields in their order (section 5 of the Plan 9 manual).
use Rattle.std.specs.Prelude.{◌≡◌, ℕ, ◌+◌, ◌-◌, ◌<◌, ◌^◌, List, [], ◌∷◌, ◌++◌, length, map, Some, None, ◌==◌, if◌then◌else◌}
use Rattle.std.specs.declared.option.Option.{Option}
use Rattle.std.specs.List.{flat_map, AllByRecursion}
use Rattle.nine_fields.specs.declared.qid.Qid.{Qid}
use Rattle.nine_fields.specs.Field.{One, Two, Four, Eight, number, Number, Text, Id, Numeric, Textual, Unique, TextFits, Field, Lone, Texts, Ids, Block, Stat, Brief, spelled, FieldFits, Shape, Single, TextList, QidList, Counted, Record, Short, shape}
use Rattle.nine_wire.specs.declared.message.Request.{Request}
use Rattle.nine_wire.specs.declared.message.Request.TheVariants as t
use Rattle.nine_wire.specs.declared.message.Reply.{Reply}
use Rattle.nine_wire.specs.declared.message.Reply.TheVariants as r

-- A message: its type and its fields.
pub record Message : Type 0 where
  pub kind : ℕ
  pub fields : List Field

abbrev pub message : ℕ → List Field → Message
message kind fields = record { kind = kind; fields = fields }

abbrev pub u8 : ℕ → Field
u8 n = Lone (Number One n)

abbrev pub u16 : ℕ → Field
u16 n = Lone (Number Two n)

abbrev pub u32 : ℕ → Field
u32 n = Lone (Number Four n)

abbrev pub u64 : ℕ → Field
u64 n = Lone (Number Eight n)

abbrev pub string : List ℕ → Field
string bytes = Lone (Text bytes)

abbrev pub id : Qid → Field
id q = Lone (Id q)

abbrev pub request_message : Request → Message
request_message (t.Version msize version) = message 100 (u32 msize ∷ string version ∷ [])
request_message (t.Auth afid uname aname) = message 102 (u32 afid ∷ string uname ∷ string aname ∷ [])
request_message (t.Attach fid afid uname aname) = message 104 (u32 fid ∷ u32 afid ∷ string uname ∷ string aname ∷ [])
request_message (t.Flush oldtag) = message 108 (u16 oldtag ∷ [])
request_message (t.Walk fid newfid names) = message 110 (u32 fid ∷ u32 newfid ∷ Texts names ∷ [])
request_message (t.Open fid mode) = message 112 (u32 fid ∷ u8 mode ∷ [])
request_message (t.Create fid name perm mode) = message 114 (u32 fid ∷ string name ∷ u32 perm ∷ u8 mode ∷ [])
request_message (t.Read fid offset count) = message 116 (u32 fid ∷ u64 offset ∷ u32 count ∷ [])
request_message (t.Write fid offset bytes) = message 118 (u32 fid ∷ u64 offset ∷ Block Four bytes ∷ [])
request_message (t.Clunk fid) = message 120 (u32 fid ∷ [])
request_message (t.Remove fid) = message 122 (u32 fid ∷ [])
request_message (t.Stat fid) = message 124 (u32 fid ∷ [])
request_message (t.Wstat fid stat) = message 126 (u32 fid ∷ Stat stat ∷ [])

abbrev pub reply_message : Reply → Message
reply_message (r.Version msize version) = message 101 (u32 msize ∷ string version ∷ [])
reply_message (r.Auth aqid) = message 103 (id aqid ∷ [])
reply_message (r.Attach qid) = message 105 (id qid ∷ [])
reply_message (r.Error ename) = message 107 (Brief ename ∷ [])
reply_message r.Flush = message 109 []
reply_message (r.Walk qids) = message 111 (Ids qids ∷ [])
reply_message (r.Open qid iounit) = message 113 (id qid ∷ u32 iounit ∷ [])
reply_message (r.Create qid iounit) = message 115 (id qid ∷ u32 iounit ∷ [])
reply_message (r.Read bytes) = message 117 (Block Four bytes ∷ [])
reply_message (r.Write count) = message 119 (u32 count ∷ [])
reply_message r.Clunk = message 121 []
reply_message r.Remove = message 123 []
reply_message (r.Stat stat) = message 125 (Stat stat ∷ [])
reply_message r.Wstat = message 127 []

abbrev pub byte : Shape
byte = Single (Numeric One)

abbrev pub half : Shape
half = Single (Numeric Two)

abbrev pub word : Shape
word = Single (Numeric Four)

abbrev pub double : Shape
double = Single (Numeric Eight)

abbrev pub text : Shape
text = Single Textual

abbrev pub identity : Shape
identity = Single Unique

-- The fields of each request, by its type.
abbrev pub request_shapes : ℕ → Option (List Shape)
request_shapes kind =
    if kind == 100 then Some (word ∷ text ∷ [])
    else if kind == 102 then Some (word ∷ text ∷ text ∷ [])
    else if kind == 104 then Some (word ∷ word ∷ text ∷ text ∷ [])
    else if kind == 108 then Some (half ∷ [])
    else if kind == 110 then Some (word ∷ word ∷ TextList ∷ [])
    else if kind == 112 then Some (word ∷ byte ∷ [])
    else if kind == 114 then Some (word ∷ text ∷ word ∷ byte ∷ [])
    else if kind == 116 then Some (word ∷ double ∷ word ∷ [])
    else if kind == 118 then Some (word ∷ double ∷ Counted Four ∷ [])
    else if kind == 120 then Some (word ∷ [])
    else if kind == 122 then Some (word ∷ [])
    else if kind == 124 then Some (word ∷ [])
    else if kind == 126 then Some (word ∷ Record ∷ [])
    else None

-- The fields of each reply, by its type.
abbrev pub reply_shapes : ℕ → Option (List Shape)
reply_shapes kind =
    if kind == 101 then Some (word ∷ text ∷ [])
    else if kind == 103 then Some (identity ∷ [])
    else if kind == 105 then Some (identity ∷ [])
    else if kind == 107 then Some (Short ∷ [])
    else if kind == 109 then Some []
    else if kind == 111 then Some (QidList ∷ [])
    else if kind == 113 then Some (identity ∷ word ∷ [])
    else if kind == 115 then Some (identity ∷ word ∷ [])
    else if kind == 117 then Some (Counted Four ∷ [])
    else if kind == 119 then Some (word ∷ [])
    else if kind == 121 then Some []
    else if kind == 123 then Some []
    else if kind == 125 then Some (Record ∷ [])
    else if kind == 127 then Some []
    else None

abbrev pub body : Message → List ℕ
body m = flat_map spelled m.fields

-- type[1] tag[2] and the body
abbrev pub after_size : ℕ → ℕ → List ℕ → List ℕ
after_size kind tag bytes = (number One kind ++ number Two tag) ++ bytes

-- size[4] and what follows it; the size counts itself
unfoldable pub spelling : ℕ → Message → List ℕ
spelling tag m = number Four (7 + length (body m)) ++ after_size m.kind tag (body m)

-- what has a spelling
pub record HasSpelling (tag : ℕ) (m : Message) : Type 0 where
  pub tag_fits : tag < 2 ^ 16
  pub kind_fits : m.kind < 2 ^ 8
  pub fields_fit : AllByRecursion FieldFits m.fields
  pub size_fits : 7 + length (body m) < 2 ^ 32

-- What a request needs beyond its types to have a spelling.
abbrev pub RequestFits : Request → Type 0
RequestFits (t.Version msize version) = TextFits version
RequestFits (t.Auth afid uname aname) = TextFits uname × TextFits aname
RequestFits (t.Attach fid afid uname aname) = TextFits uname × TextFits aname
RequestFits (t.Flush oldtag) = Unit {0}
RequestFits (t.Walk fid newfid names) = FieldFits (Texts names) × (length (spelled (Texts names)) < 2 ^ 32 - 15)
RequestFits (t.Open fid mode) = Unit {0}
RequestFits (t.Create fid name perm mode) = TextFits name
RequestFits (t.Read fid offset count) = Unit {0}
RequestFits (t.Write fid offset bytes) = length bytes < 2 ^ 32 - 23
RequestFits (t.Clunk fid) = Unit {0}
RequestFits (t.Remove fid) = Unit {0}
RequestFits (t.Stat fid) = Unit {0}
RequestFits (t.Wstat fid stat) = FieldFits (Stat stat)

-- What a reply needs beyond its types to have a spelling.
abbrev pub ReplyFits : Reply → Type 0
ReplyFits (r.Version msize version) = TextFits version
ReplyFits (r.Auth aqid) = Unit {0}
ReplyFits (r.Attach qid) = Unit {0}
ReplyFits (r.Error ename) = Unit {0}
ReplyFits r.Flush = Unit {0}
ReplyFits (r.Walk qids) = length qids < 2 ^ 16
ReplyFits (r.Open qid iounit) = Unit {0}
ReplyFits (r.Create qid iounit) = Unit {0}
ReplyFits (r.Read bytes) = length bytes < 2 ^ 32 - 11
ReplyFits (r.Write count) = Unit {0}
ReplyFits r.Clunk = Unit {0}
ReplyFits r.Remove = Unit {0}
ReplyFits (r.Stat stat) = FieldFits (Stat stat)
ReplyFits r.Wstat = Unit {0}
