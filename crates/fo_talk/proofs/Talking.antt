-- How a conversation goes on.
use Rattle.std.proofs.Common.{◌≡◌, ℕ, true, List, [], ◌∷◌, ◌++◌, drop, refl, sym, ap, ◌∙◌, append_assoc}
use Rattle.std.proofs.lemmas.List.{append-nil, drop-append-le}
use Rattle.nine_wire.specs.Message.{request_message}
use Rattle.nine_wire.proofs.Laws.{stands_more}
use Rattle.fo_talk.specs.Conversation.{Goes, Standing, Exchange, Answers, Talks, said, output}

pub talks_more : {S : Type 0} (goes : Goes S) (from to : Standing S) (bytes rest more : List ℕ) (xs : List Exchange) → Talks goes from bytes xs rest to → Talks goes from (bytes ++ more) xs (rest ++ more) to
unfolding Talks
talks_more goes from to bytes rest more [] t = (ap (λ (b : List ℕ). b ++ more) t.0, t.1)
talks_more goes from to bytes rest more (x ∷ xs) t =
    let a = t.1 in
    let within = a.stands.within in
    let same : drop x.used (bytes ++ more) ≡ drop x.used bytes ++ more = drop-append-le x.used bytes more within in (
      t.0,
      record { stands = stands_more from.limit bytes more x.tag (request_message x.request) x.used a.stands; makes = a.makes; chain = a.chain; limit = a.limit },
      rw same (talks_more goes t.0 to (drop x.used bytes) rest more xs t.2),
    )

pub talks_then : {S : Type 0} (goes : Goes S) (from mid to : Standing S) (bytes rest : List ℕ) (xs : List Exchange) (x : Exchange) → Talks goes from bytes xs rest mid → Answers goes mid rest x true to → Talks goes from bytes (xs ++ x ∷ []) (drop x.used rest) to
unfolding Talks
talks_then goes from mid to bytes rest [] x t a =
    let same : rest ≡ bytes = t.0 in
    let at : mid ≡ from = t.1 in
    (to, rw (← t.0, ← t.1) a, (ap (drop x.used) same, refl))
talks_then goes from mid to bytes rest (y ∷ ys) x t a = (t.0, t.1, talks_then goes t.0 mid to (drop y.used bytes) rest ys x t.2 a)

pub output-then : (xs : List Exchange) (x : Exchange) → output (xs ++ x ∷ []) ≡ output xs ++ said x.entries
output-then [] x = append-nil (said x.entries)
output-then (y ∷ ys) x = ap (λ (o : List ℕ). said y.entries ++ o) (output-then ys x) ∙ sym (append_assoc (said y.entries) (output ys) (said x.entries))
